-- A part of a list that std's `fill` has filled, as a store of so many equal numbers.
-- Assumes nothing.
use mathlib.Core.Path.{◌≡◌, sym, ap, ap₂, ◌∙◌}
use mathlib.Core.List.{List, ◌++◌}
use Prim.Native.Nat.{ℕ, ◌+◌, ◌-◌, ◌≤◌}
use native.Mathlib.Omega.{arith}
use lib.ListN.{length, replicate, take, drop, length-drop, length-replicate}
use lib.Seq.{sets, length-take-le, drop-drop, sets-eq}
use Rattle.std.proofs.lemmas.List.{append_assoc}

pub part-filled : (a b v : ℕ) (m part : List ℕ) → a ≤ b → b ≤ length m → part ≡ replicate (length (take (b - a) (drop a m))) v
    → take a m ++ (part ++ drop (b - a) (drop a m)) ≡ sets m a (replicate (b - a) v)
part-filled a b v m part l r e =
    let long : length (take (b - a) (drop a m)) ≡ b - a = length-take-le (b - a) (drop a m) (omega (arith, length-drop a m)) in
    let is : part ≡ replicate (b - a) v = e ∙ ap (λ (k : ℕ). replicate k v) long in
    let size : length (replicate (b - a) v) ≡ b - a = length-replicate (b - a) v in
    let behind : drop (b - a) (drop a m) ≡ drop (a + length (replicate (b - a) v)) m = drop-drop (b - a) a m ∙ ap (λ (k : ℕ). drop k m) (omega arith) in
    ap₂ (λ (p q : List ℕ). take a m ++ (p ++ q)) is behind ∙ sym (append_assoc (take a m) (replicate (b - a) v) _)
    ∙ sym (sets-eq (replicate (b - a) v) m a (omega arith))
