-- A number written from its lowest byte up: one turn of the loop, and its end.
-- Assumes nothing.
use mathlib.Core.Path.{◌≡◌, refl, sym, ap, ◌∙◌}
use mathlib.Core.List.{List, [], ◌∷◌}
use Prim.Native.Nat.{ℕ, suc, ◌+◌, ◌-◌, ◌/◌, ◌%◌, ◌≤◌, ◌<◌}
use native.Mathlib.Omega.{arith}
use lib.ListN.{length, set}
use lib.Seq.{sets, set_comm}
use Rattle.meaning.specs.Bytes.{bytes}
use Rattle.meaning.proofs.Reading.{bytes-length}
use Rattle.meaning.proofs.Stores.{sets-append}

set-sets : (l : List ℕ) (a : ℕ) (xs : List ℕ) (j x : ℕ) → a + length xs ≤ j → set (sets l a xs) j x ≡ sets (set l j x) a xs
set-sets l a [] j x h = refl
set-sets l a (y ∷ ys) j x h =
    set-sets (set l a y) (suc a) ys j x (omega arith)
    ∙ ap (λ (z : List ℕ). sets z (suc a) ys) (set_comm l a j y x (λ e. let z : a ≡ j = e in omega arith))

put-suc : (s : List ℕ) (at i rest : ℕ) → sets (set s (at + i) (rest % 256)) at (bytes i (rest / 256)) ≡ sets s at (bytes (suc i) rest)
unfolding bytes
put-suc s at i rest =
    let l = bytes-length i (rest / 256) in
    sym (sets-append s at (at + length (bytes i (rest / 256))) (bytes i (rest / 256)) (rest % 256 ∷ []) refl
    ∙ set-sets s at (bytes i (rest / 256)) (at + length (bytes i (rest / 256))) (rest % 256) (omega arith)
    ∙ ap (λ (z : ℕ). sets (set s (at + z) (rest % 256)) at (bytes i (rest / 256))) l)

pub put-more : (s : List ℕ) (at i rest x : ℕ) → 0 < i → x ≡ rest % 256 → sets (set s (at + (i - 1)) x) at (bytes (i - 1) (rest / 256)) ≡ sets s at (bytes i rest)
put-more s at i rest x h e =
    ap (λ (z : ℕ). sets (set s (at + (i - 1)) z) at (bytes (i - 1) (rest / 256))) e ∙ put-suc s at (i - 1) rest
    ∙ ap (λ (z : ℕ). sets s at (bytes z rest)) (omega arith)

pub put_all : (s t : List ℕ) (at i rest : ℕ) → i ≤ 0 → sets s at (bytes i rest) ≡ t → s ≡ t
unfolding bytes
put_all s t at i rest h e = sym (ap (λ (z : ℕ). sets s at (bytes z rest)) (let z : i ≡ 0 = omega arith in z)) ∙ e
