-- One call after the other: the lists that the stores of an insertion and a removal pass through.
-- Assumes nothing.
use mathlib.Core.Path.{◌≡◌, sym, ap, ap₂, ◌∙◌}
use mathlib.Core.List.{List, ◌++◌}
use Prim.Native.Nat.{ℕ, ◌+◌, ◌-◌, ◌≤◌, ◌<◌}
use native.Mathlib.Omega.{arith}
use lib.ListN.{length, take, drop}
use lib.Seq.{sets}
use Rattle.std.proofs.lemmas.List.{drop-take}
use Rattle.std.specs.List.{copy_within}
use Rattle.meaning.specs.Refusal.{good}
use Rattle.meaning.specs.Bytes.{bytes, Bytes}
use Rattle.meaning.specs.Register.{Link, Register, read_buffer}
use Rattle.register.specs.Layout.{count_at, link_place, image_length, body_length}
use Rattle.register.specs.Reading.{key, Small}
use Rattle.setting.specs.Moved.{moved_up, moved_down}
use Rattle.setting.specs.Setting.{buffer_inserted, buffer_removed}
use Rattle.setting.proofs.Changes.{insert-law, remove-law}

-- what `copy_within` makes of the bytes that move
moved-up-is : (s : List ℕ) (p e : ℕ) → p ≤ e → copy_within s p e (p + 5) ≡ moved_up s p e
moved-up-is s p e h =
    let n : e ≡ p + (e - p) = omega arith in
    let b : take (e - p) (drop p s) ≡ drop p (take e s) = sym (ap (λ (k : ℕ). drop p (take k s)) n ∙ drop-take p (e - p) s) in
    let d : p + 5 + (e - p) ≡ e + 5 = omega arith in
    ap₂ (λ (x : List ℕ) (k : ℕ). take (p + 5) s ++ x ++ drop k s) b d

moved-down-is : (s : List ℕ) (p e : ℕ) → p + 5 ≤ e → copy_within s (p + 5) e p ≡ moved_down s p e
moved-down-is s p e h =
    let n : e ≡ p + 5 + (e - (p + 5)) = omega arith in
    let b : take (e - (p + 5)) (drop (p + 5) s) ≡ drop (p + 5) (take e s) = sym (ap (λ (k : ℕ). drop (p + 5) (take k s)) n ∙ drop-take (p + 5) (e - (p + 5)) s) in
    let d : p + (e - (p + 5)) ≡ e - 5 = omega arith in
    ap₂ (λ (x : List ℕ) (k : ℕ). take p s ++ x ++ drop k s) b d

module _ (s : List ℕ) (by : Bytes s) (items links k at end : ℕ) (g : Register) (e : read_buffer s ≡ good g)
    (ei : (items ≡ length g.names) × (links ≡ length g.links)) (ea : at ≡ link_place items k) (ee : end ≡ image_length items links) where
  there : at ≡ link_place (length g.names) k
  there = ea ∙ ap (λ (z : ℕ). link_place z k) ei.0

  last : end ≡ image_length (length g.names) (length g.links)
  last = ee ∙ ap₂ (λ (x y : ℕ). image_length x y) ei.0 ei.1

  -- what the stores of an insertion make, of any counts and places
  abbrev put_in : ℕ → ℕ → ℕ → ℕ → ℕ → List ℕ
  put_in number n m p q = sets (sets (sets (moved_up s p q) p (bytes 5 number)) (count_at n) (bytes 2 (m + 1))) 1 (bytes 2 (body_length n (m + 1)))

  pub insert-chain : (number : ℕ) (t1 t2 t3 : List ℕ) (l : Link) → k ≤ links → image_length items (links + 1) ≤ length s → number ≡ key l → Small l
      → t1 ≡ copy_within s at end (at + 5) → t2 ≡ sets t1 at (bytes 5 number)
      → t3 ≡ sets (sets t2 (count_at items) (bytes 2 (links + 1))) 1 (bytes 2 (body_length items (links + 1))) → t3 ≡ buffer_inserted s k l g
  insert-chain number t1 t2 t3 l h room en small e1 e2 e3 =
      e3 ∙ ap (λ (z : List ℕ). sets (sets z (count_at items) (bytes 2 (links + 1))) 1 (bytes 2 (body_length items (links + 1))))
      (e2 ∙ ap (λ (z : List ℕ). sets z at (bytes 5 number)) (e1 ∙ moved-up-is s at end (omega arith)))
      ∙ ap₂ (λ (x y : ℕ). put_in number x y at end) ei.0 ei.1
      ∙ ap₂ (λ (x y : ℕ). put_in number (length g.names) (length g.links) x y) there last
      ∙ insert-law s g by e k l (omega (arith, ei.1)) number en small (omega (arith, ei.0, ei.1))

  -- and those of a removal
  abbrev put-out : ℕ → ℕ → ℕ → ℕ → List ℕ
  put-out n m p q = sets (sets (sets (moved_down s p q) (q - 5) (bytes 5 0)) (count_at n) (bytes 2 (m - 1))) 1 (bytes 2 (body_length n (m - 1)))

  pub remove-chain : (t1 t2 t3 : List ℕ) → k < links → t1 ≡ copy_within s (at + 5) end at → t2 ≡ sets t1 (end - 5) (bytes 5 0)
      → t3 ≡ sets (sets t2 (count_at items) (bytes 2 (links - 1))) 1 (bytes 2 (body_length items (links - 1))) → t3 ≡ buffer_removed s k g
  remove-chain t1 t2 t3 h e1 e2 e3 =
      e3 ∙ ap (λ (z : List ℕ). sets (sets z (count_at items) (bytes 2 (links - 1))) 1 (bytes 2 (body_length items (links - 1))))
      (e2 ∙ ap (λ (z : List ℕ). sets z (end - 5) (bytes 5 0)) (e1 ∙ moved-down-is s at end (omega arith)))
      ∙ ap₂ (λ (x y : ℕ). put-out x y at end) ei.0 ei.1
      ∙ ap₂ (λ (x y : ℕ). put-out (length g.names) (length g.links) x y) there last
      ∙ remove-law s g by e k (omega (arith, ei.1))
