-- The greatest value over a list: it is above each of the values, below what bounds them all, and reached by the one that is picked.
-- Assumes nothing.
use mathlib.Core.Path.{◌≡◌, refl, sym, ap, ◌∙◌}
use mathlib.Core.Bool.{Bool, true, false, cond}
use mathlib.Core.List.{List, [], ◌∷◌, Memᴰ}
use mathlib.Core.Option.{some}
use mathlib.Core.Option.{none as nowhere}
use Prim.Native.Nat.{ℕ, ◌≤◌, zero-le, max}
use native.Mathlib.Nat.{le_trans, le_of_eq, le-max_left, le-max_right, max-le, max-zero}
use native.Mathlib.Omega.{arith}
use lib.Dec.{ltb, ltb→lt, nltb→le}
use Rattle.meaning.specs.Degree.{best}
use Rattle.meaning.specs.Shown.{first_best, pick}
use Rattle.meaning.proofs.Tests.{holds, fails, some_inj, not_some}

module _ {A : Type 0} (v : A → ℕ) where
  pub best-above : {y : A} {xs : List A} → Memᴰ y xs → v y ≤ best v xs
  unfolding best
  best-above (Memᴰ.head {x} {xs} e) = le_trans (le_of_eq (ap v e)) (le-max_left (v x) (best v xs))
  best-above (Memᴰ.tail {x} {xs} m) = le_trans (best-above m) (le-max_right (v x) (best v xs))

  pub best-below : (xs : List A) (s : ℕ) → ((y : A) → v y ≤ s) → best v xs ≤ s
  unfolding best
  best-below [] s h = zero-le
  best-below (x ∷ xs) s h = max-le (h x) (best-below xs s h)

  first_best-value : (x : A) (xs : List A) → v (first_best v x xs) ≡ max (v x) (best v xs)
  unfolding first_best best
  first_best-value x [] = sym (max-zero (v x))
  first_best-value x (y ∷ ys) = go (ltb (v x) (v y)) refl (λ z. first_best-value z ys)
    where
      go : (b : Bool) → ltb (v x) (v y) ≡ b → ((z : A) → v (first_best v z ys) ≡ max (v z) (best v ys))
          → v (first_best v (cond b y x) ys) ≡ max (v x) (max (v y) (best v ys))
      go true e k = let l = ltb→lt (v x) (v y) (holds e) in k y ∙ omega arith
      go false e k = let l = nltb→le (v x) (v y) (fails e) in k x ∙ omega arith

  first_best-in : (x : A) (xs : List A) → Memᴰ (first_best v x xs) (x ∷ xs)
  unfolding first_best
  first_best-in x [] = Memᴰ.head refl
  first_best-in x (y ∷ ys) = go (ltb (v x) (v y)) (λ z. first_best-in z ys)
    where
      widen : {w : A} → Memᴰ w (x ∷ ys) → Memᴰ w (x ∷ y ∷ ys)
      widen (Memᴰ.head e) = Memᴰ.head e
      widen (Memᴰ.tail m) = Memᴰ.tail (Memᴰ.tail m)

      go : (b : Bool) → ((z : A) → Memᴰ (first_best v z ys) (z ∷ ys)) → Memᴰ (first_best v (cond b y x) ys) (x ∷ y ∷ ys)
      go true k = Memᴰ.tail (k y)
      go false k = widen (k x)

  pub pick-none : (xs : List A) → pick v xs ≡ nowhere → best v xs ≡ 0
  unfolding pick best
  pick-none [] e = refl
  pick-none (x ∷ xs) e = absurd (not_some _ (sym e))

  pub pick_some : (xs : List A) (y : A) → pick v xs ≡ some y → Memᴰ y xs × (v y ≡ best v xs)
  unfolding pick best
  pick_some [] y e = absurd (not_some y e)
  pick_some (x ∷ xs) y e = rw (← some_inj e) (first_best-in x xs, first_best-value x xs)
