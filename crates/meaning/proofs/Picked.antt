-- What is picked from a list is the first of those of greatest value; only from an empty list nothing is.
-- Assumes nothing.
use mathlib.Core.Path.{◌≡◌, refl}
use mathlib.Core.Bool.{Bool, true, false, cond}
use mathlib.Core.List.{List, [], ◌∷◌, Memᴰ}
use mathlib.Core.Option.{Option, some}
use mathlib.Core.Option.{none as nowhere}
use Prim.Native.Nat.{ℕ, ◌≤◌, max}
use native.Mathlib.Nat.{le_trans}
use native.Mathlib.Omega.{arith}
use lib.Dec.{ltb, ltb→lt, nltb→le}
use Rattle.meaning.specs.Degree.{best}
use Rattle.meaning.specs.Shown.{first_best, pick}
use Rattle.meaning.proofs.Tests.{holds, fails}
use Rattle.meaning.proofs.Best.{best-above, pick_some}
use Rattle.meaning.proofs.Rising.{Earliest, here, later, earliest-map}

-- no value in the list is greater than that of y
abbrev pub Greatest : {A : Type 0} → (A → ℕ) → List A → A → Type 0
Greatest {A} v l y = (z : A) → Memᴰ z l → v z ≤ v y

pub data Picked {A : Type 0} (v : A → ℕ) : List A → Option A → Type 0 where
  nobody : Picked v [] nowhere
  somebody : {l : List A} {y : A} → Earliest (Greatest v l) l y → Picked v l (some y)

pub picked_first : {A : Type 0} {v : A → ℕ} {l : List A} {y : A} → Picked v l (some y) → Earliest (Greatest v l) l y
picked_first (somebody e) = e

-- one more behind the first
behind : {A : Type 0} {P : A → Type 0} {x w : A} {l : List A} (y : A) → (P y → P x) → Earliest P (x ∷ l) w → Earliest P (x ∷ y ∷ l) w
behind y h (here p) = here p
behind y h (later n e) = later n (later (λ p. n (h p)) e)

module _ {A : Type 0} (v : A → ℕ) where
  first-best : (x : A) (xs : List A) → Earliest (λ z. max (v x) (best v xs) ≤ v z) (x ∷ xs) (first_best v x xs)
  unfolding first_best best
  first-best x [] = here {y = x} (omega arith)
  first-best x (y ∷ ys) = go (ltb (v x) (v y)) refl (λ z. first-best z ys)
    where
      go : (b : Bool) → ltb (v x) (v y) ≡ b → ((z : A) → Earliest (λ w. max (v z) (best v ys) ≤ v w) (z ∷ ys) (first_best v z ys))
          → Earliest (λ z. max (v x) (max (v y) (best v ys)) ≤ v z) (x ∷ y ∷ ys) (first_best v (cond b y x) ys)
      go true e k =
          let l = ltb→lt (v x) (v y) (holds e) in
          let same : max (v x) (max (v y) (best v ys)) ≡ max (v y) (best v ys) = omega arith in
          let less : max (v y) (best v ys) ≤ v x → ⊥ = λ h. omega arith in
          rw same (later less (k y))
      go false e k =
          let l = nltb→le (v x) (v y) (fails e) in
          let same : max (v x) (max (v y) (best v ys)) ≡ max (v x) (best v ys) = omega arith in
          rw same (behind y (λ h. omega arith) (k x))

  pub pick_first : (l : List A) → Picked v l (pick v l)
  unfolding pick best
  pick_first [] = nobody
  pick_first (x ∷ xs) =
      let q = pick_some v (x ∷ xs) (first_best v x xs) refl in
      let up : (z : A) → best v (x ∷ xs) ≤ v z → Greatest v (x ∷ xs) z = λ z h w m. le_trans (best-above v m) h in
      let down : (z : A) → Greatest v (x ∷ xs) z → best v (x ∷ xs) ≤ v z = λ z g. rw (← q.1) (g (first_best v x xs) q.0) in
      somebody (earliest-map up down (first-best x xs))
