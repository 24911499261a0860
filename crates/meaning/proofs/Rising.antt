-- Rising lists, and the first of a list with a property: in a rising list it is the lowest-numbered of those that have it.
-- Assumes nothing.
use mathlib.Core.Path.{refl, subst}
use mathlib.Core.List.{List, [], ◌∷◌, Memᴰ}
use Prim.Native.Nat.{ℕ, ◌≤◌, ◌<◌}
use native.Mathlib.Omega.{arith}

-- whatever stands earlier is smaller
pub data Rising : List ℕ → Type 0 where
  flat : Rising []
  up : {x : ℕ} {xs : List ℕ} → ((y : ℕ) → Memᴰ y xs → x < y) → Rising xs → Rising (x ∷ xs)

-- y is the first in the list of those with P
pub data Earliest {A : Type 0} (P : A → Type 0) : List A → A → Type 0 where
  here : {y : A} {l : List A} → P y → Earliest P (y ∷ l) y
  later : {x y : A} {l : List A} → (P x → ⊥) → Earliest P l y → Earliest P (x ∷ l) y

pub earliest-member : {A : Type 0} {P : A → Type 0} {l : List A} {y : A} → Earliest P l y → Memᴰ y l
earliest-member (here h) = Memᴰ.head refl
earliest-member (later n e) = Memᴰ.tail (earliest-member e)

pub earliest-holds : {A : Type 0} {P : A → Type 0} {l : List A} {y : A} → Earliest P l y → P y
earliest-holds (here h) = h
earliest-holds (later n e) = earliest-holds e

pub earliest-map : {A : Type 0} {P Q : A → Type 0} {l : List A} {y : A} → ((z : A) → P z → Q z) → ((z : A) → Q z → P z)
    → Earliest P l y → Earliest Q l y
earliest-map f g (here {y = y} p) = here (f y p)
earliest-map f g (later {x = x} n e) = later (λ q. n (g x q)) (earliest-map f g e)

-- y is the lowest-numbered in the list of those with P
pub record LowestOf (P : ℕ → Type 0) (l : List ℕ) (y : ℕ) : Type 0 where
  pub member : Memᴰ y l
  pub holds : P y
  pub least : (z : ℕ) → Memᴰ z l → P z → y ≤ z

least : {P : ℕ → Type 0} {l : List ℕ} {y : ℕ} → Earliest P l y → Rising l → (z : ℕ) → Memᴰ z l → P z → y ≤ z
least (here h) (up b r) z (Memᴰ.head e) q = omega arith
least (here h) (up b r) z (Memᴰ.tail m) q = omega (arith, b z m)
least {P} (later n e) (up b r) z (Memᴰ.head d) q = absurd (n (subst P d q))
least (later n e) (up b r) z (Memᴰ.tail m) q = least e r z m q

pub earliest-lowest : {P : ℕ → Type 0} {l : List ℕ} {y : ℕ} → Rising l → Earliest P l y → LowestOf P l y
earliest-lowest r e = record { member = earliest-member e; holds = earliest-holds e; least = least e r }
