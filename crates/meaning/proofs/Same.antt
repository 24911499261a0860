-- What is asked of a list depends on its members alone: the best of them, the first best, whether any says yes, the first that does.
-- Assumes nothing.
use mathlib.Core.Path.{◌≡◌, refl, ap, ap₂, ◌∙◌}
use mathlib.Core.Bool.{Bool, true, false, ◌||◌, cond}
use mathlib.Core.List.{List, [], ◌∷◌, Memᴰ}
use mathlib.Core.Option.{Option, some}
use Prim.Native.Nat.{ℕ, max}
use lib.Dec.{ltb}
use Rattle.meaning.specs.Degree.{best}
use Rattle.meaning.specs.Whole.{any}
use Rattle.meaning.specs.Shown.{first, first_best, pick}

-- the same on a list
abbrev pub Alike : {N A : Type 0} → (N → A) → (N → A) → List N → Type 0
Alike {N} f g l = (y : N) → Memᴰ y l → f y ≡ g y

module _ {N : Type 0} (f g : N → ℕ) where
  pub best-same : (l : List N) → Alike f g l → best f l ≡ best g l
  unfolding best
  best-same [] h = refl
  best-same (x ∷ l) h = ap₂ max (h x (Memᴰ.head refl)) (best-same l (λ y m. h y (Memᴰ.tail m)))

  first_best-same : (x : N) (l : List N) → f x ≡ g x → Alike f g l → first_best f x l ≡ first_best g x l
  unfolding first_best
  first_best-same x [] e h = refl
  first_best-same x (y ∷ l) e h =
      let d = h y (Memᴰ.head refl) in
      let b = ltb (f x) (f y) in
      let q : first_best f (cond b y x) l ≡ first_best g (cond b y x) l = go b d (λ z p. first_best-same z l p (λ w m. h w (Memᴰ.tail m))) in
      q ∙ ap (λ (c : Bool). first_best g (cond c y x) l) (ap₂ ltb e d)
    where
      go : (b : Bool) → f y ≡ g y → ((z : N) → f z ≡ g z → first_best f z l ≡ first_best g z l) → first_best f (cond b y x) l ≡ first_best g (cond b y x) l
      go true d k = k y d
      go false d k = k x e

  pub pick_same : (l : List N) → Alike f g l → pick f l ≡ pick g l
  unfolding pick
  pick_same [] h = refl
  pick_same (x ∷ l) h = ap some (first_best-same x l (h x (Memᴰ.head refl)) (λ y m. h y (Memᴰ.tail m)))

module _ {N : Type 0} (p q : N → Bool) where
  pub any_same : (l : List N) → Alike p q l → any p l ≡ any q l
  unfolding any
  any_same [] h = refl
  any_same (x ∷ l) h = ap₂ ◌||◌ (h x (Memᴰ.head refl)) (any_same l (λ y m. h y (Memᴰ.tail m)))

  pub first-same : (l : List N) → Alike p q l → first p l ≡ first q l
  unfolding first
  first-same [] h = refl
  first-same (x ∷ l) h = ap₂ (λ (b : Bool) (o : Option N). cond b (some x) o) (h x (Memᴰ.head refl)) (first-same l (λ y m. h y (Memᴰ.tail m)))
