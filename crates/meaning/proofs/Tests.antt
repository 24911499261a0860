-- Tests as facts: what a conjunction, a disjunction and a search through a list say; lists paired off; values of Option apart.
-- Assumes nothing.
use mathlib.Core.Path.{◌≡◌, refl, sym, subst, ◌∙◌}
use mathlib.Core.Logic.{◌⊎◌, inl, inr}
use mathlib.Core.Bool.{Bool, true, false, ◌&&◌, ◌||◌, not, cond}
use mathlib.Core.List.Memᴰ
use mathlib.Core.List.{List, [], ◌∷◌, ◌++◌, Memᴰ}
use mathlib.Core.List.{Forall₂}
use mathlib.Core.Option.{Option, some}
use mathlib.Core.Option.{none as nowhere}
use Prim.Native.Nat.{ℕ}
use native.Mathlib.Omega.{arith}
use lib.Dec.{T, eqb, eqb_refl}
use Rattle.meaning.specs.Whole.{any}
use Rattle.meaning.specs.Shown.{first}
use Rattle.meaning.specs.Requirement.{every}

-- ---- true and false

pub holds : {b : Bool} → b ≡ true → T b
holds e = subst T (sym e) tt

pub fails : {b : Bool} → b ≡ false → T (not b)
fails e = subst (λ (b : Bool). T (not b)) (sym e) tt

pub is_true : (b : Bool) → T b → b ≡ true
is_true true t = refl
is_true false t = absurd t

pub is_false : (b : Bool) → (T b → ⊥) → b ≡ false
is_false true f = absurd (f tt)
is_false false f = refl

pub is-not : (b : Bool) → (T b → ⊥) → not b ≡ true
is-not true f = absurd (f tt)
is-not false f = refl

pub true-false : {b : Bool} → b ≡ true → b ≡ false → ⊥
true-false e d = let z : ◌≡◌ {A = Bool} true false = sym e ∙ d in let y : ◌≡◌ {A = ℕ} 0 1 = cc in omega arith

pub of-not : (b : Bool) → not b ≡ false → T b
of-not true e = tt
of-not false e = absurd (true-false refl e)

pub bool_eq : (a b : Bool) → (T a → T b) → (T b → T a) → a ≡ b
bool_eq true true f g = refl
bool_eq true false f g = absurd (f tt)
bool_eq false true f g = absurd (g tt)
bool_eq false false f g = refl

pub is-eqb : {m n : ℕ} → m ≡ n → T (eqb m n)
is-eqb {n} e = rw e (eqb_refl n)

-- ---- and, or

pub and_both : (a b : Bool) → T (a && b) → T a × T b
and_both true b t = (tt, t)
and_both false b t = absurd t

pub both-and : (a b : Bool) → T a → T b → T (a && b)
both-and true b s t = t
both-and false b s t = s

pub or_cases : (a b : Bool) → T (a || b) → T a ⊎ T b
or_cases true b t = inl tt
or_cases false b t = inr t

pub or_left : (a b : Bool) → T a → T (a || b)
or_left true b t = tt
or_left false b t = absurd t

pub or_right : (a b : Bool) → T b → T (a || b)
or_right true b t = tt
or_right false b t = t

pub neither : (a b : Bool) → a ≡ false → b ≡ false → (a || b) ≡ false
neither a b e d = rw (e, d)

pub neither-of : (a b : Bool) → (a || b) ≡ false → (a ≡ false) × (b ≡ false)
neither-of true b e = absurd (true-false refl e)
neither-of false b e = (refl, e)

-- ---- a search through a list

-- the first hit of a search that succeeds
pub first_found : {A : Type 0} (p : A → Bool) (xs : List A) → T (any p xs) → (y : A) × (first p xs ≡ some y) × Memᴰ y xs × T (p y)
unfolding any first
first_found p [] t = absurd t
first_found {A} p (x ∷ xs) t = go (p x) refl t (λ u. first_found p xs u)
  where
    go : (b : Bool) → p x ≡ b → T (b || any p xs) → (T (any p xs) → (y : A) × (first p xs ≡ some y) × Memᴰ y xs × T (p y))
        → (y : A) × (cond b (some x) (first p xs) ≡ some y) × Memᴰ y (x ∷ xs) × T (p y)
    go true e t k = (x, refl, Memᴰ.head refl, holds e)
    go false e t k = let q = k t in (q.0, q.1, Memᴰ.tail q.2, q.3)

pub any_found : {A : Type 0} (p : A → Bool) (xs : List A) → T (any p xs) → (y : A) × Memᴰ y xs × T (p y)
any_found p xs t = let q = first_found p xs t in (q.0, q.2, q.3)

pub found-any : {A : Type 0} (p : A → Bool) {y : A} {xs : List A} → Memᴰ y xs → T (p y) → T (any p xs)
unfolding any
found-any p (Memᴰ.head {x} {xs} e) t = or_left (p x) (any p xs) (subst (λ z. T (p z)) e t)
found-any p (Memᴰ.tail {x} {xs} m) t = or_right (p x) (any p xs) (found-any p m t)

-- ---- a test of each element

pub every_append : {A : Type 0} (p : A → Bool) (xs ys : List A) → T (every p xs) → T (every p ys) → T (every p (xs ++ ys))
unfolding every
every_append p [] ys h k = k
every_append p (x ∷ xs) ys h k = let c = and_both (p x) (every p xs) h in both-and (p x) _ c.0 (every_append p xs ys c.1 k)

-- ---- lists paired off

pub pairs-append : {A B : Type 0} {R : A → B → Type 0} {xs xs' : List A} {ys ys' : List B}
    → Forall₂ R xs ys → Forall₂ R xs' ys' → Forall₂ R (xs ++ xs') (ys ++ ys')
pairs-append Forall₂.nil g = g
pairs-append (Forall₂.cons r f) g = Forall₂.cons r (pairs-append f g)

pub pair_of : {A B : Type 0} {R : A → B → Type 0} {xs : List A} {ys : List B} {x : A}
    → Forall₂ R xs ys → Memᴰ x xs → (y : B) × Memᴰ y ys × R x y
pair_of Forall₂.nil m = absurd (Memᴰ.not-nil m)
pair_of {A} {B} {R} {x} (Forall₂.cons {a} {b} {l₁} {l₂} r f) m = go (Memᴰ.cases_cons m) (λ n. pair_of f n)
  where
    go : (x ≡ a) ⊎ Memᴰ x l₁ → (Memᴰ x l₁ → (y : B) × Memᴰ y l₂ × R x y) → (y : B) × Memᴰ y (b ∷ l₂) × R x y
    go (inl e) k = (b, Memᴰ.head refl, subst (λ (z : A). R z b) (sym e) r)
    go (inr n) k = let p = k n in (p.0, Memᴰ.tail p.1, p.2)

-- ---- Option

pub some_inj : {A : Type 0} {x y : A} → some x ≡ some y → x ≡ y
some_inj e = cc

pub not_some : {A : Type 0} (y : A) → ◌≡◌ {A = Option A} nowhere (some y) → ⊥
not_some y e = let z : ◌≡◌ {A = ℕ} 0 1 = cc in omega arith
