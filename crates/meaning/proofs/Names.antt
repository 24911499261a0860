-- Sets of names: the names that two sets share are at most those of either, a set that shares all its names lies within the other,
-- and lying within is reflexive and transitive.
-- Assumes nothing.
use mathlib.Core.Path.{◌≡◌, refl, ap, ap₂, ◌∙◌}
use mathlib.Core.Logic.{◌↔◌}
use Prim.Native.Nat.{ℕ, ◌+◌, ◌/◌, ◌%◌, ◌≤◌, ◌<◌, min}
use native.Mathlib.Nat.{le_refl, mod-lt, div-add-mod', zero-lt-suc}
use native.Mathlib.Omega.{arith}
use lib.Arith.{bin_ind, digits_mod, digits_div}
use lib.Bits.{bit_and, and_step, and_self}
use lib.Count.{ones, ones_step}
use lib.Dec.{T, eqb→eq}
use Rattle.meaning.specs.Names.{names, common, within}
use Rattle.meaning.proofs.Tests.{is-eqb}

-- the shared names, lowest first
common-step : (a b : ℕ) → common a b ≡ min (a % 2) (b % 2) + common (a / 2) (b / 2)
common-step a b =
    let q = bit_and (a / 2) (b / 2) in
    let m = min (a % 2) (b % 2) in
    let lt : m < 2 = omega (arith, mod-lt a (zero-lt-suc 1)) in
    ones_step (bit_and a b)
    ∙ ap₂ (λ (x y : ℕ). x + ones y) (ap (λ (z : ℕ). z % 2) (and_step a b) ∙ digits_mod q lt) (ap (λ (z : ℕ). z / 2) (and_step a b) ∙ digits_div q lt)

pub common-le : (a b : ℕ) → common a b ≤ names a
common-le =
    bin_ind (λ (a : ℕ). (b : ℕ) → common a b ≤ names a) (λ b. le_refl _)
    (λ a ih b. omega (arith, ih (b / 2), common-step a b, ones_step a))

all-shared : (a b : ℕ) → common a b ≡ names a → bit_and a b ≡ a
all-shared =
    bin_ind (λ (a : ℕ). (b : ℕ) → common a b ≡ names a → bit_and a b ≡ a) (λ b e. refl)
    (λ a ih b e.
    let l = common-le (a / 2) (b / 2) in
    let e1 : common (a / 2) (b / 2) ≡ names (a / 2) = omega (arith, common-step a b, ones_step a) in
    omega (arith, ih (b / 2) e1, and_step a b, common-step a b, ones_step a, div-add-mod' a 2))

-- as many shared names as names: all of them
pub common-all : (a b : ℕ) → (common a b ≡ names a) ↔ T (within a b)
common-all a b = (λ e. is-eqb (all-shared a b e), λ h. ap ones (eqb→eq _ _ h))

pub within-self : (a : ℕ) → T (within a a)
within-self a = is-eqb (and_self a)

half-within : (a b : ℕ) → bit_and a b ≡ a → (bit_and (a / 2) (b / 2) ≡ a / 2) × (a % 2 ≤ b % 2)
half-within a b e = omega (arith, and_step a b, div-add-mod' a 2, mod-lt a (zero-lt-suc 1))

within-via : (a b c : ℕ) → bit_and a b ≡ a → bit_and b c ≡ b → bit_and a c ≡ a
within-via =
    bin_ind (λ (a : ℕ). (b c : ℕ) → bit_and a b ≡ a → bit_and b c ≡ b → bit_and a c ≡ a) (λ b c h k. refl)
    (λ a ih b c h k.
    let p = half-within a b h in
    let q = half-within b c k in
    omega (arith, ih (b / 2) (c / 2) p.0 q.0, and_step a c, div-add-mod' a 2))

pub within-trans : (a b c : ℕ) → T (within a b) → T (within b c) → T (within a c)
within-trans a b c h k = is-eqb (within-via a b c (eqb→eq _ _ h) (eqb→eq _ _ k))
