-- A margin as the machine works it out: products that fit 64 bits with a sign, and their difference, which is that of the two numbers.
-- Assumes nothing.
use mathlib.Core.Path.{◌≡◌, refl, sym, ap, ap₂, subst, ◌∙◌}
use mathlib.Core.Bool.{Bool, true, false, cond}
use Prim.Native.Nat.{ℕ, zero, suc, ◌*◌, ◌-◌, ◌≤◌}
use native.Mathlib.Nat.{le_trans, mul-le-mul}
use native.Mathlib.Omega.{arith}
use lib.Dec.{ltb}
use lib.IntN.{pos, negsuc, sub_ℕ, ◌-ℤ◌}
use mir.Syntax.{w64}
use mir.Val.{SFits, to_z, of_z, sel}
use mir.Facts.{to_z-of_z}
use Rattle.meaning.proofs.Reading.{below, not-below}
use Rattle.meaning.specs.Bounds.{most_scale, most_q, most_margin}

-- ---- the products of a degree's two numbers and a threshold's

pub record Products (num den p q : ℕ) : Type 0 where
  pub given : num * q ≤ most_margin
  pub asked : p * den ≤ most_margin
  pub over : den * q ≤ most_margin
  pub other : num * p ≤ most_margin

pub products : (num den p q : ℕ) → num ≤ den → den ≤ most_scale → p ≤ q → q ≤ most_q → Products num den p q
products num den p q a b c d = record {
  given = mul-le-mul (le_trans a b) d;
  asked = omega (arith, mul-le-mul b (le_trans c d));
  over = mul-le-mul b d;
  other = mul-le-mul (le_trans a b) (le_trans c d);
}

-- ---- their difference

-- a number of so many bits has no sign
unsigned : (n : ℕ) → n ≤ most_margin → to_z w64 n ≡ pos n
unsigned n h = ap (λ (b : Bool). sel b (pos n) (negsuc (18446744073709551616 - suc n))) (below n 9223372036854775808 (omega arith))

minus : (a b : ℕ) → (pos a -ℤ pos b) ≡ sub_ℕ a b
minus a zero = ap pos (omega arith) ∙ sym (ap (λ (c : Bool). cond c (negsuc (0 - suc a)) (pos (a - 0))) (not-below a 0 (omega arith)))
minus a (suc b) = refl

difference : (a b : ℕ) → a ≤ most_margin → b ≤ most_margin → (to_z w64 a -ℤ to_z w64 b) ≡ sub_ℕ a b
difference a b h k = ap₂ ◌-ℤ◌ (unsigned a h) (unsigned b k) ∙ minus a b

within : (a b : ℕ) → a ≤ most_margin → b ≤ most_margin → SFits w64 (sub_ℕ a b)
within a b h k = go (ltb a b) refl
  where
    go : (c : Bool) → ltb a b ≡ c → SFits w64 (cond c (negsuc (b - suc a)) (pos (a - b)))
    go true e = record { sfits = omega arith }
    go false e = record { sfits = omega arith }

pub difference-fits : (a b : ℕ) → a ≤ most_margin → b ≤ most_margin → SFits w64 (to_z w64 a -ℤ to_z w64 b)
difference-fits a b h k = subst (SFits w64) (sym (difference a b h k)) (within a b h k)

pub difference-is : (a b : ℕ) → a ≤ most_margin → b ≤ most_margin
    → (to_z w64 (of_z w64 (to_z w64 a -ℤ to_z w64 b)) ≡ sub_ℕ a b) × SFits w64 (to_z w64 (of_z w64 (to_z w64 a -ℤ to_z w64 b)))
difference-is a b h k =
    let e : to_z w64 (of_z w64 (to_z w64 a -ℤ to_z w64 b)) ≡ sub_ℕ a b = to_z-of_z (difference-fits a b h k) ∙ difference a b h k in
    (e, subst (SFits w64) (sym e) (within a b h k))
