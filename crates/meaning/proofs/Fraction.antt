-- Fractions with positive lower numbers: the order is transitive, so is being the same number, and the same numbers are 1 together.
-- Assumes nothing.
use mathlib.Core.Path.{◌≡◌, sym, ap}
use mathlib.Core.Logic.{◌↔◌}
use Prim.Native.Nat.{ℕ, ◌*◌, ◌<◌}
use native.Mathlib.Nat.{le_antisymm, le_of_eq, le_of_mul-le-mul_right, mul-le-mul_right, eq_of_mul-eq-mul_right}
use native.Mathlib.Omega.{arith}
use Rattle.meaning.specs.Fraction.{Frac, Same, AtMost}

pub at-most-trans : (p q r : Frac) → 0 < q.den → AtMost p q → AtMost q r → AtMost p r
at-most-trans p q r pos h k =
    le_of_mul-le-mul_right {k = q.den} (omega (arith, mul-le-mul_right r.den h, mul-le-mul_right p.den k)) pos

pub same-trans : (p q r : Frac) → 0 < q.den → Same p q → Same q r → Same p r
same-trans p q r pos e d =
    le_antisymm (at-most-trans p q r pos (le_of_eq e) (le_of_eq d)) (at-most-trans r q p pos (le_of_eq (sym d)) (le_of_eq (sym e)))

pub same-one : (p q : Frac) → 0 < p.den → 0 < q.den → Same p q → (p.num ≡ p.den) ↔ (q.num ≡ q.den)
same-one p q pos pos' s = (
  λ e. eq_of_mul-eq-mul_right p.den pos q.num q.den (omega (arith, ap (λ (z : ℕ). z * q.den) e)),
  λ e. eq_of_mul-eq-mul_right q.den pos' p.num p.den (omega (arith, ap (λ (z : ℕ). z * p.den) e)),
)
