-- `fractions::lowest` meets its contract.
-- Assumes nothing.
use mathlib.Core.Path.{ap}
use Prim.Native.Nat.{ℕ, ◌/◌}
use native.Mathlib.Omega.{arith}
use Rattle.meaning.specs.Fraction.{lowest}
use Rattle.meaning.proofs.Lowest.{gcd-pos}
use Rattle.fractions.proofs.lowest.Goals as goal

pub nonzero_div-result : goal.nonzero_div-result
nonzero_div-result c =
    omega (arith, c.common_divisor-d.ensures, gcd-pos c.args.num c.args.den c.requires)

pub nonzero_div-result-2 : goal.nonzero_div-result-2
nonzero_div-result-2 c =
    omega (arith, c.common_divisor-d.ensures, gcd-pos c.args.num c.args.den c.requires)

pub returns : goal.returns
unfolding lowest
returns c =
    (ap (λ (z : ℕ). c.args.num / z) c.common_divisor-d.ensures, ap (λ (z : ℕ). c.args.den / z) c.common_divisor-d.ensures)
