-- `fractions::common_divisor` meets its contract: the divisor stays the same at each turn, and the second number falls.
-- Assumes nothing.
use mathlib.Core.Path.{◌≡◌}
use Rattle.meaning.specs.Fraction.{gcd}
use Rattle.fractions.proofs.common_divisor.Given as goal

abbrev pub invariant-loop-b : goal.invariant-loop-b
invariant-loop-b l =
    gcd l.a l.b ≡ gcd l.p l.q

abbrev pub decreases-loop-b : goal.decreases-loop-b
decreases-loop-b l =
    l.b
