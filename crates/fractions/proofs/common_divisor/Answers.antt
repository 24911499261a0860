-- `fractions::common_divisor` meets its contract: the divisor stays the same at each turn, and the second number falls.
-- Assumes nothing.
use mathlib.Core.Path.{◌≡◌, sym, ◌∙◌, ap}
use Prim.Native.Nat.{◌<◌}
use native.Mathlib.Nat.{mod-lt}
use native.Mathlib.Omega.{arith}
use Rattle.meaning.specs.Fraction.{gcd}
use Rattle.meaning.proofs.Euclid.{gcd-last, gcd-turn}
use Rattle.fractions.proofs.common_divisor.Goals as goal

pub loop-b-smaller : goal.loop-b-smaller
loop-b-smaller c =
    let h : 0 < c.loop-b.b = omega arith in
    mod-lt c.loop-b.a h

pub loop-b-preserved : goal.loop-b-preserved
loop-b-preserved c =
    let h : 0 < c.loop-b.b = omega arith in
    sym (gcd-turn c.loop-b.a c.loop-b.b h) ∙ c.loop-b.invariant

pub returns : goal.returns
returns c =
    let h : c.loop-b.b ≡ 0 = omega arith in
    sym (gcd-last c.loop-b.a) ∙ ap (gcd c.loop-b.a) (sym h) ∙ c.loop-b.invariant
