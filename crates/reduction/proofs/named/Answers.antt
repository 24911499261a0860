-- `reduction::named` meets its contract.
-- Assumes nothing.
use native.Mathlib.Omega.{arith}
use lib.Count.{ones-le}
use mathlib.Core.Path.{refl}
use Rattle.reduction.proofs.named.Goals as goal

pub overflow_cast-result : goal.overflow_cast-result
overflow_cast-result c =
    omega (arith, ones-le 64 c.args.a (omega (arith, c.ranges.a)))

pub returns : goal.returns
returns c =
    record {
      value = refl;
      upper_bound = ones-le 64 c.args.a (omega (arith, c.ranges.a));
    }
