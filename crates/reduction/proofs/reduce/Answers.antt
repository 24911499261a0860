-- `reduction::reduce` meets its contract.
-- Assumes nothing.
use mathlib.Core.Path.{◌∙◌}
use Prim.Native.Nat.{zero-le}
use Rattle.reduction.proofs.reduce.Goals as goal

pub returns : goal.returns
returns c =
    record { root = c.mark.ensures.earlier 0 zero-le ∙ c.put.ensures.here; marked = c.mark.ensures.marked }
