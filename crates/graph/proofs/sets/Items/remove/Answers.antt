use mathlib.Core.Path.{sym}
use native.Mathlib.Omega.{arith}
use Rattle.graph.proofs.Members.{without-item}
use Rattle.graph.proofs.sets.Items.remove.Goals as goal

pub returns : goal.returns
returns c =
    without-item _ _ _ (omega arith) c.with_bit.ensures
