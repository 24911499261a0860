-- `reduction::size` and `reduction::child_size` meet their contracts.
-- Assumes nothing.
use Prim.Native.Nat.{◌+◌, ◌*◌, ◌-◌, ◌<◌}
use lib.ListN.{get_or}
use Rattle.rows.proofs.Going.{Going}
use Rattle.reduction.proofs.Sizes.{Sizing}
use Rattle.reduction.proofs.+sizing.Given as goal

abbrev pub decreases-child_size : goal.decreases-child_size
decreases-child_size l = 2 * l.left + 1

abbrev pub invariant-size-loop-child : goal.invariant-size-loop-child
invariant-size-loop-child l =
    let e = get_or l.tree.ends l.node 0 in record {
      going : Going l.tree.ends e l.child-iterator;
      small : l.n + 65 * (e - l.child-iterator.at) < 65 * (e - l.node);
      sizing : Sizing l.tree.names l.tree.ends l.left l.marks l.node l.n l.child-iterator.at;
    }

abbrev pub decreases-size : goal.decreases-size
decreases-size l = 2 * l.left
