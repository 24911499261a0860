-- `reduction::mark` and `reduction::mark_child` meet their contracts.
-- Assumes nothing.
use Prim.Native.Nat.{◌+◌, ◌*◌}
use lib.ListN.{get_or}
use Rattle.rows.proofs.Going.{Going}
use Rattle.reduction.proofs.Marks.{Marking}
use Rattle.reduction.proofs.+marking.Given as goal

abbrev pub invariant-mark-loop-child : goal.invariant-mark-loop-child
invariant-mark-loop-child l = record {
  going : Going l.tree.ends (get_or l.tree.ends l.node 0) l.child-iterator;
  marking : Marking l.tree.names l.tree.roles l.tree.ends l.left l.node l.initial.marks l.marks l.child-iterator.at;
}

abbrev pub decreases-mark : goal.decreases-mark
decreases-mark l = 2 * l.left

abbrev pub decreases-mark_child : goal.decreases-mark_child
decreases-mark_child l = 2 * l.left + 1
