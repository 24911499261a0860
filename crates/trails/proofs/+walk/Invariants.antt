-- `trails::walk`: the children so far are shown, and those from the next one on are left.
use lib.ListN.{get_or}
use Rattle.rows.proofs.Going.{Going}
use Rattle.trails.specs.Charted.{Charted}
use Rattle.trails.proofs.Down.{Ahead, below}
use Rattle.trails.proofs.+walk.Given as goal

abbrev pub decreases-walk : goal.decreases-walk
decreases-walk l = l.left

abbrev pub invariant-loop-child : goal.invariant-loop-child
invariant-loop-child l = record {
  going : Going l.tree.ends (get_or l.tree.ends l.node 0) l.child-iterator;
  left : (k : Charted l.on l.tree l.met l.node l.left l.item) → Ahead k l.map l.child-iterator.at (below k l.initial.map);
}
