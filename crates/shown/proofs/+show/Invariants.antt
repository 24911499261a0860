use lib.ListN.{get_or}
use Rattle.rows.proofs.Going.{Going}
use Rattle.shown.proofs.Walk.{Walk}
use Rattle.shown.proofs.+show.Given as goal

abbrev pub decreases-show : goal.decreases-show
decreases-show l =
    l.left

abbrev pub invariant-loop-child : goal.invariant-loop-child
invariant-loop-child l =
    record {
      going : Going l.of.tree.ends (get_or l.of.tree.ends l.node 0) l.child-iterator;
      walk : Walk l.on l.of l.notes l.node l.left l.item l.initial.map l.map l.child-iterator.at;
    }
