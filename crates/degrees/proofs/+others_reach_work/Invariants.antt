use Prim.Native.Nat.{◌+◌, ◌*◌}
use lib.ListN.{get_or}
use Rattle.rows.proofs.Going.{Going as Over}
use Rattle.degrees.proofs.Going.{Going}
use Rattle.degrees.proofs.+others_reach_work.Given as goal

abbrev pub decreases-work : goal.decreases-work
decreases-work l =
    3 * l.left + 2

abbrev pub decreases-reach : goal.decreases-reach
decreases-reach l =
    3 * l.left + 3

abbrev pub decreases-others : goal.decreases-others
decreases-others l =
    3 * l.left + 1

abbrev pub invariant-others-loop-child : goal.invariant-others-loop-child
invariant-others-loop-child l =
    record {
      over : Over l.of.tree.ends (get_or l.of.tree.ends l.node 0) l.child-iterator;
      going : Going l.on.image.now l.on.items l.on.index l.of.tree.names l.of.tree.roles l.of.tree.ends l.of.marks l.node l.left l.set.words l.heavy l.at l.first
          l.initial.notes l.initial.numbers l.notes l.numbers l.n l.product l.child-iterator.at;
    }
