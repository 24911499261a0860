use lib.ListN.{get_or}
use Rattle.rows.proofs.Going.{Going}
use Rattle.tables.proofs.Filling.{Going as Filled}
use Rattle.tables.proofs.+fill.Given as goal

abbrev pub invariant-loop-child : goal.invariant-loop-child
invariant-loop-child l =
    record {
      going : Going l.of.tree.ends (get_or l.of.tree.ends l.node 0) l.child-iterator;
      filled : Filled l.over.image.now l.over.items l.over.links.begins.now l.over.links.order.now l.of.tree.names l.of.tree.roles l.of.tree.ends l.of.marks
          l.node l.left l.initial.table l.table l.n l.product l.child-iterator.at;
    }

abbrev pub decreases-fill : goal.decreases-fill
decreases-fill l = l.left
