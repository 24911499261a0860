use lib.ListN.{get_or}
use Rattle.rows.proofs.Going.{Going}
use Rattle.heaviest.specs.Heavy.{Written}
use Rattle.heaviest.proofs.Seeking.{Sought}
use Rattle.heaviest.proofs.heaviest.Given as goal

abbrev pub invariant-loop-child : goal.invariant-loop-child
invariant-loop-child l =
    record {
      going : Going l.of.tree.ends (get_or l.of.tree.ends l.node 0) l.child-iterator;
      each : (k : Written l.of.tree.ends l.node) → Sought k l.of.marks l.heavy l.most l.child-iterator.at;
    }
