-- `reduction::apart` meets its contract.
-- Assumes nothing.
use lib.ListN.{get_or}
use Prim.Native.Nat.{◌+◌}
use Rattle.rows.proofs.Going.{Going}
use Rattle.reduction.proofs.Alone.{Gathering}
use Rattle.reduction.proofs.apart.Given as goal

abbrev pub invariant-loop-child : goal.invariant-loop-child
invariant-loop-child l =
    let e = get_or l.tree.ends l.node 0 in record {
      going : Going l.tree.ends e l.child-iterator;
      gathering : Gathering l.tree.roles l.tree.ends (l.node + 1) e l.seen l.child-iterator.at;
    }
