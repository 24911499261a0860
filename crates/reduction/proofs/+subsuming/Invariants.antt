-- `reduction::subsumes`, `subsumes_one` and `subsumes_like` meet their contracts.
-- Assumes nothing.
use Prim.Native.Nat.{◌+◌, ◌*◌}
use lib.ListN.{get_or}
use Rattle.meaning.specs.Reduce.{subsumes as above}
use Rattle.rows.proofs.Going.{Going}
use Rattle.reduction.proofs.Subsumed.{Serving, Seeking}
use Rattle.reduction.proofs.+subsuming.Given as goal

abbrev pub invariant-subsumes-loop-child : goal.invariant-subsumes-loop-child
invariant-subsumes-loop-child l = record {
  going : Going l.tree.ends (get_or l.tree.ends l.c 0) l.child-iterator;
  serving : Serving l.tree.names l.tree.roles l.tree.ends l.left l.c l.d l.child-iterator.at;
}

abbrev pub decreases-subsumes : goal.decreases-subsumes
decreases-subsumes l = 3 * l.left

abbrev pub decreases-subsumes_like : goal.decreases-subsumes_like
decreases-subsumes_like l = 3 * l.left + 1

abbrev pub invariant-subsumes_one-loop-d : goal.invariant-subsumes_one-loop-d
invariant-subsumes_one-loop-d l = record {
  going : Going l.tree.ends l.fn.others.end l.d-iterator;
  seeking : Seeking l.tree.names l.tree.roles l.tree.ends l.left above l.c l.fn.others.at l.fn.others.end l.d-iterator.at;
}

abbrev pub decreases-subsumes_one : goal.decreases-subsumes_one
decreases-subsumes_one l = 3 * l.left + 2
