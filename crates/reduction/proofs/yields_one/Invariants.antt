-- `reduction::yields_one` meets its contract.
-- Assumes nothing.
use mathlib.Core.Bool.{not}
use lib.Dec.{eqb}
use Rattle.rows.proofs.Going.{Going}
use Rattle.reduction.specs.Subsumed.{yields as drops}
use Rattle.reduction.proofs.Subsumed.{Seeking}
use Rattle.reduction.proofs.yields_one.Given as goal

abbrev pub invariant-loop-d : goal.invariant-loop-d
invariant-loop-d g l = record {
  going : Going l.tree.ends l.fn.others.end l.d-iterator;
  seeking : Seeking l.tree.names l.tree.roles l.tree.ends l.left (drops (not (eqb g.row.EARLIER 0))) l.c l.fn.others.at l.fn.others.end l.d-iterator.at;
}
