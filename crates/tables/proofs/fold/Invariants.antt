use lib.ListN.{get_or}
use Rattle.tables.specs.Rows.{folded}
use Rattle.tables.proofs.Stored.{Stored}
use Rattle.tables.proofs.fold.Given as goal

abbrev pub invariant-loop-x : goal.invariant-loop-x
invariant-loop-x l =
    Stored (folded l.initial.table l.at l.scale l.product (λ y. get_or l.tops y 0)) l.at l.initial.table l.table l.x
