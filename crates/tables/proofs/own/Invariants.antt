use lib.ListN.{get_or}
use Rattle.meaning.specs.Names.{common}
use Rattle.tables.proofs.Stored.{Stored}
use Rattle.tables.proofs.own.Given as goal

abbrev pub invariant-loop-x : goal.invariant-loop-x
invariant-loop-x l =
    Stored (λ x. common l.names (get_or l.over.names.now x 0)) l.at l.initial.table l.table l.x
