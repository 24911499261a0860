use Rattle.shown.proofs.Along.{Looking}
use Rattle.shown.proofs.found.Given as goal

abbrev pub invariant-loop-k : goal.invariant-loop-k
invariant-loop-k l =
    Looking l.on l.notes l.node l.x l.k
