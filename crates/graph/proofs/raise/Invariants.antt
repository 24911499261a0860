use Rattle.graph.specs.Judged.{Risen}
use Rattle.graph.proofs.raise.Given as goal

abbrev pub invariant-loop-i : goal.invariant-loop-i
invariant-loop-i l =
    Risen l.i l.initial.index l.index
