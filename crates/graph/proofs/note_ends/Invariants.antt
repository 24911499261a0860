use Rattle.graph.specs.Judged.{Noted}
use Rattle.graph.proofs.note_ends.Given as goal

abbrev pub invariant-loop-k : goal.invariant-loop-k
invariant-loop-k l =
    Noted l.read.bytes.now l.read.items l.k l.index
