use Rattle.graph.specs.Sets.{All}
use Rattle.graph.proofs.sets.Items.first.Given as goal

abbrev pub invariant-loop-x : goal.invariant-loop-x
invariant-loop-x l =
    All l.x l.all.words
