use mathlib.Core.Path.{◌≡◌}
use Rattle.graph.specs.On.{JudgedOn}
use Rattle.folds.proofs.Step.{Stepped}
use Rattle.folds.proofs.fold.Given as goal

abbrev pub invariant-loop-x : goal.invariant-loop-x
invariant-loop-x l =
    record {
      same : l.x-iterator.set.now.words ≡ l.set.words;
      stepped : (j : JudgedOn l.on)
          → Stepped j l.set.words l.role l.node l.from l.to l.scale l.product l.initial.notes l.initial.numbers l.notes l.numbers l.x-iterator.from;
    }
