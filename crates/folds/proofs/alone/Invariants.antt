use mathlib.Core.Path.{◌≡◌}
use Rattle.meaning.specs.Names.{common}
use Rattle.meaning.specs.Names.{names as many}
use Rattle.meaning.specs.Degree.{or_one}
use Rattle.graph.specs.Walked.{walked}
use Rattle.graph.specs.On.{JudgedOn}
use Rattle.folds.proofs.Fill.{Filled}
use Rattle.folds.proofs.alone.Given as goal

abbrev pub invariant-loop-x : goal.invariant-loop-x
invariant-loop-x l =
    record {
      same : l.x-iterator.set.now.words ≡ l.set.words;
      filled : (j : JudgedOn l.on)
          → Filled (λ x. or_one (many l.names) (common l.names ((walked j.register).names x))) l.set.words l.at l.initial.numbers l.numbers l.x-iterator.from;
    }
