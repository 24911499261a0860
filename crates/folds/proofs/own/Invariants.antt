use Prim.Native.Nat.{◌+◌, ◌*◌}
use mathlib.Core.Path.{◌≡◌}
use Rattle.meaning.specs.Names.{common}
use Rattle.graph.specs.Walked.{walked}
use Rattle.graph.specs.On.{JudgedOn}
use Rattle.folds.specs.Folded.{row_at}
use Rattle.folds.proofs.Fill.{Filled}
use Rattle.folds.proofs.own.Given as goal

abbrev pub invariant-loop-x : goal.invariant-loop-x
invariant-loop-x l =
    record {
      same : l.x-iterator.set.now.words ≡ l.set.words;
      filled : (j : JudgedOn l.on)
          → Filled (λ x. common l.names ((walked j.register).names x) * l.scale + row_at l.initial.numbers (l.at + 512) x) l.set.words l.at l.initial.numbers l.numbers
          l.x-iterator.from;
    }
