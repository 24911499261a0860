use Rattle.graph.specs.On.{JudgedAlong}
use Rattle.folds.specs.Folded.{row_at}
use Rattle.folds.proofs.Scanning.{Passing}
use Rattle.folds.proofs.best_of.Given as goal

abbrev pub invariant-loop-k : goal.invariant-loop-k
invariant-loop-k g l =
    (j : JudgedAlong l.walk) → Passing j.register l.role (row_at l.numbers l.at) l.start l.best l.k
