-- `history::run`: what is still to be played leads where the whole history does.
use Rattle.numbered.specs.Played.{lent}
use Rattle.history.proofs.Histories.{Playing}
use Rattle.history.proofs.run.Given as goal

abbrev pub invariant-loop-bytes : goal.invariant-loop-bytes
invariant-loop-bytes g l = Playing l.calls (lent l.initial.s l.initial.log 0) l.bytes-index (lent l.s l.log l.count)
