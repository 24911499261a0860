-- `history::run` meets its contract: each turn plays the next call, and what is still to be played leads where the whole history does.
use Rattle.std.proofs.Common.{arith}
use Rattle.numbered.specs.Played.{lent}
use Rattle.history.proofs.Histories.{played-on, played-out}
use Rattle.history.proofs.run.Goals as goal

pub loop-bytes-preserved : goal.loop-bytes-preserved
loop-bytes-preserved g c =
    let l = c.loop-bytes in
    rw c.print_answer-count.ensures (played-on c.as_chunks.result.0.now (lent c.args.s.now c.args.log.now 0) (lent l.s l.log l.count) l.bytes-index c.call-answer.result _
    c.loop-bytes-test.true l.invariant c.call-answer.ensures)

pub returns : goal.returns
returns g c =
    let l = c.loop-bytes in
    played-out c.args.history.now c.as_chunks.result.0.now (lent c.args.s.now c.args.log.now 0) (lent l.s l.log l.count) l.bytes-index
    c.as_chunks.ensures.front (omega arith) l.invariant
