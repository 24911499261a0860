-- `spread` meets its contract: item by item, or until all items are there.
-- Assumes nothing.
use mathlib.Core.Path.{ap}
use Rattle.std.proofs.Common.{rules}
use Rattle.graph.proofs.Judging.{judged}
use Rattle.graph.proofs.Members.{member-few}
use Rattle.graph.proofs.Spreading.{spreading-start, spreading-step, spreading-end, spreading-full}
use Rattle.graph.proofs.Walk.spread.Goals as goal

pub returns-then-self-full : goal.returns-then-self-full
returns-then-self-full c =
    spreading-full _ _ _ _ _ _ _ _ c.loop-x.invariant.1 c.if-self-full.true c.args.self.now.judged.read.3

pub loop-x-preserved : goal.loop-x-preserved
loop-x-preserved c =
    let s = c.in-Some.ensures.steps in
    let n = rw c.loop-x.invariant.0 at s.1.0 in (
      rw s.0 c.loop-x.invariant.0,
      rw s.1.2 (spreading-step _ _ _ _ _ _ _ _ _ _ _ c.loop-x.invariant.1 n (judged c.args.self.now.judged) c.gather.ensures c.full_from-full.ensures),
    )
