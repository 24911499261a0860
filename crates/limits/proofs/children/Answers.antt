-- `limits::children` meets its contract: what is counted and what is ahead stay the same together.
-- Assumes nothing.
use Prim.Native.Nat.{◌/◌}
use lib.ListN.{length}
use native.Mathlib.Omega.{arith}
use Rattle.limits.proofs.Nodes.{ahead-stop, ahead_none, ahead_more, ahead-all}
use Rattle.limits.proofs.children.Goals as goal

pub returns-then-f-d : goal.returns-then-f-d
returns-then-f-d c =
    let list = c.args.list.now in
    ahead-all list _ _ _ _ _ c.depth-d.ensures c.loop-e.invariant.1 (ahead-stop list _ _ _ _ (omega arith) c.depth-f.ensures c.if-f-d.true)

pub loop-e-preserved : goal.loop-e-preserved
loop-e-preserved c =
    let more = ahead_more c.args.list.now _ c.loop-e.e (length c.args.list.now / 3) _ _ (omega arith) c.depth-f.ensures c.if-f-d.false c.from-n.ensures in
    (omega (arith, c.loop-e.invariant.0, more.1), omega (arith, c.loop-e.invariant.1, more.0))

pub returns : goal.returns
returns c =
    let list = c.args.list.now in
    ahead-all list _ _ _ _ _ c.depth-d.ensures c.loop-e.invariant.1 (ahead_none list _ _ _ (omega arith))
