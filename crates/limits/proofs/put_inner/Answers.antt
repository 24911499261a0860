-- `limits::put_inner` meets its contract: the root, then node after node, each a step on in the bytes that the list says.
-- Assumes nothing.
use native.Mathlib.Omega.{arith}
use Rattle.limits.proofs.Inner.{inner-some, inner-few, inner-role, inner-more, inner-all}
use Rattle.limits.proofs.Putting.{put-length}
use Rattle.limits.proofs.put_inner.Goals as goal

pub put_node-requires : goal.put_node-requires
put_node-requires c =
    let some = inner-some _ c.requires.0 in
    (some, inner-few _ c.requires.0, omega arith, omega (arith, some, c.requires.1))

pub put_node-requires-in-loop-k : goal.put_node-requires-in-loop-k
put_node-requires-in-loop-k c =
    (omega arith, omega (arith, inner-few _ c.requires.0), omega arith, omega arith)

pub loop-k-preserved : goal.loop-k-preserved
loop-k-preserved c =
    let w = inner-more c.args.list.now _ _ _ _ _ _ _ _ _ _ c.loop-k.invariant.put (omega arith) c.role.ensures
    (inner-role _ _ c.requires.0 (omega arith) (omega arith)) c.put.ensures c.put_node-in-loop-k.ensures in
    record { place = omega arith; room = put-length _ _ _ _ _ _ w; put = w }

pub returns : goal.returns
returns c =
    record {
      result_value = omega (arith, inner-some _ c.requires.0);
      out_after = inner-all c.args.list.now _ _ _ _ _ _ c.requires.0 c.put_node.ensures c.loop-k.invariant.put (omega arith);
    }
