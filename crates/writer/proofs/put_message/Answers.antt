-- `writer::put_message` meets its contract: the head, and the nodes behind it.
-- Assumes nothing.
use native.Mathlib.Omega.{arith}
use Rattle.writer.proofs.Stages.{given}
use Rattle.writer.proofs.Length.{said-length, message-put}
use Rattle.writer.proofs.put_message.Goals as goal

pub put-requires : goal.put-requires
put-requires c =
    omega (arith, said-length _ _ _ c.requires.ready.whole c.requires.ready.forms)

pub overflow_sub-len : goal.overflow_sub-len
overflow_sub-len c =
    omega (arith, said-length _ _ _ c.requires.ready.whole c.requires.ready.forms, (given _ _ _ c.requires.ready).some)

pub put-requires-2 : goal.put-requires-2
put-requires-2 c =
    omega (arith, said-length _ _ _ c.requires.ready.whole c.requires.ready.forms, (given _ _ _ c.requires.ready).some)

pub put_nodes-requires-clause-inner_in_bounds : goal.put_nodes-requires-clause-inner_in_bounds
put_nodes-requires-clause-inner_in_bounds c =
    omega (arith, said-length _ _ _ c.requires.ready.whole c.requires.ready.forms)

pub returns : goal.returns
returns c =
    message-put c.args.out.now _ _ _ _ _ c.requires.len_value.0 c.put.ensures c.put-2.ensures c.put_nodes.ensures
