-- `writer::put_labelled` meets its contract: a node's ten bytes, and its thresholds.
-- Assumes nothing.
use Rattle.limits.proofs.Inner.{behind-fixed}
use Rattle.writer.proofs.put_labelled.Goals as goal

pub returns-clause-out_after : goal.returns-clause-out_after
returns-clause-out_after c =
    behind-fixed c.args.of.now.nodes c.args.out.now _ _ _ _ _ _ _ c.put_node.ensures c.put_limits.ensures.out_after
