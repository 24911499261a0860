-- `limits::put_node` meets its contract: three fields one after the other.
-- Assumes nothing.
use Rattle.limits.proofs.Nodes.{fixed-put}
use Rattle.limits.proofs.put_node.Goals as goal

pub returns : goal.returns
returns c =
    fixed-put c.args.list.now c.args.out.now _ _ _ _ _ _ _ _ _ c.put.ensures c.put-2.ensures c.put-3.ensures c.names-names.ensures c.children.ensures
    c.requires.1 c.requires.2
