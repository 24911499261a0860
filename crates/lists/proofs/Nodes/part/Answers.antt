-- `lists::Nodes::part` meets its contract: the numbers of those nodes.
-- Assumes nothing.
use Rattle.lists.proofs.Peeled.{nodes-part}
use Rattle.lists.proofs.Nodes.part.Goals as goal

pub returns-clause-nodes : goal.returns-clause-nodes
returns-clause-nodes c =
    rw (← c.self.view_is) (nodes-part _ _ _ (rw c.self.view_is c.requires))
