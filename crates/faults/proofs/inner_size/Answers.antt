-- `faults::inner_size` meets its contract: the tree holds what the list says.
-- Assumes nothing.
use Rattle.faults.proofs.Held.{inner-few, inner-held, inner-holds}
use Rattle.faults.proofs.inner_size.Goals as goal

pub tree_of-requires : goal.tree_of-requires
tree_of-requires c =
    inner-few _ c.requires

pub reduced_size-requires : goal.reduced_size-requires
reduced_size-requires c =
    inner-held _ c.requires _ _ _ c.tree_of.ensures.names c.tree_of.ensures.roles c.tree_of.ensures.ends

pub returns : goal.returns
returns c =
    c.reduced_size.ensures.for_tree _ (inner-holds _ c.requires _ _ _ c.tree_of.ensures.names c.tree_of.ensures.roles c.tree_of.ensures.ends)
