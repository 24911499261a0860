-- `parts::read_concept` meets its contract: the reader of a node leaves rows that hold the concept.
-- Assumes nothing.
use Rattle.parts.proofs.Concept.{concept-done}
use Rattle.parts.proofs.read_concept.Goals as goal

pub returns : goal.returns
returns c =
    let a = c.args in
    concept-done a.s.now a.stop a.at _ _ _ c.read_node.ensures
