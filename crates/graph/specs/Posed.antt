-- A register that was read, and rows that hold a tree: what every question is put to.
-- Assumes nothing.
use Rattle.std.specs.Prelude.{List, ℕ, ◌≤◌, get_or}
use Rattle.meaning.specs.Bounds.{most_nodes}
use Rattle.meaning.specs.Tree.{Concept}
use Rattle.meaning.specs.Rows.{Holds}

-- The register is known as R says, and the rows from a node on hold the tree, of at most `left` levels.
pub record Posed (R : Type 0) (names roles ends : List ℕ) (t : Concept) (node left : ℕ) : Type 0 where
  pub graph : R
  pub held : Holds names roles ends t left node (get_or ends node 0)
  pub few : get_or ends node 0 ≤ most_nodes
