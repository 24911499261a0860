-- Description graphs (LTCS-Report 15-09, Definition 1): places with names, and links between them under roles.
-- A register is one, and so is a tree: so one definition of a map serves membership, the degree and subsumption.
-- Assumes nothing.
use Rattle.std.specs.Prelude.{List, ℕ}
use Rattle.meaning.specs.Tree.{Concept, label_of, children, under}

-- each place has a set of names, and under each role its successors
pub record Graph (N : Type 0) : Type 0 where
  pub names : N → ℕ
  pub next : N → ℕ → List N

-- a concept's tree: its places are its subtrees
abbrev pub tree_graph : Graph Concept
tree_graph = record { names = label_of; next = λ t r. under r (children t) }
