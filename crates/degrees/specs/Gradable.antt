-- What has degrees: a tree in rows that are marked by the drop rule, put to a register.
-- Assumes nothing.
use Rattle.std.specs.Prelude.{List, ℕ, ◌≤◌}
use Rattle.meaning.specs.Bounds.{most_scale}
use Rattle.meaning.specs.Tree.{Concept}
use Rattle.meaning.specs.InPlace.{scale_in}
use Rattle.meaning.specs.Rows.{Marked}
use Rattle.register.specs.declared.Reading.{Reading}
use Rattle.register.specs.Image.{OfSize}
use Rattle.graph.specs.declared.Indexed.{Indexed}
use Rattle.graph.specs.On.{JudgedOn}
use Rattle.graph.specs.Posed.{Posed}
use Rattle.rows.specs.declared.Reduced.{Reduced}
pub use Rattle.folds.specs.Members.{Member}

-- the register is known as R says, and the tree at a row has at most `left` levels
pub record Gradable (R : Type 0) (names roles ends marks : List ℕ) (node left : ℕ) : Type 0 where
  pub tree : Concept
  pub posed : Posed R names roles ends tree node left
  pub marked : Marked ends marks tree node
  pub small : scale_in tree ≤ most_scale

-- the same of a tree in code, put to a register with its index
abbrev pub GradableOn : Indexed → Reduced → ℕ → ℕ → Type 0
GradableOn on of node left = Gradable (JudgedOn on) of.tree.names of.tree.roles of.tree.ends of.marks node left

-- and to an image that was read
abbrev pub GradableIn : Reading → Reduced → ℕ → ℕ → Type 0
GradableIn read of node left = Gradable (OfSize read.bytes.now read.items read.links) of.tree.names of.tree.roles of.tree.ends of.marks node left
