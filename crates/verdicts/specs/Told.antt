-- All items judged at once: the table of which items meet which written node, filled for all of them, and what it is read off with. A withdrawn item
-- is judged as any other, over the graph as it is walked; its row does not show it.
-- Assumes nothing.
use Rattle.std.specs.Prelude.{◌≡◌, true, List, ℕ, ◌<◌}
use Rattle.meaning.specs.Bounds.{most_levels}
use Rattle.meaning.specs.Refusal.{good}
use Rattle.meaning.specs.Graph.{Graph}
use Rattle.meaning.specs.Register.{read_register}
use Rattle.meaning.specs.Requirement.{Requirement, bare, member}
use Rattle.meaning.specs.Message.{Part, read_requirement}
use Rattle.rows.specs.declared.Tree.{Tree}
use Rattle.graph.specs.declared.sets.Items.{Items}
use Rattle.graph.specs.declared.Indexed.{Indexed}
use Rattle.graph.specs.On.{JudgedOn}
use Rattle.graph.specs.Posed.{Posed}
use Rattle.graph.specs.Walked.{walked}
use Rattle.trails.specs.Cells.{cell, Right}

-- the table's first row says of each item whether it meets the tree, and the rows below are right for those that do
pub record Tabled (G : Graph ℕ) (t : Requirement) (items : ℕ) (ends : List ℕ) (met : List Items) : Type 0 where
  pub each : (x : ℕ) → x < items → cell met 0 x ≡ member G t x
  pub right : (x : ℕ) → cell met 0 x ≡ true → Right ends G met t 0 x

-- an image and a message that were read, the image's index and the message's rows, and the table that was filled for them
pub record Told (on : Indexed) (message : List ℕ) (rows : Tree) (met : List Items) : Type 0 where
  pub requirement : Requirement
  pub places : List Part
  pub wanted : read_requirement message ≡ good (requirement, places)
  pub posed : Posed (JudgedOn on) rows.names rows.roles rows.ends (bare requirement) 0 most_levels
  pub whole : read_register on.image.now ≡ good posed.graph.register
  pub table : Tabled (walked posed.graph.register) requirement on.items rows.ends met
