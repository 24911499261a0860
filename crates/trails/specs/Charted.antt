-- What the map of a yes is read off: a register that was read, rows that hold a requirement's tree, and a table that is right for an item that meets it.
-- Assumes nothing.
use Rattle.std.specs.Prelude.{◌≡◌, true, List, ℕ, ◌<◌}
use Rattle.meaning.specs.Requirement.{Requirement, bare, member}
use Rattle.rows.specs.declared.Tree.{Tree}
use Rattle.graph.specs.declared.sets.Items.{Items}
use Rattle.graph.specs.declared.Indexed.{Indexed}
use Rattle.graph.specs.Walked.{walked}
use Rattle.graph.specs.On.{JudgedOn}
use Rattle.graph.specs.Posed.{Posed}
use Rattle.trails.specs.Cells.{Right}

pub record Charted (on : Indexed) (rows : Tree) (met : List Items) (node left item : ℕ) : Type 0 where
  pub tree : Requirement
  pub posed : Posed (JudgedOn on) rows.names rows.roles rows.ends (bare tree) node left
  pub right : Right rows.ends (walked posed.graph.register) met tree node item
  pub inside : item < on.items
  pub yes : member (walked posed.graph.register) tree item ≡ true
