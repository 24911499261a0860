-- What is asked of: a register, rows that hold a requirement's tree, and where its thresholds stand in the message; and what is answered.
-- Assumes nothing.
use Rattle.std.specs.Prelude.{◌≡◌, Bool, true, cond, List, ℕ, ◌≤◌, get_or}
use Rattle.std.proofs.lemmas.List.Edits.{sets}
use Rattle.meaning.specs.Bounds.{most_thresholds}
use Rattle.meaning.specs.Graph.{Graph}
use Rattle.meaning.specs.Register.{Register}
use Rattle.meaning.specs.Requirement.{Requirement, bare, member}
use Rattle.meaning.specs.Shown.{yes_map}
use Rattle.graph.specs.declared.sets.Items.{Items}
use Rattle.graph.specs.declared.Indexed.{Indexed}
use Rattle.graph.specs.Walked.{walked}
use Rattle.graph.specs.On.{JudgedOn}
use Rattle.graph.specs.Posed.{Posed}
use Rattle.graph.specs.Sets.{in_set}
use Rattle.screening.specs.declared.Wanted.{Wanted}
use Rattle.screening.specs.Sifting.{Sifted}
use Rattle.screening.specs.Standing.{AllStand, Ruled}
use Rattle.trails.specs.Cells.{row_of, Outside, Right}

-- a register that was read, and the requirement at a row of at most `left` levels, with its thresholds
pub record Required (on : Indexed) (wanted : Wanted) (node left : ℕ) : Type 0 where
  pub tree : Requirement
  pub posed : Posed (JudgedOn on) wanted.tree.names wanted.tree.roles wanted.tree.ends (bare tree) node left
  pub stand : AllStand wanted.message.now wanted.parts.firsts wanted.parts.count
  pub most : wanted.parts.count ≤ most_thresholds
  pub ruled : Ruled (walked posed.graph.register) wanted.parts.owners stand.thresholds wanted.tree.ends wanted.parts.count tree node

-- of a set stay the items that meet the tree at a row; its row is what stays, and the rows below are right for it; no other has changed
pub record Done (ends : List ℕ) (G : Graph ℕ) (t : Requirement) (node : ℕ) (set left : List ℕ) (m new : List Items) : Type 0 where
  pub sifted : Sifted (λ x. member G t x) set left
  pub stored : (x : ℕ) → in_set (row_of new node) x ≡ in_set left x
  pub right : (x : ℕ) → in_set left x ≡ true → Right ends G new t node x
  pub outside : Outside node (get_or ends node 0) m new

-- whether an item meets the requirement; a yes writes the map from the first place on, a no writes nothing
pub record Settled (g : Register) (t : Requirement) (item : ℕ) (old new : List ℕ) (r : Bool) : Type 0 where
  pub answer : r ≡ member (walked g) t item
  pub map : new ≡ cond r (sets old 0 (yes_map (walked g) t item)) old
