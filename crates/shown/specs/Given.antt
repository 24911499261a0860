-- What is answered and drawn, in meaning's words.
-- Assumes nothing.
use Rattle.std.specs.Prelude.{◌≡◌, List, map, Option, Some, None, ℕ, ◌≤◌, ◌<◌, length}
use Rattle.std.proofs.Math.Option.{Option as Place, some, none as nowhere}
use Rattle.std.proofs.lemmas.List.Edits.{sets}
use Rattle.meaning.specs.Tree.{Concept}
use Rattle.meaning.specs.Register.{Register}
use Rattle.graph.specs.Walked.{walked}
use Rattle.meaning.specs.InPlace.{scale_in, degree_in}
use Rattle.meaning.specs.Rows.{Marked}
use Rattle.meaning.specs.Shown.{shown, mark_number}
use Rattle.rows.specs.declared.Reduced.{Reduced}
use Rattle.graph.specs.declared.Indexed.{Indexed}
use Rattle.graph.specs.On.{JudgedOn}
use Rattle.graph.specs.Posed.{Posed}
use Rattle.degrees.specs.Notes.{Note, Noted}
use Rattle.shown.specs.declared.Degree.{Degree}

-- an item or none, in meaning's words
abbrev pub place : Option ℕ → Place ℕ
place None = nowhere
place (Some x) = some x

-- one of so many items, where it is one
abbrev pub Inside : ℕ → Option ℕ → Type 0
Inside items None = Unit {0}
Inside items (Some x) = x < items

-- the child at a node goes where it is noted that it goes from item x
abbrev pub Onward : Indexed → List ℕ → ℕ → ℕ → Option ℕ → Type 0
Onward on notes node x r = (j : JudgedOn on) (o : Place ℕ) → Note j.register notes node x o → place r ≡ o

-- the map with what is shown for a tree from a row on, whose root goes to o
abbrev pub drawn : Register → Concept → ℕ → Option ℕ → List ℕ → List ℕ
drawn g t row o m = sets m row (map mark_number (shown (walked g) t (place o)))

-- the degree of item x
pub record Graded (g : Register) (t : Concept) (x : ℕ) (d : Degree) : Type 0 where
  pub number : d.number ≡ degree_in (walked g) t x
  pub scale : d.scale ≡ scale_in t

-- What is to be drawn: rows that hold a tree, whose root goes to an item or nowhere, and notes for all links that say where its kept nodes go.
pub record Drawing (on : Indexed) (of : Reduced) (notes : List ℕ) (node left : ℕ) (item : Option ℕ) : Type 0 where
  pub names : List ℕ
  pub roles : List ℕ
  pub tree : Concept
  pub posed : Posed (JudgedOn on) names roles of.tree.ends tree node left
  pub marked : Marked of.tree.ends of.marks tree node
  pub places : length posed.graph.register.links ≤ length notes
  pub inside : Inside on.items item
  pub noted : (x : ℕ) → item ≡ Some x → Noted of.tree.ends of.marks posed.graph.register notes tree node x
