-- The child of a node that is folded in before the others.
-- Assumes nothing.
use Rattle.std.specs.Prelude.{◌≡◌, false, ◌⊎◌, ℕ, ◌+◌, ◌-◌, ◌*◌, ◌≤◌, ◌<◌, length, get_or}
use mathlib.Core.List.{List, Memᴰ}
use Rattle.meaning.specs.Names.{common}
use Rattle.meaning.specs.Tree.{Concept, children}
use Rattle.meaning.specs.Register.{Register}
use Rattle.graph.specs.Walked.{walked}
use Rattle.meaning.specs.Degree.{best}
use Rattle.meaning.specs.InPlace.{scale_in, degree_in}
use Rattle.meaning.specs.Shown.{pick}
use Rattle.heaviest.specs.Heavy.{Stands, Most}
use Rattle.graph.specs.Judged.{Judged}
use Rattle.graph.specs.Sets.{Among}
use Rattle.graph.specs.declared.Indexed.{Indexed}
use Rattle.rows.specs.declared.Reduced.{Reduced}
use Rattle.degrees.specs.Gradable.{Gradable, Member}
use Rattle.degrees.specs.Room.{Room, Ones}
use Rattle.degrees.specs.Notes.{flag, Note, Noted}

-- For each x of X: where the child u at row c goes from x is noted, and where all below it go.
abbrev pub One : List ℕ → List ℕ → List ℕ → Register → (ℕ → Type 0) → List ℕ → ℕ → Concept → Type 0
One roles ends marks g X notes c u =
    (x : ℕ) → X x → Note g notes c x (pick (λ y. degree_in (walked g) u y) ((walked g).next x (get_or roles c 0)))
    × ((y : ℕ) → Memᴰ y ((walked g).next x (get_or roles c 0)) → Noted ends marks g notes u c y)

-- of the tree at a row the child at row h is folded in and noted, for each member of a set, and no other is; from `at` on there is room for them
pub record Headed (s : List ℕ) (items : ℕ) (index names roles ends marks : List ℕ) (node left : ℕ) (set : List ℕ) (h at scale : ℕ) (notes numbers : List ℕ) : Type 0 where
  pub asked : Gradable (Judged s items index) names roles ends marks node left
  pub members : Among items set
  pub room : Room (length numbers) at (get_or ends node 0 - node)
  pub ones : Ones numbers
  pub tree : Concept
  pub stands : Stands ends (children asked.tree) (node + 1) h tree
  pub kept : get_or marks h 0 ≡ 0 → ⊥
  pub most : Most ends marks asked.tree node h
  pub scaled : scale ≡ scale_in tree
  pub summed : (x : ℕ) → Member set x
      → get_or numbers (at + x) 0 ≡ common (get_or names node 0) ((walked asked.posed.graph.register).names x) * scale
      + best (λ y. degree_in (walked asked.posed.graph.register) tree y) ((walked asked.posed.graph.register).next x (get_or roles h 0))
  pub noted : One roles ends marks asked.posed.graph.register (Member set) notes h tree
  pub clear : (j l : ℕ) → node < j → j < get_or ends node 0 → (j < h) ⊎ (get_or ends h 0 ≤ j) → flag notes j l ≡ false

abbrev pub HeadedOn : Indexed → Reduced → ℕ → ℕ → List ℕ → ℕ → ℕ → ℕ → List ℕ → List ℕ → Type 0
HeadedOn on of = Headed on.image.now on.items on.index of.tree.names of.tree.roles of.tree.ends of.marks
