-- What is answered, in meaning's words.
-- Assumes nothing.
use Rattle.std.specs.Prelude.{◌≡◌, ◌⊎◌, ℕ, ◌+◌, get_or}
use mathlib.Core.List.{List, Memᴰ}
use Rattle.meaning.specs.Tree.{Concept}
use Rattle.meaning.specs.Graph.{Graph}
use Rattle.meaning.specs.Register.{Register}
use Rattle.graph.specs.Walked.{walked}
use Rattle.meaning.specs.InPlace.{scale_in, degree_in}
pub use Rattle.folds.specs.Folded.{row_at, Kept, sum_with, Folding, Folded}
use Rattle.graph.specs.Judged.{Judged}
use Rattle.degrees.specs.Gradable.{Gradable, Member}
use Rattle.degrees.specs.Notes.{Noted, Outside}

-- the degrees of the items of X, from a place on
pub record Worked (g : Register) (t : Concept) (X : ℕ → Type 0) (at scale : ℕ) (numbers : List ℕ) : Type 0 where
  pub scaled : scale ≡ scale_in t
  pub each : (x : ℕ) → X x → row_at numbers at x ≡ degree_in (walked g) t x

-- they are worked out and stand from a place on, and it is noted where the nodes below go; nothing else has changed but places from `at` on
pub record Done {s : List ℕ} {items : ℕ} {index names roles ends marks : List ℕ} {node left : ℕ} (k : Gradable (Judged s items index) names roles ends marks node left)
    (X : ℕ → Type 0) (at from scale : ℕ) (notes notes' numbers numbers' : List ℕ) : Type 0 where
  pub worked : Worked k.posed.graph.register k.tree X from scale numbers'
  pub noted : (x : ℕ) → X x → Noted ends marks k.posed.graph.register notes' k.tree node x
  pub outside : Outside (node + 1) (get_or ends node 0) notes notes'
  pub kept : Kept at numbers numbers'

-- a child's numbers stand in row 0, or from `at` on
abbrev pub Standing : ℕ → ℕ → Type 0
Standing at from = (from ≡ 0) ⊎ (from ≡ at)

-- the successors under a role of the members of a set
abbrev pub Below : Graph ℕ → List ℕ → ℕ → ℕ → Type 0
Below G set role y = (x : ℕ) × Member set x × Memᴰ y (G.next x role)
