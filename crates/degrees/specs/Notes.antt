-- Notes of where the kept nodes of a tree go.
-- Assumes nothing.
use Rattle.std.specs.Prelude.{◌≡◌, ℕ, ◌+◌, get_or}
use mathlib.Core.List.{List, Memᴰ}
use Rattle.meaning.specs.Tree.{node, Forest, none, more, Concept}
use Rattle.meaning.specs.Register.{Register}
use Rattle.graph.specs.Walked.{walked}
use Rattle.meaning.specs.InPlace.{degree_in}
use Rattle.meaning.specs.Shown.{pick}
pub use Rattle.folds.specs.Notes.{flag, Note, Outside, Clear}

module _ (ends marks : List ℕ) (g : Register) (notes : List ℕ) where
  -- The tree's root being at item x, the rows from i on say of each kept node below it where it goes.
  unfoldable mutual
    pub Noted : Concept → ℕ → ℕ → Type 0
    Noted (node a f) i x = NotedF f (i + 1) x

    pub NotedF : Forest ℕ → ℕ → ℕ → Type 0
    NotedF none i x = Unit {0}
    NotedF (more r t f) i x =
        ((get_or marks i 0 ≡ 0 → ⊥) → Note g notes i x (pick (λ y. degree_in (walked g) t y) ((walked g).next x r))
        × ((y : ℕ) → Memᴰ y ((walked g).next x r) → Noted t i y))
        × NotedF f (get_or ends i 0) x
