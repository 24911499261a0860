-- Which items meet which written node: a table of 64 sets of items. It is right for an item that meets a node where the sets of the node's children say
-- of each successor of the item whether it meets the child, and are right for those that do.
-- Assumes nothing.
use Rattle.std.specs.Prelude.{◌≡◌, Bool, true, [], ℕ, ◌+◌, ◌≤◌, ◌<◌, get_or}
use mathlib.Core.List.{List, Memᴰ}
use Rattle.meaning.specs.Tree.{node, Forest, none, more}
use Rattle.meaning.specs.Graph.{Graph}
use Rattle.meaning.specs.Requirement.{Label, Requirement, member}
use Rattle.graph.specs.declared.sets.Items.{Items}
use Rattle.graph.specs.Sets.{in_set}

abbrev pub no_items : Items
no_items = record { words = [] }

-- the set of the n-th written node, and whether it has item x
abbrev pub row_of : List Items → ℕ → List ℕ
row_of m n = (get_or m n no_items).words

abbrev pub cell : List Items → ℕ → ℕ → Bool
cell m n x = in_set (row_of m n) x

-- no sets have changed but those from n up to e
pub record Outside (n e : ℕ) (old new : List Items) : Type 0 where
  pub before : (k : ℕ) → k < n → get_or new k no_items ≡ get_or old k no_items
  pub behind : (k : ℕ) → e ≤ k → get_or new k no_items ≡ get_or old k no_items

module _ (ends : List ℕ) (G : Graph ℕ) (m : List Items) where
  -- the sets below a node at row i are right for the item x
  unfoldable mutual
    pub Right : Requirement → ℕ → ℕ → Type 0
    Right (node a f) i x = RightF f (i + 1) x

    pub RightF : Forest Label → ℕ → ℕ → Type 0
    RightF none i x = Unit {0}
    RightF (more r t f) i x =
        ((y : ℕ) → Memᴰ y (G.next x r) → (cell m i y ≡ member G t y) × (member G t y ≡ true → Right t i y)) × RightF f (get_or ends i 0) x
