-- A concept tree as code holds it: rows in reading order, in three arrays. For each written node its names, the role of the edge to it,
-- and the index just past its subtree: so the first child of i stands at i + 1, and what follows the child c at the end of c.
-- Assumes nothing.
use Rattle.std.specs.Prelude.{◌≡◌, Bool, cond, List, ℕ, ◌+◌, ◌-◌, ◌≤◌, ◌<◌, get_or}
use Rattle.meaning.specs.Tree.{node, Forest, none, more, Concept, under}
use Rattle.meaning.specs.Reduce.{dropped}

module _ (names roles ends : List ℕ) where
  unfoldable mutual
    -- the rows from i up to e hold the tree, which has at most `left` levels
    pub Holds : Concept → ℕ → ℕ → ℕ → Type 0
    Holds (node a f) left i e = (0 < left) × (i < e) × (get_or names i 0 ≡ a) × (get_or ends i 0 ≡ e) × HoldsF f (left - 1) (i + 1) e

    -- the rows from i up to e hold the children one after the other
    pub HoldsF : Forest ℕ → ℕ → ℕ → ℕ → Type 0
    HoldsF none left i e = i ≡ e
    HoldsF (more r t f) left i e =
        (get_or roles i 0 ≡ r) × (get_or ends i 0 ≤ e) × Holds t left i (get_or ends i 0) × HoldsF f left (get_or ends i 0) e

-- a mark for each row: 1 where it is kept, 0 where it is dropped
abbrev pub mark : Bool → ℕ
mark dropped' = cond dropped' 0 1

module _ (ends marks : List ℕ) where
  -- The rows from i on are marked by the drop rule. Below a dropped node the marks say nothing.
  unfoldable mutual
    pub Marked : Concept → ℕ → Type 0
    Marked (node a f) i = MarkedF f none (i + 1)

    -- before the children f the children b are written
    pub MarkedF : Forest ℕ → Forest ℕ → ℕ → Type 0
    MarkedF none b i = Unit {0}
    MarkedF (more r t f) b i =
        (get_or marks i 0 ≡ mark (dropped (under r b) t (under r f))) × (get_or marks i 0 ≡ 1 → Marked t i) × MarkedF f (more r t b) (get_or ends i 0)
