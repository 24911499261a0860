-- Marks that were set by the drop rule, over rows.
-- Assumes nothing.
use Rattle.std.specs.Prelude.{◌≡◌, List, ℕ, ◌<◌, ◌≤◌, get_or}
use Rattle.meaning.specs.Tree.{under}
use Rattle.meaning.specs.Reduce.{dropped}
use Rattle.meaning.specs.Rows.{mark, Marked}
use Rattle.reduction.specs.Held.{ForTree, ForTrees}

-- one mark is set, and no other is changed
pub record Put (old new : List ℕ) (c v : ℕ) : Type 0 where
  pub here : get_or new c 0 ≡ v
  pub others : (k : ℕ) → (k ≡ c → ⊥) → get_or new k 0 ≡ get_or old k 0

module _ (names roles ends : List ℕ) (left : ℕ) (old new : List ℕ) where
  -- what is below the node is marked, and no mark of another row is changed
  pub record MarkedBelow (n : ℕ) : Type 0 where
    pub marked : ForTree names roles ends left n (λ t. Marked ends new t n)
    pub earlier : (k : ℕ) → k ≤ n → get_or new k 0 ≡ get_or old k 0
    pub later : (k : ℕ) → get_or ends n 0 ≤ k → get_or new k 0 ≡ get_or old k 0

  -- the child at c, of those from i up to e, is marked, and what is below it if it is kept; no mark of another row is changed
  pub record MarkedChild (i c e : ℕ) : Type 0 where
    pub marked : ForTrees names roles ends left i c (λ b. ForTree names roles ends left c (λ t. ForTrees names roles ends left (get_or ends c 0) e (λ f.
        get_or new c 0 ≡ mark (dropped (under (get_or roles c 0) b) t (under (get_or roles c 0) f)))))
    pub below : ForTree names roles ends left c (λ t. get_or new c 0 ≡ 1 → Marked ends new t c)
    pub earlier : (k : ℕ) → k < c → get_or new k 0 ≡ get_or old k 0
    pub later : (k : ℕ) → get_or ends c 0 ≤ k → get_or new k 0 ≡ get_or old k 0

-- the whole tree at row 0 is marked, and its root is kept
pub record MarkedWhole (names roles ends new : List ℕ) : Type 0 where
  pub root : get_or new 0 0 ≡ 1
  pub marked : ForTree names roles ends 17 0 (λ t. Marked ends new t 0)
