-- What is asked of rows: there is a tree that they hold, in arrays of 64. What is said of them is said of every tree that they hold.
-- Assumes nothing.
use Rattle.std.specs.Prelude.{List, ℕ, ◌≤◌, get_or}
use Rattle.meaning.specs.Tree.{Forest, Concept}
use Rattle.meaning.specs.Rows.{Holds, HoldsF}

-- at i stands a tree of at most `left` levels
pub record Held (names roles ends : List ℕ) (left i : ℕ) : Type 0 where
  pub tree : Concept
  pub holds : Holds names roles ends tree left i (get_or ends i 0)
  pub fits : get_or ends i 0 ≤ 64

-- from i up to e stand trees one after the other
pub record HeldF (names roles ends : List ℕ) (left i e : ℕ) : Type 0 where
  pub trees : Forest ℕ
  pub holds : HoldsF names roles ends trees left i e
  pub fits : e ≤ 64

-- whatever tree stands at i
abbrev pub ForTree : List ℕ → List ℕ → List ℕ → ℕ → ℕ → (Concept → Type 0) → Type 0
ForTree names roles ends left i P = (t : Concept) → Holds names roles ends t left i (get_or ends i 0) → P t

-- whatever trees stand from i up to e
abbrev pub ForTrees : List ℕ → List ℕ → List ℕ → ℕ → ℕ → ℕ → (Forest ℕ → Type 0) → Type 0
ForTrees names roles ends left i e P = (f : Forest ℕ) → HoldsF names roles ends f left i e → P f
