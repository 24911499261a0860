-- The size of a marked tree, over rows. No role is looked at: what is said holds for whatever roles the rows have.
-- Assumes nothing.
use Rattle.std.specs.Prelude.{◌≡◌, Bool, cond, List, ℕ, ◌+◌, ◌*◌, ◌-◌, ◌≤◌, ◌<◌, get_or}
use Rattle.meaning.specs.Tree.{Concept}
use Rattle.meaning.specs.InPlace.{size_in}
use Rattle.meaning.specs.Rows.{mark, Marked}
use Rattle.reduction.specs.Held.{Held, ForTree}

module _ (names ends : List ℕ) (left : ℕ) where
  pub record HeldBy (i : ℕ) : Type 0 where
    pub roles : List ℕ
    pub held : Held names roles ends left i

  module _ (marks : List ℕ) where
    -- the number at the node n is f of its tree, if the tree is marked
    abbrev pub Counts : (Concept → ℕ) → ℕ → ℕ → Type 0
    Counts f n v = (roles : List ℕ) → ForTree names roles ends left n (λ t. Marked ends marks t n → v ≡ f t)

    -- the number at the child c is f of its tree, or `none` if it is dropped
    abbrev pub CountsKept : (Concept → ℕ) → ℕ → ℕ → ℕ → Type 0
    CountsKept f none c v = (roles : List ℕ) → ForTree names roles ends left c (λ t. (d : Bool) → get_or marks c 0 ≡ mark d
        → (get_or marks c 0 ≡ 1 → Marked ends marks t c) → v ≡ cond d none (f t))

    -- the size at the node n: a node has at most 64 names, and an edge leads to each but the first
    pub record Sized (n v : ℕ) : Type 0 where
      pub right : Counts size_in n v
      pub small : v < 65 * (get_or ends n 0 - n)

    pub record SizedKept (c v : ℕ) : Type 0 where
      pub right : CountsKept (λ t. 1 + size_in t) 0 c v
      pub small : v ≤ 65 * (get_or ends c 0 - c)
