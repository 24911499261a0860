-- Children whose roles alone tell that none of them is dropped. No name is looked at: what is said holds for whatever names the rows have.
-- Assumes nothing.
use Rattle.std.specs.Prelude.{◌≡◌, Bool, true, false, List, ℕ}
use Rattle.reduction.specs.Held.{HeldF}
use Rattle.reduction.specs.Subsumed.{TestsDropped}

module _ (roles ends : List ℕ) where
  -- trees stand in the rows from i up to e, whatever their names
  pub record Children (i e : ℕ) : Type 0 where
    pub names : List ℕ
    pub left : ℕ
    pub held : HeldF names roles ends left i e

  -- where b is true, none of the children from i up to e is dropped
  abbrev pub KeptIf : ℕ → ℕ → Bool → Type 0
  KeptIf i e b = b ≡ true → (names : List ℕ) (left c : ℕ) → TestsDropped names roles ends left i c e false
