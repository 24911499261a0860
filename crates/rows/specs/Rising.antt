-- Trees that stand one after the other in the rows, from i up to e: where each begins.
-- Assumes nothing.
use Rattle.std.specs.Prelude.{◌≡◌, List, ℕ, ◌≤◌, ◌<◌, Option, MatchOption, get_or}

-- what is asked of the rows: each ends after itself
pub record Rising (ends : List ℕ) (i e : ℕ) : Type 0 where
  pub rises : (c : ℕ) → i ≤ c → c < e → c < get_or ends c 0
  pub fits : e ≤ 64

-- the row of the first, after which the others stand from j on
abbrev pub Stepped : List ℕ → ℕ → ℕ → Option ℕ → ℕ → Type 0
Stepped ends i e r j = MatchOption r ((e ≤ i) × (j ≡ i)) (λ c. (c ≡ i) × (i < e) × (j ≡ get_or ends i 0))
