-- Document 02, §2, row by row: which fractions a threshold may have, and what is wrong with any other. "In this order after 13, 23 when q is 0 or too
-- large (place of q), 24 when p exceeds q (place of p), 25 when p and q share a factor above 1 (place of p)".
-- Assumes nothing.
use Rattle.std.specs.Prelude.{◌≡◌, ◌⊎◌, ℕ, ◌≤◌, ◌<◌}
use Rattle.std.specs.Int.{◌∣◌}
use Rattle.meaning.specs.declared.Refusal.{Refusal}
use Rattle.meaning.specs.Bounds.{most_q}

-- document 01: "The threshold is p/q, q from 1 to 1,000, p at most q, no common factor above 1"
pub record FractionTakes (p q : ℕ) : Type 0 where
  pub positive : 1 ≤ q
  pub small : q ≤ most_q
  pub most : p ≤ q
  pub bare : (k : ℕ) → k ∣ p → k ∣ q → k ≤ 1

-- a row that gives the refusal f; `say n` is the one with number n
pub data FractionRow (say : ℕ → Refusal) (p q : ℕ) (f : Refusal) : Type 0 where
  out_of_range : (q ≡ 0) ⊎ (most_q < q) → f ≡ say 23 → FractionRow say p q f
  exceeds : 1 ≤ q → q ≤ most_q → q < p → f ≡ say 24 → FractionRow say p q f
  shares : 1 ≤ q → q ≤ most_q → p ≤ q → (k : ℕ) → 1 < k → k ∣ p → k ∣ q → f ≡ say 25 → FractionRow say p q f
