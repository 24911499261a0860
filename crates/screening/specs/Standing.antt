-- The thresholds of a message that was read: where each stands, and whose it is.
-- Assumes nothing.
use Rattle.std.specs.Prelude.{◌≡◌, Bool, true, ◌&&◌, ◌||◌, not, List, ℕ, zero, suc, ◌+◌, ◌≤◌, ◌<◌, eqb, length, get_or}
use Rattle.meaning.specs.Refusal.{good}
use Rattle.meaning.specs.Bytes.{number}
use Rattle.meaning.specs.Tree.{node, none, more, Forest}
use Rattle.meaning.specs.Graph.{Graph}
use Rattle.meaning.specs.Fraction.{◌÷◌, less}
use Rattle.meaning.specs.Reduce.{reduce, size}
use Rattle.meaning.specs.Requirement.{Threshold, Label, Requirement, every, passes}
use Rattle.meaning.specs.Message.{Spot, comparison, read_inner}
use Rattle.meaning.specs.Bounds.{most_size, most_q}

abbrev pub no_threshold : Threshold
no_threshold = record { how = less; limit = 0 ÷ 1; inner = node 0 none }

-- a threshold stands at place p of a message: its comparison, p and q, then the length of its inner concept and that concept
pub record StandsAt (s : List ℕ) (p : ℕ) (h : Threshold) : Type 0 where
  pub how : comparison (get_or s p 0) ≡ h.how
  pub num : number s (p + 1) 2 ≡ h.limit.num
  pub den : number s (p + 3) 2 ≡ h.limit.den
  pub low : (h.limit.num ≤ most_q) × (h.limit.den ≤ most_q)
  pub spot : Spot
  pub inner : read_inner s (p + 7 + number s (p + 5) 2) (p + 7) ≡ good (h.inner, spot)
  pub small : size (reduce h.inner) ≤ most_size
  pub inside : p + 7 + number s (p + 5) 2 ≤ length s
  pub short : length s ≤ 65538

pub record OneStands (s : List ℕ) (p : ℕ) : Type 0 where
  pub threshold : Threshold
  pub stands : StandsAt s p threshold

-- so many stand at their places
pub record AllStand (s firsts : List ℕ) (parts : ℕ) : Type 0 where
  pub thresholds : List Threshold
  pub each : (k : ℕ) → k < parts → StandsAt s (get_or firsts k 0) (get_or thresholds k no_threshold)

module _ (G : Graph ℕ) (owners : List ℕ) (hs : List Threshold) where
  -- of the first n thresholds, those of a written node are satisfied at x
  unfoldable pub ruled_at : ℕ → ℕ → ℕ → Bool
  ruled_at zero i x = true
  ruled_at (suc k) i x = ruled_at k i x && (not (eqb (get_or owners k 0) i) || passes G (get_or hs k no_threshold) x)

  -- the thresholds of each written node, from the i-th on, are those of its label
  module _ (ends : List ℕ) (parts : ℕ) where
    unfoldable mutual
      unfolding ruled_at

      pub Ruled : Requirement → ℕ → Type 0
      Ruled (node a f) i = ((x : ℕ) → ruled_at parts i x ≡ every (λ h. passes G h x) a.thresholds) × RuledF f (i + 1)

      pub RuledF : Forest Label → ℕ → Type 0
      RuledF none i = Unit {0}
      RuledF (more r t f) i = Ruled t i × RuledF f (get_or ends i 0)
