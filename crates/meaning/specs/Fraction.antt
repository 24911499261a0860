-- Fractions, lowest terms, what is wrong with a fraction, the margin, and the four comparisons.
-- Assumes nothing.
use Rattle.std.specs.Prelude.{◌≡◌, Bool, ◌||◌, not, cond, ℕ, zero, suc, ◌+◌, ◌*◌, ◌/◌, ◌%◌, ◌≤◌, ◌<◌, leb, ltb, eqb, ℤ}
use Rattle.std.specs.Int.{◌∣◌}
use Rattle.std.proofs.Math.IntN.{sub_ℕ}
use Rattle.meaning.specs.declared.Refusal.{Refusal}
use Rattle.meaning.specs.Bounds.{most_q}
use Rattle.meaning.specs.Refusal.{Answer, refuse_if}

pub record Frac : Type 0 where
  pub num : ℕ
  pub den : ℕ

infix 60 ◌÷◌
abbrev pub ◌÷◌ : ℕ → ℕ → Frac
◌÷◌ a b = record { num = a; den = b }

infixl 50 ◌⊕◌
abbrev pub ◌⊕◌ : Frac → Frac → Frac
◌⊕◌ p q = (p.num * q.den + q.num * p.den) ÷ (p.den * q.den)

-- p / n
abbrev pub per : Frac → ℕ → Frac
per p n = p.num ÷ (p.den * n)

-- the same number, and at most as great
abbrev pub Same : Frac → Frac → Type 0
Same p q = p.num * q.den ≡ q.num * p.den

abbrev pub AtMost : Frac → Frac → Type 0
AtMost p q = p.num * q.den ≤ q.num * p.den

-- ---- lowest terms

-- the greatest common divisor, by Euclid's remainders; the first argument bounds the steps
unfoldable pub gcd_in : ℕ → ℕ → ℕ → ℕ
gcd_in zero a b = a
gcd_in (suc k) a zero = a
gcd_in (suc k) a (suc b) = gcd_in k (suc b) (a % suc b)

unfoldable pub gcd : ℕ → ℕ → ℕ
unfolding gcd_in
gcd a b = gcd_in (suc b) a b

-- n/d in lowest terms
unfoldable pub lowest : Frac → Frac
unfolding gcd
lowest p = (p.num / gcd p.num p.den) ÷ (p.den / gcd p.num p.den)

-- what that is to be: the same number, and no common factor above 1
pub record Lowest (p low : Frac) : Type 0 where
  pub positive : 0 < low.den
  pub same : Same low p
  pub bare : (k : ℕ) → k ∣ low.num → k ∣ low.den → k ≤ 1

-- ---- the fraction of a threshold

-- what is wrong with p/q, by its number, and 0 where nothing is. Document 02, §2: "in this order .., 23 when q is 0 or too large .., 24 when p exceeds q ..,
-- 25 when p and q share a factor above 1"
unfoldable pub wrong_with : ℕ → ℕ → ℕ
wrong_with p q = cond (ltb q 1 || ltb most_q q) 23 (cond (ltb q p) 24 (cond (eqb (gcd p q) 1) 0 25))

-- nothing is: "The threshold is p/q, q from 1 to 1,000, p at most q, no common factor above 1"
abbrev pub lawful : ℕ → ℕ → Bool
lawful p q = eqb (wrong_with p q) 0

-- the step that reading, writing and the margin share; `say n` is the refusal with number n
abbrev pub fraction : (ℕ → Refusal) → ℕ → ℕ → Answer (Unit {0})
fraction say p q = refuse_if (not (lawful p q)) (say (wrong_with p q))

-- ---- a degree against a threshold

-- "The margin of a degree N/D against p/q is N × q − p × D, a signed whole number over D × q"
abbrev pub margin : Frac → Frac → ℤ
margin n t = sub_ℕ (n.num * t.den) (t.num * n.den)

abbrev pub margin_over : Frac → Frac → ℕ
margin_over n t = n.den * t.den

-- "comparison: 0 is <, 1 is ≤, 2 is >, 3 is ≥"
pub data Comparison : Type 0 where
  less at_most greater at_least : Comparison

abbrev pub compares : Comparison → Frac → Frac → Bool
compares less d t = ltb (d.num * t.den) (t.num * d.den)
compares at_most d t = leb (d.num * t.den) (t.num * d.den)
compares greater d t = ltb (t.num * d.den) (d.num * t.den)
compares at_least d t = leb (t.num * d.den) (d.num * t.den)
