-- The margin of a degree against a threshold: its sign is the comparison, it is 0 where the two are the same number, and the answer fits 42 bits.
-- Assumes nothing.
use mathlib.Core.Path.{◌≡◌, refl, sym, ap, ◌∙◌}
use mathlib.Core.Logic.{◌↔◌}
use mathlib.Core.Bool.{Bool, true, false, cond}
use Prim.Native.Nat.{ℕ, suc, ◌*◌, ◌-◌, ◌≤◌, ◌<◌}
use native.Mathlib.Nat.{le_trans, le_of_eq, lt_of_not-le, not-le_of_lt, mul-le-mul, mul-pos}
use native.Mathlib.Omega.{arith}
use lib.Dec.{leb, ltb, leb→le, le→leb, ltb→lt, nltb→le}
use lib.IntN.{ℤ, pos, negsuc, nat_abs, sub_ℕ, pos-ne-negsuc}
use lib.Signed.{lt_z, le_z}
use Rattle.meaning.specs.Tree.{Concept}
use Rattle.meaning.specs.Graph.{Graph}
use Rattle.meaning.specs.Fraction.{Frac, ◌÷◌, Same, AtMost, margin, margin_over, Comparison, compares, less, at_most, greater, at_least}
use Rattle.meaning.specs.Reduce.{reduce, size}
use Rattle.meaning.specs.Degree.{degree_of, answered}
use Rattle.meaning.specs.Requirement.{Threshold, passes}
use Rattle.meaning.proofs.Tests.{holds, fails, bool_eq}
use Rattle.meaning.proofs.Fraction.{at-most-trans}
use Rattle.meaning.proofs.Lowest.{lowest-le}
use Rattle.meaning.proofs.Scale.{scale-pos}
use Rattle.meaning.proofs.Degree.{answered-lowest, answered-at-most-one}
use Rattle.meaning.proofs.Bound.{scale-bound}
use Rattle.meaning.specs.Bounds.{most_size, most_scale, most_q, most_margin}

-- a − b by its two cases
sub_cases : (P : ℤ → Type 0) (a b : ℕ) → (a < b → P (negsuc (b - suc a))) → (b ≤ a → P (pos (a - b))) → P (sub_ℕ a b)
sub_cases P a b f g = go (ltb a b) refl
  where
    go : (c : Bool) → ltb a b ≡ c → P (cond c (negsuc (b - suc a)) (pos (a - b)))
    go true e = f (ltb→lt a b (holds e))
    go false e = g (nltb→le a b (fails e))

leb-same : (a b c d : ℕ) → (a ≤ b) ↔ (c ≤ d) → leb a b ≡ leb c d
leb-same a b c d h = bool_eq (leb a b) (leb c d) (λ t. le→leb c d (h.0 (leb→le a b t))) (λ t. le→leb a b (h.1 (leb→le c d t)))

-- ---- the sign

-- what a comparison asks of a margin
abbrev pub sign : Comparison → ℤ → Bool
sign less z = lt_z z (pos 0)
sign at_most z = le_z z (pos 0)
sign greater z = lt_z (pos 0) z
sign at_least z = le_z (pos 0) z

-- of a − b in place of the margin
sub-less : (a b : ℕ) → ltb a b ≡ sign less (sub_ℕ a b)
sub-less a b = sub_cases (λ z. ltb a b ≡ sign less z) a b (λ h. leb-same (suc a) b 0 0 (omega arith)) (λ h. leb-same (suc a) b (suc (a - b)) 0 (omega arith))

sub-at_most : (a b : ℕ) → leb a b ≡ sign at_most (sub_ℕ a b)
sub-at_most a b = sub_cases (λ z. leb a b ≡ sign at_most z) a b (λ h. leb-same a b 0 0 (omega arith)) (λ h. leb-same a b (a - b) 0 (omega arith))

sub-greater : (a b : ℕ) → ltb b a ≡ sign greater (sub_ℕ a b)
sub-greater a b = sub_cases (λ z. ltb b a ≡ sign greater z) a b (λ h. leb-same (suc b) a 1 0 (omega arith)) (λ h. leb-same (suc b) a 1 (a - b) (omega arith))

sub-at_least : (a b : ℕ) → leb b a ≡ sign at_least (sub_ℕ a b)
sub-at_least a b = sub_cases (λ z. leb b a ≡ sign at_least z) a b (λ h. leb-same b a 1 0 (omega arith)) (λ h. leb-same b a 0 (a - b) (omega arith))

pub margin-sign : (c : Comparison) (d t : Frac) → compares c d t ≡ sign c (margin d t)
margin-sign less d t = sub-less (d.num * t.den) (t.num * d.den)
margin-sign at_most d t = sub-at_most (d.num * t.den) (t.num * d.den)
margin-sign greater d t = sub-greater (d.num * t.den) (t.num * d.den)
margin-sign at_least d t = sub-at_least (d.num * t.den) (t.num * d.den)

sub-zero : (a b : ℕ) → (sub_ℕ a b ≡ pos 0) ↔ (a ≡ b)
sub-zero a b =
    sub_cases (λ z. (z ≡ pos 0) ↔ (a ≡ b)) a b (λ h. (λ e. absurd (pos-ne-negsuc 0 (b - suc a) (sym e)), λ e. absurd (omega arith)))
    (λ h. (λ e. omega (arith, ap nat_abs e), λ e. ap pos (omega arith)))

pub margin-zero : (d t : Frac) → (margin d t ≡ pos 0) ↔ Same d t
margin-zero d t = sub-zero (d.num * t.den) (t.num * d.den)

-- ---- the same number compares alike

leb-flip : (a b c d : ℕ) → (b ≤ a) ↔ (d ≤ c) → ltb a b ≡ ltb c d
leb-flip a b c d h =
    leb-same (suc a) b (suc c) d (λ l. lt_of_not-le (λ k. not-le_of_lt l (h.1 k)), λ l. lt_of_not-le (λ k. not-le_of_lt l (h.0 k)))

pub compares-same : (c : Comparison) (d e t : Frac) → 0 < d.den → 0 < e.den → Same d e → compares c d t ≡ compares c e t
compares-same c d e t dp ep s = go c
  where
    below : AtMost d t ↔ AtMost e t
    below = (λ h. at-most-trans e d t dp (le_of_eq (sym s)) h, λ h. at-most-trans d e t ep (le_of_eq s) h)

    above : AtMost t d ↔ AtMost t e
    above = (λ h. at-most-trans t d e dp h (le_of_eq s), λ h. at-most-trans t e d ep h (le_of_eq (sym s)))

    go : (c : Comparison) → compares c d t ≡ compares c e t
    go less = leb-flip _ _ _ _ above
    go at_most = leb-same _ _ _ _ below
    go greater = leb-flip _ _ _ _ below
    go at_least = leb-same _ _ _ _ above

-- ---- the size

sub-bound : (a b m : ℕ) → a ≤ m → b ≤ m → nat_abs (sub_ℕ a b) ≤ m
sub-bound a b m h k = sub_cases (λ z. nat_abs z ≤ m) a b (λ l. omega arith) (λ l. omega arith)

pub margin-bound : (d t : Frac) → d.num ≤ d.den → d.den ≤ most_scale → t.num ≤ t.den → t.den ≤ most_q → nat_abs (margin d t) ≤ most_margin
margin-bound d t h b k c =
    sub-bound (d.num * t.den) (t.num * d.den) most_margin (mul-le-mul (le_trans h b) c) (mul-le-mul (le_trans k c) b)

pub over-pos : (d t : Frac) → 0 < d.den → 0 < t.den → 0 < margin_over d t
over-pos d t h k = mul-pos h k

pub over-bound : (d t : Frac) → d.den ≤ most_scale → t.den ≤ most_q → margin_over d t ≤ most_margin
over-bound d t h k = mul-le-mul h k

-- ---- of a degree

module _ {N : Type 0} (G : Graph N) where
  -- a threshold passes exactly where the margin of the degree has the comparison's sign
  pub passes-sign : (h : Threshold) (x : N) → passes G h x ≡ sign h.how (margin (answered G h.inner x) h.limit)
  passes-sign h x =
      let d = degree_of G h.inner x in
      let low = answered-lowest G h.inner x in
      compares-same h.how d (answered G h.inner x) h.limit (scale-pos (reduce h.inner)) low.positive (sym low.same)
      ∙ margin-sign h.how (answered G h.inner x) h.limit

  -- what the margin call answers, for a concept and a threshold that it accepts
  pub margin-fits : (t : Concept) (x : N) (p q : ℕ) → size (reduce t) ≤ most_size → p ≤ q → q ≤ most_q
      → (nat_abs (margin (answered G t x) (p ÷ q)) ≤ most_margin) × (margin_over (answered G t x) (p ÷ q) ≤ most_margin)
  margin-fits t x p q h k c =
      let b = le_trans (lowest-le (degree_of G t x)).1 (scale-bound (reduce t) h) in
      (margin-bound (answered G t x) (p ÷ q) (answered-at-most-one G t x) b k c, over-bound (answered G t x) (p ÷ q) b c)
