-- Document 02, §2: what is wrong with a fraction is what its rows say. The step that reading, writing and the margin share is refused exactly when a row
-- holds, with that row's number, and passed exactly when a threshold may have the fraction.
-- Assumes nothing.
use mathlib.Core.Path.{◌≡◌, refl, sym, ap, ◌∙◌}
use mathlib.Core.Logic.{◌⊎◌, inl, inr}
use mathlib.Core.Bool.{true, false, not}
use Prim.Native.Nat.{ℕ, ◌≤◌, ◌<◌}
use native.Mathlib.Decide.{dec_lt, ℕ_discrete}
use native.Mathlib.Omega.{arith}
use lib.Dec.{T, eqb→eq}
use Rattle.meaning.specs.declared.Refusal.{Refusal}
use Rattle.meaning.specs.Refusal.{good, refused, on_call, refuse_if, Exactly}
use Rattle.meaning.specs.Bounds.{most_q}
use Rattle.meaning.specs.Fraction.{gcd, wrong_with, lawful, fraction}
use Rattle.meaning.specs.FractionRows.{FractionTakes, FractionRow, out_of_range, exceeds, shares}
use Rattle.meaning.proofs.Reading.{below, not-below}
use Rattle.meaning.proofs.Lists.{same, other}
use Rattle.meaning.proofs.Lowest.{gcd-divides, gcd-pos, coprime}
use Rattle.meaning.proofs.Decided.{Decided, exactly}

-- ---- each number

module _ (p q : ℕ) where
  pub wrong-zero : q < 1 → wrong_with p q ≡ 23
  unfolding wrong_with
  wrong-zero h = rw (below q 1 h) refl

  pub wrong-large : most_q < q → wrong_with p q ≡ 23
  unfolding wrong_with
  wrong-large h = rw (not-below q 1 (omega arith), below most_q q h) refl

  module _ (h : 1 ≤ q) (l : q ≤ most_q) where
    pub wrong-above : q < p → wrong_with p q ≡ 24
    unfolding wrong_with
    wrong-above m = rw (not-below q 1 h, not-below most_q q l, below q p m) refl

    module _ (m : p ≤ q) where
      pub wrong-common : (gcd p q ≡ 1 → ⊥) → wrong_with p q ≡ 25
      unfolding wrong_with
      wrong-common n = rw (not-below q 1 h, not-below most_q q l, not-below q p m, other (gcd p q) 1 n) refl

      pub wrong-none : gcd p q ≡ 1 → wrong_with p q ≡ 0
      unfolding wrong_with
      wrong-none e = rw (not-below q 1 h, not-below most_q q l, not-below q p m, same (gcd p q) 1 e) refl

  takes_none : FractionTakes p q → wrong_with p q ≡ 0
  takes_none t = wrong-none t.positive t.small t.most ((coprime p q t.positive).1 t.bare)

  -- ---- the step

  module _ (say : ℕ → Refusal) where
    passes : wrong_with p q ≡ 0 → fraction say p q ≡ good tt
    unfolding refuse_if
    passes e = rw e refl

    stops : (n : ℕ) → (n ≡ 0 → ⊥) → wrong_with p q ≡ n → fraction say p q ≡ refused (say n)
    unfolding refuse_if
    stops n s e = rw (e, other n 0 s) refl

    row-stops : (f : Refusal) → FractionRow say p q f → fraction say p q ≡ refused f
    row-stops f (out_of_range (inl z) e) = stops 23 (λ d. omega arith) (wrong-zero (omega arith)) ∙ ap refused (sym e)
    row-stops f (out_of_range (inr l) e) = stops 23 (λ d. omega arith) (wrong-large l) ∙ ap refused (sym e)
    row-stops f (exceeds h l m e) = stops 24 (λ d. omega arith) (wrong-above h l m) ∙ ap refused (sym e)
    row-stops f (shares h l m k b d g e) =
        stops 25 (λ z. omega arith) (wrong-common h l m (λ one. let z = (coprime p q h).0 one k d g in omega arith)) ∙ ap refused (sym e)

    abbrev Either : Type 0
    Either = FractionTakes p q ⊎ ((f : Refusal) × FractionRow say p q f)

    either : Either
    either = go (dec_lt q 1) (dec_lt most_q q) (dec_lt q p) (ℕ_discrete (gcd p q) 1)
      where
        go : Dec (q < 1) → Dec (most_q < q) → Dec (q < p) → Dec (gcd p q ≡ 1) → Either
        go (yes z) l m e = inr (say 23, out_of_range (inl (omega arith)) refl)
        go (no z) (yes l) m e = inr (say 23, out_of_range (inr l) refl)
        go (no z) (no l) (yes m) e = inr (say 24, exceeds (omega arith) (omega arith) m refl)
        go (no z) (no l) (no m) (yes e) =
            let h : 1 ≤ q = omega arith in
            inl (record { positive = h; small = omega arith; most = omega arith; bare = (coprime p q h).0 e })
        go (no z) (no l) (no m) (no e) =
            let h : 1 ≤ q = omega arith in
            let b : 1 < gcd p q = omega (arith, gcd-pos p q h, e) in
            let d = gcd-divides p q in
            inr (say 25, shares h (omega arith) (omega arith) (gcd p q) b d.0 d.1 refl)

    pub fraction-decided : Decided (fraction say p q) (FractionRow say p q) (FractionTakes p q)
    fraction-decided = record { good-where = λ t. (tt, passes (takes_none t)); refused-where = row-stops; either = either }

    pub fraction-exactly : Exactly (fraction say p q) (FractionRow say p q) (FractionTakes p q)
    fraction-exactly = exactly fraction-decided

  pub lawful-takes : T (lawful p q) → FractionTakes p q
  lawful-takes h = (fraction-exactly on_call).takes.0 (tt, passes on_call (eqb→eq (wrong_with p q) 0 h))

-- ---- as code tests it: the number that it finds is 0, or another

module _ (n p q : ℕ) (is : n ≡ wrong_with p q) where
  pub found_none : n ≡ 0 → not (lawful p q) ≡ false
  found_none z = ap not (same (wrong_with p q) 0 (sym is ∙ z))

  pub found_some : (n ≡ 0 → ⊥) → not (lawful p q) ≡ true
  found_some s = ap not (other (wrong_with p q) 0 (λ z. s (is ∙ z)))
