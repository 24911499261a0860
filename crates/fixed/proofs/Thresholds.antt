-- Reading thresholds and their inner concepts: each end, as the code comes to it.
-- Assumes nothing.
use mathlib.Core.Path.{◌≡◌, refl, sym, ap, ◌∙◌}
use mathlib.Core.Bool.{Bool, true, false, ◌&&◌, not}
use mathlib.Core.List.{List, [], ◌∷◌, ◌++◌}
use Prim.Native.Nat.{ℕ, zero, suc, ◌+◌, ◌-◌, ◌≤◌, ◌<◌}
use native.Mathlib.Omega.{arith}
use lib.Dec.{ltb, leb, leb→le}
use lib.ListN.{length}
use Rattle.meaning.specs.declared.Side.TheVariants.{Requirement as requirement}
use Rattle.meaning.specs.declared.Refusal.{Refusal}
use Rattle.meaning.specs.Refusal.{Answer, good, refused, at, refuse_if, ◌>>=◌, ◌>>◌}
use Rattle.meaning.specs.Bytes.{number, fields}
use Rattle.meaning.specs.Tree.{Concept}
use Rattle.meaning.specs.Fraction.{◌÷◌, wrong_with, lawful, fraction}
use Rattle.meaning.specs.Reduce.{reduce, size}
use Rattle.meaning.specs.Bounds.{most_size}
use Rattle.meaning.specs.Requirement.{Threshold}
use Rattle.meaning.specs.Message.{Part, Spot, comparison, fault_at, read_inner, read_threshold, read_thresholds}
use Rattle.meaning.proofs.Tests.{holds, is_true, of-not, and_both}
use Rattle.meaning.proofs.Reading.{pass, stop, stopped, halted, took, below, not-below, at_most, not-le, fitted}
use Rattle.meaning.proofs.FractionRows.{found_none, found_some}
use Rattle.fixed.specs.Spots.{spot, node_in, whole_inner}
use Rattle.fixed.specs.Fixed.{lawful_at}

-- ---- one after the other

module _ (s : List ℕ) (end owner : ℕ) (w : Spot) where
  pub thresholds-none : (k : ℕ) → k ≡ 0 → read_thresholds s end owner k w ≡ good ([], w)
  unfolding read_thresholds
  thresholds-none zero e = refl
  thresholds-none (suc k) e = absurd (omega arith)

  module _ (k : ℕ) (some' : 0 < k) where
    to-first : read_thresholds s end owner k w ≡ (read_threshold s end owner w >>= λ x. (read_thresholds s end owner (k - 1) x.1 >>= λ y. good (x.0 ∷ y.0, y.1)))
    unfolding read_thresholds
    to-first = ap (λ (z : ℕ). read_thresholds s end owner z w) (let e : k ≡ suc (k - 1) = omega arith in e)

    pub first-refused : (r : Refusal) → read_threshold s end owner w ≡ refused r → read_thresholds s end owner k w ≡ refused r
    first-refused r e = to-first ∙ stopped (read_threshold s end owner w) _ r e

    module _ (x : Threshold × Spot) (e : read_threshold s end owner w ≡ good x) where
      pub others-refused : (r : Refusal) → read_thresholds s end owner (k - 1) x.1 ≡ refused r → read_thresholds s end owner k w ≡ refused r
      others-refused r d = to-first ∙ took (read_threshold s end owner w) _ x e ∙ stopped (read_thresholds s end owner (k - 1) x.1) _ r d

      pub others-good : (y : List Threshold × Spot) → read_thresholds s end owner (k - 1) x.1 ≡ good y → read_thresholds s end owner k w ≡ good (x.0 ∷ y.0, y.1)
      others-good y d = to-first ∙ took (read_threshold s end owner w) _ x e ∙ took (read_thresholds s end owner (k - 1) x.1) _ y d

-- ---- an inner concept, and 8 and 14 after it

module _ (s : List ℕ) (stop' p : ℕ) where
  pub inner-refused : (r : Refusal) → node_in true s stop' 17 (spot p 0 []) ≡ refused r → whole_inner s stop' p ≡ refused r
  unfolding whole_inner
  inner-refused r e = stopped (read_inner s stop' p) _ r e

  module _ (x : Concept × Spot) (e : node_in true s stop' 17 (spot p 0 []) ≡ good x) where
    pub inner-left : x.1.next < stop' → whole_inner s stop' p ≡ refused (at requirement 8 x.1.next)
    unfolding whole_inner
    inner-left h = took (read_inner s stop' p) _ x e ∙ stop (ltb x.1.next stop') _ _ (below x.1.next stop' h)

    module _ (all : stop' ≤ x.1.next) where
      pub inner-large : 60 < size (reduce x.0) → whole_inner s stop' p ≡ refused (at requirement 14 p)
      unfolding whole_inner
      inner-large h =
          took (read_inner s stop' p) _ x e ∙ pass (ltb x.1.next stop') _ _ (not-below x.1.next stop' all)
          ∙ stop (ltb most_size (size (reduce x.0))) _ _ (below 60 (size (reduce x.0)) h)

      pub inner-good : size (reduce x.0) ≤ 60 → whole_inner s stop' p ≡ good x
      unfolding whole_inner
      inner-good h =
          took (read_inner s stop' p) _ x e ∙ pass (ltb x.1.next stop') _ _ (not-below x.1.next stop' all)
          ∙ pass (ltb most_size (size (reduce x.0))) _ _ (not-below 60 (size (reduce x.0)) h)

-- the tests after an inner concept, and then what is made of it
regroup : {X : Type 0} (a : Answer (Concept × Spot)) (stop' p : ℕ) (g : Concept → X)
    → (a >>= λ x. (refuse_if (ltb x.1.next stop') (at requirement 8 x.1.next) >> (refuse_if (ltb most_size (size (reduce x.0))) (at requirement 14 p) >> good (g x.0))))
    ≡ ((a >>= λ x. (refuse_if (ltb x.1.next stop') (at requirement 8 x.1.next) >>
    (refuse_if (ltb most_size (size (reduce x.0))) (at requirement 14 p) >> good x))) >>= λ x. good (g x.0))
unfolding ◌>>=◌ ◌>>◌ refuse_if
regroup (refused r) stop' p g = refl
regroup (good x) stop' p g = go (ltb x.1.next stop') (ltb most_size (size (reduce x.0)))
  where
    go : (b c : Bool)
        → (refuse_if b (at requirement 8 x.1.next) >> (refuse_if c (at requirement 14 p) >> good (g x.0)))
        ≡ ((refuse_if b (at requirement 8 x.1.next) >> (refuse_if c (at requirement 14 p) >> good x)) >>= λ x. good (g x.0))
    go true c =
        refl
    go false true = refl
    go false false = refl

-- ---- one threshold

module _ (s : List ℕ) (end owner p n : ℕ) (ps : List Part) where
  abbrev w : Spot
  w = spot p n ps

  pub threshold-many : 16 ≤ length ps → read_threshold s end owner w ≡ refused (at requirement 12 p)
  unfolding read_threshold
  threshold-many h = stop (leb 16 (length ps)) _ _ (at_most 16 (length ps) h)

  module _ (room : length ps < 16) where
    open-room : {B : Type 0} (k : Answer B) → (refuse_if (leb 16 (length ps)) (at requirement 12 p) >> k) ≡ k
    open-room k = pass (leb 16 (length ps)) _ k (not-le 16 (length ps) room)

    pub threshold-cut-end : (r : Refusal) → fields requirement end (1 ∷ 2 ∷ 2 ∷ []) p ≡ refused r → read_threshold s end owner w ≡ refused r
    unfolding read_threshold
    threshold-cut-end r h = open-room _ ∙ halted (fields requirement end (1 ∷ 2 ∷ 2 ∷ []) p) _ _ h

    module _ (fits : p + 5 ≤ end) where
      whole : {B : Type 0} (k : Answer B) → (fields requirement end (1 ∷ 2 ∷ 2 ∷ []) p >> k) ≡ k
      whole k = fitted requirement end (1 ∷ 2 ∷ 2 ∷ []) p k (omega arith)

      -- the comparison, and then the fraction
      abbrev compared : Bool
      compared = leb (number s p 1) 3

      abbrev low : Bool
      low = lawful (number s (p + 1) 2) (number s (p + 3) 2)

      abbrev ruled : {B : Type 0} → Answer B → Answer B
      ruled k =
          refuse_if (ltb 3 (number s p 1)) (at requirement 13 p)
          >> (fraction (fault_at p) (number s (p + 1) 2) (number s (p + 3) 2) >> k)

      kept_rule : {B : Type 0} (k : Answer B) → lawful_at s p ≡ true → ruled k ≡ k
      kept_rule k e =
          let c = and_both compared low (holds e) in
          pass (ltb 3 (number s p 1)) _ _ (not-below 3 (number s p 1) (leb→le (number s p 1) 3 c.0))
          ∙ pass (not low) _ _ (ap not (is_true low c.1))

      pub threshold-how : 3 < number s p 1 → read_threshold s end owner w ≡ refused (at requirement 13 p)
      unfolding read_threshold
      threshold-how h = open-room _ ∙ whole _ ∙ stop (ltb 3 (number s p 1)) _ _ (below 3 (number s p 1) h)

      -- the number that is found wrong with the fraction
      pub threshold-fraction : number s p 1 ≤ 3 → (k : ℕ) → k ≡ wrong_with (number s (p + 1) 2) (number s (p + 3) 2) → (k ≡ 0 → ⊥)
          → read_threshold s end owner w ≡ refused (fault_at p k)
      unfolding read_threshold
      threshold-fraction h k is some' =
          open-room _ ∙ whole _ ∙ pass (ltb 3 (number s p 1)) _ _ (not-below 3 (number s p 1) h)
          ∙ stop (not low) _ _ (found_some k _ _ is some') ∙ ap (λ (z : ℕ). refused (fault_at p z)) (sym is)

      module _ (kept : lawful_at s p ≡ true) where
        abbrev len : ℕ
        len = number s (p + 5) 2

        pub threshold-length-cut : end < p + 7 → read_threshold s end owner w ≡ refused (at requirement 1 (p + 5))
        unfolding read_threshold fields
        threshold-length-cut h =
            open-room _ ∙ whole _ ∙ kept_rule _ kept
            ∙ halted (fields requirement end (2 ∷ []) (p + 5)) _ _ (stop (ltb end (p + 5 + 2)) _ _ (below end (p + 5 + 2) (omega arith)))

        module _ (long : p + 7 ≤ end) where
          pub threshold-past : end < p + 7 + len → read_threshold s end owner w ≡ refused (at requirement 1 (p + 5))
          unfolding read_threshold
          threshold-past h =
              open-room _ ∙ whole _ ∙ kept_rule _ kept ∙ fitted requirement end (2 ∷ []) (p + 5) _ (omega arith)
              ∙ stop (ltb end (p + 7 + len)) _ _ (below end (p + 7 + len) h)

          module _ (inside : p + 7 + len ≤ end) where
            abbrev after : Spot
            after = spot (p + 7 + len) n (ps ++ (record { owner = owner; first = p; len = len } ∷ []))

            abbrev threshold : Concept → Threshold
            threshold t = record { how = comparison (number s p 1); limit = number s (p + 1) 2 ÷ number s (p + 3) 2; inner = t }

            to_inner : read_threshold s end owner w ≡ (whole_inner s (p + 7 + len) (p + 7) >>= λ x. good (threshold x.0, after))
            unfolding read_threshold whole_inner
            to_inner =
                open-room _ ∙ whole _ ∙ kept_rule _ kept ∙ fitted requirement end (2 ∷ []) (p + 5) _ (omega arith)
                ∙ pass (ltb end (p + 7 + len)) _ _ (not-below end (p + 7 + len) inside) ∙ regroup (read_inner s (p + 7 + len) (p + 7)) (p + 7 + len) (p + 7) (λ t. (threshold t, after))

            pub threshold-inner : (r : Refusal) → whole_inner s (p + 7 + len) (p + 7) ≡ refused r → read_threshold s end owner w ≡ refused r
            threshold-inner r e = to_inner ∙ stopped (whole_inner s (p + 7 + len) (p + 7)) _ r e

            pub threshold-good : (x : Concept × Spot) → whole_inner s (p + 7 + len) (p + 7) ≡ good x → read_threshold s end owner w ≡ good (threshold x.0, after)
            threshold-good x e = to_inner ∙ took (whole_inner s (p + 7 + len) (p + 7)) _ x e

-- ---- the comparison, p and q as code tests them

pub rule-kept : (s : List ℕ) (p : ℕ) → number s p 1 ≤ 3 → wrong_with (number s (p + 1) 2) (number s (p + 3) 2) ≡ 0 → lawful_at s p ≡ true
rule-kept s p small z =
    let ok = lawful (number s (p + 1) 2) (number s (p + 3) 2) in
    ap (λ (b : Bool). b && ok) (at_most (number s p 1) 3 small) ∙ is_true ok (of-not ok (found_none 0 _ _ (sym z) refl))
