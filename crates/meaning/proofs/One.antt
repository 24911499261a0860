-- The degree is 1 exactly for the items that meet the concept, as it is written.
-- Assumes nothing.
use mathlib.Core.Path.{◌≡◌, refl, sym, ◌∙◌}
use mathlib.Core.Logic.Iff
use mathlib.Core.Logic.{◌↔◌}
use mathlib.Core.Option.{Option, some}
use mathlib.Core.Option.{none as nowhere}
use Prim.Native.Nat.{ℕ, zero, suc, ◌+◌, ◌*◌, ◌≤◌, ◌<◌, max}
use native.Mathlib.Nat.{le_trans, le_of_eq, le_antisymm, mul-le-mul_left, mul-le-mul_right, eq_of_mul-eq-mul_left, eq_of_mul-eq-mul_right}
use native.Mathlib.Omega.{arith}
use lib.Dec.{T}
use Rattle.meaning.specs.Names.{names, common}
use Rattle.meaning.specs.Tree.{node, Forest, none, more, Concept, count}
use Rattle.meaning.specs.Graph.{Graph}
use Rattle.meaning.specs.Whole.{meets_by, WholeMap, held, meets, meets_f}
use Rattle.meaning.specs.Reduce.{reduce, scale, scale_f}
use Rattle.meaning.specs.Degree.{or_one, best, degree, degree_f, degree_of, answered}
use Rattle.meaning.specs.Shown.{pick}
use Rattle.meaning.proofs.Tests.{any_found, found-any}
use Rattle.meaning.proofs.Names.{common-le, common-all}
use Rattle.meaning.proofs.Whole.{at-node, served, at_more, meets-whole}
use Rattle.meaning.proofs.Fraction.{same-one}
use Rattle.meaning.proofs.Reduced.{reduce-whole}
use Rattle.meaning.proofs.Best.{best-above, best-below, pick-none, pick_some}
use Rattle.meaning.proofs.Scale.{max-one, scale-pos, scale_f-pos, bare-scale, degree-le, degree_f-le}
use Rattle.meaning.proofs.Degree.{answered-lowest}

-- ---- sums that are as great as they can be

-- a node's degree is its scale exactly where the names' part and the children's part are full
node-full : (c n k S D : ℕ) → 0 < S → c ≤ n → D ≤ k * S → (k ≡ 0 → S ≡ 1) → (or_one (n + k) (c * S + D) ≡ max 1 (n + k) * S) ↔ ((c ≡ n) × (D ≡ k * S))
node-full c n k S D pos h l b = (
  λ e. split (back (n + k) (omega (arith, mul-le-mul_right S h)) e),
  λ p. forth (n + k) (rw (p.0, p.1) (omega arith)) (λ z. b (omega arith)),
)
  where
    sum : ℕ
    sum = c * S + D

    forth : (m : ℕ) → sum ≡ m * S → (m ≡ 0 → S ≡ 1) → or_one m sum ≡ max 1 m * S
    forth zero e b = omega (arith, b refl)
    forth (suc m) e b = rw (max-one m) e

    back : (m : ℕ) → sum ≤ m * S → or_one m sum ≡ max 1 m * S → sum ≡ m * S
    back zero h e = omega arith
    back (suc m) h e = rw (max-one m) at e

    split : sum ≡ (n + k) * S → (c ≡ n) × (D ≡ k * S)
    split e = let q = mul-le-mul_right S h in (eq_of_mul-eq-mul_right S pos c n (omega arith), omega arith)

-- the children's part: the first child's best is full, and the rest
more-full : (B s k S D : ℕ) → 0 < S → 0 < s → B ≤ s → D ≤ k * S → (B * S + s * D ≡ (1 + k) * (s * S)) ↔ ((B ≡ s) × (D ≡ k * S))
more-full B s k S D pos pos' h l = (split, λ p. rw (p.0, p.1) (omega arith))
  where
    split : B * S + s * D ≡ (1 + k) * (s * S) → (B ≡ s) × (D ≡ k * S)
    split e =
        let q = mul-le-mul_right S h in
        let r = mul-le-mul_left s l in
        (eq_of_mul-eq-mul_right S pos B s (omega arith), eq_of_mul-eq-mul_left s pos' D (k * S) (omega arith))

module _ {N : Type 0} (G : Graph N) where
  -- the best is full where a successor has degree 1
  best-full : (t : Concept) (x : N) (r : ℕ) → ((y : N) → (degree G t y ≡ scale t) ↔ T (meets G t y))
      → (best (λ y. degree G t y) (G.next x r) ≡ scale t) ↔ T (served (held G) G x r t)
  best-full t x r h = (λ e. go (pick (λ y. degree G t y) (G.next x r)) refl e, back)
    where
      B : ℕ
      B = best (λ y. degree G t y) (G.next x r)

      go : (o : Option N) → pick (λ y. degree G t y) (G.next x r) ≡ o → B ≡ scale t → T (served (held G) G x r t)
      go nowhere p e = absurd (omega (arith, scale-pos t, pick-none (λ y. degree G t y) (G.next x r) p))
      go (some y) p e = let q = pick_some (λ z. degree G t z) (G.next x r) y p in found-any (λ z. meets G t z) q.0 ((h y).0 (q.1 ∙ e))

      back : T (served (held G) G x r t) → B ≡ scale t
      back m =
          let q = any_found (λ y. meets G t y) (G.next x r) m in
          le_antisymm (best-below (λ y. degree G t y) (G.next x r) (scale t) (λ y. degree-le G t y))
          (le_trans (le_of_eq (sym ((h q.0).1 q.2))) (best-above (λ y. degree G t y) q.1))

  mutual
    unfolding degree scale count meets_by

    pub degree-meets : (t : Concept) (x : N) → (degree G t x ≡ scale t) ↔ T (meets G t x)
    degree-meets (node a f) x =
        let n = node-full (common a (G.names x)) (names a) (count f) (scale_f f) (degree_f G f x)
        (scale_f-pos f) (common-le a (G.names x)) (degree_f-le G f x) (bare-scale f) in
        Iff.trans n (Iff.trans (Iff.and (common-all a (G.names x)) (degree_f-meets f x)) (Iff.symm (at-node (held G) G a f x)))

    degree_f-meets : (f : Forest ℕ) (x : N) → (degree_f G f x ≡ count f * scale_f f) ↔ T (meets_f G f x)
    degree_f-meets none x = (λ e. tt, λ h. refl)
    degree_f-meets (more r t f) x =
        let n = more-full (best (λ y. degree G t y) (G.next x r)) (scale t) (count f) (scale_f f) (degree_f G f x) (scale_f-pos f) (scale-pos t)
        (best-below (λ y. degree G t y) (G.next x r) (scale t) (λ y. degree-le G t y)) (degree_f-le G f x) in
        Iff.trans n (Iff.trans (Iff.and (best-full t x r (λ y. degree-meets t y)) (degree_f-meets f x)) (Iff.symm (at_more (held G) G r t f x)))

  -- degree 1 exactly where a whole map of the concept as written exists
  pub one : (t : Concept) (x : N) → ((degree_of G t x).num ≡ (degree_of G t x).den) ↔ WholeMap (held G) G t x
  one t x = Iff.trans (degree-meets (reduce t) x) (Iff.trans (meets-whole (held G) G (reduce t) x) (reduce-whole G t x))

  -- so for the degree as it is answered
  pub answered-one : (t : Concept) (x : N) → ((answered G t x).num ≡ (answered G t x).den) ↔ WholeMap (held G) G t x
  answered-one t x =
      let low = answered-lowest G t x in
      Iff.trans (same-one (answered G t x) (degree_of G t x) low.positive (scale-pos (reduce t)) low.same) (one t x)
