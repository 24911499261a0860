-- The end of each test at a link, as the code comes to it.
-- Assumes nothing.
use mathlib.Core.Path.{◌≡◌, refl, ap, ◌∙◌, subst}
use mathlib.Core.Bool.{not}
use mathlib.Core.List.{List, [], ◌∷◌}
use mathlib.Core.Option.{Option, some}
use Prim.Native.Nat.{ℕ, ◌+◌, ◌*◌, ◌-◌, ◌/◌, ◌%◌, ◌≤◌, ◌<◌}
use native.Mathlib.Omega.{arith}
use native.Mathlib.Decide.{dec_lt}
use lib.Dec.{ltb, leb}
use lib.ListN.{get_or}
use Rattle.meaning.specs.declared.Side.TheVariants.{Register as register}
use Rattle.meaning.specs.Refusal.{Answer, good, refused, at, refuse_if, ◌>>◌}
use Rattle.meaning.specs.Rules.{refusal_on}
use Rattle.meaning.specs.Bounds.{most_items, most_role}
use Rattle.meaning.specs.Bytes.{number, fields, Bytes}
use Rattle.meaning.specs.Register.{Link, link_at, above, read_link}
use Rattle.meaning.proofs.Reading.{pass, stop, stopped, halted, took, below, not-below, at_most, not-le, fitted, number-one, number-two}
use Rattle.links.specs.Links.{key, Floor, keyed, Right, cut_at}
use Rattle.links.proofs.Rising.{above_floor}

module _ (s : List ℕ) (end n : ℕ) (before : Option Link) (p : ℕ) where
  abbrev answer : Answer ℕ
  answer = keyed (read_link s end n before p)

  keyed-refused : (k q : ℕ) → read_link s end n before p ≡ refused (at register k q) → answer ≡ refused (at register k q)
  unfolding keyed
  keyed-refused k q e = stopped (read_link s end n before p) _ _ e

  -- too short: by its first field that does not fit
  short : (q : ℕ) → fields register end (2 ∷ 1 ∷ 2 ∷ []) p ≡ refused (at register 1 q) → answer ≡ refused (at register 1 q)
  unfolding read_link
  short q e = keyed-refused 1 q (halted (fields register end (2 ∷ 1 ∷ 2 ∷ []) p) _ _ e)

  pub link-cut : p ≤ end → end - p < 5 → answer ≡ refused (refusal_on register (cut_at (end - p) p))
  unfolding fields
  link-cut l h = go (dec_lt (end - p) 2) (dec_lt (end - p) 3)
    where
      go : Dec (end - p < 2) → Dec (end - p < 3) → answer ≡ refused (refusal_on register (cut_at (end - p) p))
      go (yes a) d = short p (stop (ltb end (p + 2)) _ _ (below end (p + 2) (omega arith))) ∙ rw (below (end - p) 2 a) refl
      go (no a) (yes b) =
          short (p + 2) (pass (ltb end (p + 2)) _ _ (not-below end (p + 2) (omega arith)) ∙ stop (ltb end (p + 2 + 1)) _ _ (below end (p + 2 + 1) (omega arith)))
          ∙ rw (not-below (end - p) 2 (omega arith), below (end - p) 3 b) refl
      go (no a) (no b) =
          let e : p + 2 + 1 ≡ p + 3 = omega arith in
          short (p + 3) (pass (ltb end (p + 2)) _ _ (not-below end (p + 2) (omega arith)) ∙ pass (ltb end (p + 2 + 1)) _ _ (not-below end (p + 2 + 1) (omega arith))
          ∙ stop (ltb end (p + 2 + 1 + 2)) _ _ (below end (p + 2 + 1 + 2) (omega arith)) ∙ rw e refl)
          ∙ rw (not-below (end - p) 2 (omega arith), not-below (end - p) 3 (omega arith)) refl

  module _ (fits : p + 5 ≤ end) where
    whole : {B : Type 0} (k : Answer B) → (fields register end (2 ∷ 1 ∷ 2 ∷ []) p >> k) ≡ k
    whole k = fitted register end (2 ∷ 1 ∷ 2 ∷ []) p k (omega arith)

    pub link-from : n ≤ number s p 2 → answer ≡ refused (at register 5 p)
    unfolding read_link
    link-from h = keyed-refused 5 p (whole _ ∙ stop (leb n (number s p 2)) _ _ (at_most n (number s p 2) h))

    module _ (from : number s p 2 < n) where
      pub link-role : 31 < number s (p + 2) 1 → answer ≡ refused (at register 7 (p + 2))
      unfolding read_link
      link-role h =
          keyed-refused 7 (p + 2) (whole _ ∙ pass (leb n (number s p 2)) _ _ (not-le n _ from) ∙ stop (ltb 31 (number s (p + 2) 1)) _ _ (below 31 _ h))

      module _ (role : number s (p + 2) 1 ≤ 31) where
        pub link-to : n ≤ number s (p + 3) 2 → answer ≡ refused (at register 5 (p + 3))
        unfolding read_link
        link-to h =
            keyed-refused 5 (p + 3) (whole _ ∙ pass (leb n (number s p 2)) _ _ (not-le n _ from) ∙ pass (ltb 31 (number s (p + 2) 1)) _ _ (not-below 31 _ role)
            ∙ stop (leb n (number s (p + 3) 2)) _ _ (at_most n _ h))

        module _ (to : number s (p + 3) 2 < n) (small : n ≤ 512) (floor : ℕ) (fl : Floor before floor) where
          to-order : read_link s end n before p ≡ (refuse_if (not (above before (link_at s p))) (at register 6 p) >> good (link_at s p))
          unfolding read_link
          to-order =
              whole _ ∙ pass (leb n (number s p 2)) _ _ (not-le n _ from) ∙ pass (ltb 31 (number s (p + 2) 1)) _ _ (not-below 31 _ role)
              ∙ pass (leb n (number s (p + 3) 2)) _ _ (not-le n _ to)

          order : above before (link_at s p) ≡ leb floor (key (link_at s p))
          order = above_floor before floor (link_at s p) fl (role, omega arith)

          pub link-order : key (link_at s p) < floor → answer ≡ refused (at register 6 p)
          link-order h =
              keyed-refused 6 p (to-order ∙ stop (not (above before (link_at s p))) _ _ (ap not order ∙ ap not (not-le floor _ h)))

          pub link-reads : floor ≤ key (link_at s p) → read_link s end n before p ≡ good (link_at s p)
          link-reads h = to-order ∙ pass (not (above before (link_at s p))) _ _ (ap not order ∙ ap not (at_most floor _ h))

          pub link-good : floor ≤ key (link_at s p) → answer ≡ good (key (link_at s p) + 1)
          unfolding keyed
          link-good h = took (read_link s end n before p) _ (link_at s p) (link-reads h)

-- ---- by the number alone

part-to : (a r t : ℕ) → t < 65536 → ((a * 256 + r) * 65536 + t) % 65536 ≡ t
part-to a r t l = omega arith

part-role : (a r t : ℕ) → r < 256 → t < 65536 → ((a * 256 + r) * 65536 + t) / 65536 % 256 ≡ r
part-role a r t k l = omega arith

part-from : (a r t n : ℕ) → (a * 256 + r) * 65536 + t < n * 16777216 → a < n
part-from a r t n h = omega arith

module _ (s : List ℕ) where
  module _ (b : Bytes s) where
    two-below : (p : ℕ) → number s p 2 < 65536
    two-below p = omega (arith, number-two s p, b p, b (p + 1))

    one_below : (p : ℕ) → number s p 1 < 256
    one_below p = omega (arith, number-one s p, b p)

    -- a link whose number passes every test, and is small enough for the item that it leads from
    pub link-passed : (end n p floor : ℕ) (before : Option Link) → p + 5 ≤ end → n ≤ most_items → Right (key (link_at s p)) n floor
        → key (link_at s p) < n * 16777216 → Floor before floor → (read_link s end n before p ≡ good (link_at s p)) × Floor (some (link_at s p)) (key (link_at s p) + 1)
    link-passed end n p floor before fit few w small fl =
        let a = number s p 2 in
        let r = number s (p + 2) 1 in
        let t = number s (p + 3) 2 in
        let ha : a < n = part-from a r t n small in
        let hr : r ≤ most_role = subst (λ (z : ℕ). z ≤ most_role) (part-role a r t (one_below (p + 2)) (two-below (p + 3))) w.2 in
        let ht : t < n = subst (λ (z : ℕ). z < n) (part-to a r t (two-below (p + 3))) w.1 in
        (link-reads s end n before p fit ha hr ht few floor fl w.0, (refl, hr, two-below (p + 3)))

    -- the number of a link, read with the three bytes before it
    behind : (q : ℕ) → number s q 8 % 1099511627776 ≡ key (link_at s (q + 3))
    unfolding number
    behind q =
        let at : (i j : ℕ) → i ≡ j → get_or s i 0 ≡ get_or s j 0 = λ i j e. ap (λ (z : ℕ). get_or s z 0) e in
        omega (
          arith,
          b (q + 3),
          b (q + 4),
          b (q + 5),
          b (q + 6),
          b (q + 7),
          number-two s (q + 3),
          number-one s (q + 3 + 2),
          number-two s (q + 3 + 3),
          at (q + 3 + 1) (q + 4) (omega arith),
          at (q + 3 + 2) (q + 5) (omega arith),
          at (q + 3 + 3) (q + 6) (omega arith),
          at (q + 3 + 3 + 1) (q + 7) (omega arith),
        )

    pub key-behind : (p : ℕ) → 3 ≤ p → number s (p - 3) 8 % 1099511627776 ≡ key (link_at s p)
    key-behind p h = let e : p - 3 + 3 ≡ p = omega arith in behind (p - 3) ∙ ap (λ (z : ℕ). key (link_at s z)) e
