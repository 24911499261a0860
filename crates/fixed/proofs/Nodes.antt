-- Reading a node and its children: each end, as the code comes to it.
-- Assumes nothing.
use mathlib.Core.Path.{◌≡◌, refl, sym, ap, ◌∙◌}
use mathlib.Core.Bool.{Bool, true, false, ◌&&◌}
use mathlib.Core.List.{List, [], ◌∷◌}
use Prim.Native.Nat.{ℕ, zero, suc, ◌+◌, ◌-◌, ◌≤◌, ◌<◌}
use native.Mathlib.Omega.{arith}
use lib.Dec.{ltb, leb}
use Rattle.meaning.specs.declared.Side.TheVariants.{Requirement as requirement}
use Rattle.meaning.specs.declared.Refusal.{Refusal}
use Rattle.meaning.specs.Refusal.{Answer, good, refused, at, ◌>>=◌, ◌>>◌}
use Rattle.meaning.specs.Bytes.{number, fields}
use Rattle.meaning.specs.Tree.{node, Forest, none, more, Concept}
use Rattle.meaning.specs.Requirement.{Threshold}
use Rattle.meaning.specs.Message.{Part, Spot, entered, read_children, read_node, no_thresholds, read_thresholds, with_thresholds}
use Rattle.meaning.proofs.Reading.{good-inj, not_good, le-of-not-below, pass, stop, stopped, halted, took, below, not-below, at_most, not-le, fitted}
use Rattle.fixed.specs.Spots.{spot, label_in, node_in, children_in}

suc-of : (k : ℕ) → 0 < k → suc (k - 1) ≡ k
suc-of k h = omega arith

-- ---- the fixed fields

module _ (inner : Bool) (s : List ℕ) (end p n : ℕ) (ps : List Part) where
  abbrev w : Spot
  w = spot p n ps

  abbrev count : ℕ
  count = number s (p + 8) 1

  pub node-cut-end : (left : ℕ) (r : Refusal) → fields requirement end (8 ∷ 1 ∷ 1 ∷ []) p ≡ refused r → node_in inner s end left w ≡ refused r
  unfolding read_node
  node-cut-end zero r h = halted (fields requirement end (8 ∷ 1 ∷ 1 ∷ []) p) _ _ h
  node-cut-end (suc left) r h = halted (fields requirement end (8 ∷ 1 ∷ 1 ∷ []) p) _ _ h

  module _ (fits : p + 10 ≤ end) where
    whole : {B : Type 0} (k : Answer B) → (fields requirement end (8 ∷ 1 ∷ 1 ∷ []) p >> k) ≡ k
    whole k = fitted requirement end (8 ∷ 1 ∷ 1 ∷ []) p k (omega arith)

    pub node-deep : (left : ℕ) → left ≡ 0 → node_in inner s end left w ≡ refused (at requirement 9 p)
    unfolding read_node
    node-deep zero e = whole _
    node-deep (suc left) e = absurd (omega arith)

    pub node-many : (left : ℕ) → 0 < left → 64 ≤ n → node_in inner s end left w ≡ refused (at requirement 10 p)
    unfolding read_node
    node-many zero l h = absurd (omega arith)
    node-many (suc left) l h = whole _ ∙ stop (leb 64 n) _ _ (at_most 64 n h)

    module _ (room : n < 64) where
      -- a node's label, and then its children
      opened : (left : ℕ) → node_in inner s end (suc left) w
          ≡ (label_in inner s end w >>= λ x. (children_in inner s end left (number s (p + 9) 1) x.1 >>= λ y. good (node x.0 y.0, y.1)))
      unfolding read_node
      opened left = whole _ ∙ pass (leb 64 n) _ _ (not-le 64 n room)

      label-stops : (left : ℕ) (r : Refusal) → 0 < left → label_in inner s end w ≡ refused r → node_in inner s end left w ≡ refused r
      label-stops left r l e =
          ap (λ (z : ℕ). node_in inner s end z w) (sym (suc-of left l)) ∙ opened (left - 1) ∙ stopped (label_in inner s end w) _ r e

      -- 11, only in an inner concept
      inner-stops : (b : Bool) → (b && ltb 0 count) ≡ true → label_in b s end w ≡ refused (at requirement 11 (p + 8))
      unfolding no_thresholds
      inner-stops true d = stop (ltb 0 count) _ _ d
      inner-stops false d = let z : ◌≡◌ {A = ℕ} 0 1 = cc in absurd (omega arith)

      pub node-forbidden : (left : ℕ) → 0 < left → (inner && ltb 0 count) ≡ true → node_in inner s end left w ≡ refused (at requirement 11 (p + 8))
      node-forbidden left l e = label-stops left _ l (inner-stops inner e)

      module _ (free : (inner && ltb 0 count) ≡ false) where
        abbrev thresholds : Answer (List Threshold × Spot)
        thresholds = read_thresholds s end n count (spot (p + 10) (suc n) ps)

        -- an inner node that is not forbidden has none
        none_read : ltb 0 count ≡ false → thresholds ≡ good ([], entered w)
        unfolding read_thresholds
        none_read e = let z : count ≡ 0 = omega (arith, le-of-not-below 0 count e) in ap (λ (k : ℕ). read_thresholds s end n k (entered w)) z

        label-good : (b : Bool) → (b && ltb 0 count) ≡ false → (x : List Threshold × Spot) → thresholds ≡ good x → label_in b s end w ≡ good (number s p 8, x.1)
        unfolding no_thresholds with_thresholds
        label-good true d x e =
            let z = good-inj (sym (none_read d) ∙ e) in
            pass (ltb 0 count) _ _ d ∙ ap (λ (y : List Threshold × Spot). good (number s p 8, y.1)) z
        label-good false d x e =
            took (with_thresholds s end w) _ (record { names = number s p 8; thresholds = x.0 }, x.1) (took thresholds _ x e)

        label-refused : (b : Bool) → (b && ltb 0 count) ≡ false → (r : Refusal) → thresholds ≡ refused r → label_in b s end w ≡ refused r
        unfolding with_thresholds
        label-refused true d r e = absurd (not_good (sym e ∙ none_read d))
        label-refused false d r e = stopped (with_thresholds s end w) _ r (stopped thresholds _ r e)

        pub node-thresholds : (left : ℕ) (r : Refusal) → 0 < left → thresholds ≡ refused r → node_in inner s end left w ≡ refused r
        node-thresholds left r l e = label-stops left r l (label-refused inner free r e)

        module _ (left : ℕ) (some' : 0 < left) (x : List Threshold × Spot) (e : thresholds ≡ good x) where
          to-children : node_in inner s end left w ≡ (children_in inner s end (left - 1) (number s (p + 9) 1) x.1 >>= λ y. good (node (number s p 8) y.0, y.1))
          to-children =
              ap (λ (z : ℕ). node_in inner s end z w) (sym (suc-of left some')) ∙ opened (left - 1)
              ∙ took (label_in inner s end w) _ (number s p 8, x.1) (label-good inner free x e)

          pub node-children : (r : Refusal) → children_in inner s end (left - 1) (number s (p + 9) 1) x.1 ≡ refused r → node_in inner s end left w ≡ refused r
          node-children r d = to-children ∙ stopped (children_in inner s end (left - 1) (number s (p + 9) 1) x.1) _ r d

          pub node-good : (y : Forest ℕ × Spot) → children_in inner s end (left - 1) (number s (p + 9) 1) x.1 ≡ good y
              → node_in inner s end left w ≡ good (node (number s p 8) y.0, y.1)
          node-good y d = to-children ∙ took (children_in inner s end (left - 1) (number s (p + 9) 1) x.1) _ y d

  -- ---- children

  pub children-none : (left k : ℕ) → k ≡ 0 → children_in inner s end left k w ≡ good (none, w)
  unfolding read_children
  children-none left zero e = refl
  children-none left (suc k) e = absurd (omega arith)

  pub children-cut : (left k : ℕ) → 0 < k → end < p + 1 → children_in inner s end left k w ≡ refused (at requirement 1 p)
  unfolding read_children fields
  children-cut left zero l h = absurd (omega arith)
  children-cut left (suc k) l h = halted (fields requirement end (1 ∷ []) p) _ _ (stop (ltb end (p + 1)) _ _ (below end (p + 1) h))

  pub children-role : (left k : ℕ) → 0 < k → p + 1 ≤ end → 31 < number s p 1 → children_in inner s end left k w ≡ refused (at requirement 7 p)
  unfolding read_children
  children-role left zero l b h = absurd (omega arith)
  children-role left (suc k) l b h = fitted requirement end (1 ∷ []) p _ (omega arith) ∙ stop (ltb 31 (number s p 1)) _ _ (below 31 (number s p 1) h)

  module _ (left k : ℕ) (some' : 0 < k) (fits : p + 1 ≤ end) (role : number s p 1 ≤ 31) where
    to-child : children_in inner s end left k w
        ≡ (node_in inner s end left (spot (p + 1) n ps) >>= λ x. (children_in inner s end left (k - 1) x.1 >>= λ y. good (more (number s p 1) x.0 y.0, y.1)))
    unfolding read_children
    to-child =
        ap (λ (z : ℕ). children_in inner s end left z w) (sym (suc-of k some'))
        ∙ fitted requirement end (1 ∷ []) p _ (omega arith) ∙ pass (ltb 31 (number s p 1)) _ _ (not-below 31 (number s p 1) role)

    pub child-refused : (r : Refusal) → node_in inner s end left (spot (p + 1) n ps) ≡ refused r → children_in inner s end left k w ≡ refused r
    child-refused r e = to-child ∙ stopped (node_in inner s end left (spot (p + 1) n ps)) _ r e

    module _ (x : Concept × Spot) (e : node_in inner s end left (spot (p + 1) n ps) ≡ good x) where
      pub rest-refused : (r : Refusal) → children_in inner s end left (k - 1) x.1 ≡ refused r → children_in inner s end left k w ≡ refused r
      rest-refused r d =
          to-child ∙ took (node_in inner s end left (spot (p + 1) n ps)) _ x e ∙ stopped (children_in inner s end left (k - 1) x.1) _ r d

      pub rest-good : (y : Forest ℕ × Spot) → children_in inner s end left (k - 1) x.1 ≡ good y
          → children_in inner s end left k w ≡ good (more (number s p 1) x.0 y.0, y.1)
      rest-good y d = to-child ∙ took (node_in inner s end left (spot (p + 1) n ps)) _ x e ∙ took (children_in inner s end left (k - 1) x.1) _ y d
