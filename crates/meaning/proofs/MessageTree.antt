-- The nodes of a message, for labels of any kind. Reading a node from a spot gives the tree t exactly when t is allowed there and its bytes stand there,
-- and then ends past them: `node-read` and `node-back`, for a label reader that is such (`label-read`, `label-back`).
-- Assumes nothing.
use mathlib.Core.Path.{◌≡◌, refl, sym, ap, ◌∙◌, subst}
use mathlib.Core.Bool.{Bool, false, ◌&&◌}
use mathlib.Core.List.{List, [], ◌∷◌, ◌++◌, map, append_assoc, append-nil, map-append}
use Prim.Native.Nat.{ℕ, zero, suc, ◌+◌, ◌*◌, ◌≤◌, ◌<◌, max}
use native.Mathlib.Nat.{add-zero, add_assoc}
use native.Mathlib.Omega.{arith}
use lib.Dec.{T, ltb, leb, leb→le, le→leb}
use lib.ListN.{length, length-append}
use Rattle.meaning.specs.declared.Side.TheVariants.{Requirement as requirement}
use Rattle.meaning.specs.Refusal.{Answer, good}
use Rattle.meaning.specs.Bytes.{number, bytes, Bytes}
use Rattle.meaning.specs.Tree.{Tree, node, Forest, none, more, count, nodes, nodes_f, levels, levels_f, each, each_f, written, written_f}
use Rattle.meaning.specs.Requirement.{every}
use Rattle.meaning.specs.Message.{node_bytes, children_bytes, Part, Spot, entered, read_node, read_children}
use Rattle.meaning.specs.Bounds.{most_nodes, most_thresholds}
use Rattle.meaning.specs.Message.{passed as onward}
use Rattle.meaning.proofs.Tests.{and_both, both-and, every_append}
use Rattle.meaning.proofs.Reading.{not_good, good-inj, then-test, then-take, then_fit, of_test, of-take, of-fit, not-below, le-of-not-below}
use Rattle.meaning.proofs.Reading.{total, total-append, fields-fitted, Stands, stands-none, stands-split, stands-join, byte_of, byte-stands}
use Rattle.meaning.proofs.Reading.{none-bytes, cons-bytes, append-bytes, bytes-bytes}

-- what a kind of label is: which are allowed, its names, how many thresholds, their bytes, and where these stand from a place on, at a written node
pub record Kind (L : Type 0) : Type 0 where
  pub ok : L → Bool
  pub names_of : L → ℕ
  pub how_many : L → ℕ
  pub own : L → List ℕ
  pub found : L → ℕ → ℕ → List Part

-- a spot that reading may come to
pub record Within (end : ℕ) (w : Spot) : Type 0 where
  pub reached : w.next ≤ end
  pub few : w.nodes ≤ most_nodes
  pub room : length w.parts ≤ most_thresholds

pub same_spot : (v w : Spot) → v.next ≡ w.next → v.nodes ≡ w.nodes → v.parts ≡ w.parts → v ≡ w
same_spot v w e f g = λ i. record { next = e i; nodes = f i; parts = g i }

count-nodes : {L : Type 0} (f : Forest L) → count f ≤ nodes_f f
unfolding count nodes
count-nodes none = omega arith
count-nodes (more r (node a g) f) = omega (arith, count-nodes f)

module _ {L : Type 0} (K : Kind L) where
  abbrev pub tree_bytes : Tree L → List ℕ
  tree_bytes = node_bytes K.names_of K.how_many K.own

  abbrev pub forest_bytes : Forest L → List ℕ
  forest_bytes = children_bytes K.names_of K.how_many K.own

  -- a node's 10 bytes of fixed fields
  abbrev fixed : L → ℕ → List ℕ
  fixed a n = bytes 8 (K.names_of a) ++ (K.how_many a ∷ n ∷ [])

  -- ---- where the thresholds of a tree stand whose root is the k-th written node and stands at place p

  unfoldable mutual
    pub parts_of : Tree L → ℕ → ℕ → List Part
    parts_of (node a f) k p = K.found a k (p + 10) ++ parts_of_f f (suc k) (p + 10 + length (K.own a))

    pub parts_of_f : Forest L → ℕ → ℕ → List Part
    parts_of_f none k p = []
    parts_of_f (more r t f) k p = parts_of t k (p + 1) ++ parts_of_f f (k + nodes t) (p + 1 + length (tree_bytes t))

  -- ---- the spot past a label, a tree, a forest

  abbrev pub past_label : L → Spot → Spot
  past_label a w =
      record { next = w.next + 10 + length (K.own a); nodes = suc w.nodes; parts = w.parts ++ K.found a w.nodes (w.next + 10) }

  abbrev pub past : Tree L → Spot → Spot
  past t w = record { next = w.next + length (tree_bytes t); nodes = w.nodes + nodes t; parts = w.parts ++ parts_of t w.nodes w.next }

  abbrev pub past_f : Forest L → Spot → Spot
  past_f f w = record { next = w.next + length (forest_bytes f); nodes = w.nodes + nodes_f f; parts = w.parts ++ parts_of_f f w.nodes w.next }

  node-length : (a : L) (f : Forest L) → length (tree_bytes (node a f)) ≡ 10 + length (K.own a) + length (forest_bytes f)
  unfolding node_bytes bytes count
  node-length a f = omega (arith, length-append (K.own a) (forest_bytes f))

  past-none : (w : Spot) → past_f none w ≡ w
  unfolding node_bytes bytes count parts_of nodes
  past-none w = same_spot _ w (add-zero w.next) (add-zero w.nodes) (append-nil w.parts)

  past-node : (a : L) (f : Forest L) (w : Spot) → past_f f (past_label a w) ≡ past (node a f) w
  unfolding parts_of nodes
  past-node a f w = same_spot _ _ (omega (arith, node-length a f)) (omega arith) (append_assoc w.parts _ _)

  past_more : (r : ℕ) (t : Tree L) (f : Forest L) (w : Spot) → past_f f (past t (onward 1 w)) ≡ past_f (more r t f) w
  unfolding node_bytes bytes count parts_of nodes
  past_more r t f w =
      same_spot _ _ (omega (arith, length-append (tree_bytes t) (forest_bytes f))) (add_assoc w.nodes _ _) (append_assoc w.parts _ _)

  -- ---- how long the bytes are: 11 for each node, one less for the root, and the thresholds

  abbrev pub owned : List L → List ℕ
  owned = map (λ a. length (K.own a))

  mutual
    unfolding nodes written node_bytes bytes count

    pub tree-length : (t : Tree L) → length (tree_bytes t) + 1 ≡ 11 * nodes t + total (owned (written t))
    tree-length (node a f) = omega (arith, node-length a f, forest-length f)

    forest-length : (f : Forest L) → length (forest_bytes f) ≡ 11 * nodes_f f + total (owned (written_f f))
    forest-length none = refl
    forest-length (more r t f) =
        rw (map-append, total-append) (omega (arith, length-append (tree_bytes t) (forest_bytes f), tree-length t, forest-length f))

  mutual
    unfolding each every written

    pub each-written : (t : Tree L) → T (each K.ok t) → T (every K.ok (written t))
    each-written (node a f) h = let c = and_both (K.ok a) (each_f K.ok f) h in both-and (K.ok a) _ c.0 (each-written_f f c.1)

    each-written_f : (f : Forest L) → T (each_f K.ok f) → T (every K.ok (written_f f))
    each-written_f none h = tt
    each-written_f (more r t f) h =
        let c = and_both (leb r 31 && each K.ok t) (each_f K.ok f) h in
        every_append K.ok (written t) (written_f f) (each-written t (and_both (leb r 31) (each K.ok t) c.0).1) (each-written_f f c.1)

  -- ---- what stands at a spot of s before the end

  module _ (s : List ℕ) (end : ℕ) where
    pub record LabelAt (a : L) (w : Spot) : Type 0 where
      pub allowed : T (K.ok a)
      pub names : Stands s w.next (bytes 8 (K.names_of a))
      pub many : number s (w.next + 8) 1 ≡ K.how_many a
      pub rest : Stands s (w.next + 10) (K.own a)
      pub fits : Within end (past_label a w)

    pub record TreeAt (left : ℕ) (t : Tree L) (w : Spot) : Type 0 where
      pub allowed : T (each K.ok t)
      pub shallow : levels t ≤ left
      pub stands : Stands s w.next (tree_bytes t)
      pub fits : Within end (past t w)

    pub record ForestAt (left : ℕ) (f : Forest L) (w : Spot) : Type 0 where
      pub allowed : T (each_f K.ok f)
      pub shallow : levels_f f ≤ left
      pub stands : Stands s w.next (forest_bytes f)
      pub fits : Within end (past_f f w)

    -- a node is its label, the count of its children, and they
    pub record NodeAt (left : ℕ) (a : L) (f : Forest L) (w : Spot) : Type 0 where
      pub label : LabelAt a w
      pub counted : number s (w.next + 9) 1 ≡ count f
      pub below : ForestAt left f (past_label a w)

    pub record MoreAt (left r : ℕ) (t : Tree L) (f : Forest L) (w : Spot) : Type 0 where
      pub low : r ≤ 31
      pub role : number s w.next 1 ≡ r
      pub child : TreeAt left t (onward 1 w)
      pub others : ForestAt left f (past t (onward 1 w))

    -- what reading gives: what stands there, and the spot past it
    abbrev pub LabelRead : Spot → L × Spot → Type 0
    LabelRead w r = LabelAt r.0 w × (r.1 ≡ past_label r.0 w)

    abbrev pub TreeRead : ℕ → Spot → Tree L × Spot → Type 0
    TreeRead left w r = TreeAt left r.0 w × (r.1 ≡ past r.0 w)

    abbrev ForestRead : ℕ → ℕ → Spot → Forest L × Spot → Type 0
    ForestRead left k w r = ForestAt left r.0 w × (k ≡ count r.0) × (r.1 ≡ past_f r.0 w)

    before : (f : Forest L) (w : Spot) → Within end (past_f f w) → Within end w
    before f w h = record { reached = omega arith; few = omega arith; room = omega (arith, length-append w.parts (parts_of_f f w.nodes w.next)) }

    pub node-open : (left : ℕ) (a : L) (f : Forest L) (w : Spot) → TreeAt (suc left) (node a f) w → NodeAt left a f w
    unfolding each levels node_bytes bytes count
    node-open left a f w h =
        let p = w.next in
        let k = and_both (K.ok a) (each_f K.ok f) h.allowed in
        let l = subst (Within end) (sym (past-node a f w)) h.fits in
        let below : levels_f f ≤ left = omega (arith, h.shallow) in
        let three = stands-split s p (p + 10 + length (K.own a)) (fixed a (count f) ++ K.own a) (forest_bytes f) h.stands (omega arith) in
        let two = stands-split s p (p + 10) _ (K.own a) three.0 refl in
        let one = stands-split s p (p + 8) (bytes 8 (K.names_of a)) _ two.0 refl in
        let both = stands-split s (p + 8) (p + 9) (K.how_many a ∷ []) (count f ∷ []) one.1 (omega arith) in
        record {
          label = record { allowed = k.0; names = one.0; many = byte_of s (p + 8) _ both.0; rest = two.1; fits = before f (past_label a w) l };
          counted = byte_of s (p + 9) _ both.1;
          below = record { allowed = k.1; shallow = below; stands = three.1; fits = l };
        }

    node-close : (left : ℕ) (a : L) (f : Forest L) (w : Spot) → NodeAt left a f w → TreeAt (suc left) (node a f) w
    unfolding each levels node_bytes bytes count
    node-close left a f w h =
        let p = w.next in
        let at8 = byte-stands s (p + 8) _ h.label.many in
        let at9 = byte-stands s (p + 9) _ h.counted in
        let both = stands-join s (p + 8) (p + 9) (K.how_many a ∷ []) (count f ∷ []) at8 at9 (omega arith) in
        let one = stands-join s p (p + 8) (bytes 8 (K.names_of a)) _ h.label.names both refl in
        let two = stands-join s p (p + 10) _ (K.own a) one h.label.rest refl in
        record {
          allowed = both-and (K.ok a) (each_f K.ok f) h.label.allowed h.below.allowed;
          shallow = omega (arith, h.below.shallow);
          stands = stands-join s p (p + 10 + length (K.own a)) _ (forest_bytes f) two h.below.stands (omega arith);
          fits = subst (Within end) (past-node a f w) h.below.fits;
        }

    pub more-open : (left r : ℕ) (t : Tree L) (f : Forest L) (w : Spot) → ForestAt left (more r t f) w → MoreAt left r t f w
    unfolding each levels node_bytes bytes count
    more-open left r t f w h =
        let p = w.next in
        let k = and_both (leb r 31 && each K.ok t) (each_f K.ok f) h.allowed in
        let j = and_both (leb r 31) (each K.ok t) k.0 in
        let l = subst (Within end) (sym (past_more r t f w)) h.fits in
        let deep : max (levels t) (levels_f f) ≤ left = h.shallow in
        let two = stands-split s p (p + 1 + length (tree_bytes t)) (r ∷ tree_bytes t) (forest_bytes f) h.stands (omega arith) in
        let one = stands-split s p (p + 1) (r ∷ []) (tree_bytes t) two.0 refl in
        record {
          low = leb→le r 31 j.0;
          role = byte_of s p r one.0;
          child = record { allowed = j.1; shallow = omega arith; stands = one.1; fits = before f (past t (onward 1 w)) l };
          others = record { allowed = k.1; shallow = omega arith; stands = two.1; fits = l };
        }

    more-close : (left r : ℕ) (t : Tree L) (f : Forest L) (w : Spot) → MoreAt left r t f w → ForestAt left (more r t f) w
    unfolding each levels node_bytes bytes count
    more-close left r t f w h =
        let p = w.next in
        let one = stands-join s p (p + 1) (r ∷ []) (tree_bytes t) (byte-stands s p r h.role) h.child.stands refl in
        let here = both-and (leb r 31) (each K.ok t) (le→leb r 31 h.low) h.child.allowed in
        record {
          allowed = both-and (leb r 31 && each K.ok t) (each_f K.ok f) here h.others.allowed;
          shallow = omega (arith, h.child.shallow, h.others.shallow);
          stands = stands-join s p (p + 1 + length (tree_bytes t)) _ (forest_bytes f) one h.others.stands (omega arith);
          fits = subst (Within end) (past_more r t f w) h.others.fits;
        }

    none-at : (left : ℕ) (w : Spot) → Within end w → ForestAt left none w
    unfolding each levels node_bytes bytes count
    none-at left w h =
        record { allowed = tt; shallow = omega arith; stands = stands-none s w.next; fits = subst (Within end) (sym (past-none w)) h }

    -- ---- the bytes are bytes

    module _ (label-bytes : (a : L) (w : Spot) → LabelAt a w → (K.how_many a < 256) × Bytes (K.own a)) where
      mutual
        unfolding node_bytes bytes count levels

        pub tree-bytes : (t : Tree L) (left : ℕ) (w : Spot) → TreeAt left t w → Bytes (tree_bytes t)
        tree-bytes (node a f) zero w h = absurd (omega (arith, h.shallow))
        tree-bytes (node a f) (suc left) w h =
            let c = node-open left a f w h in
            let o = label-bytes a w c.label in
            let few = c.below.fits.few in
            let two = cons-bytes (K.how_many a) (count f ∷ []) o.0 (cons-bytes (count f) [] (omega (arith, count-nodes f)) none-bytes) in
            append-bytes (fixed a (count f) ++ K.own a) (forest_bytes f) (append-bytes (fixed a (count f)) (K.own a)
            (append-bytes (bytes 8 (K.names_of a)) (K.how_many a ∷ count f ∷ []) (bytes-bytes 8 (K.names_of a)) two) o.1)
            (forest-bytes f left (past_label a w) c.below)

        forest-bytes : (f : Forest L) (left : ℕ) (w : Spot) → ForestAt left f w → Bytes (forest_bytes f)
        forest-bytes none left w h = none-bytes
        forest-bytes (more r t f) left w h =
            let c = more-open left r t f w h in
            let low = c.low in
            append-bytes (r ∷ tree_bytes t) (forest_bytes f) (cons-bytes r (tree_bytes t) (omega arith) (tree-bytes t left (onward 1 w) c.child))
            (forest-bytes f left (past t (onward 1 w)) c.others)

    -- ---- reading

    module _ (label : Spot → Answer (L × Spot)) where
      module _ (label-read : (a : L) (w : Spot) → LabelAt a w → label w ≡ good (a, past_label a w)) where
        children-read : (left : ℕ) (child : Spot → Answer (Tree L × Spot))
            → ((t : Tree L) (w : Spot) → TreeAt left t w → child w ≡ good (t, past t w))
            → (f : Forest L) (w : Spot) → ForestAt left f w → read_children label s end child (count f) w ≡ good (f, past_f f w)
        unfolding read_children count
        children-read left child reads none w h = ap (λ (v : Spot). good (none, v)) (sym (past-none w))
        children-read left child reads (more r t f) w h =
            let c = more-open left r t f w h in
            let v = past t (onward 1 w) in
            let e = reads t (onward 1 w) c.child in
            let g = children-read left child reads f v c.others in
            let k : w.next + 1 ≤ end = omega (arith, c.child.fits.reached) in
            let l : ltb 31 (number s w.next 1) ≡ false = rw c.role (not-below 31 r c.low) in
            let n : count (more r t f) ≡ suc (count f) = omega arith in
            ap (λ (n : ℕ). read_children label s end child n w) n
            ∙ then_fit _ _ _ _ _ k (then-test _ _ _ l (then-take _ _ (t, v) e (then-take _ _ (f, past_f f v) g (rw (c.role, past_more r t f w)))))

        pub node-read : (left : ℕ) (t : Tree L) (w : Spot) → TreeAt left t w → read_node label s end left w ≡ good (t, past t w)
        unfolding read_node levels
        node-read zero (node a f) w h = absurd (omega (arith, h.shallow))
        node-read (suc left) (node a f) w h =
            let c = node-open left a f w h in
            let e = label-read a w c.label in
            let g = children-read left (λ z. read_node label s end left z) (λ t z. node-read left t z) f (past_label a w) c.below in
            let k : w.next + 10 ≤ end = omega (arith, c.label.fits.reached) in
            let l : leb most_nodes w.nodes ≡ false = not-below 63 w.nodes (omega (arith, c.label.fits.few)) in
            then_fit _ _ _ _ _ k (then-test _ _ _ l (then-take _ _ (a, past_label a w) e
            (then-take _ _ (f, past_f f (past_label a w)) (rw c.counted g) (ap (λ (v : Spot). good (node a f, v)) (past-node a f w)))))

      -- ---- and back

      module _ (label-back : (w : Spot) (r : L × Spot) → Within end (entered w) → label w ≡ good r → LabelRead w r) where
        children-back : (left : ℕ) (child : Spot → Answer (Tree L × Spot))
            → ((w : Spot) (r : Tree L × Spot) → Within end w → child w ≡ good r → TreeRead left w r)
            → (k : ℕ) (w : Spot) (r : Forest L × Spot) → Within end w → read_children label s end child k w ≡ good r → ForestRead left k w r
        unfolding read_children count
        children-back left child back zero w r h e = subst (ForestRead left 0 w) (good-inj e) (none-at left w h, refl, sym (past-none w))
        children-back left child back (suc k) w r h e =
            of-fit _ _ _ _ _ _ e (λ l e₁. of_test _ _ _ e₁ (λ b e₂. of-take _ _ e₂ (λ x ex e₃. of-take _ _ e₃ (λ y ey e₄.
            let c = back (onward 1 w) x (record { reached = l; few = h.few; room = h.room }) ex in
            let g = children-back left child back k (past x.0 (onward 1 w)) y c.0.fits (rw c.1 at ey) in
            let n = number s w.next 1 in
            let m = more-close left n x.0 y.0 w (record { low = le-of-not-below 31 n b; role = refl; child = c.0; others = g.0 }) in
            subst (ForestRead left (suc k) w) (good-inj e₄) (m, omega (arith, g.1), g.2 ∙ past_more n x.0 y.0 w)))))

        pub node-back : (left : ℕ) (w : Spot) (r : Tree L × Spot) → Within end w → read_node label s end left w ≡ good r → TreeRead left w r
        unfolding read_node levels
        node-back zero w r h e = absurd (not_good (fields-fitted requirement end 8 (1 ∷ 1 ∷ []) w.next _ e).1)
        node-back (suc left) w r h e =
            of-fit _ _ _ _ _ _ e (λ l e₁. of_test _ _ _ e₁ (λ b e₂. of-take _ _ e₂ (λ x ex e₃. of-take _ _ e₃ (λ y ey e₄.
            let few : suc w.nodes ≤ most_nodes = omega (arith, le-of-not-below 63 w.nodes b) in
            let c = label-back w x (record { reached = l; few = few; room = h.room }) ex in
            let k = number s (w.next + 9) 1 in
            let child : Spot → Answer (Tree L × Spot) = λ z. read_node label s end left z in
            let g = children-back left child (λ z q. node-back left z q) k (past_label x.0 w) y c.0.fits (rw c.1 at ey) in
            let m = node-close left x.0 y.0 w (record { label = c.0; counted = g.1; below = g.0 }) in
            subst (TreeRead (suc left) w) (good-inj e₄) (m, g.2 ∙ past-node x.0 y.0 w)))))
