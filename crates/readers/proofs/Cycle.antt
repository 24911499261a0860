-- One turn of the cycle: what a reader leaves, from what those that it calls left.
-- Assumes nothing.
use mathlib.Core.Path.{◌≡◌, refl, sym, ap, ◌∙◌, subst}
use mathlib.Core.Bool.{Bool, true}
use mathlib.Core.List.{List, [], ◌∷◌, ◌++◌}
use mathlib.Core.Option.{some}
use Prim.Native.Nat.{ℕ, suc, ◌+◌, ◌*◌, ◌-◌, ◌≤◌, ◌<◌}
use native.Mathlib.Nat.{le_refl}
use native.Mathlib.Omega.{arith}
use lib.ListN.{length, get_or, set, length-append}
use Rattle.meaning.specs.declared.Side.TheVariants.{Requirement as requirement}
use Rattle.std.specs.Prelude.{Result, Ok, Err}
use Rattle.meaning.specs.declared.Fault.{Fault}
use Rattle.meaning.specs.declared.Rule.TheVariants.{LeftOver, TooLarge}
use Rattle.meaning.specs.Refusal.{Answer, good, refused, at}
use Rattle.meaning.specs.Rules.{refusal_on}
use Rattle.meaning.specs.Bytes.{number}
use Rattle.meaning.specs.Tree.{node, Forest, none, more, Concept}
use Rattle.meaning.specs.Requirement.{Threshold}
use Rattle.meaning.specs.Message.{Part, Spot, read_threshold, read_thresholds}
use Rattle.meaning.specs.Rows.{Holds}
use Rattle.meaning.specs.Reduce.{reduce, size}
use Rattle.readers.specs.declared.Reached.{Reached}
use Rattle.rows.specs.Packed.{names_in, roles_in, ends_in}
use Rattle.readers.specs.Reading.{spot, whole_inner, Start, PartsHeld, reached, node_in, children_in, ReadGood, Outcome}
use Rattle.readers.specs.Reading.{NodeHeld, NodeDone, ForestHeld, ChildrenDone, PartsGood, PartsOutcome, ThresholdsDone, ThresholdDone, InnerOutcome, InnerDone}
use Rattle.fixed.specs.Fixed.{NodeOpen, EdgeOpen, ThresholdOpen}
use Rattle.reduction.specs.Held.{Held, ForTree}
use Rattle.readers.proofs.Outcomes.{fault, not-fault, not-both, outcome-refused, outcome-good, is-refused, is-good, parts-refused, parts-good, parts-is-refused, parts-is-good}
use Rattle.readers.proofs.Places.{set-above, kept_trans, no-parts, parts_below, parts_more, some-parts}
use Rattle.readers.proofs.Holding.{tree-ends, forest-held, node-held, node_kept}
use Rattle.fixed.proofs.Nodes.{node-thresholds, node-children, node-good, children-none, child-refused, rest-refused, rest-good}
use Rattle.fixed.proofs.Thresholds.{thresholds-none, first-refused, others-refused, others-good, threshold-good, threshold-inner, inner-refused, inner-left, inner-large, inner-good}

-- a spot is its three parts
same_spot : (v : Spot) (i j : ℕ) → v.next ≡ i → v.nodes ≡ j → v ≡ spot i j v.parts
same_spot v i j e d = λ k. record { next = e k; nodes = d k; parts = v.parts }

-- ---- children

pub children-empty : (inner : Bool) (s : List ℕ) (end left k p n parts : ℕ) (A : List ℕ) → k ≡ 0 → Start s end p n parts A
    → ChildrenDone inner s end left k p n parts A A (reached p n parts)
unfolding Holds
children-empty inner s end left k p n parts A e b ps l h =
    is-good _ end p n A A _ _ none (spot p n ps) (children-none inner s end p n ps left k e) (record {
      answer = ap (reached p n) (sym l);
      further = record { on = le_refl p; before = b.here.before; more = le_refl n; few = b.few; room = omega (arith, b.room) };
      held = refl;
      kept = record { names = λ i d. refl; edges = λ i d. refl };
      parted = h;
    })

module _ (inner : Bool) (s : List ℕ) (end left k p n parts role : ℕ) (A B : List ℕ) (r : Result Reached Fault) (some' : 0 < k) (o : EdgeOpen s end p role)
    (done : NodeDone inner s end left role (p + 1) n parts A B r) where
  low : number s p 1 ≤ 31
  low = omega (arith, o.is, o.small)

  pub child-stops : (f : Fault) (C : List ℕ) → r ≡ Err f → ChildrenDone inner s end left k p n parts A C (Err f)
  child-stops f C e ps l h =
      is-refused _ end p n A C _ f
      (child-refused inner s end p n ps left k some' o.fits low _ (outcome-refused _ end (p + 1) n A B _ r f (done ps l h) e))

  module _ (i j m : ℕ) (e : r ≡ reached i j m) where
    -- where the others begin
    pub child-here : (p < i) × (i ≤ end) × (j ≤ 64) × (m ≤ 16)
    child-here =
        let q = some-parts A parts in
        let x = outcome-good (NodeHeld B left role n) end (p + 1) n A B (node_in inner s end left (spot (p + 1) n q.0)) r i j m (done q.0 q.1 q.2) e in
        let f = x.2.further in
        (omega (arith, f.on, x.3), omega (arith, f.before, x.3), omega (arith, f.few, x.4), omega (arith, f.room, x.5))

    pub children-then : (C : List ℕ) (r' : Result Reached Fault) → ChildrenDone inner s end left (k - 1) i j m B C r' → ChildrenDone inner s end left k p n parts A C r'
    children-then C r' rest ps l h =
        go (children_in inner s end left (k - 1) x.0.1) refl
        (subst (λ (v : Spot). Outcome (ForestHeld C left j) end i j B C (children_in inner s end left (k - 1) v) r') (sym here) (rest x.0.1.parts x.5 x.2.parted))
      where
        x : (x : Concept × Spot) × (node_in inner s end left (spot (p + 1) n ps) ≡ good x) × ReadGood (NodeHeld B left role n) end (p + 1) n A B x.0 x.1 r
            × (x.1.next ≡ i) × (x.1.nodes ≡ j) × (length x.1.parts ≡ m)
        x = outcome-good _ end (p + 1) n A B _ r i j m (done ps l h) e

        here : x.0.1 ≡ spot i j x.0.1.parts
        here = same_spot x.0.1 i j x.3 x.4

        go : (a : Answer (Forest ℕ × Spot)) → children_in inner s end left (k - 1) x.0.1 ≡ a → Outcome (ForestHeld C left j) end i j B C a r'
            → Outcome (ForestHeld C left n) end p n A C (children_in inner s end left k (spot p n ps)) r'
        go (refused f) d o' =
            subst (λ z. Outcome (ForestHeld C left n) end p n A C z r') (sym (rest-refused inner s end p n ps left k some' o.fits low x.0 x.1 f d)) o'
        go (good y) d o' =
            let f = x.2.further in
            let g = o'.further in
            let few : j ≤ 64 = omega (arith, f.few, x.4) in
            let held = subst (λ (z : ℕ). NodeHeld B left role n x.0.0 z) x.4 x.2.held in
            let held' = forest-held B C left role n j y.1.nodes x.0.0 y.0 few held o'.kept o'.held g.more in
            is-good _ end p n A C _ r' (more (number s p 1) x.0.0 y.0) y.1 (rest-good inner s end p n ps left k some' o.fits low x.0 x.1 y d) (record {
              answer = o'.answer;
              further = record {
                on = omega (arith, f.on, x.3, g.on);
                before = g.before;
                more = omega (arith, f.more, x.4, g.more);
                few = g.few;
                room = g.room;
              };
              held = subst (λ (z : ℕ). ForestHeld C left n (more z x.0.0 y.0) y.1.nodes) o.is held';
              kept = kept_trans n j A B C (omega (arith, f.more, x.4)) x.2.kept o'.kept;
              parted = o'.parted;
            })

-- ---- a node

module _ (inner : Bool) (s : List ℕ) (end left role p n parts a count kids : ℕ) (A Q : List ℕ) (r : Result Reached Fault) (b : Start s end p n parts A)
    (o : NodeOpen inner s end left p n a count kids) (given : ThresholdsDone s end n count (p + 10) (n + 1) parts (set A n a) Q r) where
  done : ThresholdsDone s end n (number s (p + 8) 1) (p + 10) (n + 1) parts (set A n a) Q r
  done = subst (λ (k : ℕ). ThresholdsDone s end n k (p + 10) (n + 1) parts (set A n a) Q r) o.thresholds given

  here : (ps : List Part) → length ps ≡ parts → PartsHeld A ps → PartsHeld (set A n a) ps
  here ps l h = parts_below A n a ps (omega (arith, o.room)) (omega (arith, b.room)) h

  -- the node's own place among the nodes, as meaning counts it
  counted : (ps : List Part) → length ps ≡ parts → PartsHeld A ps → PartsOutcome end (p + 10) (suc n) (set A n a) Q (read_thresholds s end n (number s (p + 8) 1) (spot (p + 10) (suc n) ps)) r
  counted ps l h =
      let e : n + 1 ≡ suc n = omega arith in
      subst (λ (k : ℕ). PartsOutcome end (p + 10) k (set A n a) Q (read_thresholds s end n (number s (p + 8) 1) (spot (p + 10) k ps)) r) e (done ps l (here ps l h))

  pub node-stops : (f : Fault) (C : List ℕ) → r ≡ Err f → NodeDone inner s end left role p n parts A C (Err f)
  node-stops f C e ps l h =
      is-refused _ end p n A C _ f
      (node-thresholds inner s end p n ps o.fits o.room o.free left _ o.deep
      (parts-refused end (p + 10) (suc n) (set A n a) Q _ r f (counted ps l h) e))

  module _ (i z m : ℕ) (e : r ≡ reached i z m) where
    abbrev taken' : List Part → Type 0
    taken' ps = (x : List Threshold × Spot) × (read_thresholds s end n (number s (p + 8) 1) (spot (p + 10) (suc n) ps) ≡ good x)
        × PartsGood end (p + 10) (suc n) (set A n a) Q x.1 r × (x.1.next ≡ i) × (x.1.nodes ≡ z) × (length x.1.parts ≡ m)

    thresholds-taken : (ps : List Part) → length ps ≡ parts → PartsHeld A ps → taken' ps
    thresholds-taken ps l h = parts-good end (p + 10) (suc n) (set A n a) Q _ r i z m (counted ps l h) e

    pub children-here : (p + 10 ≤ i) × (i ≤ end) × (z ≡ n + 1) × (m ≤ 16)
    children-here =
        let q = some-parts A parts in
        let x = thresholds-taken q.0 q.1 q.2 in
        (omega (arith, x.2.on, x.3), omega (arith, x.2.before, x.3), omega (arith, x.2.same, x.4), omega (arith, x.2.room, x.5))

    module _ (C : List ℕ) (r' : Result Reached Fault) (rest : ChildrenDone inner s end (left - 1) kids i z m Q C r') where
      abbrev kids' : Spot → Answer (Forest ℕ × Spot)
      kids' v = children_in inner s end (left - 1) (number s (p + 9) 1) v

      abbrev Held' : Forest ℕ → ℕ → Type 0
      Held' = ForestHeld C (left - 1) (n + 1)

      -- the children from where the thresholds ended
      children-of : (ps : List Part) (x : taken' ps) → Outcome Held' end i (n + 1) Q C (kids' x.0.1) r'
      children-of ps x =
          let nodes : x.0.1.nodes ≡ n + 1 = x.2.same ∙ omega arith in
          let spots = same_spot x.0.1 i (n + 1) x.3 nodes in
          subst (λ (v : Spot). Outcome Held' end i (n + 1) Q C (kids' v) r') (sym spots)
          (subst (λ (k : ℕ). Outcome Held' end i (n + 1) Q C (children_in inner s end (left - 1) k (spot i (n + 1) x.0.1.parts)) r') o.children
          (subst (λ (k : ℕ). ChildrenDone inner s end (left - 1) kids i k m Q C r') children-here.2 rest x.0.1.parts x.5 x.2.parted))

      pub children-stop : (f : Fault) (D : List ℕ) → r' ≡ Err f → NodeDone inner s end left role p n parts A D (Err f)
      children-stop f D d ps l h =
          let x = thresholds-taken ps l h in
          is-refused _ end p n A D _ f
          (node-children inner s end p n ps o.fits o.room o.free left o.deep x.0 x.1 _
          (outcome-refused Held' end i (n + 1) Q C (kids' x.0.1) r' f (children-of ps x) d))

      module _ (i' j' m' : ℕ) (d : r' ≡ reached i' j' m') where
        abbrev read' : Spot → Type 0
        read' w = (y : Forest ℕ × Spot) × (kids' w ≡ good y) × ReadGood Held' end i (n + 1) Q C y.0 y.1 r'
            × (y.1.next ≡ i') × (y.1.nodes ≡ j') × (length y.1.parts ≡ m')

        children-taken : (ps : List Part) (x : taken' ps) → read' x.0.1
        children-taken ps x = outcome-good Held' end i (n + 1) Q C (kids' x.0.1) r' i' j' m' (children-of ps x) d

        -- how far the children reach
        pub children-end : (n + 1 ≤ j') × (j' ≤ 64)
        children-end =
            let q = some-parts A parts in
            let y = children-taken q.0 (thresholds-taken q.0 q.1 q.2) in
            (subst (λ (k : ℕ). n + 1 ≤ k) y.4 y.2.further.more, subst (λ (k : ℕ). k ≤ 64) y.4 y.2.further.few)

        node-packed : role < 256 → 144 ≤ length C → NodeDone inner s end left role p n parts A (set C (64 + n) (role + 256 * j')) (reached i' j' m')
        node-packed low long ps l h =
            let x = thresholds-taken ps l h in
            let y = children-taken ps x in
            let g = y.2.further in
            let D = set C (64 + n) (role + 256 * j') in
            let more' : n + 1 ≤ j' = children-end.0 in
            let few : j' ≤ 64 = children-end.1 in
            let held = subst (λ (k : ℕ). ForestHeld C (left - 1) (n + 1) y.0.0 k) y.4 y.2.held in
            let tree = node-held A Q C n a role j' o.room low few b.long long x.2.kept y.2.kept left y.0.0 o.deep more' held in
            is-good (NodeHeld D left role n) end p n A D _ _ (node (number s p 8) y.0.0) y.0.1
            (node-good inner s end p n ps o.fits o.room o.free left o.deep x.0 x.1 y.0 y.1) (record {
              answer = sym d ∙ y.2.answer;
              further = record {
                on = omega (arith, x.2.on, x.3, g.on);
                before = g.before;
                more = omega (arith, g.more);
                few = g.few;
                room = g.room;
              };
              held = subst (λ (k : ℕ). NodeHeld D left role n (node (number s p 8) y.0.0) k) (sym y.4)
                  (subst (λ (z : ℕ). NodeHeld D left role n (node z y.0.0) j') o.names tree);
              kept = node_kept A Q C n a role j' o.room low few b.long long x.2.kept y.2.kept;
              parted = parts_below C (64 + n) (role + 256 * j') y.0.1.parts (omega (arith, o.room)) g.room y.2.parted;
            })

        pub node-then : (v : ℕ) → v ≡ role + 256 * j' → role < 256 → 144 ≤ length C → NodeDone inner s end left role p n parts A (set C (64 + n) v) (reached i' j' m')
        node-then v stored low long =
            subst (λ (w : ℕ). NodeDone inner s end left role p n parts A (set C (64 + n) w) (reached i' j' m')) (sym stored) (node-packed low long)

-- ---- thresholds

module _ (s : List ℕ) (end owner k p n parts : ℕ) (A : List ℕ) where
  pub thresholds-empty : k ≡ 0 → Start s end p owner parts A → ThresholdsDone s end owner k p n parts A A (reached p n parts)
  thresholds-empty e b ps l h =
      parts-is-good end p n A A _ _ [] (spot p n ps) (thresholds-none s end owner (spot p n ps) k e) (record {
        answer = ap (reached p n) (sym l);
        on = le_refl p;
        before = b.here.before;
        room = omega (arith, b.room);
        same = refl;
        kept = λ i u. refl;
        parted = h;
      })

  module _ (B : List ℕ) (r : Result Reached Fault) (some' : 0 < k) (done : ThresholdDone s end owner p n parts A B r) where
    pub first_stops : (f : Fault) (C : List ℕ) → r ≡ Err f → ThresholdsDone s end owner k p n parts A C (Err f)
    first_stops f C e ps l h =
        parts-is-refused end p n A C _ f
        (first-refused s end owner (spot p n ps) k some' _ (parts-refused end (p + 7) n A B _ r f (done ps l h) e))

    module _ (i z m : ℕ) (e : r ≡ reached i z m) where
      pub others-here : (p < i) × (i ≤ end) × (z ≡ n) × (m ≤ 16)
      others-here =
          let q = some-parts A parts in
          let x = parts-good end (p + 7) n A B (read_threshold s end owner (spot p n q.0)) r i z m (done q.0 q.1 q.2) e in
          (omega (arith, x.2.on, x.3), omega (arith, x.2.before, x.3), omega (arith, x.2.same, x.4), omega (arith, x.2.room, x.5))

      pub thresholds-then : (C : List ℕ) (r' : Result Reached Fault) → ThresholdsDone s end owner (k - 1) i z m B C r' → ThresholdsDone s end owner k p n parts A C r'
      thresholds-then C r' rest ps l h =
          go (read_thresholds s end owner (k - 1) x.0.1) refl
          (subst (λ (v : Spot). PartsOutcome end i n B C (read_thresholds s end owner (k - 1) v) r') (sym (same_spot x.0.1 i n x.3 x.2.same))
          (subst (λ (w : ℕ). ThresholdsDone s end owner (k - 1) i w m B C r') others-here.2 rest x.0.1.parts x.5 x.2.parted))
        where
          x : (x : Threshold × Spot) × (read_threshold s end owner (spot p n ps) ≡ good x) × PartsGood end (p + 7) n A B x.1 r
              × (x.1.next ≡ i) × (x.1.nodes ≡ z) × (length x.1.parts ≡ m)
          x = parts-good end (p + 7) n A B _ r i z m (done ps l h) e

          go : (a : Answer (List Threshold × Spot)) → read_thresholds s end owner (k - 1) x.0.1 ≡ a → PartsOutcome end i n B C a r'
              → PartsOutcome end p n A C (read_thresholds s end owner k (spot p n ps)) r'
          go (refused f) d o = subst (λ y. PartsOutcome end p n A C y r') (sym (others-refused s end owner (spot p n ps) k some' x.0 x.1 f d)) o
          go (good y) d o =
              parts-is-good end p n A C _ r' (x.0.0 ∷ y.0) y.1 (others-good s end owner (spot p n ps) k some' x.0 x.1 y d) (record {
                answer = o.answer;
                on = omega (arith, x.2.on, x.3, o.on);
                before = o.before;
                room = o.room;
                same = o.same;
                kept = λ u b. o.kept u b ∙ x.2.kept u b;
                parted = o.parted;
              })

-- ---- one threshold, from its inner concept

inner-refused-of : (a : Answer (Concept × Spot)) (r : Result (Unit {0}) Fault) (f : Fault) → InnerOutcome a r → r ≡ Err f → a ≡ refused (refusal_on requirement f)
inner-refused-of (good x) r f h e = absurd (not-both r _ f h e)
inner-refused-of (refused g) r f h e = ap refused (fault r g f h e)

inner-good-of : (a : Answer (Concept × Spot)) (r : Result (Unit {0}) Fault) (u : Unit {0}) → InnerOutcome a r → r ≡ Ok u → (x : Concept × Spot) × (a ≡ good x)
inner-good-of (good x) r u h e = (x, refl)
inner-good-of (refused f) r u h e = absurd (not-fault r f _ h e)

module _ (s : List ℕ) (end owner p n parts stop : ℕ) (A : List ℕ) (r : Result (Unit {0}) Fault) (b : Start s end p owner parts A) (o : ThresholdOpen s end p parts stop)
    (given : InnerDone s stop (p + 7) r) where
  abbrev len : ℕ
  len = number s (p + 5) 2

  inside : p + 7 + len ≤ end
  inside = omega (arith, o.stops, o.inside)

  read : InnerDone s (p + 7 + len) (p + 7) r
  read = subst (λ (k : ℕ). InnerDone s k (p + 7) r) o.stops given

  pub inner-stops : (f : Fault) (B : List ℕ) → r ≡ Err f → ThresholdDone s end owner p n parts A B (Err f)
  inner-stops f B e ps l h =
      parts-is-refused end (p + 7) n A B _ f
      (threshold-inner s end owner p n ps (omega (arith, o.room)) (omega (arith, o.fits)) o.ruled o.fits inside _ (inner-refused-of _ r f read e))

  threshold-packed : (u : Unit {0}) → r ≡ Ok u → ThresholdDone s end owner p n parts A (set A (128 + parts) (owner + 256 * p)) (reached stop n (parts + 1))
  threshold-packed u e ps l h =
      let x : (x : Concept × Spot) × (whole_inner s (p + 7 + len) (p + 7) ≡ good x) = inner-good-of _ r u read e in
      let y : Part = record { owner = owner; first = p; len = len } in
      let more' = length-append ps (y ∷ []) in
      let v = owner + 256 * p in
      let B = set A (128 + parts) v in
      let small : length ps < 16 = omega (arith, o.room) in
      let held = parts_more A ps y small b.long (omega (arith, b.few)) (omega (arith, o.fits, b.here.short)) h in
      parts-is-good end (p + 7) n A B _ (reached stop n (parts + 1)) _ (spot (p + 7 + len) n (ps ++ (y ∷ [])))
      (threshold-good s end owner p n ps small (omega (arith, o.fits)) o.ruled o.fits inside x.0 x.1) (record {
        answer = let u : parts + 1 ≡ length (ps ++ (y ∷ [])) = omega arith in ap (λ (k : ℕ). reached k n (parts + 1)) o.stops ∙ ap (reached (p + 7 + len) n) u;
        on = omega arith;
        before = inside;
        room = omega arith;
        same = refl;
        kept = λ k u. set-above A (128 + parts) k v (omega arith);
        parted = subst (λ (k : ℕ). PartsHeld (set A (128 + k) v) (ps ++ (y ∷ []))) l held;
      })

  pub threshold-then : (v : ℕ) → v ≡ owner + 256 * p → (u : Unit {0}) → r ≡ Ok u
      → ThresholdDone s end owner p n parts A (set A (128 + parts) v) (reached stop n (parts + 1))
  threshold-then v stored u e =
      subst (λ (w : ℕ). ThresholdDone s end owner p n parts A (set A (128 + parts) w) (reached stop n (parts + 1))) (sym stored) (threshold-packed u e)

-- ---- an inner concept in rows of its own

module _ (s : List ℕ) (end p : ℕ) (A B : List ℕ) (r : Result Reached Fault) (done : NodeDone true s end 17 0 p 0 0 A B r) where
  abbrev answer : Answer (Concept × Spot)
  answer = node_in true s end 17 (spot p 0 [])

  abbrev first : Outcome (NodeHeld B 17 0 0) end p 0 A B answer r
  first = done [] refl (no-parts A)

  pub inner_first : (f : Fault) → r ≡ Err f → InnerDone s end p (Err f)
  inner_first f e =
      subst (λ a. InnerOutcome a (Err f)) (sym (inner-refused s end p _ (outcome-refused (NodeHeld B 17 0 0) end p 0 A B answer r f first e))) refl

  module _ (i j m : ℕ) (e : r ≡ reached i j m) where
    x : (x : Concept × Spot) × (answer ≡ good x) × ReadGood (NodeHeld B 17 0 0) end p 0 A B x.0 x.1 r
        × (x.1.next ≡ i) × (x.1.nodes ≡ j) × (length x.1.parts ≡ m)
    x = outcome-good (NodeHeld B 17 0 0) end p 0 A B answer r i j m first e

    pub inner-short : i < end → InnerDone s end p (Err (record { rule = LeftOver; place = i }))
    inner-short h =
        subst (λ a. InnerOutcome a (Err (record { rule = LeftOver; place = i }))) (sym (inner-left s end p x.0 x.1 (omega (arith, x.3))))
        (ap (λ (k : ℕ). some (at requirement 8 k)) (sym x.3))

    -- the tree stands from row 0 up to the end of row 0
    last : get_or (ends_in B) 0 0 ≡ x.0.1.nodes
    last = tree-ends B 17 0 x.0.1.nodes x.0.0 x.2.held.tree

    whole-tree : Holds (names_in B) (roles_in B) (ends_in B) x.0.0 17 0 (get_or (ends_in B) 0 0)
    whole-tree = subst (λ (k : ℕ). Holds (names_in B) (roles_in B) (ends_in B) x.0.0 17 0 k) (sym last) x.2.held.tree

    pub inner-rows : Held (names_in B) (roles_in B) (ends_in B) 17 0
    inner-rows = record { tree = x.0.0; holds = whole-tree; fits = omega (arith, last, x.2.further.few) }

    module _ (all : end ≤ i) (size' : ℕ) (sized : ForTree (names_in B) (roles_in B) (ends_in B) 17 0 (λ t. size' ≡ size (reduce t))) where
      here-sized : size' ≡ size (reduce x.0.0)
      here-sized = sized x.0.0 whole-tree

      pub inner-big : 60 < size' → InnerDone s end p (Err (record { rule = TooLarge; place = p }))
      inner-big h =
          subst (λ a. InnerOutcome a (Err (record { rule = TooLarge; place = p }))) (sym (inner-large s end p x.0 x.1 (omega (arith, x.3)) (omega (arith, here-sized)))) refl

      pub inner-whole : size' ≤ 60 → InnerDone s end p (Ok tt)
      inner-whole h =
          subst (λ a. InnerOutcome a (Ok tt)) (sym (inner-good s end p x.0 x.1 (omega (arith, x.3)) (omega (arith, here-sized)))) refl
