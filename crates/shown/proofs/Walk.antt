-- Walking over a node's children with the map: what is drawn and what is left make up what is shown. A kept child goes where the notes say.
-- Assumes nothing.
use mathlib.Core.Path.{◌≡◌, refl, sym, ap, subst, ◌∙◌, fun_ext}
use mathlib.Core.Bool.{true, false}
use mathlib.Core.List.{List, [], ◌∷◌, ◌++◌, map, map-append, Memᴰ}
use mathlib.Core.Option.{Option as Place, some}
use Rattle.std.specs.Prelude.{Option, Some, None, MatchOption, unwrap_or}
use Prim.Native.Nat.{ℕ, zero, suc, ◌+◌, ◌-◌, ◌≤◌, ◌<◌}
use native.Mathlib.Nat.{le_trans}
use native.Mathlib.Numerals.{add-one}
use native.Mathlib.Omega.{arith}
use lib.ListN.{length, get_or, set, replicate, length-map, length-replicate}
use lib.Seq.{sets, length-sets}
use Rattle.meaning.specs.Tree.{node, Forest, none, more, Concept, children, under, nodes}
use Rattle.meaning.specs.Graph.{Graph}
use Rattle.meaning.specs.Register.{Register}
use Rattle.graph.specs.Walked.{walked}
use Rattle.meaning.specs.Reduce.{dropped, reduce, reduce_f}
use Rattle.meaning.specs.InPlace.{degree_in}
use Rattle.meaning.specs.Shown.{pick, Mark, out, goes_to, shown, shown_f, mark_number}
use Rattle.meaning.specs.Rows.{Holds, HoldsF, mark, Marked, MarkedF}
use Rattle.meaning.proofs.Best.{pick_some}
use Rattle.meaning.proofs.InPlace.{degree-in}
use Rattle.meaning.proofs.Written.{dropped-written}
use Rattle.meaning.proofs.Stores.{sets-append}
use Rattle.meaning.proofs.Kept.{shown-length}
use Rattle.meaning.proofs.Rows.{opened, first, ran_out, holds-nodes}
use Rattle.graph.proofs.Use.{next-inside}
use Rattle.degrees.specs.Notes.{Note, Noted, NotedF}
use Rattle.degrees.proofs.Folding.{mark-zero, mark-other}
use Rattle.graph.specs.declared.Indexed.{Indexed}
use Rattle.register.proofs.Holding.{held-is}
use Rattle.rows.specs.declared.Reduced.{Reduced}
use Rattle.rows.specs.Rising.{Rising}
use Rattle.rows.proofs.Rising.{rising}
use Rattle.shown.specs.Given.{place, Inside, Onward, drawn, Drawing}

-- ---- stores one after the other

sets-marks : (m : List ℕ) (i j : ℕ) (xs ys : List (Mark ℕ)) → j ≡ i + length xs
    → sets m i (map mark_number (xs ++ ys)) ≡ sets (sets m i (map mark_number xs)) j (map mark_number ys)
sets-marks m i j xs ys e =
    ap (sets m i) (map-append mark_number xs ys)
    ∙ sets-append m i j (map mark_number xs) (map mark_number ys) (e ∙ ap (λ (z : ℕ). i + z) (sym (length-map xs mark_number)))

-- ---- where a child goes

pub goes_some : (G : Graph ℕ) (x r : ℕ) (t : Concept) → goes_to G (some x) r t ≡ pick (λ y. degree_in G t y) (G.next x r)
unfolding goes_to
goes_some G x r t = ap (λ (v : ℕ → ℕ). pick v (G.next x r)) (fun_ext (λ y. degree-in G t y))

-- ---- the walk

outs : (n : ℕ) → map mark_number (replicate n out) ≡ replicate n 65534
outs zero = refl
outs (suc n) = ap {B = List ℕ} (λ z. 65534 ∷ z) (outs n)

module _ (names roles ends marks : List ℕ) (g : Register) (notes : List ℕ) (left e : ℕ) (o : Place ℕ) (final : List ℕ) where
  -- the children from row c on are left
  pub record Drawn (c : ℕ) (m : List ℕ) : Type 0 where
    pub rest : Forest ℕ
    pub before : Forest ℕ
    pub held : HoldsF names roles ends rest left c e
    pub marked : MarkedF ends marks rest before c
    pub noted : (x : ℕ) → o ≡ some x → NotedF ends marks g notes rest c x
    pub same : sets m c (map mark_number (shown_f (walked g) rest before o)) ≡ final

  -- the child at row c, which is kept
  pub record Child (c : ℕ) (m : List ℕ) : Type 0 where
    pub tree : Concept
    pub held : Holds names roles ends tree left c (get_or ends c 0)
    pub marked : Marked ends marks tree c
    pub noted : (x : ℕ) → o ≡ some x → Note g notes c x (pick (λ y. degree_in (walked g) tree y) ((walked g).next x (get_or roles c 0)))
        × ((y : ℕ) → Memᴰ y ((walked g).next x (get_or roles c 0)) → Noted ends marks g notes tree c y)
    pub then : (j : ℕ) → j ≡ get_or ends c 0 → Drawn j (sets m c (map mark_number (shown (walked g) tree (goes_to (walked g) o (get_or roles c 0) tree))))

noted-next : (r : ℕ) (t : Concept) (f : Forest ℕ) (ends marks : List ℕ) (g : Register) (notes : List ℕ) (c x : ℕ) → NotedF ends marks g notes (more r t f) c x
    → ((get_or marks c 0 ≡ 0 → ⊥) → Note g notes c x (pick (λ y. degree_in (walked g) t y) ((walked g).next x r))
    × ((y : ℕ) → Memᴰ y ((walked g).next x r) → Noted ends marks g notes t c y))
    × NotedF ends marks g notes f (get_or ends c 0) x
unfolding Noted
noted-next r t f ends marks g notes c x n = n

module _ {names roles ends marks : List ℕ} {g : Register} {notes : List ℕ} {left e : ℕ} {o : Place ℕ} {final : List ℕ} {c : ℕ} {m : List ℕ}
    (w : Drawn names roles ends marks g notes left e o final c m) where
  pub drawn-next : c < e → (c < get_or ends c 0) × (get_or ends c 0 ≤ e)
  drawn-next l = let q = first names roles ends w.rest left c e w.held l in (q.inside, q.within)

  -- the same with a map that is equal
  pub drawn-is : {n : List ℕ} → n ≡ m → Drawn names roles ends marks g notes left e o final c n
  drawn-is q = subst (λ (z : List ℕ). Drawn names roles ends marks g notes left e o final c z) (sym q) w

  pub drawn-skip : c < e → get_or marks c 0 ≡ 0 → (j : ℕ) → j ≡ get_or ends c 0 → Drawn names roles ends marks g notes left e o final j (sets m c (replicate (j - c) 65534))
  unfolding Holds Marked shown
  drawn-skip l z j ej = go w.rest w.before w.held w.marked w.noted w.same
    where
      go : (f b : Forest ℕ) → HoldsF names roles ends f left c e → MarkedF ends marks f b c → ((x : ℕ) → o ≡ some x → NotedF ends marks g notes f c x)
          → sets m c (map mark_number (shown_f (walked g) f b o)) ≡ final → Drawn names roles ends marks g notes left e o final j (sets m c (replicate (j - c) 65534))
      go none b h k s q = absurd (let y : c ≡ e = h in omega arith)
      go (more r u f) b h k s q =
          let d : dropped (under r b) u (under r f) ≡ true = mark-zero _ (sym k.0 ∙ z) in
          let d' : dropped (under r (reduce_f b)) (reduce u) (under r (reduce_f f)) ≡ true = dropped-written r b u f ∙ d in
          let rows : c + nodes u ≡ get_or ends c 0 = holds-nodes names roles ends u left c (get_or ends c 0) h.2 in
          let size : nodes u ≡ j - c = omega arith in
          let past : sets m c (map mark_number (replicate (nodes u) out ++ shown_f (walked g) f (more r u b) o)) ≡ final = rw d' at q in
          record {
            rest = f;
            before = more r u b;
            held = rw ej h.3;
            marked = rw ej k.2;
            noted = λ x q. rw ej (noted-next r u f ends marks g notes c x (s x q)).1;
            same =
                ap (λ (z : List ℕ). sets (sets m c z) j (map mark_number (shown_f (walked g) f (more r u b) o))) (sym (outs (nodes u) ∙ ap (λ (z : ℕ). replicate z 65534) size))
                ∙ sym (sets-marks m c j (replicate (nodes u) out) (shown_f (walked g) f (more r u b) o) (omega (arith, length-replicate {A = Mark ℕ} (nodes u) out)))
                ∙ past;
          }

  pub drawn-child : c < e → (get_or marks c 0 ≡ 0 → ⊥) → Child names roles ends marks g notes left e o final c m
  unfolding Holds Marked shown
  drawn-child l z = go w.rest w.before w.held w.marked w.noted w.same
    where
      go : (f b : Forest ℕ) → HoldsF names roles ends f left c e → MarkedF ends marks f b c → ((x : ℕ) → o ≡ some x → NotedF ends marks g notes f c x)
          → sets m c (map mark_number (shown_f (walked g) f b o)) ≡ final → Child names roles ends marks g notes left e o final c m
      go none b h k s q = absurd (let y : c ≡ e = h in omega arith)
      go (more r u f) b h k s q =
          let d : dropped (under r b) u (under r f) ≡ false = mark-other _ (λ y. z (k.0 ∙ y)) in
          let d' : dropped (under r (reduce_f b)) (reduce u) (under r (reduce_f f)) ≡ false = dropped-written r b u f ∙ d in
          let past : sets m c (map mark_number (shown (walked g) u (goes_to (walked g) o r u) ++ shown_f (walked g) f (more r u b) o)) ≡ final = rw d' at q in
          record {
            tree = u;
            held = h.2;
            marked = k.1 (k.0 ∙ ap mark d);
            noted = λ x q. rw h.0 ((noted-next r u f ends marks g notes c x (s x q)).0 z);
            then = λ j ej. record {
              rest = f;
              before = more r u b;
              held = rw ej h.3;
              marked = rw ej k.2;
              noted = λ x q. rw ej (noted-next r u f ends marks g notes c x (s x q)).1;
              same = rw h.0 (sym (sets-marks m c j (shown (walked g) u (goes_to (walked g) o r u)) (shown_f (walked g) f (more r u b) o)
                  (omega (arith, ej, holds-nodes names roles ends u left c (get_or ends c 0) h.2, shown-length (walked g) u (goes_to (walked g) o r u)))) ∙ past);
            };
          }

  pub drawn-end : e ≤ c → m ≡ final
  unfolding shown
  drawn-end l =
      let z = ran_out names roles ends w.rest left c e w.held l in
      let q : sets m c (map mark_number (shown_f (walked g) none w.before o)) ≡ final = rw z at w.same in
      q

-- ---- where it goes

-- an item that is one in meaning's words
is-some : (o : Option ℕ) (x : ℕ) → place o ≡ some x → o ≡ Some x
is-some None x e = absurd (let y : ◌≡◌ {A = ℕ} 0 1 = cc in omega arith)
is-some (Some y) x e = let z : y ≡ x = cc in ap Some z

-- what is shown for the children of a root that is drawn
abbrev pub children-drawn : Graph ℕ → Concept → ℕ → Place ℕ → List ℕ → List ℕ
children-drawn G t i o m = sets m (i + 1) (map mark_number (shown_f G (children t) none o))

start : (names roles ends marks : List ℕ) (g : Register) (notes : List ℕ) (t : Concept) (left i e : ℕ) (o : Place ℕ) (m : List ℕ)
    → Holds names roles ends t left i e → Marked ends marks t i → ((x : ℕ) → o ≡ some x → Noted ends marks g notes t i x)
    → Drawn names roles ends marks g notes (left - 1) e o (children-drawn (walked g) t i o m) (i + 1) m
unfolding Holds Marked Noted
start names roles ends marks g notes (node a f) left i e o m h k s =
    record { rest = f; before = none; held = h.4; marked = k; noted = s; same = refl }

root-drawn : (G : Graph ℕ) (t : Concept) (i : ℕ) (o : Option ℕ) (m : List ℕ) (v : ℕ) → v ≡ unwrap_or o 65535
    → children-drawn G t i (place o) (set m i v) ≡ sets m i (map mark_number (shown G t (place o)))
unfolding shown
root-drawn G (node a f) i None m v e = rw (e, add-one i)
root-drawn G (node a f) i (Some x) m v e = rw (e, add-one i)

module _ {on : Indexed} {of : Reduced} {notes : List ℕ} {node left : ℕ} {item : Option ℕ} (k : Drawing on of notes node left item) where
  pub drawing-here : (0 < left) × (node < 64) × (node < get_or of.tree.ends node 0)
  drawing-here =
      let q = opened k.names k.roles of.tree.ends k.tree left node (get_or of.tree.ends node 0) k.posed.held in
      (q.deep, let l = q.inside in let m = k.posed.few in omega arith, q.inside)

  pub drawing-notes : get_or on.index on.items 0 ≤ length notes
  drawing-notes = let e = on.judged.read.2 in let p = k.places in omega (arith, ap (λ (g : Register). length g.links) (held-is on.image.now k.posed.graph.register k.posed.graph.read))

  -- the children from row c on are left, and the node goes to o
  abbrev pub Traced : List ℕ → ℕ → List ℕ → Type 0
  Traced old c new =
      Drawn k.names k.roles of.tree.ends of.marks k.posed.graph.register notes (left - 1) (get_or of.tree.ends node 0) (place item)
      (children-drawn (walked k.posed.graph.register) k.tree node (place item) old) c new

  pub trace-start : (m : List ℕ) → Traced m (node + 1) m
  trace-start m =
      start k.names k.roles of.tree.ends of.marks k.posed.graph.register notes k.tree left node (get_or of.tree.ends node 0) (place item) m k.posed.held k.marked
      (λ x e. k.noted x (is-some item x e))

  pub drawing-rises : Rising of.tree.ends (node + 1) (get_or of.tree.ends node 0)
  drawing-rises =
      let d = trace-start [] in rising k.names k.roles of.tree.ends d.rest (left - 1) (node + 1) (get_or of.tree.ends node 0) d.held k.posed.few

  pub trace-end : (m : List ℕ) (v c : ℕ) (new : List ℕ) → v ≡ unwrap_or item 65535 → Traced (set m node v) c new → get_or of.tree.ends node 0 ≤ c
      → new ≡ drawn k.posed.graph.register k.tree node item m
  trace-end m v c new e w l = drawn-end w l ∙ root-drawn (walked k.posed.graph.register) k.tree node item m v e

-- ---- all children, one after the other

module _ (on : Indexed) (of : Reduced) (notes : List ℕ) (node left : ℕ) (item : Option ℕ) where
  -- the children from row c on are left
  pub record Walk (old new : List ℕ) (c : ℕ) : Type 0 where
    pub asked : Drawing on of notes node left item
    pub room : get_or of.tree.ends node 0 ≤ length new
    pub long : length new ≡ length old
    pub each : (k : Drawing on of notes node left item) → Traced k old c new

module _ {on : Indexed} {of : Reduced} {notes : List ℕ} {node left : ℕ} {item : Option ℕ} {old new : List ℕ} {c : ℕ}
    (w : Walk on of notes node left item old new c) where
  abbrev Next : ℕ → List ℕ → Type 0
  Next j after = Walk on of notes node left item old after j

  module _ (below : c < get_or of.tree.ends node 0) where
    pub inside : (c < get_or of.tree.ends c 0) × (get_or of.tree.ends c 0 ≤ get_or of.tree.ends node 0)
    inside = drawn-next (w.each w.asked) below

    pub walk-low : c < 64
    walk-low = omega (arith, below, w.asked.posed.few)

    pub walk_rows : (j : ℕ) → j ≡ get_or of.tree.ends c 0 → (c ≤ j) × (j ≤ length new)
    walk_rows j ej = (omega (arith, inside.0), omega (arith, inside.1, w.room))

    next : (j : ℕ) (after : List ℕ) → length after ≡ length new → ((k : Drawing on of notes node left item) → Traced k old j after) → Next j after
    next j after size each = record { asked = w.asked; room = omega (arith, w.room); long = size ∙ w.long; each = each }

    -- the child is dropped
    pub walk-skip : get_or of.marks c 0 ≡ 0 → (j : ℕ) → j ≡ get_or of.tree.ends c 0 → (after : List ℕ) → after ≡ sets new c (replicate (j - c) 65534) → Next j after
    walk-skip m j ej after is = next j after (ap length is ∙ length-sets new c (replicate (j - c) 65534)) (λ k. drawn-is (drawn-skip (w.each k) below m j ej) is)

    -- it is kept, and goes where the notes say, or nowhere where the node does
    module _ (m : get_or of.marks c 0 ≡ 0 → ⊥) (next-item : Option ℕ)
        (onward : MatchOption item (next-item ≡ None) (λ x. Onward on notes c x next-item)) where
      module _ (k : Drawing on of notes node left item) where
        abbrev pub child : Child k.names k.roles of.tree.ends of.marks k.posed.graph.register notes (left - 1) (get_or of.tree.ends node 0) (place item)
            (children-drawn (walked k.posed.graph.register) k.tree node (place item) old) c new
        child = drawn-child (w.each k) below m

        -- where it goes, and what is known there
        pub record Going (p n : Option ℕ) : Type 0 where
          pub same : place n ≡ goes_to (walked k.posed.graph.register) (place p) (get_or k.roles c 0) child.tree
          pub inside : Inside on.items n
          pub noted : (y : ℕ) → n ≡ Some y → Noted of.tree.ends of.marks k.posed.graph.register notes child.tree c y

        from : (p n : Option ℕ) → item ≡ p → MatchOption p (n ≡ None) (λ x. Onward on notes c x n)
            → Going p n
        unfolding goes_to
        from None n q e = rw e (record { same = refl; inside = tt; noted = λ y z. absurd (let x : ◌≡◌ {A = ℕ} 0 1 = cc in omega arith) })
        from (Some x) n q h = record {
          same = goes ∙ sym (goes_some (walked k.posed.graph.register) x (get_or k.roles c 0) child.tree);
          inside = stays n goes;
          noted = λ y z. there.1 y (pick_some v ys y (sym goes ∙ ap place z)).0;
        }
          where
            v : ℕ → ℕ
            v y = degree_in (walked k.posed.graph.register) child.tree y

            ys : List ℕ
            ys = (walked k.posed.graph.register).next x (get_or k.roles c 0)

            there : Note k.posed.graph.register notes c x (pick v ys) × ((y : ℕ) → Memᴰ y ys → Noted of.tree.ends of.marks k.posed.graph.register notes child.tree c y)
            there = child.noted x (ap place q)

            goes : place n ≡ pick v ys
            goes = h k.posed.graph (pick v ys) there.0

            stays : (r : Option ℕ) → place r ≡ pick v ys → Inside on.items r
            stays None z = tt
            stays (Some y) z = next-inside k.posed.graph on.judged.read.3 x (get_or k.roles c 0) y (pick_some v ys y (sym z)).0

        pub going : Going item next-item
        going = from item next-item refl onward

        abbrev pub child-of : Drawing on of notes c (left - 1) next-item
        child-of = record {
          names = k.names;
          roles = k.roles;
          tree = child.tree;
          posed = record { graph = k.posed.graph; held = child.held; few = le_trans inside.1 k.posed.few };
          marked = child.marked;
          places = k.places;
          inside = going.inside;
          noted = going.noted;
        }

      pub walk-child : Drawing on of notes c (left - 1) next-item × (get_or of.tree.ends c 0 ≤ length new)
      walk-child = (child-of w.asked, (walk_rows _ refl).1)

      pub walk-next : (j : ℕ) → j ≡ get_or of.tree.ends c 0 → (after : List ℕ) → length after ≡ length new
          → ((k : Drawing on of notes c (left - 1) next-item) → after ≡ drawn k.posed.graph.register k.tree c next-item new) → Next j after
      walk-next j ej after size shows =
          next j after size (λ k. drawn-is ((child k).then j ej)
          (shows (child-of k) ∙ ap (λ (o : Place ℕ). sets new c (map mark_number (shown (walked k.posed.graph.register) (child k).tree o))) (going k).same))
