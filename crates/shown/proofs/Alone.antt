-- One item alone: a set that has it and no other, an index that was filled, and notes that are empty.
-- Assumes nothing.
use mathlib.Core.Path.{◌≡◌, refl, sym, ap, ◌∙◌}
use mathlib.Core.Bool.{Bool, true, false}
use mathlib.Core.List.{List}
use Rattle.std.specs.Prelude.{Some}
use Prim.Native.Nat.{ℕ, ◌≤◌, ◌<◌}
use native.Mathlib.Omega.{arith}
use lib.Dec.{eqb}
use lib.ListN.{length, get_or}
use borrow.Author.Tests.{eqb-true}
use Rattle.meaning.specs.Bounds.{most_items, most_links}
use Rattle.meaning.specs.Bytes.{Bytes}
use Rattle.meaning.specs.Names.{has}
use Rattle.meaning.specs.Register.{Register, read_buffer}
use Rattle.meaning.proofs.Image.{image-fits}
use Rattle.meaning.proofs.SessionNames.{has-none}
use Rattle.register.specs.Image.{OfSize}
use Rattle.register.specs.Held.{held}
use Rattle.register.specs.declared.Reading.{Reading}
use Rattle.register.proofs.Holding.{held-is}
use Rattle.rows.specs.declared.Reduced.{Reduced}
use Rattle.graph.specs.declared.Indexed.{Indexed}
use Rattle.graph.proofs.Judging.{judged}
use Rattle.graph.specs.Sets.{Among, All, With}
use Rattle.graph.proofs.All.{all_among}
use Rattle.degrees.specs.Gradable.{GradableOn, GradableIn}
use Rattle.degrees.specs.Notes.{Noted, Clear}
use Rattle.shown.specs.declared.Degree.{Degree}
use Rattle.shown.specs.Given.{drawn, Graded, Drawing}

module _ (item : ℕ) (none set : List ℕ) (empty : All 0 none) (w : With none item set) where
  pub alone_among : (items : ℕ) → item < items → Among items set
  alone_among items l x m = go (eqb item x) refl
    where
      go : (b : Bool) → eqb item x ≡ b → x < items
      go true e = let z : item ≡ x = eqb-true item x e in omega arith
      go false e = let z : x < 0 = all_among empty x (sym (rw e at (w x)) ∙ m) in absurd (omega arith)

-- how many items and links there may be
pub sizes-fit : {s : List ℕ} {items links : ℕ} → OfSize s items links → Bytes s → (items ≤ most_items) × (links ≤ most_links)
sizes-fit {s} a b =
    let q = (image-fits s a.register b a.read).0 in (omega (arith, q.items, a.holds.0), omega (arith, q.few, a.holds.1))

-- notes that are all zeros
pub clear-zeros : (notes : List ℕ) (n e : ℕ) → ((k : ℕ) → get_or notes k 0 ≡ 0) → Clear notes n e
clear-zeros notes n e z j k l m = ap (λ (y : ℕ). has y j) (z k) ∙ has-none j

module _ (read : Reading) {of : Reduced} {node left : ℕ} (k : GradableIn read of node left)
    (on : Indexed) (image : on.image.now ≡ read.bytes.now) where
  -- the same with an index of its links
  abbrev pub with-index : GradableOn on of node left
  with-index =
      record { tree = k.tree; posed = record { graph = judged on.judged; held = k.posed.held; few = k.posed.few }; marked = k.marked; small = k.small }

  same : held on.image.now ≡ k.posed.graph.register
  same = held-is on.image.now k.posed.graph.register (ap read_buffer image ∙ k.posed.graph.read)

  -- the degree of an item is worked out, and it is noted where the nodes below go
  module _ (item : ℕ) (d : Degree) (notes : List ℕ) (done : (i : GradableOn on of node left)
      → Graded i.posed.graph.register i.tree item d × Noted of.tree.ends of.marks i.posed.graph.register notes i.tree node item) where
    pub graded-of : Graded k.posed.graph.register k.tree item d
    graded-of = rw same at (done with-index).0

    module _ (l : item < on.items) (places : get_or on.index on.items 0 ≤ length notes) where
      pub noted : (x : ℕ) → Some item ≡ Some x → Noted of.tree.ends of.marks (held on.image.now) notes k.tree node x
      noted x e = let z : item ≡ x = cc in rw (← z) (done with-index).1

      abbrev pub drawing-of : Drawing on of notes node left (Some item)
      drawing-of = record {
        names = of.tree.names;
        roles = of.tree.roles;
        tree = k.tree;
        posed = with-index.posed;
        marked = k.marked;
        places = omega (arith, on.judged.read.2);
        inside = l;
        noted = noted;
      }

      pub drawn-of : (old new : List ℕ) → ((i : Drawing on of notes node left (Some item)) → new ≡ drawn i.posed.graph.register i.tree node (Some item) old)
          → new ≡ drawn k.posed.graph.register k.tree node (Some item) old
      drawn-of old new shows = shows drawing-of ∙ ap (λ (g : Register). drawn g k.tree node (Some item) old) same
