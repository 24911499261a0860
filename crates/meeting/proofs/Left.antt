-- At a node: the children that are left, and what is asked at the next of them, from what is asked at the node.
-- Assumes nothing.
use mathlib.Core.Path.{◌≡◌, ap}
use mathlib.Core.Bool.{false}
use mathlib.Core.List.{List}
use Prim.Native.Nat.{ℕ, ◌-◌, ◌+◌, ◌≤◌, ◌<◌}
use native.Mathlib.Nat.{le_refl}
use native.Mathlib.Omega.{arith}
use lib.ListN.{length, get_or, set as put}
use lib.Seq.{get_or-set_same}
use Rattle.meaning.specs.Names.{within}
use Rattle.meaning.specs.Graph.{Graph}
use Rattle.meaning.specs.Whole.{any}
use Rattle.rows.specs.declared.Tree.{Tree}
use Rattle.rows.specs.declared.Parts.{Parts}
use Rattle.graph.specs.declared.sets.Items.{Items}
use Rattle.graph.specs.declared.Indexed.{Indexed}
use Rattle.graph.specs.Walked.{walked}
use Rattle.graph.specs.Sets.{in_set, Spread}
use Rattle.screening.specs.declared.Wanted.{Wanted}
use Rattle.screening.specs.Sifting.{Sifted}
use Rattle.screening.specs.Standing.{ruled_at}
use Rattle.trails.specs.Cells.{no_items, Outside}
use Rattle.trails.proofs.Table.{outside-part, outside-set}
use Rattle.trails.proofs.Down.{here, onward}
use Rattle.meeting.specs.Required.{Required, Done}
use Rattle.meeting.proofs.Children.{Rest, Child, rest-start, rest-child, rest-step, rest-empty, rest-whole, all-met}

module _ {on : Indexed} {wanted : Wanted} {node left : ℕ} (k : Required on wanted node left) where
  abbrev G : Graph ℕ
  G = walked k.posed.graph.register

  abbrev rows : Tree
  rows = wanted.tree

  abbrev parts : Parts
  parts = wanted.parts

  -- the index just past the node's subtree
  abbrev end : ℕ
  end = get_or wanted.tree.ends node 0

  -- the children from row c on are left
  abbrev pub Left : List ℕ → List ℕ → List Items → ℕ → Type 0
  Left all set m c = Rest rows.names rows.roles rows.ends G parts.owners k.stand.thresholds parts.count k.tree (left - 1) node end all set m c

  module _ {all set : List ℕ} {m : List Items} {c : ℕ} (w : Left all set m c) (d : node < c) (l : c < end) where
    abbrev pub child : Child rows.names rows.roles rows.ends G parts.owners k.stand.thresholds parts.count k.tree (left - 1) node end all set m c
    child = rest-child rows.names rows.roles rows.ends G parts.owners k.stand.thresholds parts.count k.tree (left - 1) node end all set m c w d l

    abbrev pub child-required : Required on wanted c (left - 1)
    child-required =
        record { tree = child.tree; posed = onward k.posed child.held child.within; stand = k.stand; most = k.most; ruled = child.ruled }

    -- the child at row c is met and folded in
    pub next-left : (set' below met : List ℕ) (new : List Items) (role : ℕ) → role ≡ get_or rows.roles c 0 → Spread G on.items set role below
        → Done rows.ends G child.tree c below met m new → Sifted (λ x. any (λ y. in_set met y) (G.next x role)) set set'
        → Left all set' new (get_or rows.ends c 0)
    next-left set' below met new role e sp q r =
        rest-step rows.names rows.roles rows.ends G parts.owners k.stand.thresholds parts.count k.tree (left - 1) node end
        all set set' below met m new c w d l (rw e at sp.closed) q (rw e at r)

  -- at first all are left
  pub left-start : (set : List ℕ) (m : List Items) → Left set set m (node + 1)
  left-start set m =
      rest-start rows.names rows.roles rows.ends G parts.owners k.stand.thresholds parts.count k.tree left node end set m k.posed.held k.ruled

  -- nothing stays, so the others need not be looked at
  pub left-none : {all set : List ℕ} {m : List Items} {c : ℕ} → Left all set m c → ((x : ℕ) → in_set set x ≡ false) → Left all set m end
  left-none w h = rest-empty _ _ _ _ _ _ _ _ _ _ _ _ _ _ _ w h

  -- no child is left, and the row is stored
  pub whole : (all held set : List ℕ) (stays : Items) (m₀ m : List Items) (c : ℕ) → node < length m
      → Sifted (λ x. within (get_or rows.names node 0) (G.names x)) all held → Sifted (λ x. ruled_at G parts.owners k.stand.thresholds parts.count node x) held set
      → Left set stays.words m c → end ≤ c → Outside node end m₀ m → Done rows.ends G k.tree node all stays.words m₀ (put m node stays)
  whole all held set stays m₀ m c size p q w l o =
      let r = rest-whole _ _ _ _ _ _ _ _ _ _ _ _ _ _ _ w l in
      let st = outside-set node m stays in
      record {
        sifted = all-met rows.names rows.roles rows.ends G parts.owners k.stand.thresholds parts.count k.tree left node end
            all held set stays.words k.posed.held k.ruled p q r.0;
        stored = λ x. ap (λ (z : Items). in_set z.words x) (get_or-set_same m node stays no_items size);
        right = λ x h. r.1 x h _ (λ j a b. st.behind j a);
        outside = outside-part node end node (node + 1) m₀ m _ (le_refl node) (omega (arith, (here k.posed).1)) o st;
      }
