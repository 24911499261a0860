-- On the way down: what is asked at a child, from what is asked at its parent.
-- Assumes nothing.
use mathlib.Core.Path.{◌≡◌, ap, ◌∙◌}
use mathlib.Core.List.{List}
use Prim.Native.Nat.{ℕ, ◌-◌, ◌+◌, ◌≤◌, ◌<◌}
use native.Mathlib.Nat.{le_trans}
use native.Mathlib.Omega.{arith}
use lib.ListN.{get_or, set}
use lib.Seq.{sets}
use Rattle.std.specs.Prelude.{Option, Some}
use Rattle.meaning.specs.Bytes.{Bytes}
use Rattle.meaning.specs.Tree.{Concept, children}
use Rattle.meaning.specs.Tree.{node as branch}
use Rattle.meaning.specs.Graph.{Graph}
use Rattle.meaning.specs.Requirement.{fulfils}
use Rattle.meaning.specs.Rows.{Holds}
use Rattle.meaning.specs.Shown.{first, yes_by_f, yes_map}
use Rattle.meaning.proofs.Rows.{opened}
use Rattle.rows.specs.declared.Tree.{Tree}
use Rattle.rows.specs.Rising.{Rising}
use Rattle.rows.proofs.Rising.{rising}
use Rattle.graph.specs.declared.sets.Items.{Items}
use Rattle.graph.specs.declared.Indexed.{Indexed}
use Rattle.graph.specs.Walked.{walked}
use Rattle.graph.specs.Posed.{Posed}
use Rattle.graph.proofs.Use.{next-inside}
use Rattle.trails.specs.Cells.{cell}
use Rattle.trails.specs.Charted.{Charted}
use Rattle.trails.specs.Sought.{found}
use Rattle.trails.proofs.Trail.{Trail, Next, trail-start, trail-next, trail-end, whole-map}

module _ {R : Type 0} {names roles ends : List ℕ} {t : Concept} {node left : ℕ} (p : Posed R names roles ends t node left) where
  -- the levels, the row, and its end
  pub here : (0 < left) × (node < get_or ends node 0) × (get_or ends node 0 ≤ 64)
  here = let o = opened names roles ends t left node (get_or ends node 0) p.held in (o.deep, o.inside, p.few)

  pub low : node < 64
  low = let h = here in omega (arith, h.1, h.2)

  -- its children end after themselves
  pub children-rise : Rising ends (node + 1) (get_or ends node 0)
  unfolding Holds
  children-rise = go t p.held
    where
      go : (u : Concept) → Holds names roles ends u left node (get_or ends node 0) → Rising ends (node + 1) (get_or ends node 0)
      go (branch a f) h = rising names roles ends f (left - 1) (node + 1) (get_or ends node 0) h.4 p.few

  abbrev pub onward : {u : Concept} {c : ℕ} → Holds names roles ends u (left - 1) c (get_or ends c 0) → get_or ends c 0 ≤ get_or ends node 0
      → Posed R names roles ends u c (left - 1)
  onward h l = record { graph = p.graph; held = h; few = le_trans l p.few }

module _ {on : Indexed} {rows : Tree} {met : List Items} {node left item : ℕ} (k : Charted on rows met node left item) where
  abbrev G : Graph ℕ
  G = walked k.posed.graph.register

  -- the children from row c on are left
  abbrev pub Ahead : List ℕ → ℕ → List ℕ → Type 0
  Ahead map c goal = Trail rows.names rows.roles rows.ends G met (left - 1) (get_or rows.ends node 0) item map c goal

  -- the map of the children
  abbrev pub below : List ℕ → List ℕ
  below map = sets map (node + 1) (yes_by_f (fulfils G) G (children k.tree) item)

  pub ahead-start : (map : List ℕ) → Ahead map (node + 1) (below map)
  ahead-start map = trail-start rows.names rows.roles rows.ends G met k.tree left node (get_or rows.ends node 0) item map k.posed.held k.right k.yes

  pub ahead-end : (old map : List ℕ) (c : ℕ) → Ahead map c (below (set old node item)) → get_or rows.ends node 0 ≤ c
      → map ≡ sets old node (yes_map G k.tree item)
  ahead-end old map c w l = trail-end _ _ _ _ _ _ _ _ _ _ _ w l ∙ whole-map G k.tree node item old

  module _ (b : Bytes on.image.now) {map : List ℕ} {c : ℕ} {goal : List ℕ} (w : Ahead map c goal) (l : c < get_or rows.ends node 0) where
    abbrev pub next : Next rows.names rows.roles rows.ends G met (left - 1) (get_or rows.ends node 0) item map c goal
    next = trail-next rows.names rows.roles rows.ends G met (left - 1) (get_or rows.ends node 0) item map c goal w l

    pub goes : (o : Option ℕ) (role : ℕ) → role ≡ get_or rows.roles c 0 → o ≡ found (first (λ y. cell met c y) (G.next item role)) → o ≡ Some next.to
    goes o role e h = h ∙ rw e (ap found next.found)

    pub next-ahead : (later : List ℕ) (to : ℕ) → to ≡ next.to → later ≡ sets map c (yes_map G next.tree to) → Ahead later (get_or rows.ends c 0) goal
    next-ahead later to f h = next.then later (h ∙ ap (λ (z : ℕ). sets map c (yes_map G next.tree z)) f)

    abbrev pub next-charted : (to : ℕ) → to ≡ next.to → Charted on rows met c (left - 1) to
    next-charted to f = record {
      tree = next.tree;
      posed = onward k.posed next.held next.within;
      right = rw f next.right;
      inside = rw f (next-inside k.posed.graph b item (get_or rows.roles c 0) next.to next.next);
      yes = rw f next.yes;
    }
