-- The map shown for a yes, child by child: what is written and what is left make up the map.
-- Assumes nothing.
use mathlib.Core.Path.{◌≡◌, refl, sym, ap, ◌∙◌, subst}
use mathlib.Core.Bool.{true}
use mathlib.Core.List.{List, ◌++◌, Memᴰ}
use mathlib.Core.Option.{some}
use Prim.Native.Nat.{ℕ, ◌+◌, ◌-◌, ◌≤◌, ◌<◌}
use native.Mathlib.Numerals.{add-one}
use native.Mathlib.Omega.{arith}
use lib.Dec.{T}
use lib.ListN.{length, get_or, set}
use lib.Seq.{sets}
use Rattle.graph.specs.declared.sets.Items.{Items}
use Rattle.meaning.specs.Tree.{node, Forest, none, more, children, relabel, relabel_f, nodes}
use Rattle.meaning.specs.Graph.{Graph}
use Rattle.meaning.specs.Whole.{any, meets_by, meets_by_f}
use Rattle.meaning.specs.Requirement.{Label, Requirement, fulfils, member, bare}
use Rattle.meaning.specs.Rows.{Holds, HoldsF}
use Rattle.meaning.specs.Shown.{first, yes_by, yes_by_f, yes_map}
use Rattle.meaning.proofs.Tests.{and_both, first_found, is_true, holds}
use Rattle.meaning.proofs.Rows.{opened}
use Rattle.meaning.proofs.Rows.{holds-nodes as concept-nodes}
use Rattle.meaning.proofs.Stores.{sets-append}
use Rattle.meaning.proofs.YesShown.{yes-shows}
use Rattle.requirement.proofs.Whole.{bare-nodes}
use Rattle.meaning.proofs.Same.{first-same}
use Rattle.trails.specs.Cells.{cell, Right, RightF}

-- a requirement's children without their thresholds
abbrev pub bare_f : Forest Label → Forest ℕ
bare_f = relabel_f (λ a. a.names)

module _ (names roles ends : List ℕ) where
  -- rows from i up to e hold as many nodes as are written
  pub holds-nodes : (t : Requirement) (left i e : ℕ) → Holds names roles ends (bare t) left i e → e ≡ i + nodes t
  holds-nodes t left i e h = omega (arith, concept-nodes names roles ends (bare t) left i e h, bare-nodes t)

  module _ (G : Graph ℕ) (m : List Items) (left e x : ℕ) where
    -- the children from row c on are left, of a node that goes to x
    pub record Trail (map : List ℕ) (c : ℕ) (goal : List ℕ) : Type 0 where
      pub rest : Forest Label
      pub held : HoldsF names roles ends (bare_f rest) left c e
      pub right : RightF ends G m rest c x
      pub yes : T (meets_by_f (fulfils G) G rest x)
      pub shown : sets map c (yes_by_f (fulfils G) G rest x) ≡ goal

    -- the child at row c, and where it goes
    pub record Next (map : List ℕ) (c : ℕ) (goal : List ℕ) : Type 0 where
      pub tree : Requirement
      pub to : ℕ
      pub held : Holds names roles ends (bare tree) left c (get_or ends c 0)
      pub right : Right ends G m tree c to
      pub inside : c < get_or ends c 0
      pub within : get_or ends c 0 ≤ e
      pub yes : member G tree to ≡ true
      pub next : Memᴰ to (G.next x (get_or roles c 0))
      pub found : first (λ y. cell m c y) (G.next x (get_or roles c 0)) ≡ some to
      pub then : (later : List ℕ) → later ≡ sets map c (yes_map G tree to) → Trail later (get_or ends c 0) goal

    pub trail-next : (map : List ℕ) (c : ℕ) (goal : List ℕ) → Trail map c goal → c < e → Next map c goal
    unfolding Holds relabel Right meets_by yes_by
    trail-next map c goal w l = go w.rest w.held w.right w.yes w.shown
      where
        go : (f : Forest Label) → HoldsF names roles ends (bare_f f) left c e → RightF ends G m f c x → T (meets_by_f (fulfils G) G f x)
            → sets map c (yes_by_f (fulfils G) G f x) ≡ goal → Next map c goal
        go none h k y s = absurd (let z : c ≡ e = h in omega arith)
        go (more r u f) h k y s =
            let o = opened names roles ends (bare u) left c (get_or ends c 0) h.2 in
            let a = and_both (any (λ z. member G u z) (G.next x r)) (meets_by_f (fulfils G) G f x) y in
            let q = first_found (λ z. member G u z) (G.next x r) a.0 in
            let s' : sets map c (yes_map G u q.0 ++ yes_by_f (fulfils G) G f x) ≡ goal = rw q.1 at s in
            let long : c + length (yes_map G u q.0) ≡ get_or ends c 0 =
            ap (λ (z : ℕ). c + z) (yes-shows (fulfils G) G u q.0 q.3).long ∙ sym (holds-nodes u left c (get_or ends c 0) h.2) in
            let met : member G u q.0 ≡ true = is_true (member G u q.0) q.3 in
            record {
              tree = u;
              to = q.0;
              held = h.2;
              right = (k.0 q.0 q.2).1 met;
              inside = o.inside;
              within = h.1;
              yes = met;
              next = subst (λ (z : ℕ). Memᴰ q.0 (G.next x z)) (sym h.0) q.2;
              found = rw h.0 (first-same (λ z. cell m c z) (λ z. member G u z) (G.next x r) (λ z n. (k.0 z n).0) ∙ q.1);
              then = λ later d. record {
                rest = f;
                held = h.3;
                right = k.1;
                yes = a.1;
                shown = rw d (sym (sets-append map c (get_or ends c 0) (yes_map G u q.0) (yes_by_f (fulfils G) G f x) (sym long)) ∙ s');
              };
            }

    -- no child is left
    pub trail-end : (map : List ℕ) (c : ℕ) (goal : List ℕ) → Trail map c goal → e ≤ c → map ≡ goal
    unfolding Holds relabel yes_by
    trail-end map c goal w l = go w.rest w.held w.shown
      where
        go : (f : Forest Label) → HoldsF names roles ends (bare_f f) left c e → sets map c (yes_by_f (fulfils G) G f x) ≡ goal → map ≡ goal
        go none h s = s
        go (more r u f) h s =
            absurd (let o = opened names roles ends (bare u) left c (get_or ends c 0) h.2 in let z : get_or ends c 0 ≤ e = h.1 in let y = o.inside in omega arith)

-- at first all are left
pub trail-start : (names roles ends : List ℕ) (G : Graph ℕ) (m : List Items) (t : Requirement) (left n e x : ℕ) (map : List ℕ)
    → Holds names roles ends (bare t) left n e → Right ends G m t n x → member G t x ≡ true
    → Trail names roles ends G m (left - 1) e x map (n + 1) (sets map (n + 1) (yes_by_f (fulfils G) G (children t) x))
unfolding Holds relabel Right meets_by yes_by
trail-start names roles ends G m (node a f) left n e x map h k y = record {
  rest = f;
  held = h.4;
  right = k;
  yes = (and_both (fulfils G a x) (meets_by_f (fulfils G) G f x) (holds y)).1;
  shown = refl;
}

-- a node and then its children
pub whole-map : (G : Graph ℕ) (t : Requirement) (n x : ℕ) (map : List ℕ)
    → sets (set map n x) (n + 1) (yes_by_f (fulfils G) G (children t) x) ≡ sets map n (yes_map G t x)
unfolding yes_by
whole-map G (node a f) n x map = rw add-one
