-- What is asked at a node, from what is asked at its parent; and what its numbers, which are worked out where its parent's items reach, do to
-- those of the parent.
-- Assumes nothing.
use mathlib.Core.Path.{◌≡◌}
use mathlib.Core.Logic.{inr}
use mathlib.Core.List.{List, Memᴰ}
use Prim.Native.Nat.{ℕ, ◌+◌, ◌-◌, ◌≤◌, ◌<◌}
use native.Mathlib.Omega.{arith}
use lib.ListN.{length, get_or}
use Rattle.meaning.specs.Tree.{children}
use Rattle.meaning.specs.Graph.{Graph}
use Rattle.graph.specs.Walked.{walked}
use Rattle.meaning.specs.Degree.{best}
use Rattle.meaning.specs.InPlace.{degree_in}
use Rattle.meaning.specs.Shown.{pick}
use Rattle.meaning.specs.Rows.{HoldsF}
use Rattle.meaning.proofs.Rows.{opened, holds-one}
use Rattle.rows.specs.Rising.{Rising}
use Rattle.rows.proofs.Rising.{rising}
use Rattle.graph.specs.Judged.{Judged}
use Rattle.graph.specs.Sets.{Spread}
use Rattle.graph.proofs.Use.{one-register}
use Rattle.meaning.proofs.Same.{best-same, pick_same}
use Rattle.degrees.specs.Gradable.{Gradable, Member}
use Rattle.degrees.specs.Room.{Lent}
use Rattle.degrees.specs.Notes.{Note, Noted, Outside}
use Rattle.heaviest.specs.Heavy.{Written}
use Rattle.degrees.specs.Given.{row_at, Done, Below}
use Rattle.degrees.proofs.Room.{room-one}
use Rattle.heaviest.proofs.Stands.{below}
use Rattle.degrees.proofs.Folding.{given}
use Rattle.degrees.proofs.Noted.{noted-same}

module _ {s : List ℕ} {items : ℕ} {index names roles ends marks : List ℕ} {node left : ℕ} (k : Gradable (Judged s items index) names roles ends marks node left) where
  abbrev pub graph : Graph ℕ
  graph = walked k.posed.graph.register

  abbrev pub written : Written ends node
  written = record { names = names; roles = roles; left = left; tree = k.tree; held = k.posed.held; few = k.posed.few }

  pub here : (0 < left) × (node < 64) × (node < get_or ends node 0)
  here =
      let root = opened names roles ends k.tree left node (get_or ends node 0) k.posed.held in
      (root.deep, let l = root.inside in let m = k.posed.few in omega arith, root.inside)

  pub rows : HoldsF names roles ends (children k.tree) (left - 1) (node + 1) (get_or ends node 0)
  rows = below names roles ends k.tree left node (get_or ends node 0) k.posed.held

  -- its children may be gone over
  pub rises : Rising ends (node + 1) (get_or ends node 0)
  rises = rising names roles ends (children k.tree) (left - 1) (node + 1) (get_or ends node 0) rows k.posed.few

  -- enough is lent for a node alone
  pub lent-here : {set notes numbers : List ℕ} {at : ℕ} → Lent items set notes numbers ends node at → at + 512 ≤ length numbers
  lent-here w = room-one w.room (omega (arith, here.2))

  -- what is done is so for all that is asked there
  pub done-for : {X : ℕ → Type 0} {at from scale : ℕ} {notes mid numbers ys : List ℕ} → Done k X at from scale notes mid numbers ys
      → (j : Gradable (Judged s items index) names roles ends marks node left) → Done j X at from scale notes mid numbers ys
  done-for d j =
      let g = one-register k.posed.graph j.posed.graph.register j.posed.graph.read in
      let t = holds-one names roles ends k.tree j.tree left left node (get_or ends node 0) (get_or ends node 0) k.posed.held j.posed.held in
      record { worked = rw (← g, ← t) d.worked; noted = λ x m. rw (← g, ← t) (d.noted x m); outside = d.outside; kept = d.kept }

  -- what is done at a set that has all that another reaches, is done where that reaches
  pub reach-done : (set in' : List ℕ) (role at scale : ℕ) (notes mid numbers ys : List ℕ) → role ≡ get_or roles node 0 → Spread graph items set role in'
      → Done k (Member in') at at scale notes mid numbers ys → Done k (Below graph set (get_or roles node 0)) at at scale notes mid numbers ys
  reach-done set in' role at scale notes mid numbers ys er sp d = record {
    worked = record { scaled = d.worked.scaled; each = λ y q. d.worked.each y (inside y q) };
    noted = λ y q. d.noted y (inside y q);
    outside = d.outside;
    kept = d.kept;
  }
    where
      inside : (y : ℕ) → Below graph set (get_or roles node 0) y → Member in' y
      inside y q = sp.closed q.0 y q.1 (rw er q.2)

  module _ (set : List ℕ) (role at from scale : ℕ) (notes mid numbers ys : List ℕ) (er : role ≡ get_or roles node 0)
      (d : Done k (Below graph set (get_or roles node 0)) at from scale notes mid numbers ys) (x : ℕ) (m : Member set x) where
    agree : (y : ℕ) → Memᴰ y (graph.next x (get_or roles node 0)) → row_at ys from y ≡ degree_in graph k.tree y
    agree y q = d.worked.each y (x, m, q)

    pub reach-best : best (row_at ys from) (graph.next x role) ≡ given roles graph node k.tree x
    reach-best = rw er (best-same (row_at ys from) (λ y. degree_in graph k.tree y) (graph.next x (get_or roles node 0)) agree)

    reach-pick : pick (row_at ys from) (graph.next x role) ≡ pick (λ y. degree_in graph k.tree y) (graph.next x (get_or roles node 0))
    reach-pick = rw er (pick_same (row_at ys from) (λ y. degree_in graph k.tree y) (graph.next x (get_or roles node 0)) agree)

    -- and then it is noted
    pub reach-one : (new : List ℕ) → length new ≡ length mid → Outside node (node + 1) mid new → Note k.posed.graph.register new node x (pick (row_at ys from) (graph.next x role))
        → Note k.posed.graph.register new node x (pick (λ y. degree_in graph k.tree y) (graph.next x (get_or roles node 0)))
        × ((y : ℕ) → Memᴰ y (graph.next x (get_or roles node 0)) → Noted ends marks k.posed.graph.register new k.tree node y)
    reach-one new size on w = (
      rw (← reach-pick) w,
      λ y q. noted-same names roles ends marks k.posed.graph.register mid new k.tree left node (get_or ends node 0) y k.posed.held size (λ j a b l. on j l (inr (omega arith)))
          (d.noted y (x, m, q)),
    )
