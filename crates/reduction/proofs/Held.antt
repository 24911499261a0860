-- What rows that hold a tree say at a row, and how a caller that knows the tree asks.
-- Assumes nothing.
use mathlib.Core.List.{List}
use Prim.Native.Nat.{ℕ, ◌+◌, ◌-◌, ◌≤◌, ◌<◌}
use native.Mathlib.Omega.{arith}
use lib.ListN.{get_or}
use Rattle.meaning.specs.Tree.{Concept}
use Rattle.meaning.specs.Rows.{Holds}
use Rattle.rows.specs.Rising.{Rising}
use Rattle.rows.proofs.Rising.{rising}
use Rattle.meaning.proofs.Rows.{opened, first, holds_f-le, holds-ended}
use Rattle.reduction.specs.Held.{Held, HeldF, ForTree}

module _ (names roles ends : List ℕ) (left : ℕ) where
  -- the children of the tree at a row
  pub record Inside (i : ℕ) : Type 0 where
    pub deep : 0 < left
    pub inside : i < get_or ends i 0
    pub children : HeldF names roles ends (left - 1) (i + 1) (get_or ends i 0)

  pub inside : (i : ℕ) → Held names roles ends left i → Inside i
  inside i h =
      let o = opened names roles ends h.tree left i (get_or ends i 0) h.holds in
      record { deep = o.deep; inside = o.inside; children = record { trees = o.kids; holds = o.below; fits = h.fits } }

  pub in-range : {i : ℕ} → Held names roles ends left i → i < 64
  in-range {i} h =
      let o = opened names roles ends h.tree left i (get_or ends i 0) h.holds in
      let l : get_or ends i 0 ≤ 64 = h.fits in
      omega arith

  pub reaches : (i e : ℕ) → HeldF names roles ends left i e → i ≤ e
  reaches i e h = holds_f-le names roles ends h.trees left i e h.holds

  -- where they stand one after the other, each ends after itself
  pub rise : (i e : ℕ) → HeldF names roles ends left i e → Rising ends i e
  rise i e h = rising names roles ends h.trees left i e h.holds h.fits

  -- the first of some trees, and the others
  pub record Front (i e : ℕ) : Type 0 where
    pub inside : i < get_or ends i 0
    pub within : get_or ends i 0 ≤ e
    pub here : Held names roles ends left i
    pub after : HeldF names roles ends left (get_or ends i 0) e

  pub front : (i e : ℕ) → HeldF names roles ends left i e → i < e → Front i e
  front i e h lt =
      let o = first names roles ends h.trees left i e h.holds lt in
      let l : e ≤ 64 = h.fits in
      let m : get_or ends i 0 ≤ e = o.within in
      record {
        inside = o.inside;
        within = o.within;
        here = record { tree = o.tree; holds = o.here; fits = omega arith };
        after = record { trees = o.rest; holds = o.after; fits = l };
      }

  -- a tree that is known
  module _ (t : Concept) (i e : ℕ) (h : Holds names roles ends t left i e) where
    pub held : e ≤ 64 → Held names roles ends left i
    held l = let o = opened names roles ends t left i e h in
        record { tree = t; holds = holds-ended names roles ends t left i e h; fits = omega arith }

    pub of_tree : (P : Concept → Type 0) → ForTree names roles ends left i P → P t
    of_tree P all = all t (holds-ended names roles ends t left i e h)
