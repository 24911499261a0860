-- The reduced form means the same: in every graph it is met by the same items, so it has a whole map where the written concept has one.
-- In particular the two subsume each other.
-- Assumes nothing.
use mathlib.Core.Path.{◌≡◌, refl, ap₂, ◌∙◌, fun_ext}
use mathlib.Core.Logic.Iff
use mathlib.Core.Logic.{◌↔◌}
use mathlib.Core.Bool.{Bool, ◌&&◌}
use mathlib.Core.List.{[]}
use Prim.Native.Nat.{ℕ}
use lib.Dec.{T}
use Rattle.meaning.specs.Tree.{node, Forest, none, more, Concept, under}
use Rattle.meaning.specs.Graph.{Graph, tree_graph}
use Rattle.meaning.specs.Whole.{any, meets_by, WholeMap, held, meets, meets_f}
use Rattle.meaning.specs.Reduce.{subsumes, kept_of, reduce, reduce_f}
use Rattle.meaning.proofs.Tests.{bool_eq, any_found}
use Rattle.meaning.proofs.Whole.{meets-whole}
use Rattle.meaning.proofs.Under.{met-each, each-met}
use Rattle.meaning.proofs.Subsumes.{compose-served, subsumes-refl, subsumes-trans}
use Rattle.meaning.proofs.Keep.{keep_l, under-kept, kept-child, kept-below}

module _ {N : Type 0} (G : Graph N) where
  keep_meets : (f : Forest ℕ) (x : N) → meets_f G (kept_of none f) x ≡ meets_f G f x
  keep_meets f x = bool_eq (meets_f G (kept_of none f) x) (meets_f G f x) widen narrow
    where
      widen : T (meets_f G (kept_of none f) x) → T (meets_f G f x)
      widen h = each-met (held G) G f x (λ r e m.
          let d = any_found (λ z. subsumes e z) (keep_l [] (under r f)) (kept-below m) in
          compose-served G e d.0 x r d.2 (met-each (held G) G (kept_of none f) x h r d.0 (rw (under-kept r f) d.1)))

      narrow : T (meets_f G f x) → T (meets_f G (kept_of none f) x)
      narrow h = each-met (held G) G (kept_of none f) x (λ r e m. met-each (held G) G f x h r e (kept-child [] (under r f) (rw (under-kept r f) at m)))

  mutual
    unfolding reduce meets_by

    pub reduce-meets : (t : Concept) (x : N) → meets G (reduce t) x ≡ meets G t x
    reduce-meets (node a f) x = rw (keep_meets (reduce_f f) x, reduce_f-meets f x)

    reduce_f-meets : (f : Forest ℕ) (x : N) → meets_f G (reduce_f f) x ≡ meets_f G f x
    reduce_f-meets none x = refl
    reduce_f-meets (more r t f) x =
        ap₂ (λ (p : N → Bool) (b : Bool). any p (G.next x r) && b) (fun_ext (λ y. reduce-meets t y)) (reduce_f-meets f x)

  pub reduce-whole : (t : Concept) (x : N) → WholeMap (held G) G (reduce t) x ↔ WholeMap (held G) G t x
  reduce-whole t x =
      let e = reduce-meets t x in
      Iff.trans (Iff.symm (meets-whole (held G) G (reduce t) x)) (Iff.trans (λ h. rw e at h, λ h. rw e h) (meets-whole (held G) G t x))

pub reduce-subsumes : (t : Concept) → T (subsumes (reduce t) t) × T (subsumes t (reduce t))
reduce-subsumes t = (rw (reduce-meets tree_graph t t) (subsumes-refl t), rw (reduce-meets tree_graph t (reduce t)) at (subsumes-refl (reduce t)))

-- whether one subsumes the other does not change
pub subsumes-reduce : (c d : Concept) → subsumes (reduce c) (reduce d) ≡ subsumes c d
subsumes-reduce c d =
    let e = reduce-subsumes d in
    reduce-meets tree_graph c (reduce d)
    ∙ bool_eq (subsumes c (reduce d)) (subsumes c d) (λ h. subsumes-trans c (reduce d) d h e.0) (λ h. subsumes-trans c d (reduce d) h e.1)
