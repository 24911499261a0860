-- Whole maps compose: what meets a concept meets each concept that subsumes it. So subsumption is transitive, and it is reflexive.
-- Assumes nothing.
use mathlib.Core.Path.{◌≡◌}
use mathlib.Core.Logic.{◌⊎◌, inl, inr}
use mathlib.Core.List.{Memᴰ}
use Prim.Native.Nat.{ℕ}
use lib.Dec.{T}
use Rattle.meaning.specs.Tree.{node, Forest, none, more, Concept, under}
use Rattle.meaning.specs.Graph.{Graph, tree_graph}
use Rattle.meaning.specs.Whole.{meets_by, held, meets, meets_f}
use Rattle.meaning.specs.Reduce.{subsumes}
use Rattle.meaning.proofs.Tests.{any_found, found-any}
use Rattle.meaning.proofs.Names.{within-self, within-trans}
use Rattle.meaning.proofs.Whole.{at-node, served, at_more}
use Rattle.meaning.proofs.Under.{under-cases, met-each, each-met}

module _ {N : Type 0} (G : Graph N) where
  mutual
    unfolding meets_by

    pub compose : (c d : Concept) (x : N) → T (subsumes c d) → T (meets G d x) → T (meets G c x)
    compose (node a f) (node b g) x h k =
        let p = (at-node (held tree_graph) tree_graph a f (node b g)).0 h in
        let q = (at-node (held G) G b g x).0 k in
        (at-node (held G) G a f x).1 (within-trans a b (G.names x) p.0 q.0, compose_f f b g x p.1 q.1)

    compose_f : (f : Forest ℕ) (b : ℕ) (g : Forest ℕ) (x : N) → T (meets_f tree_graph f (node b g)) → T (meets_f G g x) → T (meets_f G f x)
    compose_f none b g x h k = tt
    compose_f (more r t f) b g x h k =
        let p = (at_more (held tree_graph) tree_graph r t f (node b g)).0 h in
        let d = any_found (λ y. subsumes t y) (under r g) p.0 in
        let y = any_found (λ z. meets G d.0 z) (G.next x r) (met-each (held G) G g x k r d.0 d.1) in
        (at_more (held G) G r t f x).1 (found-any (λ z. meets G t z) y.1 (compose t d.0 y.0 d.2 y.2), compose_f f b g x p.1 k)

  -- a child is served by what serves one that it subsumes
  pub compose-served : (c d : Concept) (x : N) (r : ℕ) → T (subsumes c d) → T (served (held G) G x r d) → T (served (held G) G x r c)
  compose-served c d x r h k =
      let q = any_found (λ y. meets G d y) (G.next x r) k in
      found-any (λ y. meets G c y) q.1 (compose c d q.0 h q.2)

pub subsumes-trans : (c d e : Concept) → T (subsumes c d) → T (subsumes d e) → T (subsumes c e)
subsumes-trans c d e h k = compose tree_graph c d e h k

mutual
  unfolding under

  pub subsumes-refl : (t : Concept) → T (subsumes t t)
  subsumes-refl (node a f) =
      (at-node (held tree_graph) tree_graph a f (node a f)).1
      (within-self a, each-met (held tree_graph) tree_graph f (node a f) (λ r e m. found-any (λ y. subsumes e y) m (child-refl f r e m)))

  child-refl : (f : Forest ℕ) (r : ℕ) (e : Concept) → Memᴰ e (under r f) → T (subsumes e e)
  child-refl none r e m = elim m [ ]
  child-refl (more s t f) r e m = go (under-cases r s t f m) (subsumes-refl t) (λ n. child-refl f r e n)
    where
      go : ((r ≡ s) × (e ≡ t)) ⊎ Memᴰ e (under r f) → T (subsumes t t) → (Memᴰ e (under r f) → T (subsumes e e)) → T (subsumes e e)
      go (inl p) h k = rw p.1 h
      go (inr n) h k = k n
