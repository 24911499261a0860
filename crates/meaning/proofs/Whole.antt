-- The test `meets_by` is true exactly where a whole map exists, whatever the labels are and however they fit.
-- The map that it finds sends each child to the first successor that meets the child.
-- Assumes nothing.
use mathlib.Core.Path.{◌≡◌, refl}
use mathlib.Core.Logic.{◌↔◌}
use mathlib.Core.Bool.{Bool}
use mathlib.Core.List.{List, [], ◌∷◌, ◌++◌, Memᴰ}
use mathlib.Core.Option.{Option, some}
use mathlib.Core.Option.{none as nowhere}
use Prim.Native.Nat.{ℕ, zero, suc}
use lib.Dec.{T}
use Rattle.meaning.specs.Tree.{Tree, node, Forest, none, more, label_of, subtree, subtree_f, role_of, role_at, role_at_f}
use Rattle.meaning.specs.Graph.{Graph}
use Rattle.meaning.specs.Whole.{any, meets_by, meets_by_f, WholeMap}
use Rattle.meaning.specs.Shown.{first}
use Rattle.meaning.proofs.Tests.{and_both, both-and, first_found, found-any, some_inj, not_some}

module _ {L N : Type 0} (fits : L → N → Bool) (G : Graph N) where
  -- ---- what the test says at a node, and of its children

  pub at-node : (a : L) (f : Forest L) (x : N) → T (meets_by fits G (node a f) x) ↔ (T (fits a x) × T (meets_by_f fits G f x))
  unfolding meets_by
  at-node a f x = (and_both (fits a x) (meets_by_f fits G f x), λ h. both-and (fits a x) (meets_by_f fits G f x) h.0 h.1)

  -- a successor of x under r meets t
  abbrev pub served : N → ℕ → Tree L → Bool
  served x r t = any (λ y. meets_by fits G t y) (G.next x r)

  pub at_more : (r : ℕ) (t : Tree L) (f : Forest L) (x : N) → T (meets_by_f fits G (more r t f) x) ↔ (T (served x r t) × T (meets_by_f fits G f x))
  unfolding meets_by
  at_more r t f x = (and_both (served x r t) (meets_by_f fits G f x), λ h. both-and (served x r t) (meets_by_f fits G f x) h.0 h.1)

  -- ---- the map that is found

  abbrev or_stay : Option N → N → (N → N) → N
  or_stay nowhere x k = x
  or_stay (some y) x k = k y

  -- where the nodes go; what is no node stays where its way ends
  unfoldable mutual
    unfolding first meets_by

    pub first_map : Tree L → N → List ℕ → N
    first_map (node a f) x [] = x
    first_map (node a f) x (k ∷ p) = first_map_f f x k p

    pub first_map_f : Forest L → N → ℕ → List ℕ → N
    first_map_f none x k p = x
    first_map_f (more r t f) x zero p = or_stay (first (λ y. meets_by fits G t y) (G.next x r)) x (λ y. first_map t y p)
    first_map_f (more r t f) x (suc k) p = first_map_f f x k p

  -- where the first child goes
  first-met : (r : ℕ) (t : Tree L) (f : Forest L) (x : N) → T (meets_by_f fits G (more r t f) x)
      → (y : N) × (first (λ z. meets_by fits G t z) (G.next x r) ≡ some y) × Memᴰ y (G.next x r) × T (meets_by fits G t y)
  first-met r t f x m = first_found (λ y. meets_by fits G t y) (G.next x r) ((at_more r t f x).0 m).0

  pub first-root : (t : Tree L) (x : N) → first_map t x [] ≡ x
  unfolding first_map
  first-root (node a f) x = refl

  mutual
    unfolding first_map subtree

    pub first-labels : (t : Tree L) (x : N) → T (meets_by fits G t x) → (p : List ℕ) (s : Tree L) → subtree t p ≡ some s
        → T (fits (label_of s) (first_map t x p))
    first-labels (node a f) x m [] s e = rw (← some_inj e) ((at-node a f x).0 m).0
    first-labels (node a f) x m (k ∷ p) s e = first-labels_f f x ((at-node a f x).0 m).1 k p s e

    first-labels_f : (f : Forest L) (x : N) → T (meets_by_f fits G f x) → (k : ℕ) (p : List ℕ) (s : Tree L) → subtree_f f k p ≡ some s
        → T (fits (label_of s) (first_map_f f x k p))
    first-labels_f none x m k p s e = absurd (not_some s e)
    first-labels_f (more r t f) x m zero p s e = let q = first-met r t f x m in rw q.1 (first-labels t q.0 q.3 p s e)
    first-labels_f (more r t f) x m (suc k) p s e = first-labels_f f x ((at_more r t f x).0 m).1 k p s e

  first-tops : (f : Forest L) (x : N) → T (meets_by_f fits G f x) → (k r : ℕ) → role_of f k ≡ some r → Memᴰ (first_map_f f x k []) (G.next x r)
  unfolding first_map role_of
  first-tops none x m k r e = absurd (not_some r e)
  first-tops (more s t f) x m zero r e = let q = first-met s t f x m in rw (← some_inj e, q.1, first-root t q.0) q.2
  first-tops (more s t f) x m (suc k) r e = first-tops f x ((at_more s t f x).0 m).1 k r e

  mutual
    unfolding first_map role_at

    pub first-edges : (t : Tree L) (x : N) → T (meets_by fits G t x) → (p : List ℕ) (k r : ℕ) → role_at t p k ≡ some r
        → Memᴰ (first_map t x (p ++ k ∷ [])) (G.next (first_map t x p) r)
    first-edges (node a f) x m [] k r e = first-tops f x ((at-node a f x).0 m).1 k r e
    first-edges (node a f) x m (j ∷ p) k r e = first-edges_f f x ((at-node a f x).0 m).1 j p k r e

    first-edges_f : (f : Forest L) (x : N) → T (meets_by_f fits G f x) → (j : ℕ) (p : List ℕ) (k r : ℕ) → role_at_f f j p k ≡ some r
        → Memᴰ (first_map_f f x j (p ++ k ∷ [])) (G.next (first_map_f f x j p) r)
    first-edges_f none x m j p k r e = absurd (not_some r e)
    first-edges_f (more s t f) x m zero p k r e = let q = first-met s t f x m in rw q.1 (first-edges t q.0 q.3 p k r e)
    first-edges_f (more s t f) x m (suc j) p k r e = first-edges_f f x ((at_more s t f x).0 m).1 j p k r e

  abbrev pub meets-map : (t : Tree L) (x : N) → T (meets_by fits G t x) → WholeMap fits G t x
  meets-map t x m = record { map = first_map t x; rooted = first-root t x; labels = first-labels t x m; edges = first-edges t x m }

  -- ---- any map will do

  -- what a whole map says of the children of a node that goes to x
  record ChildMaps (f : Forest L) (x : N) (map : ℕ → List ℕ → N) : Type 0 where
    labels : (k : ℕ) (p : List ℕ) (s : Tree L) → subtree_f f k p ≡ some s → T (fits (label_of s) (map k p))
    tops : (k r : ℕ) → role_of f k ≡ some r → Memᴰ (map k []) (G.next x r)
    edges : (j : ℕ) (p : List ℕ) (k r : ℕ) → role_at_f f j p k ≡ some r → Memᴰ (map j (p ++ k ∷ [])) (G.next (map j p) r)

  mutual
    unfolding meets_by subtree role_at

    pub map-meets : (t : Tree L) (x : N) → WholeMap fits G t x → T (meets_by fits G t x)
    map-meets (node a f) x h =
        let below : ChildMaps f x (λ k p. h.map (k ∷ p)) = record {
          labels = λ k p. h.labels (k ∷ p);
          tops = λ k r e. rw h.rooted at (h.edges [] k r e);
          edges = λ j p. h.edges (j ∷ p);
        } in
        (at-node a f x).1 (rw h.rooted at (h.labels [] (node a f) refl), map-meets_f f x _ below)

    map-meets_f : (f : Forest L) (x : N) (map : ℕ → List ℕ → N) → ChildMaps f x map → T (meets_by_f fits G f x)
    map-meets_f none x map h = tt
    map-meets_f (more r t f) x map h =
        let first = map-meets t (map 0 []) (record { map = map 0; rooted = refl; labels = h.labels 0; edges = h.edges 0 }) in
        let rest : ChildMaps f x (λ k. map (suc k)) = record { labels = λ k. h.labels (suc k); tops = λ k. h.tops (suc k); edges = λ j. h.edges (suc j) } in
        (at_more r t f x).1 (found-any (λ y. meets_by fits G t y) (h.tops 0 r refl) first, map-meets_f f x _ rest)

  pub meets-whole : (t : Tree L) (x : N) → T (meets_by fits G t x) ↔ WholeMap fits G t x
  meets-whole t x = (meets-map t x, map-meets t x)
