-- What a function says of a tree's nodes, in reading order, can be told along the tree.
-- Assumes nothing.
use mathlib.Core.Path.{◌≡◌, refl, ap, ap₂, ◌∙◌}
use mathlib.Core.List.{List, [], ◌∷◌, ◌++◌, map, map-append}
use mathlib.Core.Option.{some}
use Prim.Native.Nat.{ℕ, suc, ◌+◌}
use native.Mathlib.Nat.{add-zero, zero-add, suc-add, add-suc}
use lib.ListN.{length, length-append}
use Rattle.meaning.specs.Tree.{Tree, node, Forest, none, more, nodes, nodes_f, subtree, below, places, places_f}

pub subtree-root : {L : Type 0} (t : Tree L) → subtree t [] ≡ some t
unfolding subtree
subtree-root (node a f) = refl

map_below : {A : Type 0} (h : List ℕ → A) (k : ℕ) (l : List (List ℕ)) → map h (below k l) ≡ map (λ p. h (k ∷ p)) l
unfolding below
map_below h k [] = refl
map_below {A} h k (p ∷ l) = ap {B = List A} (λ z. h (k ∷ p) ∷ z) (map_below h k l)

module _ {L A : Type 0} where
  unfoldable mutual
    pub along : Tree L → (List ℕ → A) → List A
    along (node a f) h = h [] ∷ along_f f (λ k p. h (k ∷ p))

    pub along_f : Forest L → (ℕ → List ℕ → A) → List A
    along_f none h = []
    along_f (more r t f) h = along t (h 0) ++ along_f f (λ k. h (suc k))

  mutual
    unfolding along places

    pub along-places : (t : Tree L) (h : List ℕ → A) → map h (places t) ≡ along t h
    along-places (node a f) h = ap {B = List A} (λ z. h [] ∷ z) (along_f-places f h 0 ∙ simp add-zero)

    along_f-places : (f : Forest L) (h : List ℕ → A) (k : ℕ) → map h (places_f f k) ≡ along_f f (λ j p. h ((j + k) ∷ p))
    along_f-places none h k = refl
    along_f-places (more r t f) h k =
        let first : map (λ p. h (k ∷ p)) (places t) ≡ along t (λ p. h ((0 + k) ∷ p)) = simp zero-add (along-places t (λ p. h (k ∷ p))) in
        let rest : map h (places_f f (suc k)) ≡ along_f f (λ j p. h ((suc j + k) ∷ p)) = simp (suc-add, ← add-suc) (along_f-places f h (suc k)) in
        map-append h (below k (places t)) (places_f f (suc k)) ∙ ap₂ {C = List A} ◌++◌ (map_below h k (places t) ∙ first) rest

  mutual
    unfolding along nodes

    pub along-length : (t : Tree L) (h : List ℕ → A) → length (along t h) ≡ nodes t
    along-length (node a f) h = ap suc (along_f-length f (λ k p. h (k ∷ p)))

    along_f-length : (f : Forest L) (h : ℕ → List ℕ → A) → length (along_f f h) ≡ nodes_f f
    along_f-length none h = refl
    along_f-length (more r t f) h =
        length-append (along t (h 0)) (along_f f (λ k. h (suc k))) ∙ ap₂ ◌+◌ (along-length t (h 0)) (along_f-length f (λ k. h (suc k)))
