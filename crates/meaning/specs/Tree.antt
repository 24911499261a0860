-- Trees whose nodes carry labels and whose edges carry roles. A plain concept is a tree of sets of names (LTCS-Report 15-09, Definition 1).
-- The nodes of a tree are written in reading order: a node, then its children, each with all that is below it.
-- Assumes nothing.
use Rattle.std.specs.Prelude.{Bool, true, ◌&&◌, cond, List, [], ◌∷◌, ◌++◌, ℕ, zero, suc, ◌+◌, max, eqb, leb}
use Rattle.std.proofs.Math.Option.{Option, some, none as nowhere}
use Rattle.meaning.specs.Bounds.{most_role}

mutual
  pub data Tree (L : Type 0) : Type 0 where
    node : L → Forest L → Tree L

  -- the children of a node, each under a role
  pub data Forest (L : Type 0) : Type 0 where
    none : Forest L
    more : ℕ → Tree L → Forest L → Forest L

abbrev pub Concept : Type 0
Concept = Tree ℕ

abbrev pub label_of : {L : Type 0} → Tree L → L
label_of (node a f) = a

abbrev pub children : {L : Type 0} → Tree L → Forest L
children (node a f) = f

-- how many children
unfoldable pub count : {L : Type 0} → Forest L → ℕ
count none = 0
count (more r t f) = 1 + count f

-- the children under the role r
unfoldable pub under : {L : Type 0} → ℕ → Forest L → List (Tree L)
under r none = []
under r (more s t f) = cond (eqb r s) (t ∷ under r f) (under r f)

-- how many nodes are written
unfoldable mutual
  pub nodes : {L : Type 0} → Tree L → ℕ
  nodes (node a f) = suc (nodes_f f)

  pub nodes_f : {L : Type 0} → Forest L → ℕ
  nodes_f none = 0
  nodes_f (more r t f) = nodes t + nodes_f f

-- the labels of the written nodes in reading order
unfoldable mutual
  pub written : {L : Type 0} → Tree L → List L
  written (node a f) = a ∷ written_f f

  pub written_f : {L : Type 0} → Forest L → List L
  written_f none = []
  written_f (more r t f) = written t ++ written_f f

-- how many levels a tree has: "Root depth is 0", so a tree of depth d has d + 1
unfoldable mutual
  pub levels : {L : Type 0} → Tree L → ℕ
  levels (node a f) = suc (levels_f f)

  pub levels_f : {L : Type 0} → Forest L → ℕ
  levels_f none = 0
  levels_f (more r t f) = max (levels t) (levels_f f)

-- each label passes, and each role is at most 31
unfoldable mutual
  pub each : {L : Type 0} → (L → Bool) → Tree L → Bool
  each ok (node a f) = ok a && each_f ok f

  pub each_f : {L : Type 0} → (L → Bool) → Forest L → Bool
  each_f ok none = true
  each_f ok (more r t f) = leb r most_role && each ok t && each_f ok f

-- the same tree with other labels
unfoldable mutual
  pub relabel : {L M : Type 0} → (L → M) → Tree L → Tree M
  relabel g (node a f) = node (g a) (relabel_f g f)

  pub relabel_f : {L M : Type 0} → (L → M) → Forest L → Forest M
  relabel_f g none = none
  relabel_f g (more r t f) = more r (relabel g t) (relabel_f g f)

-- A node is named by the child numbers that lead to it from the root. The subtree there, if there is a node:
unfoldable mutual
  pub subtree : {L : Type 0} → Tree L → List ℕ → Option (Tree L)
  subtree (node a f) [] = some (node a f)
  subtree (node a f) (k ∷ p) = subtree_f f k p

  pub subtree_f : {L : Type 0} → Forest L → ℕ → List ℕ → Option (Tree L)
  subtree_f none k p = nowhere
  subtree_f (more r t f) zero p = subtree t p
  subtree_f (more r t f) (suc k) p = subtree_f f k p

-- the role of the edge to the k-th child of the node at p
unfoldable pub role_of : {L : Type 0} → Forest L → ℕ → Option ℕ
role_of none k = nowhere
role_of (more r t f) zero = some r
role_of (more r t f) (suc k) = role_of f k

unfoldable mutual
  unfolding role_of

  pub role_at : {L : Type 0} → Tree L → List ℕ → ℕ → Option ℕ
  role_at (node a f) [] k = role_of f k
  role_at (node a f) (j ∷ p) k = role_at_f f j p k

  pub role_at_f : {L : Type 0} → Forest L → ℕ → List ℕ → ℕ → Option ℕ
  role_at_f none j p k = nowhere
  role_at_f (more r t f) zero p k = role_at t p k
  role_at_f (more r t f) (suc j) p k = role_at_f f j p k

-- all nodes in reading order
unfoldable pub below : ℕ → List (List ℕ) → List (List ℕ)
below k [] = []
below k (p ∷ ps) = (k ∷ p) ∷ below k ps

unfoldable mutual
  unfolding below

  pub places : {L : Type 0} → Tree L → List (List ℕ)
  places (node a f) = [] ∷ places_f f 0

  -- the children are numbered from k on
  pub places_f : {L : Type 0} → Forest L → ℕ → List (List ℕ)
  places_f none k = []
  places_f (more r t f) k = below k (places t) ++ places_f f (suc k)
