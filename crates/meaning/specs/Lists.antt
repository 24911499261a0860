-- Document 02, §1: a requirement handed over as lists, when lists form one, which one they say, and the lists of a requirement.
-- "It hands over a list of nodes in reading order (names, depth, role to the parent, not read at the root) and for each threshold its node,
-- comparison, p, q and the list of its inner concept."
-- Assumes nothing.
use Rattle.std.specs.Prelude.{Bool, true, false, ◌&&◌, cond, List, [], ◌∷◌, ◌++◌, ℕ, suc, ltb, leb, eqb, length}
use Rattle.meaning.specs.Tree.{Tree, node, Forest, none, more, Concept}
use Rattle.meaning.specs.Fraction.{◌÷◌}
use Rattle.meaning.specs.Requirement.{Threshold, Label, Requirement}
use Rattle.meaning.specs.Message.{code, comparison}

-- ---- the lists

-- a node in a list: what it carries (at first its names), its depth, and the role to its parent
pub record Listed (L : Type 0) : Type 0 where
  pub label : L
  pub depth : ℕ
  pub role : ℕ

-- a threshold in a list: the number of its node, from 0 in reading order, its comparison's byte, p, q and the list of its inner concept
pub record Limit : Type 0 where
  pub owner : ℕ
  pub how : ℕ
  pub p : ℕ
  pub q : ℕ
  pub inner : List (Listed ℕ)

pub record Lists : Type 0 where
  pub outer : List (Listed ℕ)
  pub limits : List Limit

-- ---- when lists form a requirement

-- "first 0, each later one from 1 to one above the one before"
unfoldable pub go_on : {L : Type 0} → ℕ → List (Listed L) → Bool
go_on before [] = true
go_on before (x ∷ xs) = leb 1 x.depth && leb x.depth (suc before) && go_on x.depth xs

unfoldable pub form_tree : {L : Type 0} → List (Listed L) → Bool
form_tree [] = false
form_tree (x ∷ xs) = eqb x.depth 0 && go_on 0 xs

-- each threshold's node is in the list of n nodes and not below the one before, and its own list forms a tree
unfoldable pub stand_at : ℕ → ℕ → List Limit → Bool
stand_at n before [] = true
stand_at n before (h ∷ hs) = ltb h.owner n && leb before h.owner && form_tree h.inner && stand_at n h.owner hs

unfoldable pub form : Lists → Bool
form l = form_tree l.outer && stand_at (length l.outer) 0 l.limits

-- ---- the requirement that they say

-- a tree that stands at a depth, under a role
pub record Grown (L : Type 0) : Type 0 where
  pub tree : Tree L
  pub depth : ℕ
  pub role : ℕ

-- the first of some trees, as long as they stand at this depth, as children; and the others
unfoldable pub gathered : {L : Type 0} → ℕ → List (Grown L) → Forest L
gathered d [] = none
gathered d (g ∷ gs) = cond (eqb g.depth d) (more g.role g.tree (gathered d gs)) none

unfoldable pub others : {L : Type 0} → ℕ → List (Grown L) → List (Grown L)
others d [] = []
others d (g ∷ gs) = cond (eqb g.depth d) (others d gs) (g ∷ gs)

-- the trees of a list: a node has those for children that follow it one deeper
unfoldable pub grown : {L : Type 0} → List (Listed L) → List (Grown L)
grown [] = []
grown (x ∷ xs) =
    record { tree = node x.label (gathered (suc x.depth) (grown xs)); depth = x.depth; role = x.role } ∷ others (suc x.depth) (grown xs)

-- the first tree; a list that forms a tree has no other, and is not empty
unfoldable pub first_tree : {L : Type 0} → L → List (Grown L) → Tree L
first_tree a [] = node a none
first_tree a (g ∷ gs) = g.tree

unfoldable pub concept : List (Listed ℕ) → Concept
concept xs = first_tree 0 (grown xs)

abbrev pub threshold : Limit → Threshold
threshold h = record { how = comparison h.how; limit = h.p ÷ h.q; inner = concept h.inner }

-- the thresholds of the i-th node
unfoldable pub owned : ℕ → List Limit → List Threshold
owned i [] = []
owned i (h ∷ hs) = cond (eqb h.owner i) (threshold h ∷ owned i hs) (owned i hs)

-- the nodes from the i-th on, with their thresholds
unfoldable pub labelled : ℕ → List (Listed ℕ) → List Limit → List (Listed Label)
labelled i [] hs = []
labelled i (x ∷ xs) hs =
    record { label = record { names = x.label; thresholds = owned i hs }; depth = x.depth; role = x.role } ∷ labelled (suc i) xs hs

unfoldable pub said : Lists → Requirement
said l = first_tree (record { names = 0; thresholds = [] }) (grown (labelled 0 l.outer l.limits))

-- ---- the lists of a requirement

-- the nodes of a tree that stands at a depth under a role, in reading order
unfoldable mutual
  pub listed : {L : Type 0} → ℕ → ℕ → Tree L → List (Listed L)
  listed d r (node a f) = record { label = a; depth = d; role = r } ∷ listed_f (suc d) f

  pub listed_f : {L : Type 0} → ℕ → Forest L → List (Listed L)
  listed_f d none = []
  listed_f d (more r t f) = listed d r t ++ listed_f d f

-- the role of a root is not looked at: 0 stands there
abbrev pub limit_of : ℕ → Threshold → Limit
limit_of i h = record { owner = i; how = code h.how; p = h.limit.num; q = h.limit.den; inner = listed 0 0 h.inner }

unfoldable pub limits_at : ℕ → List Threshold → List Limit
limits_at i [] = []
limits_at i (h ∷ hs) = limit_of i h ∷ limits_at i hs

-- the thresholds of the nodes from the i-th on
unfoldable pub limits_of : ℕ → List (Listed Label) → List Limit
limits_of i [] = []
limits_of i (x ∷ xs) = limits_at i x.label.thresholds ++ limits_of (suc i) xs

unfoldable pub names_only : List (Listed Label) → List (Listed ℕ)
names_only [] = []
names_only (x ∷ xs) = record { label = x.label.names; depth = x.depth; role = x.role } ∷ names_only xs

unfoldable pub lists_of : Requirement → Lists
lists_of t = record { outer = names_only (listed 0 0 t); limits = limits_of 0 (listed 0 0 t) }
