-- Document 01, "Reduction and degree": subsumption, the drop rule, the reduced form, size and scale.
-- Assumes nothing.
use Rattle.std.specs.Prelude.{Bool, true, false, ◌&&◌, ◌||◌, not, cond, List, [], ◌∷◌, ◌++◌, ℕ, ◌+◌, ◌*◌, max, replicate}
use Rattle.meaning.specs.Names.{names}
use Rattle.meaning.specs.Tree.{node, Forest, none, more, Concept, count, under, nodes}
use Rattle.meaning.specs.Graph.{tree_graph}
use Rattle.meaning.specs.Whole.{any, meets}

-- "D is subsumed by C when a whole map of C's tree into D's tree exists, root to root": c subsumes d
abbrev pub subsumes : Concept → Concept → Bool
subsumes c d = meets tree_graph c d

-- "Of the children of one node under one role, drop child i when another child j is subsumed by child i and either the converse fails or j
-- stands earlier." Of the children under c's role, those in `earlier` stand before c and those in `later` after it.
unfoldable pub dropped : List Concept → Concept → List Concept → Bool
unfolding any
dropped earlier c later = any (λ d. subsumes c d) earlier || any (λ d. subsumes c d && not (subsumes d c)) later

-- the kept ones of the second children; the first stand before them
unfoldable pub kept_of : Forest ℕ → Forest ℕ → Forest ℕ
unfolding dropped under
kept_of b none = none
kept_of b (more r c f) = cond (dropped (under r b) c (under r f)) (kept_of (more r c b) f) (more r c (kept_of (more r c b) f))

-- "Reduce from the leaves up."
unfoldable mutual
  unfolding kept_of

  pub reduce : Concept → Concept
  reduce (node a f) = node a (kept_of none (reduce_f f))

  pub reduce_f : Forest ℕ → Forest ℕ
  reduce_f none = none
  reduce_f (more r t f) = more r (reduce t) (reduce_f f)

-- Which written nodes are kept, in reading order: a dropped node is not, nor is any below it.
unfoldable mutual
  unfolding reduce dropped under nodes

  pub kept : Concept → List Bool
  kept (node a f) = true ∷ kept_f f none

  -- before the children f the children b are written
  pub kept_f : Forest ℕ → Forest ℕ → List Bool
  kept_f none b = []
  kept_f (more r t f) b =
      cond (dropped (under r (reduce_f b)) (reduce t) (under r (reduce_f f))) (replicate (nodes t) false) (kept t) ++ kept_f f (more r t b)

-- "Size: names plus child edges over all kept nodes": the size of the reduced form
unfoldable mutual
  unfolding count

  pub size : Concept → ℕ
  size (node a f) = names a + count f + size_f f

  pub size_f : Forest ℕ → ℕ
  size_f none = 0
  size_f (more r t f) = size t + size_f f

-- "The scale: the product, over the node and all below it, of n, with 1 for n = 0."
unfoldable mutual
  unfolding count

  pub scale : Concept → ℕ
  scale (node a f) = max 1 (names a + count f) * scale_f f

  pub scale_f : Forest ℕ → ℕ
  scale_f none = 1
  scale_f (more r t f) = scale t * scale_f f
