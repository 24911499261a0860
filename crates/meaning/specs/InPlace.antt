-- The degree in the reduced tree, worked out over the tree as it is written: a dropped child is passed over. This is what code computes;
-- that it is the degree of Degree.antt is a theorem (proofs/InPlace.antt).
-- Assumes nothing.
use Rattle.std.specs.Prelude.{Bool, cond, List, [], ◌++◌, ℕ, ◌+◌, ◌*◌, max, replicate}
use Rattle.meaning.specs.Names.{names, common}
use Rattle.meaning.specs.Tree.{node, Forest, none, more, Concept, under, nodes}
use Rattle.meaning.specs.Graph.{Graph}
use Rattle.meaning.specs.Reduce.{dropped}
use Rattle.meaning.specs.Degree.{or_one, best}
use Rattle.meaning.specs.Table.{up_to}

-- of the children f, before which the children b are written: how many are kept
unfoldable pub count_in : Forest ℕ → Forest ℕ → ℕ
unfolding dropped under
count_in none b = 0
count_in (more r t f) b = cond (dropped (under r b) t (under r f)) (count_in f (more r t b)) (1 + count_in f (more r t b))

unfoldable mutual
  unfolding count_in

  pub size_in : Concept → ℕ
  size_in (node a f) = names a + count_in f none + size_in_f f none

  pub size_in_f : Forest ℕ → Forest ℕ → ℕ
  size_in_f none b = 0
  size_in_f (more r t f) b = cond (dropped (under r b) t (under r f)) (size_in_f f (more r t b)) (size_in t + size_in_f f (more r t b))

unfoldable mutual
  unfolding count_in

  pub scale_in : Concept → ℕ
  scale_in (node a f) = max 1 (names a + count_in f none) * scale_in_f f none

  pub scale_in_f : Forest ℕ → Forest ℕ → ℕ
  scale_in_f none b = 1
  scale_in_f (more r t f) b = cond (dropped (under r b) t (under r f)) (scale_in_f f (more r t b)) (scale_in t * scale_in_f f (more r t b))

module _ {N : Type 0} (G : Graph N) where
  unfoldable mutual
    unfolding count_in scale_in best

    pub degree_in : Concept → N → ℕ
    degree_in (node a f) x = or_one (names a + count_in f none) (common a (G.names x) * scale_in_f f none + degree_in_f f none x)

    pub degree_in_f : Forest ℕ → Forest ℕ → N → ℕ
    degree_in_f none b x = 0
    degree_in_f (more r t f) b x =
        cond (dropped (under r b) t (under r f)) (degree_in_f f (more r t b) x)
        (best (λ y. degree_in t y) (G.next x r) * scale_in_f f (more r t b) + scale_in t * degree_in_f f (more r t b) x)

-- the table of a list (document 02, §3), over the tree as it is written, with 0 at the items that are out
module _ (G : Graph ℕ) (out : ℕ → Bool) (items : ℕ) where
  abbrev pub placed_in : Concept → ℕ → ℕ
  placed_in t x = cond (out x) 0 (degree_in G t x)

  unfoldable mutual
    unfolding dropped under nodes up_to

    pub table_in : Concept → List ℕ
    table_in (node a f) = up_to items (λ x. placed_in (node a f) x) ++ table_in_f f none

    pub table_in_f : Forest ℕ → Forest ℕ → List ℕ
    table_in_f none b = []
    table_in_f (more r t f) b = cond (dropped (under r b) t (under r f)) (replicate (nodes t * items) 0) (table_in t) ++ table_in_f f (more r t b)
