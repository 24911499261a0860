-- LTCS-Report 15-09, Definitions 18 to 20, to the letter, in plain fractions: partial maps, their value, and the degree as the greatest of these.
-- Assumes nothing.
use Rattle.std.specs.Prelude.{◌≡◌, ℕ, zero, suc, ◌+◌, ◌<◌}
use mathlib.Core.List.{List, [], ◌∷◌, ◌++◌, Memᴰ}
use Rattle.std.proofs.Math.Option.{Option, some, none as nowhere}
use Rattle.meaning.specs.Names.{names, common}
use Rattle.meaning.specs.Tree.{node, Forest, none, more, Concept, count, role_at}
use Rattle.meaning.specs.Graph.{Graph}
use Rattle.meaning.specs.Fraction.{Frac, ◌÷◌, ◌⊕◌, per, Same, AtMost}
use Rattle.meaning.specs.Reduce.{reduce}

-- the value of a node with n names and children, when its held names and the values of its mapped children come to s
abbrev pub share : ℕ → Frac → Frac
share zero s = 1 ÷ 1
share (suc n) s = per s (suc n)

module _ {N : Type 0} (G : Graph N) where
  -- Definition 18. A partial function on the nodes: the root goes to x, and where a child is mapped, so is its parent,
  -- and the two items are linked under the edge's role.
  pub record PartialMap (t : Concept) (x : N) : Type 0 where
    pub map : List ℕ → Option N
    pub rooted : map [] ≡ some x
    pub edges : (p : List ℕ) (k r : ℕ) (y : N) → role_at t p k ≡ some r → map (p ++ k ∷ []) ≡ some y
        → (z : N) × (map p ≡ some z) × Memᴰ y (G.next z r)

  abbrev pub add_if : Option N → (N → Frac) → Frac → Frac
  add_if nowhere w s = s
  add_if (some y) w s = w y ⊕ s

  -- Definition 19: the value of the root, which goes to x. The map h is given from the root on.
  unfoldable mutual
    unfolding count

    pub value_of : Concept → N → (List ℕ → Option N) → Frac
    value_of (node a f) x h = share (names a + count f) (common a (G.names x) ÷ 1 ⊕ values_of f (λ j p. h (j ∷ p)))

    -- the sum over the mapped children
    pub values_of : Forest ℕ → (ℕ → List ℕ → Option N) → Frac
    values_of none h = 0 ÷ 1
    values_of (more r t f) h = add_if (h 0 []) (λ y. value_of t y (h 0)) (values_of f (λ j. h (suc j)))

  -- Definition 20: d is a number, and the greatest value that a partial map of the reduced concept reaches with its root at x
  pub record IsDegree (t : Concept) (x : N) (d : Frac) : Type 0 where
    pub positive : 0 < d.den
    pub no_more : (h : PartialMap (reduce t) x) → AtMost (value_of (reduce t) x h.map) d
    pub reached : (h : PartialMap (reduce t) x) × Same (value_of (reduce t) x h.map) d
