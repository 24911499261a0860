-- The degree as it is worked out, from below: a whole number over the tree's scale.
-- Assumes nothing.
use Rattle.std.specs.Prelude.{List, [], ◌∷◌, ℕ, zero, suc, ◌+◌, ◌*◌, max}
use Rattle.meaning.specs.Names.{names, common}
use Rattle.meaning.specs.Tree.{node, Forest, none, more, Concept, count}
use Rattle.meaning.specs.Graph.{Graph}
use Rattle.meaning.specs.Fraction.{Frac, ◌÷◌, lowest}
use Rattle.meaning.specs.Reduce.{reduce, scale, scale_f}

-- "its value is 1 if n is 0"
abbrev pub or_one : ℕ → ℕ → ℕ
or_one zero v = 1
or_one (suc n) v = v

-- the greatest of v over a list, 0 where it is empty
unfoldable pub best : {A : Type 0} → (A → ℕ) → List A → ℕ
best v [] = 0
best v (x ∷ xs) = max (v x) (best v xs)

module _ {N : Type 0} (G : Graph N) where
  -- "the degree at a node needs the degrees at its children, each taken at every successor": the degree of x, times the scale
  unfoldable mutual
    unfolding count scale best

    pub degree : Concept → N → ℕ
    degree (node a f) x = or_one (names a + count f) (common a (G.names x) * scale_f f + degree_f f x)

    -- the children's part of the sum, times the scale of them all
    pub degree_f : Forest ℕ → N → ℕ
    degree_f none x = 0
    degree_f (more r t f) x = best (λ y. degree t y) (G.next x r) * scale_f f + scale t * degree_f f x

  -- the degree of x in a concept, that is in its reduced form; and in lowest terms, as it is answered
  abbrev pub degree_of : Concept → N → Frac
  degree_of t x = degree (reduce t) x ÷ scale (reduce t)

  abbrev pub answered : Concept → N → Frac
  answered t x = lowest (degree_of t x)
