-- Document 01, "Slips that look right": each wrong definition, to be told apart from ours on an input (proofs/Slips.antt).
-- Nothing here is used by a promise.
-- Assumes nothing.
use Rattle.std.specs.Prelude.{◌||◌, cond, List, [], ◌∷◌, ℕ, zero, suc, ◌+◌, ◌*◌, ◌/◌, max, eqb}
use Rattle.std.proofs.Math.Option.{Option, some, none as nowhere}
use Rattle.meaning.specs.Names.{names, common}
use Rattle.meaning.specs.Tree.{node, Forest, none, more, Concept, label_of, count, under}
use Rattle.meaning.specs.Graph.{Graph}
use Rattle.meaning.specs.Fraction.{Frac, ◌÷◌}
use Rattle.meaning.specs.Whole.{any}
use Rattle.meaning.specs.Reduce.{subsumes, scale, scale_f, reduce_f}
use Rattle.meaning.specs.Degree.{or_one, best, degree}
use Rattle.meaning.specs.Shown.{pick}

-- "Scoring the tree as written"
abbrev pub as_written : {N : Type 0} → Graph N → Concept → N → Frac
as_written G t x = degree G t x ÷ scale t

-- "Asking distinct successors for distinct children": those in `used` are taken already
unfoldable pub unused : List ℕ → List ℕ → List ℕ
unused used [] = []
unused used (y ∷ ys) = cond (any (λ z. eqb y z) used) (unused used ys) (y ∷ unused used ys)

module _ (G : Graph ℕ) where
  unfoldable mutual
    pub distinct : Concept → ℕ → ℕ
    distinct (node a f) x = or_one (names a + count f) (common a (G.names x) * scale_f f + distinct_f f x [])

    pub distinct_f : Forest ℕ → ℕ → List ℕ → ℕ
    distinct_f none x used = 0
    distinct_f (more r t f) x used =
        max (scale t * distinct_f f x used)
        (best (λ y. distinct t y * scale_f f + scale t * distinct_f f x (y ∷ used)) (unused used (G.next x r)))

-- "Choosing the successor by its names alone"
abbrev pub value_at : Option ℕ → (ℕ → ℕ) → ℕ
value_at nowhere v = 0
value_at (some y) v = v y

module _ (G : Graph ℕ) where
  unfoldable mutual
    pub by_names : Concept → ℕ → ℕ
    by_names (node a f) x = or_one (names a + count f) (common a (G.names x) * scale_f f + by_names_f f x)

    pub by_names_f : Forest ℕ → ℕ → ℕ
    by_names_f none x = 0
    by_names_f (more r t f) x =
        value_at (pick (λ y. common (label_of t) (G.names y)) (G.next x r)) (λ y. by_names t y) * scale_f f + scale t * by_names_f f x

-- "Comparing rounded decimals": to hundredths
abbrev pub rounded : Frac → Frac
rounded d = ((d.num * 200 + d.den) / (d.den * 2)) ÷ 100

-- "Scoring an empty child as 0"
abbrev pub or_zero : ℕ → ℕ → ℕ
or_zero zero v = 0
or_zero (suc n) v = v

module _ {N : Type 0} (G : Graph N) where
  unfoldable mutual
    pub empty_none : Concept → N → ℕ
    empty_none (node a f) x = or_zero (names a + count f) (common a (G.names x) * scale_f f + empty_none_f f x)

    pub empty_none_f : Forest ℕ → N → ℕ
    empty_none_f none x = 0
    empty_none_f (more r t f) x = best (λ y. empty_none t y) (G.next x r) * scale_f f + scale t * empty_none_f f x

-- "Dropping both of two equivalent children"
unfoldable pub keep_neither : Forest ℕ → Forest ℕ → Forest ℕ
keep_neither b none = none
keep_neither b (more r c f) =
    cond (any (λ d. subsumes c d) (under r b) || any (λ d. subsumes c d) (under r f)) (keep_neither (more r c b) f) (more r c (keep_neither (more r c b) f))

abbrev pub both_dropped : Concept → Concept
both_dropped (node a f) = node a (keep_neither none (reduce_f f))
