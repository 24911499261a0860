-- The degree is what Definition 20 says: the greatest value of a partial map of the reduced concept. It is one number, at most 1,
-- and lowest terms keep it.
-- Assumes nothing.
use mathlib.Core.Path.{sym}
use Prim.Native.Nat.{◌≤◌}
use native.Mathlib.Nat.{le_antisymm, le_of_eq, mul-le-mul_right}
use Rattle.meaning.specs.Tree.{Concept}
use Rattle.meaning.specs.Graph.{Graph}
use Rattle.meaning.specs.Fraction.{Frac, Same, AtMost, Lowest}
use Rattle.meaning.specs.Reduce.{reduce}
use Rattle.meaning.specs.Partial.{value_of, IsDegree}
use Rattle.meaning.specs.Degree.{degree_of, answered}
use Rattle.meaning.proofs.Fraction.{at-most-trans, same-trans}
use Rattle.meaning.proofs.Lowest.{lowest-is, lowest-at-most-one}
use Rattle.meaning.proofs.Scale.{scale-pos, degree-le}
use Rattle.meaning.proofs.Value.{value-number, value_pos, number-le}
use Rattle.meaning.proofs.Chosen.{chosen, chosen-map, chosen-number}

module _ {N : Type 0} (G : Graph N) (t : Concept) (x : N) where
  -- the map that the degree is reached by
  pub chosen-value : Same (value_of G (reduce t) x (chosen G (reduce t) x)) (degree_of G t x)
  chosen-value = rw (← chosen-number G (reduce t) x) (value-number G (reduce t) x (chosen G (reduce t) x))

  pub degree-is : IsDegree G t x (degree_of G t x)
  degree-is = record {
    positive = scale-pos (reduce t);
    no_more = λ h. rw (value-number G (reduce t) x h.map) (mul-le-mul_right (value_of G (reduce t) x h.map).den (number-le G (reduce t) x h));
    reached = (chosen-map G (reduce t) x, chosen-value);
  }

  degree-below : (d e : Frac) → IsDegree G t x d → IsDegree G t x e → AtMost d e
  degree-below d e p q =
      let h = p.reached.0 in
      at-most-trans d (value_of G (reduce t) x h.map) e (value_pos G (reduce t) x h.map) (le_of_eq (sym p.reached.1)) (q.no_more h)

  pub one-degree : (d e : Frac) → IsDegree G t x d → IsDegree G t x e → Same d e
  one-degree d e p q = le_antisymm (degree-below d e p q) (degree-below e d q p)

  pub degree-at-most-one : (degree_of G t x).num ≤ (degree_of G t x).den
  degree-at-most-one = degree-le G (reduce t) x

  -- ---- in lowest terms

  pub answered-lowest : Lowest (degree_of G t x) (answered G t x)
  answered-lowest = lowest-is (degree_of G t x) (scale-pos (reduce t))

  pub answered-at-most-one : (answered G t x).num ≤ (answered G t x).den
  answered-at-most-one = lowest-at-most-one (degree_of G t x) (scale-pos (reduce t)) degree-at-most-one

  pub answered-is : IsDegree G t x (answered G t x)
  answered-is =
      let pos = scale-pos (reduce t) in
      let e = sym answered-lowest.same in
      record {
        positive = answered-lowest.positive;
        no_more = λ h. at-most-trans (value_of G (reduce t) x h.map) (degree_of G t x) (answered G t x) pos (degree-is.no_more h) (le_of_eq e);
        reached = let h = degree-is.reached in (h.0, same-trans (value_of G (reduce t) x h.0.map) (degree_of G t x) (answered G t x) pos h.1 e);
      }
