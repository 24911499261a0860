-- The scale is positive, and the degree is at most the scale.
-- Assumes nothing.
use mathlib.Core.Path.{◌≡◌, refl}
use Prim.Native.Nat.{ℕ, zero, suc, ◌+◌, ◌*◌, ◌≤◌, ◌<◌, zero-le, max}
use native.Mathlib.Nat.{le_refl, mul-pos, mul-le-mul_left, mul-le-mul_right}
use native.Mathlib.Omega.{arith}
use Rattle.meaning.specs.Names.{names}
use Rattle.meaning.specs.Tree.{node, Forest, none, more, Concept, count}
use Rattle.meaning.specs.Graph.{Graph}
use Rattle.meaning.specs.Reduce.{scale, scale_f}
use Rattle.meaning.specs.Degree.{or_one, degree, degree_f}
use Rattle.meaning.proofs.Names.{common-le}
use Rattle.meaning.proofs.Best.{best-below}

pub max-one : (n : ℕ) → max 1 (suc n) ≡ suc n
max-one n = omega arith

mutual
  unfolding scale

  pub scale-pos : (t : Concept) → 0 < scale t
  scale-pos (node a f) = mul-pos (omega arith) (scale_f-pos f)

  pub scale_f-pos : (f : Forest ℕ) → 0 < scale_f f
  scale_f-pos none = le_refl 1
  scale_f-pos (more r t f) = mul-pos (scale-pos t) (scale_f-pos f)

-- no children: nothing below
pub bare-scale : (f : Forest ℕ) → count f ≡ 0 → scale_f f ≡ 1
unfolding count scale
bare-scale none e = refl
bare-scale (more r t f) e = absurd (omega arith)

or_one-le : (n S v : ℕ) → 0 < S → v ≤ n * S → or_one n v ≤ max 1 n * S
or_one-le zero S v p h = omega arith
or_one-le (suc n) S v p h = rw (max-one n) h

module _ {N : Type 0} (G : Graph N) where
  mutual
    unfolding degree scale count

    pub degree-le : (t : Concept) (x : N) → degree G t x ≤ scale t
    degree-le (node a f) x =
        or_one-le (names a + count f) (scale_f f) _ (scale_f-pos f)
        (omega (arith, mul-le-mul_right (scale_f f) (common-le a (G.names x)), degree_f-le f x))

    pub degree_f-le : (f : Forest ℕ) (x : N) → degree_f G f x ≤ count f * scale_f f
    degree_f-le none x = zero-le
    degree_f-le (more r t f) x =
        omega (
          arith,
          mul-le-mul_right (scale_f f) (best-below (λ z. degree G t z) (G.next x r) (scale t) (λ z. degree-le t z)),
          mul-le-mul_left (scale t) (degree_f-le f x),
        )
