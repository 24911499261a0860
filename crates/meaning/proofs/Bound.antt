-- A tree of size at most 60 has a scale of at most 3 ^ 20.
-- Assumes nothing.
use mathlib.Core.Path.{◌≡◌, ap, ◌∙◌}
use Prim.Native.Nat.{ℕ, zero, suc, ◌+◌, ◌*◌, ◌^◌, ◌≤◌, max}
use native.Mathlib.Nat.{le_trans, mul-le-mul, pow-suc, pow-le-pow_right, not-le_of_lt}
use native.Mathlib.Decide.{dec_le}
use native.Mathlib.Omega.{arith}
use lib.Dec.{lit≤}
use lib.Pow.{pow-add}
use Rattle.meaning.specs.Names.{names}
use Rattle.meaning.specs.Tree.{node, Forest, none, more, Concept, count}
use Rattle.meaning.specs.Reduce.{size, size_f, scale, scale_f}
use Rattle.meaning.specs.Bounds.{most_size, most_scale}

abbrev cube : ℕ → ℕ
cube n = n * n * n

cube-three : (m : ℕ) → cube (m + 3) ≤ 3 ^ (m + 3)
cube-three zero = lit≤ tt
cube-three (suc m) =
    let ih = cube-three m in
    let e : 3 ^ (suc m + 3) ≡ 3 * 3 ^ (m + 3) = ap (λ (k : ℕ). 3 ^ k) (omega arith) ∙ pow-suc 3 (m + 3) ∙ omega arith in
    rw e (omega arith)

-- n ^ 3 ≤ 3 ^ n, and 1 for n = 0
cube-le : (n : ℕ) → cube (max 1 n) ≤ 3 ^ n
cube-le zero = lit≤ tt
cube-le (suc zero) = lit≤ tt
cube-le (suc (suc zero)) = lit≤ tt
cube-le (suc (suc (suc m))) =
    let e : max 1 (suc (suc (suc m))) ≡ m + 3 = omega arith in
    let k : suc (suc (suc m)) ≡ m + 3 = omega arith in
    rw (e, k) (cube-three m)

cube-mul : (a b x y : ℕ) → cube a ≤ 3 ^ x → cube b ≤ 3 ^ y → cube (a * b) ≤ 3 ^ (x + y)
cube-mul a b x y h k = rw pow-add (le_trans (omega arith) (mul-le-mul h k))

mutual
  unfolding scale size

  cube-scale : (t : Concept) → cube (scale t) ≤ 3 ^ size t
  cube-scale (node a f) =
      cube-mul (max 1 (names a + count f)) (scale_f f) (names a + count f) (size_f f) (cube-le (names a + count f)) (cube-scale_f f)

  cube-scale_f : (f : Forest ℕ) → cube (scale_f f) ≤ 3 ^ size_f f
  cube-scale_f none = lit≤ tt
  cube-scale_f (more r t f) = cube-mul (scale t) (scale_f f) (size t) (size_f f) (cube-scale t) (cube-scale_f f)

pub scale-bound : (t : Concept) → size t ≤ most_size → scale t ≤ most_scale
scale-bound t h = go (dec_le (scale t) most_scale)
  where
    up : cube (scale t) ≤ 3 ^ most_size
    up = le_trans (cube-scale t) (pow-le-pow_right {n = 3} (lit≤ tt) h)

    go : Dec (scale t ≤ most_scale) → scale t ≤ most_scale
    go (yes k) = k
    go (no k) =
        let l : suc most_scale ≤ scale t = omega arith in
        absurd (not-le_of_lt {n = cube (suc most_scale)} {m = 3 ^ most_size} (lit≤ tt) (le_trans (mul-le-mul (mul-le-mul l l) l) up))
