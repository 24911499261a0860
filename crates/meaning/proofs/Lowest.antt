-- Lowest terms: `lowest` gives them, only one fraction is in them, and the test of a common factor above 1 is the greatest common divisor.
-- Assumes nothing.
use mathlib.Core.Path.{◌≡◌, sym, ap, ap₂, subst, ◌∙◌}
use mathlib.Core.Logic.{◌↔◌}
use Prim.Native.Nat.{ℕ, zero, suc, ◌*◌, ◌/◌, ◌%◌, ◌≤◌, ◌<◌, ◌∣◌}
use native.Mathlib.Nat.{le_refl, le_antisymm, le_of_mul-le-mul_right, not-suc-le-zero, zero-lt-suc, mul_comm, mul-le-mul_right, eq_of_mul-eq-mul_right}
use native.Mathlib.Nat.{mod-lt, dvd_refl, dvd-zero, dvd-mod_iff, dvd_antisymm, dvd-mul_left, dvd_of_mul-dvd-mul_right, mul-dvd-mul_right}
use native.Mathlib.Nat.{div-mul_cancel, le_of_dvd, le-div_iff_mul-le, div-le_self, pos_of_dvd_of_pos}
use native.Mathlib.Omega.{arith}
use lib.Dec.{T, eqb, eqb→eq}
use Rattle.meaning.specs.Fraction.{Frac, Same, gcd_in, gcd, lowest, Lowest}
use Rattle.meaning.proofs.Tests.{is-eqb}
use Rattle.meaning.proofs.Fraction.{same-trans}

-- ---- Euclid's remainders give the greatest common divisor

gcd_in-divides : (k a b : ℕ) → b < k → (gcd_in k a b ∣ a) × (gcd_in k a b ∣ b)
unfolding gcd_in
gcd_in-divides zero a b h = absurd (not-suc-le-zero h)
gcd_in-divides (suc k) a zero h = (dvd_refl a, dvd-zero a)
gcd_in-divides (suc k) a (suc b) h =
    let p = gcd_in-divides k (suc b) (a % suc b) (omega (arith, mod-lt a (zero-lt-suc b))) in
    ((dvd-mod_iff (gcd_in k (suc b) (a % suc b)) p.0).0 p.1, p.0)

gcd_in-greatest : (k a b d : ℕ) → d ∣ a → d ∣ b → d ∣ gcd_in k a b
unfolding gcd_in
gcd_in-greatest zero a b d h e = h
gcd_in-greatest (suc k) a zero d h e = h
gcd_in-greatest (suc k) a (suc b) d h e = gcd_in-greatest k (suc b) (a % suc b) d e ((dvd-mod_iff d e).1 h)

-- it divides both, and each common divisor divides it
pub gcd-divides : (a b : ℕ) → (gcd a b ∣ a) × (gcd a b ∣ b)
unfolding gcd
gcd-divides a b = gcd_in-divides (suc b) a b (le_refl (suc b))

pub gcd-greatest : (a b d : ℕ) → d ∣ a → d ∣ b → d ∣ gcd a b
unfolding gcd
gcd-greatest a b d h k = gcd_in-greatest (suc b) a b d h k

pub gcd-pos : (a b : ℕ) → 0 < b → 0 < gcd a b
gcd-pos a b pos = pos_of_dvd_of_pos (gcd-divides a b).1 pos

pub coprime : (a b : ℕ) → 0 < b → (gcd a b ≡ 1) ↔ ((k : ℕ) → k ∣ a → k ∣ b → k ≤ 1)
coprime a b pos = (
  λ e k h j. le_of_dvd (le_refl 1) (subst (λ (z : ℕ). k ∣ z) e (gcd-greatest a b k h j)),
  λ h. let g = gcd-divides a b in le_antisymm (h (gcd a b) g.0 g.1) (gcd-pos a b pos),
)

-- the test that a threshold's two numbers have no common factor above 1
pub coprime-test : (a b : ℕ) → 0 < b → T (eqb (gcd a b) 1) ↔ ((k : ℕ) → k ∣ a → k ∣ b → k ≤ 1)
coprime-test a b pos = (λ t. (coprime a b pos).0 (eqb→eq _ _ t), λ h. is-eqb ((coprime a b pos).1 h))

-- ---- in lowest terms

pub lowest-is : (p : Frac) → 0 < p.den → Lowest p (lowest p)
unfolding lowest
lowest-is p pos = record {
  positive = (le-div_iff_mul-le gp).1 (omega (arith, le_of_dvd pos (gcd-divides p.num p.den).1));
  same = ap (λ (z : ℕ). p.num / g * z) (sym de) ∙ omega arith ∙ ap (λ (z : ℕ). z * (p.den / g)) ne;
  bare = λ k h j.
      let hn : k * g ∣ p.num = subst (λ (z : ℕ). k * g ∣ z) ne (mul-dvd-mul_right k h g) in
      let hd : k * g ∣ p.den = subst (λ (z : ℕ). k * g ∣ z) de (mul-dvd-mul_right k j g) in
      let le : k * g ≤ g = le_of_dvd gp (gcd-greatest p.num p.den (k * g) hn hd) in
      le_of_mul-le-mul_right {k = g} (omega arith) gp;
}
  where
    g : ℕ
    g = gcd p.num p.den

    gp : 0 < g
    gp = gcd-pos p.num p.den pos

    ne : p.num / g * g ≡ p.num
    ne = div-mul_cancel g (gcd-divides p.num p.den).0

    de : p.den / g * g ≡ p.den
    de = div-mul_cancel g (gcd-divides p.num p.den).1

-- no greater numbers than before, and at most 1 where the fraction was
pub lowest-le : (p : Frac) → ((lowest p).num ≤ p.num) × ((lowest p).den ≤ p.den)
unfolding lowest
lowest-le p = (div-le_self p.num _, div-le_self p.den _)

pub lowest-at-most-one : (p : Frac) → 0 < p.den → p.num ≤ p.den → (lowest p).num ≤ (lowest p).den
lowest-at-most-one p pos h =
    le_of_mul-le-mul_right {k = p.den} (omega (arith, (lowest-is p pos).same, mul-le-mul_right (lowest p).den h)) pos

-- ---- only one fraction is

gcd-scaled : (a b c : ℕ) → 0 < c → gcd (a * c) (b * c) ≡ gcd a b * c
gcd-scaled a b c pos = dvd_antisymm (rw (← e) (mul-dvd-mul_right (g / c) (gcd-greatest a b (g / c) (part a d.0) (part b d.1)) c))
    (gcd-greatest (a * c) (b * c) (gcd a b * c) (mul-dvd-mul_right (gcd a b) (gcd-divides a b).0 c) (mul-dvd-mul_right (gcd a b) (gcd-divides a b).1 c))
  where
    g : ℕ
    g = gcd (a * c) (b * c)

    d : (g ∣ a * c) × (g ∣ b * c)
    d = gcd-divides (a * c) (b * c)

    e : g / c * c ≡ g
    e = div-mul_cancel c (gcd-greatest (a * c) (b * c) c (dvd-mul_left c a) (dvd-mul_left c b))

    part : (n : ℕ) → g ∣ n * c → g / c ∣ n
    part n h = dvd_of_mul-dvd-mul_right (g / c) pos (rw e h)

-- two such fractions of one value have the same lower number
same-den : (a b c d : ℕ) → 0 < b → 0 < d → gcd a b ≡ 1 → gcd c d ≡ 1 → a * d ≡ c * b → b ≡ d
same-den a b c d pb pd ea ec e =
    let u : gcd (a * d) (b * d) ≡ 1 * d = gcd-scaled a b d pd ∙ ap (λ (z : ℕ). z * d) ea in
    let v : gcd (c * b) (d * b) ≡ 1 * b = gcd-scaled c d b pb ∙ ap (λ (z : ℕ). z * b) ec in
    omega (arith, u, v, ap₂ gcd e (mul_comm b d))

pub lowest-one : (p a b : Frac) → 0 < p.den → Lowest p a → Lowest p b → (a.num ≡ b.num) × (a.den ≡ b.den)
lowest-one p a b pos h k =
    let e : Same a b = same-trans a p b pos h.same (sym k.same) in
    let ca = (coprime a.num a.den h.positive).1 h.bare in
    let cb = (coprime b.num b.den k.positive).1 k.bare in
    let d : a.den ≡ b.den = same-den a.num a.den b.num b.den h.positive k.positive ca cb e in
    (eq_of_mul-eq-mul_right a.den h.positive a.num b.num (ap (λ (z : ℕ). a.num * z) d ∙ e), d)
