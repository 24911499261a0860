-- Euclid's remainders, turn by turn, as code takes them.
-- Assumes nothing.
use mathlib.Core.Path.{◌≡◌, refl}
use Prim.Native.Nat.{ℕ, zero, suc, ◌%◌, ◌<◌}
use native.Mathlib.Nat.{mod-lt, zero-lt-suc, le_refl, not-suc-le-zero}
use native.Mathlib.Omega.{arith}
use Rattle.meaning.specs.Fraction.{gcd_in, gcd}

-- more steps than are needed change nothing
enough : (j k a b : ℕ) → b < j → b < k → gcd_in j a b ≡ gcd_in k a b
unfolding gcd_in
enough zero k a b h l = absurd (not-suc-le-zero h)
enough (suc j) zero a b h l = absurd (not-suc-le-zero l)
enough (suc j) (suc k) a zero h l = refl
enough (suc j) (suc k) a (suc b) h l =
    let m = mod-lt a (zero-lt-suc b) in
    enough j k (suc b) (a % suc b) (omega arith) (omega arith)

pub gcd-last : (a : ℕ) → gcd a 0 ≡ a
unfolding gcd gcd_in
gcd-last a = refl

pub gcd-turn : (a b : ℕ) → 0 < b → gcd a b ≡ gcd b (a % b)
unfolding gcd gcd_in
gcd-turn a zero h = absurd (not-suc-le-zero h)
gcd-turn a (suc b) h = let m = mod-lt a (zero-lt-suc b) in enough (suc b) (suc (a % suc b)) (suc b) (a % suc b) (omega arith) (le_refl _)
