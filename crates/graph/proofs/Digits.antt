-- One digit of a number: of a shifted number, of the greater of two by digits, and the lowest that is set.
-- Assumes nothing.
use mathlib.Core.Path.{◌≡◌, refl, sym, ap, ◌∙◌}
use mathlib.Core.Bool.{Bool, true, false, ◌||◌, cond}
use Prim.Native.Nat.{ℕ, zero, suc, ◌+◌, ◌*◌, ◌-◌, ◌/◌, ◌%◌, ◌^◌, ◌≤◌, ◌<◌, max}
use native.Mathlib.Nat.{pow-suc, mod-lt, zero-lt-suc, lt_of_lt_of_le, div-eq_of_lt}
use native.Mathlib.Omega.{arith}
use lib.Bits.{bit_or, or_shr, or_step}
use lib.Count.{count_trailing_zeros, under}
use lib.Dec.{eqb, lit≤}
use lib.Pow.{shr-shr, pow_mono, shl_exact}
use Rattle.meaning.specs.Names.{has}
use Rattle.meaning.specs.Session.{with_name}
use Rattle.meaning.proofs.SessionNames.{with-has, has-none}

pub has-shift : (a m j : ℕ) → has (a / 2 ^ m) j ≡ has a (m + j)
has-shift a m j = ap (λ (z : ℕ). eqb (z % 2) 1) (shr-shr a m j)

has-zero : (a : ℕ) → has a 0 ≡ eqb (a % 2) 1
has-zero a = let e : a / 2 ^ 0 ≡ a = omega arith in rw e

has-suc : (a k : ℕ) → has a (suc k) ≡ has (a / 2) k
has-suc a k = ap (λ (z : ℕ). has a z) (omega arith) ∙ sym (has-shift a 1 k)

-- a number has no digit above its width
pub has-high : (w n j : ℕ) → n < 2 ^ w → w ≤ j → has n j ≡ false
has-high w n j l h = let e : n / 2 ^ j ≡ 0 = div-eq_of_lt (lt_of_lt_of_le l (pow_mono h)) in rw e

-- 1 moved to a place of a word
pub bit-at : (k : ℕ) → k < 64 → (1 * 2 ^ k) % 18446744073709551616 ≡ 2 ^ k
bit-at k h = shl_exact {a = 1} 1 k 64 (lit≤ tt) (omega arith) ∙ omega arith

pub has-bit : (k j : ℕ) → has (2 ^ k) j ≡ eqb k j
has-bit k j = ap (λ (z : ℕ). has z j) (sym alone) ∙ with-has true k 0 j ∙ ap (λ (b : Bool). cond (eqb k j) true b) (has-none j) ∙ last (eqb k j)
  where
    alone : with_name true k 0 ≡ 2 ^ k
    alone = rw (has-none k) (omega arith)

    last : (b : Bool) → cond b true false ≡ b
    last true = refl
    last false = refl

greater-odd : (x y : ℕ) → x < 2 → y < 2 → eqb (max x y) 1 ≡ (eqb x 1 || eqb y 1)
greater-odd zero zero l m = refl
greater-odd zero (suc zero) l m = refl
greater-odd zero (suc (suc y)) l m = absurd (omega arith)
greater-odd (suc zero) zero l m = refl
greater-odd (suc zero) (suc zero) l m = refl
greater-odd (suc zero) (suc (suc y)) l m = absurd (omega arith)
greater-odd (suc (suc x)) y l m = absurd (omega arith)

pub has-or : (a b j : ℕ) → has (bit_or a b) j ≡ (has a j || has b j)
has-or a b j =
    let p = a / 2 ^ j in
    let q = b / 2 ^ j in
    let hp = mod-lt p (zero-lt-suc 1) in
    let hq = mod-lt q (zero-lt-suc 1) in
    let e : bit_or a b / 2 ^ j % 2 ≡ max (p % 2) (q % 2) = ap (λ (z : ℕ). z % 2) (or_shr a b j ∙ or_step p q) ∙ omega arith in
    ap (λ (z : ℕ). eqb z 1) e ∙ greater-odd (p % 2) (q % 2) hp hq

-- ---- the lowest digit that is set

pub trailing_below : (k n j : ℕ) → j < count_trailing_zeros k n → has n j ≡ false
unfolding count_trailing_zeros
trailing_below zero n j h = absurd (omega arith)
trailing_below (suc k) n j h = go (n % 2) refl j h (λ i. trailing_below k (n / 2) i)
  where
    go : (d : ℕ) → n % 2 ≡ d → (j : ℕ) → j < under d (count_trailing_zeros k (n / 2)) → ((i : ℕ) → i < count_trailing_zeros k (n / 2) → has (n / 2) i ≡ false) → has n j ≡ false
    go zero e zero l ih = has-zero n ∙ rw e
    go zero e (suc i) l ih = has-suc n i ∙ ih i (omega arith)
    go (suc d) e i l ih = absurd (omega arith)

pub trailing_at : (k n : ℕ) → count_trailing_zeros k n < k → has n (count_trailing_zeros k n) ≡ true
unfolding count_trailing_zeros
trailing_at zero n h = absurd (omega arith)
trailing_at (suc k) n h = go (n % 2) refl (mod-lt n (zero-lt-suc 1)) h (trailing_at k (n / 2))
  where
    t : ℕ
    t = count_trailing_zeros k (n / 2)

    go : (d : ℕ) → n % 2 ≡ d → d < 2 → under d t < suc k → (t < k → has (n / 2) t ≡ true) → has n (under d t) ≡ true
    go zero e l m ih = has-suc n t ∙ ih (omega arith)
    go (suc zero) e l m ih = has-zero n ∙ rw e
    go (suc (suc d)) e l m ih = absurd (omega arith)

pub trailing-some : (k n : ℕ) → n < 2 ^ k → 0 < n → count_trailing_zeros k n < k
unfolding count_trailing_zeros
trailing-some zero n h l = absurd (omega arith)
trailing-some (suc k) n h l = go (n % 2) refl (trailing-some k (n / 2) (let p = pow-suc 2 k in omega arith))
  where
    go : (d : ℕ) → n % 2 ≡ d → (0 < n / 2 → count_trailing_zeros k (n / 2) < k) → under d (count_trailing_zeros k (n / 2)) < suc k
    go zero e ih = let z = ih (omega arith) in omega arith
    go (suc d) e ih = omega arith

-- below the lowest digit that is not set, all are
pub ones_below : (k n j : ℕ) → n < 2 ^ k → j < count_trailing_zeros k (2 ^ k - 1 - n) → has n j ≡ true
unfolding count_trailing_zeros
ones_below zero n j l h = absurd (omega arith)
ones_below (suc k) n j l h =
    let p = pow-suc 2 k in
    let half : (2 ^ suc k - 1 - n) / 2 ≡ 2 ^ k - 1 - n / 2 = omega arith in
    go ((2 ^ suc k - 1 - n) % 2) refl j (rw (← half) h) (λ i m. ones_below k (n / 2) i (omega arith) m)
  where
    t : ℕ
    t = count_trailing_zeros k (2 ^ k - 1 - n / 2)

    go : (d : ℕ) → (2 ^ suc k - 1 - n) % 2 ≡ d → (j : ℕ) → j < under d t → ((i : ℕ) → i < t → has (n / 2) i ≡ true) → has n j ≡ true
    go zero e zero m ih = has-zero n ∙ (let p = pow-suc 2 k in let o : n % 2 ≡ 1 = omega arith in rw o)
    go zero e (suc i) m ih = has-suc n i ∙ ih i (omega arith)
    go (suc d) e i m ih = absurd (omega arith)
