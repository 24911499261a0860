-- A set of names with a name or without it: each name of the outcome, its bound, and sets that have the same names.
-- Assumes nothing.
use mathlib.Core.Path.{◌≡◌, refl, sym, ap, ◌∙◌}
use mathlib.Core.Bool.{Bool, true, false, cond}
use Prim.Native.Nat.{ℕ, zero, suc, ◌+◌, ◌*◌, ◌-◌, ◌/◌, ◌%◌, ◌^◌, ◌≤◌, ◌<◌}
use native.Mathlib.Nat.{pow-suc, mod-lt, zero-lt-suc}
use native.Mathlib.Omega.{arith}
use lib.Arith.{bin_ind}
use lib.Pow.{shr-shr}
use lib.Dec.{eqb, eqb→eq, eqb-zero-suc, eqb-suc-zero, eqb-suc-suc}
use Rattle.meaning.specs.Names.{has}
use Rattle.meaning.specs.Session.{with_name}
use Rattle.meaning.proofs.Tests.{holds, true-false}

-- ---- one name, lowest first

has-zero : (a : ℕ) → has a 0 ≡ eqb (a % 2) 1
has-zero a = let e : a / 2 ^ 0 ≡ a = omega arith in rw e

has-suc : (a k : ℕ) → has a (suc k) ≡ has (a / 2) k
has-suc a k =
    let e : a / 2 ^ suc k ≡ a / 2 / 2 ^ k = ap (λ (z : ℕ). a / 2 ^ z) (omega arith) ∙ sym (shr-shr a 1 k) in
    ap (λ (z : ℕ). eqb (z % 2) 1) e

odd : (x : ℕ) → x < 2 → eqb x 1 ≡ true → x ≡ 1
odd x l e = eqb→eq x 1 (holds e)

even : (x : ℕ) → x < 2 → eqb x 1 ≡ false → x ≡ 0
even zero l e = refl
even (suc zero) l e = absurd (true-false refl e)
even (suc (suc x)) l e = absurd (omega arith)

pub digit : Bool → ℕ
digit true = 1
digit false = 0

digit-odd : (v : Bool) → eqb (digit v) 1 ≡ v
unfolding digit
digit-odd true = refl
digit-odd false = refl

digit-less : (v : Bool) → digit v < 2
unfolding digit
digit-less true = omega arith
digit-less false = omega arith

-- the set a in which the name k is there or not, from its halves
put : Bool → ℕ → ℕ → ℕ
put v zero a = a / 2 * 2 + digit v
put v (suc k) a = put v k (a / 2) * 2 + a % 2

low : (q r : ℕ) → r < 2 → ((q * 2 + r) % 2 ≡ r) × ((q * 2 + r) / 2 ≡ q)
low q r h = (omega arith, omega arith)

has-put : (v : Bool) (k a j : ℕ) → has (put v k a) j ≡ cond (eqb k j) v (has a j)
unfolding put
has-put v zero a zero = has-zero (a / 2 * 2 + digit v) ∙ rw (low (a / 2) (digit v) (digit-less v)).0 (digit-odd v)
has-put v zero a (suc j) =
    has-suc (a / 2 * 2 + digit v) j ∙ rw ((low (a / 2) (digit v) (digit-less v)).1, eqb-zero-suc j) (sym (has-suc a j))
has-put v (suc k) a zero =
    has-zero (put v k (a / 2) * 2 + a % 2)
    ∙ rw ((low (put v k (a / 2)) (a % 2) (mod-lt a (zero-lt-suc 1))).0, eqb-suc-zero k) (sym (has-zero a))
has-put v (suc k) a (suc j) =
    has-suc (put v k (a / 2) * 2 + a % 2) j
    ∙ rw ((low (put v k (a / 2)) (a % 2) (mod-lt a (zero-lt-suc 1))).1, eqb-suc-suc k j, has-suc a j) (has-put v k (a / 2) j)

put-below : (v : Bool) (w k a : ℕ) → k < w → a < 2 ^ w → put v k a < 2 ^ w
unfolding put
put-below v zero k a h l = absurd (omega arith)
put-below v (suc w) zero a h l =
    let p = pow-suc 2 w in
    let d = digit-less v in
    let m : a / 2 < 2 ^ w = omega arith in
    rw p (omega arith)
put-below v (suc w) (suc k) a h l =
    let p = pow-suc 2 w in
    let m : a / 2 < 2 ^ w = omega arith in
    let ih = put-below v w k (a / 2) (omega arith) m in
    rw p (omega arith)

put-there : (k a : ℕ) → has a k ≡ true → (put true k a ≡ a) × (put false k a + 2 ^ k ≡ a)
unfolding put digit
put-there zero a e = let o = odd (a % 2) (mod-lt a (zero-lt-suc 1)) (sym (has-zero a) ∙ e) in (omega arith, omega arith)
put-there (suc k) a e =
    let ih = put-there k (a / 2) (sym (has-suc a k) ∙ e) in
    let p = pow-suc 2 k in
    (omega (arith, ih.0), rw p (omega (arith, ih.1)))

put-lacking : (k a : ℕ) → has a k ≡ false → (put true k a ≡ a + 2 ^ k) × (put false k a ≡ a)
unfolding put digit
put-lacking zero a e = let o = even (a % 2) (mod-lt a (zero-lt-suc 1)) (sym (has-zero a) ∙ e) in (omega arith, omega arith)
put-lacking (suc k) a e =
    let ih = put-lacking k (a / 2) (sym (has-suc a k) ∙ e) in
    let p = pow-suc 2 k in
    (rw p (omega (arith, ih.0)), omega (arith, ih.1))

with-put : (v : Bool) (k a : ℕ) → with_name v k a ≡ put v k a
with-put true k a = go (has a k) refl
  where
    go : (b : Bool) → has a k ≡ b → cond b a (a + 2 ^ k) ≡ put true k a
    go true e = sym (put-there k a e).0
    go false e = sym (put-lacking k a e).0
with-put false k a = go (has a k) refl
  where
    go : (b : Bool) → has a k ≡ b → cond b (a - 2 ^ k) a ≡ put false k a
    go true e = omega (arith, (put-there k a e).1)
    go false e = sym (put-lacking k a e).1

-- ---- the laws

-- "name k": that name is there or not, and every other is as it was
pub with-has : (v : Bool) (k a j : ℕ) → has (with_name v k a) j ≡ cond (eqb k j) v (has a j)
with-has v k a j = rw (with-put v k a) (has-put v k a j)

pub with-below : (v : Bool) (w k a : ℕ) → k < w → a < 2 ^ w → with_name v k a < 2 ^ w
with-below v w k a h l = rw (with-put v k a) (put-below v w k a h l)

-- the bit of a name that is there is part of the number
pub has_part : (k a : ℕ) → has a k ≡ true → 2 ^ k ≤ a
has_part k a e = omega (arith, (put-there k a e).1)

digits_same : (x y : ℕ) → x < 2 → y < 2 → eqb x 1 ≡ eqb y 1 → x ≡ y
digits_same x y l m e = go (eqb x 1) refl
  where
    go : (b : Bool) → eqb x 1 ≡ b → x ≡ y
    go true d = odd x l d ∙ sym (odd y m (sym e ∙ d))
    go false d = even x l d ∙ sym (even y m (sym e ∙ d))

no_names : (b : ℕ) → ((k : ℕ) → has b k ≡ false) → b ≡ 0
no_names =
    bin_ind (λ (b : ℕ). ((k : ℕ) → has b k ≡ false) → b ≡ 0) (λ h. refl)
    (λ b ih h.
    let e = even (b % 2) (mod-lt b (zero-lt-suc 1)) (sym (has-zero b) ∙ h 0) in
    let d = ih (λ k. sym (has-suc b k) ∙ h (suc k)) in
    omega arith)

pub has-none : (k : ℕ) → has 0 k ≡ false
has-none zero = has-zero 0
has-none (suc k) = has-suc 0 k ∙ has-none k

-- sets that have the same names are the same
pub same_names : (a b : ℕ) → ((k : ℕ) → has a k ≡ has b k) → a ≡ b
same_names =
    bin_ind (λ (a : ℕ). (b : ℕ) → ((k : ℕ) → has a k ≡ has b k) → a ≡ b)
    (λ b h. sym (no_names b (λ k. sym (h k) ∙ has-none k)))
    (λ a ih b h.
    let e = ih (b / 2) (λ k. sym (has-suc a k) ∙ h (suc k) ∙ has-suc b k) in
    let d = digits_same (a % 2) (b % 2) (mod-lt a (zero-lt-suc 1)) (mod-lt b (zero-lt-suc 1)) (sym (has-zero a) ∙ h 0 ∙ has-zero b) in
    omega arith)
