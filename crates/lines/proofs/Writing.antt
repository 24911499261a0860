-- A number in decimal: its digits, case by case, and how long it is.
-- Assumes nothing.
use mathlib.Core.Path.{◌≡◌, refl, sym, ap, ◌∙◌}
use mathlib.Core.Bool.{Bool, true, false, cond}
use mathlib.Core.List.{List, [], ◌∷◌, ◌++◌}
use Prim.Native.Nat.{ℕ, zero, suc, ◌+◌, ◌-◌, ◌/◌, ◌%◌, ◌≤◌, ◌<◌, ◌^◌}
use native.Mathlib.Omega.{arith}
use lib.Dec.{ltb}
use lib.ListN.{length, length-append}
use borrow.Author.Tests.{lt-ltb, le-ltb}
use Rattle.std.specs.Fmt.{decimal as text}
use Rattle.std.proofs.lemmas.Fmt.{AppendsLastDigit, decimal_from_appends, length-decimal-le}
use Rattle.lines.specs.Text.{digits, decimal}

-- ---- digits, case by case

pub digits-none : (left n : ℕ) → left ≡ 0 → digits left n ≡ []
unfolding digits
digits-none zero n e = refl
digits-none (suc k) n e = absurd (omega arith)

pub digits-one : (left n : ℕ) → (left ≡ 0 → ⊥) → n < 10 → digits left n ≡ (48 + n) ∷ []
unfolding digits
digits-one (suc k) n p l = rw (lt-ltb n 10 l)
digits-one zero n p l = absurd (p refl)

pub digits_more : (left n : ℕ) → (left ≡ 0 → ⊥) → 10 ≤ n → digits left n ≡ digits (left - 1) (n / 10) ++ ((48 + n % 10) ∷ [])
unfolding digits
digits_more (suc k) n p l = let e : suc k - 1 ≡ k = omega arith in rw (le-ltb n 10 l, e)
digits_more zero n p l = absurd (p refl)

pub more-length : (left n : ℕ) → (left ≡ 0 → ⊥) → 10 ≤ n → length (digits left n) ≡ length (digits (left - 1) (n / 10)) + 1
more-length left n p l = ap (λ (t : List ℕ). length t) (digits_more left n p l) ∙ length-append (digits (left - 1) (n / 10)) _

-- ---- how long a number is

pub digits-most : (left n : ℕ) → length (digits left n) ≤ left
unfolding digits
digits-most zero n = omega arith
digits-most (suc k) n = go (ltb n 10) (digits-most k (n / 10))
  where
    go : (b : Bool) → length (digits k (n / 10)) ≤ k → length (cond b ((48 + n) ∷ []) (digits k (n / 10) ++ ((48 + n % 10) ∷ []))) ≤ suc k
    go true h = omega arith
    go false h = omega (arith, length-append (digits k (n / 10)) ((48 + n % 10) ∷ []))

pub decimal_most : (n : ℕ) → length (decimal n) ≤ 20
decimal_most n = digits-most 20 n

-- a number of 64 bits is written as std writes it, which says how long that is
digits-append : AppendsLastDigit digits
unfolding digits
digits-append = record { one = λ k n l. rw (lt-ltb n 10 l); more = λ k n l. rw (le-ltb n 10 l) }

pub as_text : (n : ℕ) → n < 2 ^ 64 → text n ≡ decimal n
as_text n l = sym (decimal_from_appends digits digits-append 20 n l (length-decimal-le 20 n (omega arith) (omega arith) l))

-- a place of a map, a number of 16 bits
pub decimal_short : (n : ℕ) → n < 65536 → length (decimal n) ≤ 5
decimal_short n l = omega (arith, ap length (as_text n (omega arith)), length-decimal-le 5 n (omega arith) (omega arith) (omega arith))
