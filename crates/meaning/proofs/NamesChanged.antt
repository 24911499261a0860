-- A set of names as code changes it: the bit of a name is added or taken away.
-- Assumes nothing.
use mathlib.Core.Path.{◌≡◌, sym, ap, ◌∙◌, subst}
use mathlib.Core.Bool.{Bool, true, false, cond}
use Prim.Native.Nat.{ℕ, ◌+◌, ◌*◌, ◌-◌, ◌%◌, ◌^◌, ◌≤◌, ◌<◌}
use native.Mathlib.Omega.{arith}
use lib.Dec.{lit≤}
use lib.Pow.{shl_exact}
use Rattle.meaning.specs.Names.{has}
use Rattle.meaning.specs.Session.{with_name}
use Rattle.meaning.proofs.SessionNames.{with-below, has_part}

-- 1 moved to the place of the name
abbrev pub bit_at : ℕ → ℕ
bit_at k = (1 * 2 ^ k) % 18446744073709551616

bit-at : (k : ℕ) → k < 64 → bit_at k ≡ 2 ^ k
bit-at k h = shl_exact {a = 1} 1 k 64 (lit≤ tt) (omega arith) ∙ omega arith

module _ (a k : ℕ) (there adds : Bool) (h : k < 64) (e : there ≡ has a k) where
  pub off-le : there ≡ true → bit_at k ≤ a
  off-le t = omega (arith, bit-at k h, has_part k a (sym e ∙ t))

  pub name-off : there ≡ true → adds ≡ false → a - bit_at k ≡ with_name adds k a
  name-off t f =
      ap (λ (z : ℕ). a - z) (bit-at k h) ∙ ap (λ (b : Bool). cond b (a - 2 ^ k) a) (sym (sym e ∙ t)) ∙ ap (λ (b : Bool). with_name b k a) (sym f)

  on_value : there ≡ false → a + bit_at k ≡ with_name true k a
  on_value t = ap (λ (z : ℕ). a + z) (bit-at k h) ∙ ap (λ (b : Bool). cond b a (a + 2 ^ k)) (sym (sym e ∙ t))

  pub name-on : there ≡ false → adds ≡ true → a + bit_at k ≡ with_name adds k a
  name-on t f = on_value t ∙ ap (λ (b : Bool). with_name b k a) (sym f)

  pub on_fits : there ≡ false → a < 18446744073709551616 → a + bit_at k < 18446744073709551616
  on_fits t l = subst (λ (z : ℕ). z < 18446744073709551616) (sym (on_value t)) (with-below true 64 k a h l)
