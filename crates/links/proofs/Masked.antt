-- One test of a link's number in place of two: where it leads to, and the highest three bits of its role.
-- Assumes nothing.
use mathlib.Core.Path.{◌≡◌, ◌∙◌}
use Prim.Native.Nat.{ℕ, ◌/◌, ◌%◌, ◌≤◌, ◌<◌}
use native.Mathlib.Omega.{arith}
use lib.Bits.{bit_and, and_mask, and_mod, and_shr}
use Rattle.meaning.specs.Bounds.{most_items}

-- 14745599 is 7 * 2 ^ 21 + 65535
module _ (k n : ℕ) (few : n ≤ most_items) (l : bit_and k 14745599 < n) where
  low : bit_and k 14745599 % 65536 ≡ k % 65536 % 65536
  low = and_mod k 14745599 16 ∙ and_mask (k % 65536) 16

  high : bit_and k 14745599 / 2097152 ≡ k / 2097152 % 8
  high = and_shr k 14745599 21 ∙ and_mask (k / 2097152) 3

  pub masked-to : k % 65536 < n
  masked-to = omega (arith, low)

  pub masked-role : k / 65536 % 256 ≤ 31
  masked-role = omega (arith, high)
