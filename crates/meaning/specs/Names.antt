-- Sets of names. Name k (0 to 63) is the bit of value 2 ^ k, so a set is a number below 2 ^ 64.
-- Assumes nothing.
use Rattle.std.specs.Prelude.{Bool, ℕ, ◌^◌, ◌/◌, ◌%◌, eqb, ltb}
use Rattle.std.specs.Int.Bits.{bit_and}
use Rattle.std.specs.Int.Count.{ones}

-- how many names a set has
abbrev pub names : ℕ → ℕ
names a = ones a

-- "Common names are the ones set in both 64-bit sets."
abbrev pub common : ℕ → ℕ → ℕ
common a b = names (bit_and a b)

-- each name of a is one of b
abbrev pub within : ℕ → ℕ → Bool
within a b = eqb (bit_and a b) a

-- name k is in a
abbrev pub has : ℕ → ℕ → Bool
has a k = eqb (a / 2 ^ k % 2) 1

abbrev pub is_set : ℕ → Bool
is_set a = ltb a 18446744073709551616
