-- Text in bytes: numbers in decimal.
-- Assumes nothing.
use Rattle.std.specs.Prelude.{cond, List, [], ◌∷◌, ◌++◌, ℕ, zero, suc, ◌+◌, ◌/◌, ◌%◌, ltb}

-- a number's decimal digits, at most so many, without zeros in front; 48 is the byte of the digit 0
unfoldable pub digits : ℕ → ℕ → List ℕ
digits zero n = []
digits (suc k) n = cond (ltb n 10) ((48 + n) ∷ []) (digits k (n / 10) ++ ((48 + n % 10) ∷ []))

-- no number of 64 bits has more than 20
abbrev pub decimal : ℕ → List ℕ
decimal n = digits 20 n
