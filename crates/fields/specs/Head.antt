-- Number 3's test at a head, and where what it heads ends.
-- Assumes nothing.
use Rattle.std.specs.Prelude.{Bool, true, false, ℕ, ◌≤◌, Result, Ok, Err}
use Rattle.meaning.specs.declared.Fault.{Fault}
use Rattle.meaning.specs.Bytes.{unequal, more_than}

-- number 3's test: in a session, or of a whole input
abbrev pub wrong_in : Bool → ℕ → ℕ → Bool
wrong_in true = more_than
wrong_in false = unequal

-- a good head's end lies behind the head, in the input
abbrev pub EndsWithin : ℕ → Result ℕ Fault → Type 0
EndsWithin n (Ok end) = (3 ≤ end) × (end ≤ n)
EndsWithin n (Err f) = Unit {0}
