-- Big-endian numbers in a list of bytes, and fields that must fit before an end.
-- Assumes nothing.
use Rattle.std.specs.Prelude.{Bool, not, List, [], ◌∷◌, ◌++◌, ℕ, zero, suc, ◌+◌, ◌*◌, ◌-◌, ◌/◌, ◌%◌, ◌<◌, ltb, eqb, length, get_or}
use Rattle.meaning.specs.declared.Side.{Side}
use Rattle.meaning.specs.Refusal.{Answer, good, at, refuse_if, ◌>>◌}

-- the number that the w bytes from place p on hold
unfoldable pub number : List ℕ → ℕ → ℕ → ℕ
number s p zero = 0
number s p (suc w) = number s p w * 256 + get_or s (p + w) 0

-- n in w bytes
unfoldable pub bytes : ℕ → ℕ → List ℕ
bytes zero n = []
bytes (suc w) n = bytes w (n / 256) ++ (n % 256 ∷ [])

-- a list of bytes, as a lent slice of bytes holds
abbrev pub Bytes : List ℕ → Type 0
Bytes s = (i : ℕ) → get_or s i 0 < 256

-- Fields of these widths stand one after the other from place p on, before the end.
-- Number 1 is at the first single field that does not fit whole.
unfoldable pub fields : Side → ℕ → List ℕ → ℕ → Answer (Unit {0})
fields side end [] p = good tt
fields side end (w ∷ ws) p = do
  refuse_if (ltb end (p + w)) (at side 1 p)
  fields side end ws (p + w)

-- The 3-byte head: version 1, and the length of the rest. `wrong length rest` is number 3's test. The answer is where the rest ends.
unfoldable pub read_head : Side → (ℕ → ℕ → Bool) → List ℕ → Answer ℕ
unfolding number
read_head side wrong s = do
  refuse_if (ltb (length s) 3) (at side 1 0)
  refuse_if (not (eqb (number s 0 1) 1)) (at side 2 0)
  refuse_if (wrong (number s 1 2) (length s - 3)) (at side 3 1)
  good (3 + number s 1 2)

-- number 3: the length is unequal to the bytes that follow; in a session, more than them
abbrev pub unequal : ℕ → ℕ → Bool
unequal len rest = not (eqb len rest)

abbrev pub more_than : ℕ → ℕ → Bool
more_than len rest = ltb rest len

-- a body under its head
unfoldable pub headed : List ℕ → List ℕ
unfolding bytes
headed body = 1 ∷ bytes 2 (length body) ++ body
