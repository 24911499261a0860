-- What the listing program prints, as document 01 has it at the end of "Sheet of examples"; of a withdrawn item (document 02, §5) its row says so.
-- Assumes nothing.
use Rattle.std.specs.Prelude.{true, false, cond, List, [], ◌∷◌, ◌++◌, ℕ, zero, suc, ◌+◌, min, ltb, length, take, drop}
use Rattle.meaning.specs.Refusal.{Answer, good, refused, ◌>>=◌}
use Rattle.meaning.specs.Bytes.{number}
use Rattle.meaning.specs.Register.{read_register}
use Rattle.meaning.specs.Message.{Part, read_requirement}
use Rattle.meaning.specs.Calls.{read_plain}
use Rattle.lines.specs.Lines.{refusal_line}
pub use Rattle.lines.specs.Entries.{degree_row, member_row, row_of}

-- ---- the words, in bytes

-- `item degree map` and a line's end
abbrev pub degree_head : List ℕ
degree_head = 105 ∷ 116 ∷ 101 ∷ 109 ∷ 32 ∷ 100 ∷ 101 ∷ 103 ∷ 114 ∷ 101 ∷ 101 ∷ 32 ∷ 109 ∷ 97 ∷ 112 ∷ 10 ∷ []

-- `item member map` and a line's end
abbrev pub member_head : List ℕ
member_head = 105 ∷ 116 ∷ 101 ∷ 109 ∷ 32 ∷ 109 ∷ 101 ∷ 109 ∷ 98 ∷ 101 ∷ 114 ∷ 32 ∷ 109 ∷ 97 ∷ 112 ∷ 10 ∷ []

-- `input too long` and a line's end
abbrev pub too_long : List ℕ
too_long = 105 ∷ 110 ∷ 112 ∷ 117 ∷ 116 ∷ 32 ∷ 116 ∷ 111 ∷ 111 ∷ 32 ∷ 108 ∷ 111 ∷ 110 ∷ 103 ∷ 10 ∷ []

-- ---- rows

-- a line for each item
unfoldable pub lines : (ℕ → List ℕ) → ℕ → List ℕ
lines line zero = []
lines line (suc n) = lines line n ++ line n

-- ---- the listing

abbrev pub degree_rows : List ℕ → List ℕ → ℕ → List ℕ
degree_rows image message n = lines (row_of true image message) n

abbrev pub member_rows : List ℕ → List ℕ → ℕ → List ℕ
member_rows image message n = lines (row_of false image message) n

-- A register of so many items and a requirement that were read: the degrees where it has no threshold, unless it is too large for them (14). Each
-- row is then its item's own, and none is a refusal (proofs/NoRefusals.antt).
unfoldable pub listed : List ℕ → List ℕ → ℕ → List Part → Answer (List ℕ)
listed image message n [] = read_plain message >>= λ _. good (degree_head ++ degree_rows image message n)
listed image message n (p ∷ ps) = good (member_head ++ member_rows image message n)

-- a register of so many items that was read
unfoldable pub listed_items : List ℕ → List ℕ → ℕ → Answer (List ℕ)
listed_items image message n = do
  (q, parts) ← read_requirement message
  listed image message n parts

unfoldable pub listing_of : List ℕ → List ℕ → Answer (List ℕ)
listing_of image message = do
  g ← read_register image
  listed_items image message (length g.names)

abbrev pub printed : Answer (List ℕ) → List ℕ
printed (good text) = text
printed (refused r) = refusal_line r

-- "the register is the first 3 + length bytes, or all if fewer, the requirement all the rest"
unfoldable pub register_end : List ℕ → ℕ
register_end s = cond (ltb (length s) 3) (length s) (min (length s) (3 + number s 1 2))

-- "Over 65,536 bytes prints `input too long`."
abbrev pub most_input : ℕ
most_input = 65536

unfoldable pub listing : List ℕ → List ℕ
listing s = cond (ltb most_input (length s)) too_long (printed (listing_of (take (register_end s) s) (drop (register_end s) s)))
