-- The lines of a listing, as document 01 has them at the end of "Sheet of examples", and the line of a withdrawn item (document 02, §5).
-- Assumes nothing.
use Rattle.std.specs.Prelude.{cond, List, [], ◌∷◌, ◌++◌, ℕ, eqb}
use Rattle.meaning.specs.declared.Side.{Side}
use Rattle.meaning.specs.declared.Side.TheVariants.{Register as register, Requirement as requirement, Call as call}
use Rattle.meaning.specs.declared.Refusal.{Refusal}
use Rattle.meaning.specs.Fraction.{Frac}
use Rattle.std.proofs.Math.Option.{none as nowhere}
use Rattle.meaning.specs.Shown.{mark_number, out, goes}
use Rattle.lines.specs.Text.{decimal}

-- no line is longer: a map of 64 places with at most 6 bytes each, and 64 bytes for the rest
abbrev pub line_room : ℕ
line_room = 448

-- ---- the words, in bytes

-- ` yes `
abbrev pub yes_word : List ℕ
yes_word = 32 ∷ 121 ∷ 101 ∷ 115 ∷ 32 ∷ []

-- ` no -` and a line's end
abbrev pub no_word : List ℕ
no_word = 32 ∷ 110 ∷ 111 ∷ 32 ∷ 45 ∷ 10 ∷ []

-- ` withdrawn -` and a line's end
abbrev pub withdrawn_word : List ℕ
withdrawn_word = 32 ∷ 119 ∷ 105 ∷ 116 ∷ 104 ∷ 100 ∷ 114 ∷ 97 ∷ 119 ∷ 110 ∷ 32 ∷ 45 ∷ 10 ∷ []

-- ` refused ` and ` at `
abbrev pub refused_word : List ℕ
refused_word = 32 ∷ 114 ∷ 101 ∷ 102 ∷ 117 ∷ 115 ∷ 101 ∷ 100 ∷ 32 ∷ []

abbrev pub at_word : List ℕ
at_word = 32 ∷ 97 ∷ 116 ∷ 32 ∷ []

-- `register`, `requirement`, `call`
abbrev pub side_word : Side → List ℕ
side_word register = 114 ∷ 101 ∷ 103 ∷ 105 ∷ 115 ∷ 116 ∷ 101 ∷ 114 ∷ []
side_word requirement = 114 ∷ 101 ∷ 113 ∷ 117 ∷ 105 ∷ 114 ∷ 101 ∷ 109 ∷ 101 ∷ 110 ∷ 116 ∷ []
side_word call = 99 ∷ 97 ∷ 108 ∷ 108 ∷ []

-- ---- the lines

-- "A refusal prints one line, as `register refused 3 at 1`."
unfoldable pub refusal_line : Refusal → List ℕ
refusal_line r = side_word r.side ++ refused_word ++ decimal r.number ++ at_word ++ decimal r.place ++ (10 ∷ [])

-- "map with `-` unmapped and `=` dropped": 45 is `-`, 61 is `=`, 44 the comma
unfoldable pub place : ℕ → List ℕ
place v = cond (eqb v (mark_number (goes nowhere))) (45 ∷ []) (cond (eqb v (mark_number out)) (61 ∷ []) (decimal v))

unfoldable pub places : List ℕ → List ℕ
places [] = []
places (v ∷ vs) = (44 ∷ []) ++ place v ++ places vs

unfoldable pub shown_map : List ℕ → List ℕ
shown_map [] = []
shown_map (v ∷ vs) = place v ++ places vs

-- "item, lowest-terms degree, map": 32 is the space, 47 the stroke of a fraction
unfoldable pub degree_line : ℕ → Frac → List ℕ → List ℕ
degree_line i d m = decimal i ++ (32 ∷ []) ++ decimal d.num ++ (47 ∷ []) ++ decimal d.den ++ (32 ∷ []) ++ shown_map m ++ (10 ∷ [])

-- "the second field yes or no, the map `-` on no"
unfoldable pub yes_line : ℕ → List ℕ → List ℕ
yes_line i m = decimal i ++ yes_word ++ shown_map m ++ (10 ∷ [])

-- an item, and words that end its line
unfoldable pub item_line : ℕ → List ℕ → List ℕ
item_line i word = decimal i ++ word

abbrev pub no_line : ℕ → List ℕ
no_line i = item_line i no_word

-- "`withdrawn` as second field and `-` as map"
abbrev pub withdrawn_line : ℕ → List ℕ
withdrawn_line i = item_line i withdrawn_word
