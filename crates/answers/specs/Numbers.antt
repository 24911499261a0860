-- The four numbers in which a call answers: the kind, then three numbers that go with the kind. A refusal is of kind 0, and no other answer is.
-- Assumes nothing.
use Rattle.std.specs.Prelude.{Bool, not, List, [], ◌∷◌, ℕ, eqb, length, ℤ, pos, negsuc, nat_abs, Option, Some, None}
use Rattle.meaning.specs.declared.Side.{Side}
use Rattle.meaning.specs.declared.Side.TheVariants.{Register, Requirement, Call}
use Rattle.meaning.specs.declared.Refusal.{Refusal}
use Rattle.meaning.specs.Refusal.{Answer, good, refused}
use Rattle.meaning.specs.Tree.{nodes}
use Rattle.meaning.specs.Requirement.{Requirement as RequirementTree}
use Rattle.meaning.specs.Message.{Part}
use Rattle.register.specs.declared.Size.{Size}
use Rattle.requirement.specs.declared.Message.{Message}
use Rattle.parts.specs.declared.Place.{Place}
use Rattle.deciding.specs.Answers.{Said, yes, no}
use Rattle.meaning.specs.Calls.{Against}
use Rattle.asking.specs.declared.Answered.{Answered}
use Rattle.asking.specs.declared.Margin.{Margin}
use Rattle.tabling.specs.declared.Listed.{Listed}
use Rattle.asking.specs.Answers.{Told}
use Rattle.tabling.specs.Answers.{Told as ListTold}

abbrev pub four : ℕ → ℕ → ℕ → ℕ → List ℕ
four kind a b c = kind ∷ a ∷ b ∷ c ∷ []

abbrev pub side_number : Side → ℕ
side_number Register = 0
side_number Requirement = 1
side_number Call = 2

-- a refusal: 0, side, number, place
abbrev pub refusal_numbers : Refusal → List ℕ
refusal_numbers r = four 0 (side_number r.side) r.number r.place

-- an answer, of which the first argument gives the numbers where it is good
abbrev pub numbers : {A : Type 0} → (A → List ℕ) → Answer A → List ℕ
numbers f (good a) = f a
numbers f (refused r) = refusal_numbers r

-- what asks for a session's reading: any number but 0
abbrev pub is_session : ℕ → Bool
is_session n = not (eqb n 0)

-- ---- the good answers, call by call

-- a register that was read: 1, items, links, 0
abbrev pub counts : Size → List ℕ
counts n = four 1 n.items n.links 0

-- a requirement that was read: 1, written nodes, thresholds, 0
abbrev pub written : RequirementTree × List Part → List ℕ
written x = four 1 (nodes x.0) (length x.1) 0

-- the same, of what the reader hands back
abbrev pub sizes : Message → List ℕ
sizes m = four 1 m.nodes m.parts 0

-- where an inner concept stands: 1, place, length, 0; where there is none it is refused: 0, 0, 0, 0
abbrev pub place_numbers : Option Place → List ℕ
place_numbers (Some p) = four 1 p.start p.len 0
place_numbers None = four 0 0 0 0

-- a session's call: 1, the count of steps in use, 0, 0; opening and keep hand back count 0. A message that was written: 1, its length, 0, 0
abbrev pub in_use : ℕ → List ℕ
in_use n = four 1 n 0 0

-- what asks an edit to add its fact: any number but 0
abbrev pub is_adding : ℕ → Bool
is_adding n = is_session n

-- a yes or no: yes is 1, places written, 0, 0; no is 2, 0, 0, 0
abbrev pub verdicts : Said → List ℕ
verdicts (yes n) = four 1 n 0 0
verdicts no = four 2 0 0 0

-- a degree: 1, numerator, denominator, places written
abbrev pub degree_numbers : Told → List ℕ
degree_numbers t = four 1 t.degree.num t.degree.den t.places

-- a list: 1, items, written nodes, the scale of the root
abbrev pub list_numbers : ListTold → List ℕ
list_numbers t = four 1 t.items t.nodes t.scale

-- a margin: 1, its magnitude, what it is over, 1 where it is below zero and else 0
abbrev pub below_zero : ℤ → ℕ
below_zero (pos n) = 0
below_zero (negsuc n) = 1

abbrev pub margin_numbers : Against → List ℕ
margin_numbers a = four 1 (nat_abs a.margin) a.over (below_zero a.margin)

-- ---- the same, as the calls hand them back

abbrev pub answered_numbers : Answered → List ℕ
answered_numbers a = four 1 a.num a.den a.nodes

abbrev pub signed_numbers : Margin → List ℕ
signed_numbers m = four 1 (nat_abs m.margin) m.over (below_zero m.margin)

abbrev pub listed_numbers : Listed → List ℕ
listed_numbers l = four 1 l.items l.nodes l.scale

abbrev pub verdict_numbers : Option ℕ → List ℕ
verdict_numbers (Some n) = four 1 n 0 0
verdict_numbers None = four 2 0 0 0
