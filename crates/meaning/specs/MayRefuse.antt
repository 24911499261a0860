-- Which refusals a call can give, by side and number: the lists of include/svelgandur.h. proofs/MayRefuse.antt shows that no other is given; that each of
-- them is given at all, the tests see.
-- Assumes nothing.
use Rattle.std.specs.Prelude.{◌≡◌, Bool, true, false, ◌&&◌, ◌||◌, List, [], ◌∷◌, ℕ, T, eqb}
use Rattle.meaning.specs.declared.Side.{Side}
use Rattle.meaning.specs.declared.Side.TheVariants.{Register as register, Requirement as requirement, Call as call}
use Rattle.meaning.specs.declared.Refusal.{Refusal}
use Rattle.meaning.specs.Refusal.{Answer, refused}

unfoldable pub same_side : Side → Side → Bool
same_side register register = true
same_side register requirement = false
same_side register call = false
same_side requirement register = false
same_side requirement requirement = true
same_side requirement call = false
same_side call register = false
same_side call requirement = false
same_side call call = true

unfoldable pub one_of : ℕ → List ℕ → Bool
one_of n [] = false
one_of n (m ∷ ms) = eqb n m || one_of n ms

-- a refusal of this side with one of these numbers
unfoldable pub among : Side → List ℕ → Refusal → Bool
among side ns f = same_side f.side side && one_of f.number ns

-- an answer that is refused only in ways that may be
pub record Gives (may : Refusal → Bool) {A : Type 0} (a : Answer A) : Type 0 where
  pub only : (f : Refusal) → a ≡ refused f → T (may f)

-- ---- the lists

-- reading a register
abbrev pub of_register : Refusal → Bool
of_register = among register (1 ∷ 2 ∷ 3 ∷ 4 ∷ 5 ∷ 6 ∷ 7 ∷ 8 ∷ [])

-- reading a requirement, also one that must be plain; 23 to 25 are document 02's, §2
abbrev pub of_requirement : Refusal → Bool
of_requirement = among requirement (1 ∷ 2 ∷ 3 ∷ 7 ∷ 8 ∷ 9 ∷ 10 ∷ 11 ∷ 12 ∷ 13 ∷ 14 ∷ 23 ∷ 24 ∷ 25 ∷ [])

-- a question: of its register, of its requirement, or one of these numbers on the call's side; 26 is document 02's, §5
unfoldable pub of_question : List ℕ → Refusal → Bool
of_question ns f = of_register f || (of_requirement f || among call ns f)

abbrev pub of_degree : Refusal → Bool
of_degree = of_question (15 ∷ 26 ∷ 16 ∷ [])

abbrev pub of_margin : Refusal → Bool
of_margin = of_question (15 ∷ 26 ∷ 23 ∷ 24 ∷ 25 ∷ [])

abbrev pub of_member : Refusal → Bool
of_member = of_question (15 ∷ 26 ∷ 16 ∷ [])

-- document 02, §3: "The call takes no item"
abbrev pub of_list : Refusal → Bool
of_list = of_question (16 ∷ [])

-- writing: "7, 9, 10 and 12 to 14 as in reading, after 22 and before 21, all on the call's side", and §2's
abbrev pub of_writing : Refusal → Bool
of_writing = among call (7 ∷ 9 ∷ 10 ∷ 12 ∷ 13 ∷ 14 ∷ 21 ∷ 22 ∷ 23 ∷ 24 ∷ 25 ∷ [])
