-- The answer of each public call as a function of what is handed in, in the document's order of tests:
-- "A degree or yes/no reads the register, the requirement, then 11 and 14 (degree and margin only), 15, 13 (margin only), 16 (no margin)."
-- Of the margin's 13, document 02, §2 makes 23, 24 and 25; its §5 puts 26 "directly after 15".
-- Assumes nothing.
use Rattle.std.specs.Prelude.{Bool, true, false, List, [], ◌∷◌, ℕ, ltb, leb, ℤ, length}
use Rattle.std.proofs.lemmas.List.Edits.{sets}
use Rattle.meaning.specs.declared.Side.TheVariants.{Requirement as requirement}
use Rattle.meaning.specs.Refusal.{Answer, good, refused, at, on_call, refuse_if, ◌>>=◌, ◌>>◌}
use Rattle.meaning.specs.Tree.{Concept, nodes}
use Rattle.meaning.specs.Fraction.{Frac, ◌÷◌, fraction, margin, margin_over}
use Rattle.meaning.specs.Register.{Register, withdrawn, judged, read_register}
use Rattle.meaning.specs.Reduce.{reduce, size}
use Rattle.meaning.specs.Bounds.{most_size}
use Rattle.meaning.specs.Degree.{answered}
use Rattle.meaning.specs.Requirement.{bare, member}
use Rattle.meaning.specs.Message.{Part, read_requirement}
use Rattle.meaning.specs.Shown.{degree_map, yes_map}

-- a requirement that must be plain: 11 at its first threshold, then 14 for the outer concept, whose root is at place 3
abbrev pub first_part : List Part → Answer (Unit {0})
first_part [] = good tt
first_part (p ∷ ps) = refused (at requirement 11 p.first)

unfoldable pub read_plain : List ℕ → Answer Concept
read_plain message = do
  (q, parts) ← read_requirement message
  first_part parts
  refuse_if (ltb most_size (size (reduce (bare q)))) (at requirement 14 3)
  good (bare q)

-- the item that is asked for: 15, and "26 when the asked item is withdrawn, directly after 15"
unfoldable pub asked_for : Register → ℕ → Answer (Unit {0})
asked_for g item = do
  refuse_if (leb (length g.names) item) (on_call 15)
  refuse_if (withdrawn g item) (on_call 26)

-- ---- the degree, in lowest terms, with its map

pub record Found : Type 0 where
  pub degree : Frac
  pub map : List ℕ

unfoldable pub degree_call : List ℕ → List ℕ → ℕ → ℕ → Answer Found
degree_call image message item room = do
  g ← read_register image
  t ← read_plain message
  asked_for g item
  refuse_if (ltb room (nodes t)) (on_call 16)
  good (record { degree = answered (judged g) t item; map = degree_map (judged g) t item })

-- the lent map afterwards: "Places after the last node keep their contents", and a refusal changes none
abbrev pub after_degree : List ℕ → Answer Found → List ℕ
after_degree old (good a) = sets old 0 a.map
after_degree old (refused r) = old

-- ---- the margin

pub record Against : Type 0 where
  pub margin : ℤ
  pub over : ℕ

unfoldable pub margin_call : List ℕ → List ℕ → ℕ → ℕ → ℕ → Answer Against
margin_call image message item p q = do
  g ← read_register image
  t ← read_plain message
  asked_for g item
  fraction on_call p q
  let d = answered (judged g) t item
  good (record { margin = margin d (p ÷ q); over = margin_over d (p ÷ q) })

-- ---- yes, with its map, or no

pub data Decision : Type 0 where
  met : List ℕ → Decision
  unmet : Decision

abbrev pub decide : Bool → List ℕ → Decision
decide true m = met m
decide false m = unmet

unfoldable pub member_call : List ℕ → List ℕ → ℕ → ℕ → Answer Decision
member_call image message item room = do
  g ← read_register image
  (q, parts) ← read_requirement message
  asked_for g item
  refuse_if (ltb room (nodes q)) (on_call 16)
  good (decide (member (judged g) q item) (yes_map (judged g) q item))

-- "A no writes nothing."
abbrev pub after_member : List ℕ → Answer Decision → List ℕ
after_member old (good (met m)) = sets old 0 m
after_member old (good unmet) = old
after_member old (refused r) = old
