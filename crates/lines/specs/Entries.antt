-- The row of an item: what the calls answer for it, where the map has room for all 64 nodes.
-- Assumes nothing.
use Rattle.std.specs.Prelude.{Bool, true, false, cond, List, ℕ, eqb}
use Rattle.meaning.specs.declared.Refusal.{Refusal}
use Rattle.meaning.specs.Refusal.{Answer, good, refused}
use Rattle.meaning.specs.Calls.{Found, degree_call, Decision, met, unmet, member_call}
use Rattle.meaning.specs.Bounds.{most_nodes}
use Rattle.lines.specs.Lines.{refusal_line, degree_line, yes_line, no_line, withdrawn_line}

-- "The listing program prints withdrawn items with `withdrawn` as second field and `-` as map": for such an item a call is refused with 26. No other
-- refusal stands in a list (listing/proofs/NoRefusals.antt).
abbrev pub refused_row : ℕ → Refusal → List ℕ
refused_row i r = cond (eqb r.number 26) (withdrawn_line i) (refusal_line r)

-- from the degree call's answer, and from the yes/no call's
abbrev pub degree_row : ℕ → Answer Found → List ℕ
degree_row i (good a) = degree_line i a.degree a.map
degree_row i (refused r) = refused_row i r

abbrev pub member_row : ℕ → Answer Decision → List ℕ
member_row i (good (met m)) = yes_line i m
member_row i (good unmet) = no_line i
member_row i (refused r) = refused_row i r

-- an item's row, of degrees or of yes and no
abbrev pub row_of : Bool → List ℕ → List ℕ → ℕ → List ℕ
row_of true image message i = degree_row i (degree_call image message i most_nodes)
row_of false image message i = member_row i (member_call image message i most_nodes)
