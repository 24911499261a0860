-- The row of an item, once register and requirement were read: `withdrawn` where the item is withdrawn, and what the call answers of it where it is in
-- service. No line of an item in service reads like a withdrawn one's.
-- Assumes nothing.
use mathlib.Core.Path.{◌≡◌, refl, sym, ap, subst, ◌∙◌}
use mathlib.Core.Bool.{Bool, true, false, cond}
use mathlib.Core.List.{List, [], ◌∷◌, ◌++◌, append_assoc}
use Prim.Native.Nat.{ℕ, zero, suc, ◌+◌, ◌/◌, ◌%◌, ◌≤◌, ◌<◌}
use native.Mathlib.Omega.{arith}
use lib.Dec.{ltb, ltb→lt}
use lib.ListN.{length, get_or}
use lib.Seq.{get_or-append-add}
use Rattle.meaning.specs.Bounds.{most_nodes}
use Rattle.meaning.specs.Refusal.{good, refused, on_call}
use Rattle.meaning.specs.Tree.{Concept, nodes}
use Rattle.meaning.specs.Fraction.{Frac}
use Rattle.meaning.specs.Degree.{answered}
use Rattle.meaning.specs.Shown.{degree_map, yes_map}
use Rattle.meaning.specs.Register.{Register, withdrawn, judged, read_register}
use Rattle.meaning.specs.Requirement.{Requirement, member}
use Rattle.meaning.specs.Message.{Part, read_requirement}
use Rattle.meaning.specs.Calls.{read_plain, Found, degree_call, Decision, met, unmet, decide, member_call}
use Rattle.meaning.proofs.Tests.{holds}
use Rattle.meaning.proofs.Reading.{took, pass, not-below}
use Rattle.meaning.proofs.Asked.{Asks, asks-goes, asks-halts, asked-withdrawn}
use Rattle.lines.specs.Text.{digits, decimal}
use Rattle.lines.specs.Lines.{yes_word, no_word, withdrawn_word, shown_map, degree_line, yes_line, withdrawn_line}
use Rattle.lines.specs.Entries.{member_row}
use Rattle.lines.proofs.Lines.{degree-line, yes-line, item-line}

-- ---- what the calls answer

-- what is answered of an item in service
abbrev pub its_degree : Register → Concept → ℕ → Found
its_degree g t i = record { degree = answered (judged g) t i; map = degree_map (judged g) t i }

abbrev pub its_decision : Register → Requirement → ℕ → Decision
its_decision g q i = decide (member (judged g) q i) (yes_map (judged g) q i)

module _ (image message : List ℕ) (g : Register) (read : read_register image ≡ good g) (item : ℕ) where
  module _ (t : Concept) (wanted : read_plain message ≡ good t) where
    pub degree-out : item < length g.names → withdrawn g item ≡ true → degree_call image message item most_nodes ≡ refused (on_call 26)
    unfolding degree_call
    degree-out l e = took (read_register image) _ g read ∙ took (read_plain message) _ t wanted ∙ asks-halts g item _ (asked-withdrawn g item l e)

    pub degree-in : Asks g item → nodes t ≤ most_nodes → degree_call image message item most_nodes ≡ good (its_degree g t item)
    unfolding degree_call
    degree-in a few =
        took (read_register image) _ g read ∙ took (read_plain message) _ t wanted ∙ asks-goes g item _ a ∙ pass _ _ _ (not-below most_nodes (nodes t) few)

  module _ (q : Requirement) (ps : List Part) (wanted : read_requirement message ≡ good (q, ps)) where
    pub member-out : item < length g.names → withdrawn g item ≡ true → member_call image message item most_nodes ≡ refused (on_call 26)
    unfolding member_call
    member-out l e = took (read_register image) _ g read ∙ took (read_requirement message) _ (q, ps) wanted ∙ asks-halts g item _ (asked-withdrawn g item l e)

    pub member-in : Asks g item → nodes q ≤ most_nodes → member_call image message item most_nodes ≡ good (its_decision g q item)
    unfolding member_call
    member-in a few =
        took (read_register image) _ g read ∙ took (read_requirement message) _ (q, ps) wanted ∙ asks-goes g item _ a
        ∙ pass _ _ _ (not-below most_nodes (nodes q) few)

-- ---- withdrawn is said of no other item

-- a number begins with a digit
digit-first : (k n : ℕ) (rest : List ℕ) → get_or (digits (suc k) n ++ rest) 0 0 < 58
unfolding digits
digit-first zero n rest = go (ltb n 10) refl
  where
    go : (b : Bool) → ltb n 10 ≡ b → get_or (cond b ((48 + n) ∷ []) ([] ++ ((48 + n % 10) ∷ [])) ++ rest) 0 0 < 58
    go true e = let l = ltb→lt n 10 (holds e) in omega arith
    go false e = omega arith
digit-first (suc k) n rest = go (ltb n 10) refl (λ more. digit-first k (n / 10) more)
  where
    ds : List ℕ
    ds = digits (suc k) (n / 10)

    go : (b : Bool) → ltb n 10 ≡ b → ((more : List ℕ) → get_or (ds ++ more) 0 0 < 58)
        → get_or (cond b ((48 + n) ∷ []) (ds ++ ((48 + n % 10) ∷ [])) ++ rest) 0 0 < 58
    go true e h = let l = ltb→lt n 10 (holds e) in omega arith
    go false e h = subst (λ (z : List ℕ). get_or z 0 0 < 58) (sym (append_assoc ds ((48 + n % 10) ∷ []) rest)) (h (((48 + n % 10) ∷ []) ++ rest))

digit-is-not : (n : ℕ) (rest : List ℕ) → get_or (decimal n ++ rest) 0 0 ≡ 119 → ⊥
digit-is-not n rest e = omega (arith, e, digit-first 19 n rest)

-- a line that reads like a withdrawn item's has a `w` behind the item and a space
says-w : (i : ℕ) (rest : List ℕ) {line : List ℕ} → line ≡ decimal i ++ rest → line ≡ withdrawn_line i → get_or rest 1 0 ≡ 119
says-w i rest e w =
    sym (get_or-append-add (decimal i) rest 1 0) ∙ ap (λ (l : List ℕ). get_or l (length (decimal i) + 1) 0) (sym e ∙ w ∙ item-line i withdrawn_word)
    ∙ get_or-append-add (decimal i) withdrawn_word 1 0

pub degree-apart : (i : ℕ) (d : Frac) (m : List ℕ) → degree_line i d m ≡ withdrawn_line i → ⊥
degree-apart i d m e =
    let rest : List ℕ = 47 ∷ (decimal d.den ++ (32 ∷ (shown_map m ++ (10 ∷ [])))) in
    let joined : degree_line i d m ≡ decimal i ++ (32 ∷ (decimal d.num ++ rest)) = degree-line i d m ∙ simp append_assoc in
    digit-is-not d.num rest (says-w i (32 ∷ (decimal d.num ++ rest)) joined e)

pub decision-apart : (i : ℕ) (d : Decision) → member_row i (good d) ≡ withdrawn_line i → ⊥
decision-apart i (met m) e =
    let joined : yes_line i m ≡ decimal i ++ (yes_word ++ (shown_map m ++ (10 ∷ []))) = yes-line i m ∙ simp append_assoc in
    let y : ◌≡◌ {A = ℕ} 121 119 = says-w i (yes_word ++ (shown_map m ++ (10 ∷ []))) joined e in
    omega arith
decision-apart i unmet e = let n : ◌≡◌ {A = ℕ} 110 119 = says-w i no_word (item-line i no_word) e in omega arith
