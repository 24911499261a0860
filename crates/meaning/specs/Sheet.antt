-- Document 01, "Sheet of examples": the starred rows as one table. Each row is put to the calls themselves, on bytes.
-- R1 and Q1 stand as their bytes; the other registers and requirements as what they hold, and `encode` makes their bytes.
-- That every row holds is proofs/Sheet.antt, by computation.
-- Assumes nothing.
use Rattle.std.specs.Prelude.{Bool, true, false, ◌&&◌, List, [], ◌∷◌, ℕ, eqb, ℤ, pos, negsuc}
use Rattle.meaning.specs.Refusal.{Answer, good, refused}
use Rattle.meaning.specs.Tree.{node, none, more, Concept}
use Rattle.meaning.specs.Fraction.{Frac, ◌÷◌, Comparison, less, at_most, greater, at_least}
use Rattle.meaning.specs.Register.{Link}
use Rattle.meaning.specs.Register.{encode as image}
use Rattle.meaning.specs.Requirement.{plain}
use Rattle.meaning.specs.Message.{encode as message}
use Rattle.meaning.specs.Calls.{Found, degree_call, Against, margin_call, Decision, met, unmet, member_call}

-- ---- what a row says

unfoldable pub same_list : List ℕ → List ℕ → Bool
same_list [] [] = true
same_list [] (y ∷ ys) = false
same_list (x ∷ xs) [] = false
same_list (x ∷ xs) (y ∷ ys) = eqb x y && same_list xs ys

unfoldable pub same_whole : ℤ → ℤ → Bool
same_whole (pos m) (pos n) = eqb m n
same_whole (negsuc m) (negsuc n) = eqb m n
same_whole (pos m) (negsuc n) = false
same_whole (negsuc m) (pos n) = false

abbrev pub is_found : Frac → List ℕ → Answer Found → Bool
is_found d m (good a) = eqb a.degree.num d.num && eqb a.degree.den d.den && same_list a.map m
is_found d m (refused r) = false

abbrev pub is_margin : ℤ → ℕ → Answer Against → Bool
is_margin z over (good a) = same_whole a.margin z && eqb a.over over
is_margin z over (refused r) = false

abbrev pub says_yes : Answer Decision → Bool
says_yes (good (met m)) = same_list m (0 ∷ [])
says_yes (good unmet) = false
says_yes (refused r) = false

abbrev pub says_no : Answer Decision → Bool
says_no (good (met m)) = false
says_no (good unmet) = true
says_no (refused r) = false

-- ---- registers and requirements

-- 01 0026 0003 000000000000000A 0000000000000002 0000000000000004 0002 0000000001 0000010002
unfoldable pub R1 : List ℕ
R1 =
    1 ∷ 0 ∷ 38 ∷ 0 ∷ 3 ∷ 0 ∷ 0 ∷ 0 ∷ 0 ∷ 0 ∷ 0 ∷ 0 ∷ 10 ∷ 0 ∷ 0 ∷ 0 ∷ 0 ∷ 0 ∷ 0 ∷ 0 ∷ 2 ∷ 0 ∷ 0 ∷ 0 ∷ 0 ∷ 0 ∷ 0 ∷ 0 ∷ 4
    ∷ 0 ∷ 2 ∷ 0 ∷ 0 ∷ 0 ∷ 0 ∷ 1 ∷ 0 ∷ 0 ∷ 1 ∷ 0 ∷ 2 ∷ []

-- 01 0015 0000000000000006 00 01 00 0000000000000002 00 00
unfoldable pub Q1 : List ℕ
Q1 = 1 ∷ 0 ∷ 21 ∷ 0 ∷ 0 ∷ 0 ∷ 0 ∷ 0 ∷ 0 ∷ 0 ∷ 6 ∷ 0 ∷ 1 ∷ 0 ∷ 0 ∷ 0 ∷ 0 ∷ 0 ∷ 0 ∷ 0 ∷ 0 ∷ 2 ∷ 0 ∷ 0 ∷ []

abbrev pub leaf : ℕ → Concept
leaf a = node a none

-- Q1's concept: names 1 and 2, and role 0 to {1}
abbrev pub C1 : Concept
C1 = node 6 (more 0 (leaf 2) none)

abbrev pub two : ℕ → Concept → ℕ → Concept → Concept
two r c q d = node 0 (more r c (more q d none))

abbrev pub link : ℕ → ℕ → ℕ → Link
link a r b = record { from = a; role = r; to = b }

abbrev pub reg : List ℕ → List Link → List ℕ
reg names links = image (record { names = names; links = links })

abbrev pub asks : Comparison → Concept → Frac → List ℕ
asks how t limit = message (node (record { names = 0; thresholds = record { how = how; limit = limit; inner = t } ∷ [] }) none)

-- ---- the rows

unfoldable pub rows : List Bool
unfolding R1 Q1
rows =
    -- Q1 on R1: 2/3, 1/3, 1/3
    is_found (2 ÷ 3) (0 ∷ 1 ∷ []) (degree_call R1 Q1 0 2)
    ∷ is_found (1 ÷ 3) (1 ∷ 65535 ∷ []) (degree_call R1 Q1 1 2)
    ∷ is_found (1 ÷ 3) (2 ∷ 65535 ∷ []) (degree_call R1 Q1 2 2)
    -- no names, no children: 1/1
    ∷ is_found (1 ÷ 1) (0 ∷ []) (degree_call R1 (message (plain (leaf 0))) 0 1)
    -- role 0 to {1} and role 0 to {1,2}, item 0 of R1: 1/2, map 0, 65534, 1
    ∷ is_found (1 ÷ 2) (0 ∷ 65534 ∷ 1 ∷ []) (degree_call R1 (message (plain (two 0 (leaf 2) 0 (leaf 6)))) 0 3)
    -- role 0 to {1} twice: the second is dropped
    ∷ is_found (1 ÷ 1) (0 ∷ 1 ∷ 65534 ∷ []) (degree_call R1 (message (plain (two 0 (leaf 2) 0 (leaf 2)))) 0 3)
    -- role 0 to {1} and role 0 to {2}, one successor holding both: 1/1
    ∷ is_found (1 ÷ 1) (0 ∷ 1 ∷ 1 ∷ []) (degree_call (reg (0 ∷ 6 ∷ []) (link 0 0 1 ∷ [])) (message (plain (two 0 (leaf 2) 0 (leaf 4)))) 0 3)
    -- role 0 to ({1}, role 1 to {2}, role 1 to {3}); one successor holds 1 and has no links, another lacks 1 and has role 1 to holders of 2 and of 3: 2/3
    ∷ is_found (2 ÷ 3) (0 ∷ 2 ∷ 3 ∷ 4 ∷ []) (degree_call
    (reg (0 ∷ 2 ∷ 0 ∷ 4 ∷ 8 ∷ []) (link 0 0 1 ∷ link 0 0 2 ∷ link 2 1 3 ∷ link 2 1 4 ∷ []))
    (message (plain (node 0 (more 0 (node 2 (more 1 (leaf 4) (more 1 (leaf 8) none))) none)))) 0 4)
    -- one item, no names, role 0 to itself: role 0 to (role 0 to {1}): 0/1; without the {1}: 1/1
    ∷ is_found (0 ÷ 1) (0 ∷ 0 ∷ 0 ∷ []) (degree_call (reg (0 ∷ []) (link 0 0 0 ∷ [])) (message (plain (node 0 (more 0 (node 0 (more 0 (leaf 2) none)) none)))) 0 3)
    ∷ is_found (1 ÷ 1) (0 ∷ 0 ∷ 0 ∷ []) (degree_call (reg (0 ∷ []) (link 0 0 0 ∷ [])) (message (plain (node 0 (more 0 (node 0 (more 0 (leaf 0) none)) none)))) 0 3)
    -- Q1 against 2/3 at item 0: ≥ and ≤ yes, > and < no
    ∷ says_yes (member_call R1 (asks at_least C1 (2 ÷ 3)) 0 1)
    ∷ says_yes (member_call R1 (asks at_most C1 (2 ÷ 3)) 0 1)
    ∷ says_no (member_call R1 (asks greater C1 (2 ÷ 3)) 0 1)
    ∷ says_no (member_call R1 (asks less C1 (2 ÷ 3)) 0 1)
    -- its margin: against 3/4, −1 over 12; 2/3, 0 over 9; 1/2, 1 over 6
    ∷ is_margin (negsuc 0) 12 (margin_call R1 Q1 0 3 4)
    ∷ is_margin (pos 0) 9 (margin_call R1 Q1 0 2 3)
    ∷ is_margin (pos 1) 6 (margin_call R1 Q1 0 1 2)
    -- equal successors 4 and 2: the map says 2
    ∷ is_found (1 ÷ 1) (0 ∷ 2 ∷ []) (degree_call
    (reg (0 ∷ 0 ∷ 2 ∷ 0 ∷ 2 ∷ []) (link 0 0 2 ∷ link 0 0 4 ∷ [])) (message (plain (node 0 (more 0 (leaf 2) none)))) 0 2)
    ∷ []

-- each row holds
unfoldable pub all_true : List Bool → Bool
all_true [] = true
all_true (b ∷ bs) = b && all_true bs
