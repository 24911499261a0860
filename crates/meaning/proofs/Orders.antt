-- Document 01, "Refusal numbers": the order of the tests and the places, on inputs that break a rule, most of them two at once.
-- One table, proved by computation: an order swapped or a place moved in specs/ fails it.
-- Assumes nothing.
use mathlib.Core.Bool.{Bool, false, ◌&&◌}
use mathlib.Core.List.{List, [], ◌∷◌, ◌++◌}
use Prim.Native.Nat.{ℕ, zero, suc}
use lib.Count.{ones}
use lib.Dec.{T, eqb}
use Rattle.meaning.specs.declared.Side.{Side}
use Rattle.meaning.specs.declared.Side.TheVariants.{Register as register, Requirement as requirement, Call as call}
use Rattle.meaning.specs.Refusal.{Answer, good, refused, refuse_if, ◌>>=◌, ◌>>◌}
use Rattle.meaning.specs.Bytes.{number, bytes, fields, read_head, headed}
use Rattle.meaning.specs.Tree.{node, Forest, none, more, Concept, count, under, nodes, relabel}
use Rattle.meaning.specs.Fraction.{◌÷◌, gcd, lowest, wrong_with}
use Rattle.meaning.specs.Register.{Link, targets, except, items_bytes, links_bytes, read_items, read_link, read_links, read_body, read_register_by, read_register, read_buffer}
use Rattle.meaning.specs.Register.{encode as image}
use Rattle.meaning.specs.Whole.{any, meets_by}
use Rattle.meaning.specs.Reduce.{dropped, kept_of, kept, reduce, size, scale}
use Rattle.meaning.specs.Degree.{best, degree}
use Rattle.meaning.specs.Requirement.{every, plain}
use Rattle.meaning.specs.Message.{concept_bytes, node_bytes, thresholds_bytes, read_children, read_node, no_thresholds, read_threshold, read_thresholds, with_thresholds, read_requirement}
use Rattle.meaning.specs.Message.{encode as message}
use Rattle.meaning.specs.Shown.{shown, yes_by}
use Rattle.meaning.specs.Calls.{read_plain, asked_for, degree_call, margin_call, member_call}
use Rattle.meaning.specs.Table.{trees, up_to, rows_of, Tabled, list_call}
use Rattle.meaning.specs.Sheet.{R1, Q1, leaf, two, link, same_list, all_true, is_found, says_no}
unfoldable pub use Rattle.meaning.specs.MayRefuse.{same_side}

unfoldable pub is : {A : Type 0} → Side → ℕ → ℕ → Answer A → Bool
is side n p (good a) = false
is side n p (refused r) = same_side r.side side && eqb r.number n && eqb r.place p

-- ---- registers of one item with no names: the first link stands at place 15

unfoldable pub link_bytes : ℕ → ℕ → ℕ → List ℕ
link_bytes a r b = bytes 2 a ++ bytes 1 r ++ bytes 2 b

unfoldable pub one_item : ℕ → List ℕ → List ℕ
one_item links rest = headed (bytes 2 1 ++ bytes 8 0 ++ bytes 2 links ++ rest)

pub registers : List Bool
unfolding is one_item link_bytes
registers =
    is register 1 0 (read_register [])
    ∷ is register 1 0 (read_register (2 ∷ 0 ∷ []))
    -- 2 before 3; 3 in a whole input and in a session
    ∷ is register 2 0 (read_register (2 ∷ 0 ∷ 9 ∷ []))
    ∷ is register 3 1 (read_register (1 ∷ 0 ∷ 1 ∷ []))
    ∷ is register 3 1 (read_register (1 ∷ 0 ∷ 0 ∷ 7 ∷ []))
    ∷ is register 3 1 (read_buffer (1 ∷ 0 ∷ 1 ∷ []))
    ∷ is register 1 3 (read_buffer (1 ∷ 0 ∷ 1 ∷ 0 ∷ 1 ∷ []))
    -- the counts and a set of names: 1, 4
    ∷ is register 1 3 (read_register (headed (0 ∷ [])))
    ∷ is register 4 3 (read_register (headed (0 ∷ 0 ∷ [])))
    ∷ is register 4 3 (read_register (headed (bytes 2 513)))
    ∷ is register 1 5 (read_register (headed (bytes 2 1 ++ bytes 7 0)))
    ∷ is register 1 13 (read_register (headed (bytes 2 1 ++ bytes 8 0 ++ (0 ∷ []))))
    ∷ is register 4 13 (read_register (one_item 4097 []))
    -- a link: 1 at each of its fields, before anything else of it
    ∷ is register 1 15 (read_register (one_item 1 (9 ∷ [])))
    ∷ is register 1 17 (read_register (one_item 1 (bytes 2 9)))
    ∷ is register 1 18 (read_register (one_item 1 (bytes 2 9 ++ (99 ∷ 9 ∷ []))))
    -- 5 (from), 7, 5 (to), 6
    ∷ is register 5 15 (read_register (one_item 1 (link_bytes 1 32 1)))
    ∷ is register 7 17 (read_register (one_item 1 (link_bytes 0 32 1)))
    ∷ is register 5 23 (read_register (one_item 2 (link_bytes 0 1 0 ++ link_bytes 0 0 1)))
    ∷ is register 6 20 (read_register (one_item 2 (link_bytes 0 1 0 ++ link_bytes 0 1 0 ++ (0 ∷ []))))
    -- last: 8
    ∷ is register 8 20 (read_register (one_item 1 (link_bytes 0 0 0 ++ (0 ∷ []))))
    ∷ []

-- ---- messages: the root stands at place 3, and what follows its fixed fields at 13

unfoldable pub root : ℕ → ℕ → List ℕ → List ℕ
root thresholds kids rest = headed (bytes 8 0 ++ (thresholds ∷ kids ∷ []) ++ rest)

-- a threshold ≥ 1/1 of these bytes
unfoldable pub asked : List ℕ → List ℕ
asked inner = 3 ∷ bytes 2 1 ++ bytes 2 1 ++ bytes 2 (lib.ListN.length inner) ++ inner

-- the first five bytes of a threshold
unfoldable pub limited : ℕ → ℕ → ℕ → List ℕ
limited how p q = how ∷ bytes 2 p ++ bytes 2 q

unfoldable pub repeat : ℕ → List ℕ → List ℕ
repeat zero l = []
repeat (suc k) l = l ++ repeat k l

unfoldable pub empty : List ℕ
unfolding bytes
empty = bytes 10 0

-- a chain of nodes, each the only child of the one before
unfoldable pub chain : ℕ → List ℕ
chain zero = bytes 8 0 ++ (0 ∷ 0 ∷ [])
chain (suc k) = bytes 8 0 ++ (0 ∷ 1 ∷ 0 ∷ []) ++ chain k

-- children under the roles 0 to k − 1, each with one name: size 2 k
unfoldable pub fan : ℕ → Forest ℕ
fan zero = none
fan (suc k) = more k (leaf 1) (fan k)

wide : Concept
wide = node 0 (fan 31)

pub messages : List Bool
unfolding is root asked limited repeat empty chain fan wide
messages =
    is requirement 1 0 (read_requirement (1 ∷ []))
    -- a node: 1 at each of its fields
    ∷ is requirement 1 3 (read_requirement (headed (bytes 7 0)))
    ∷ is requirement 1 11 (read_requirement (headed (bytes 8 0)))
    ∷ is requirement 1 12 (read_requirement (headed (bytes 8 0 ++ (0 ∷ []))))
    -- 9 at a node of depth 17; 10 at the 65th; 9 before 10
    ∷ is requirement 9 190 (read_requirement (headed (chain 17)))
    ∷ is requirement 10 707 (read_requirement (root 0 64 (repeat 64 (0 ∷ empty))))
    ∷ is requirement 9 707 (read_requirement (root 0 48 (repeat 47 (0 ∷ empty) ++ (0 ∷ chain 16))))
    -- a threshold: 12 before 1, 1, 13, 23, 24, 25, 1 (inner length)
    ∷ is requirement 12 285 (read_requirement (root 17 0 (repeat 16 (asked empty))))
    ∷ is requirement 1 13 (read_requirement (root 1 0 []))
    ∷ is requirement 1 14 (read_requirement (root 1 0 (9 ∷ 0 ∷ [])))
    ∷ is requirement 1 16 (read_requirement (root 1 0 (9 ∷ 0 ∷ 5 ∷ 0 ∷ [])))
    -- 13 at the threshold, before each of the fraction's; 12 before them
    ∷ is requirement 13 13 (read_requirement (root 1 0 (limited 4 1 1)))
    ∷ is requirement 13 13 (read_requirement (root 1 0 (limited 4 1 0)))
    ∷ is requirement 13 13 (read_requirement (root 1 0 (limited 4 2 1)))
    ∷ is requirement 13 13 (read_requirement (root 1 0 (limited 4 2 4)))
    ∷ is requirement 12 285 (read_requirement (root 17 0 (repeat 16 (asked empty) ++ limited 3 1 0)))
    -- 23 at q, also where p exceeds it or a factor is shared
    ∷ is requirement 23 16 (read_requirement (root 1 0 (limited 3 0 0)))
    ∷ is requirement 23 16 (read_requirement (root 1 0 (limited 3 1 0)))
    ∷ is requirement 23 16 (read_requirement (root 1 0 (limited 3 1 1001)))
    ∷ is requirement 23 16 (read_requirement (root 1 0 (limited 3 1002 1001)))
    ∷ is requirement 23 16 (read_requirement (root 1 0 (limited 3 2 1002)))
    -- 24 at p, also where a factor is shared; 25 at p, of 0/2 too
    ∷ is requirement 24 14 (read_requirement (root 1 0 (limited 3 2 1)))
    ∷ is requirement 24 14 (read_requirement (root 1 0 (limited 3 4 2)))
    ∷ is requirement 25 14 (read_requirement (root 1 0 (limited 3 2 4)))
    ∷ is requirement 25 14 (read_requirement (root 1 0 (limited 3 2 2)))
    ∷ is requirement 25 14 (read_requirement (root 1 0 (limited 3 0 2)))
    -- the places go with the threshold: the second of a root, and that of a child
    ∷ is requirement 23 33 (read_requirement (root 2 0 (asked empty ++ limited 3 1 0)))
    ∷ is requirement 24 31 (read_requirement (root 2 0 (asked empty ++ limited 3 2 1)))
    ∷ is requirement 25 31 (read_requirement (root 2 0 (asked empty ++ limited 3 2 4)))
    ∷ is requirement 23 27 (read_requirement (root 0 1 (0 ∷ bytes 8 0 ++ (1 ∷ 0 ∷ []) ++ limited 3 1 0)))
    ∷ is requirement 25 25 (read_requirement (root 0 1 (0 ∷ bytes 8 0 ++ (1 ∷ 0 ∷ []) ++ limited 3 2 4)))
    ∷ is requirement 1 18 (read_requirement (root 1 0 (3 ∷ 0 ∷ 1 ∷ 0 ∷ 1 ∷ 0 ∷ [])))
    ∷ is requirement 1 18 (read_requirement (root 1 0 (3 ∷ 0 ∷ 1 ∷ 0 ∷ 1 ∷ 0 ∷ 10 ∷ bytes 9 0)))
    -- its inner concept, with its own end: 1, 11; then 8, 14
    ∷ is requirement 1 29 (read_requirement (root 1 0 (asked (bytes 9 0) ++ empty)))
    ∷ is requirement 11 28 (read_requirement (root 1 0 (asked (bytes 8 0 ++ (1 ∷ 0 ∷ [])))))
    ∷ is requirement 8 30 (read_requirement (root 1 0 (asked (empty ++ (0 ∷ [])))))
    ∷ is requirement 8 371 (read_requirement (root 1 0 (asked (concept_bytes wide ++ (0 ∷ [])))))
    ∷ is requirement 14 20 (read_requirement (root 1 1 (asked (concept_bytes wide))))
    -- an edge: 1, 7; last: 8
    ∷ is requirement 1 13 (read_requirement (root 0 1 []))
    ∷ is requirement 7 13 (read_requirement (root 0 1 (32 ∷ [])))
    ∷ is requirement 1 14 (read_requirement (root 0 1 (31 ∷ [])))
    ∷ is requirement 8 13 (read_requirement (root 0 0 (0 ∷ [])))
    ∷ []

-- ---- calls

wide_asked : List ℕ
unfolding wide asked fan
wide_asked = headed (bytes 8 0 ++ (1 ∷ 31 ∷ []) ++ asked (bytes 10 0) ++ Rattle.meaning.specs.Message.children_bytes (λ a. a) (λ a. 0) (λ a. []) (fan 31))

-- the list's answer: items, written nodes, scale, table
unfoldable pub is_tabled : ℕ → ℕ → ℕ → List ℕ → Answer Tabled → Bool
is_tabled n k d l (good a) = eqb a.items n && eqb a.nodes k && eqb a.scale d && same_list a.table l
is_tabled n k d l (refused r) = false

-- three items of which the middle one is withdrawn: a link from it, one to it, and one past it
besides : List Link → List ℕ
besides past = image (record { names = 10 ∷ 9223372036854775810 ∷ 4 ∷ []; links = link 0 0 1 ∷ past ++ (link 1 0 2 ∷ []) })

-- some successor, whatever it is
some_one : List ℕ
some_one = message (plain (node 0 (more 0 (leaf 0) none)))

pub calls : List Bool
unfolding is is_tabled root wide wide_asked besides some_one
calls =
    -- the register, the requirement, 11, 14, 15, 16
    is register 1 0 (degree_call [] [] 9 0)
    ∷ is requirement 1 0 (degree_call R1 [] 9 0)
    ∷ is requirement 11 13 (degree_call R1 wide_asked 9 0)
    ∷ is requirement 14 3 (degree_call R1 (message (plain wide)) 9 0)
    ∷ is call 15 0 (degree_call R1 Q1 3 1)
    ∷ is call 16 0 (degree_call R1 Q1 2 1)
    -- the margin: 15, 23, 24, 25
    ∷ is requirement 14 3 (margin_call R1 (message (plain wide)) 9 1 0)
    ∷ is call 15 0 (margin_call R1 Q1 3 1 0)
    ∷ is call 23 0 (margin_call R1 Q1 2 1 0)
    ∷ is call 23 0 (margin_call R1 Q1 2 2 1002)
    ∷ is call 24 0 (margin_call R1 Q1 2 4 2)
    ∷ is call 25 0 (margin_call R1 Q1 2 2 4)
    ∷ is call 25 0 (margin_call R1 Q1 2 0 2)
    -- yes or no: 15, 16, and no 11 or 14 of the outer tree
    ∷ is register 1 0 (member_call [] [] 9 0)
    ∷ is requirement 1 0 (member_call R1 [] 9 0)
    ∷ is call 15 0 (member_call R1 wide_asked 3 0)
    ∷ is call 16 0 (member_call R1 wide_asked 2 31)
    -- the list: the register, the requirement, 11, 14, 16; two nodes at three items are six places
    ∷ is register 1 0 (list_call [] [] 0)
    ∷ is requirement 1 0 (list_call R1 [] 0)
    ∷ is requirement 11 13 (list_call R1 wide_asked 0)
    ∷ is requirement 14 3 (list_call R1 (message (plain wide)) 0)
    ∷ is call 16 0 (list_call R1 Q1 5)
    ∷ is_tabled 3 2 3 (2 ∷ 1 ∷ 1 ∷ 1 ∷ 1 ∷ 0 ∷ []) (list_call R1 Q1 6)
    -- a dropped node's row is 0, and so is that of each below it; each kept node's is over its own scale
    ∷ is_tabled 3 3 2 (1 ∷ 0 ∷ 0 ∷ 0 ∷ 0 ∷ 0 ∷ 1 ∷ 1 ∷ 1 ∷ []) (list_call R1 (message (plain (two 0 (leaf 2) 0 (leaf 6)))) 9)
    ∷ is_tabled 3 5 2 (1 ∷ 0 ∷ 0 ∷ 0 ∷ 0 ∷ 0 ∷ 0 ∷ 0 ∷ 0 ∷ 2 ∷ 1 ∷ 0 ∷ 1 ∷ 1 ∷ 1 ∷ [])
    (list_call R1 (message (plain (two 0 (node 0 (more 1 (leaf 0) none)) 0 (node 2 (more 1 (leaf 0) none))))) 16)
    -- document 02, §5: 26 directly after 15; a successor that is withdrawn is none, and a withdrawn item has 0 in each row, also of the empty child
    ∷ is call 15 0 (degree_call (besides []) Q1 3 1)
    ∷ is call 26 0 (degree_call (besides []) Q1 1 1)
    ∷ is call 26 0 (margin_call (besides []) Q1 1 1 0)
    ∷ is call 26 0 (member_call (besides []) Q1 1 0)
    ∷ is_found (0 ÷ 1) (0 ∷ 65535 ∷ []) (degree_call (besides []) some_one 0 2)
    ∷ is_found (1 ÷ 1) (0 ∷ 2 ∷ []) (degree_call (besides (link 0 0 2 ∷ [])) some_one 0 2)
    ∷ says_no (member_call (besides []) some_one 0 2)
    ∷ is_tabled 3 2 1 (0 ∷ 0 ∷ 0 ∷ 1 ∷ 0 ∷ 1 ∷ []) (list_call (besides []) some_one 6)
    ∷ is_tabled 3 2 1 (1 ∷ 0 ∷ 0 ∷ 1 ∷ 0 ∷ 1 ∷ []) (list_call (besides (link 0 0 2 ∷ [])) some_one 6)
    ∷ []

pub orders : T (all_true (registers ++ messages ++ calls))
unfolding
    registers messages calls is is_tabled same_side besides some_one root asked limited repeat empty chain fan wide wide_asked one_item link_bytes R1 Q1
    all_true same_list asked_for degree_call margin_call member_call list_call rows_of up_to trees kept
    read_plain read_requirement read_register_by read_body read_items read_link read_links read_head number bytes fields headed
    image message node_bytes thresholds_bytes items_bytes links_bytes read_node read_children no_thresholds read_threshold read_thresholds with_thresholds
    shown yes_by degree best lowest gcd wrong_with reduce kept_of dropped size scale meets_by any every targets except count under nodes relabel ones refuse_if ◌>>=◌ ◌>>◌
orders = tt
