-- Document 02, §1 and §2: the order of the writing call's tests, on lists that break two rules at once, each pair of neighbours in the order; and each bound from
-- both sides. One table, proved by computation.
-- Assumes nothing.
use mathlib.Core.Bool.{Bool, false}
use mathlib.Core.List.{List, [], ◌∷◌, ◌++◌}
use Prim.Native.Nat.{ℕ, zero, suc}
use lib.Dec.{T, eqb}
use lib.ListN.{length}
use Rattle.meaning.specs.declared.Side.TheVariants.{Call as call}
use Rattle.meaning.specs.Refusal.{Answer, good, refused, refuse_if, ◌>>=◌, ◌>>◌}
use Rattle.meaning.specs.Bytes.{bytes, headed}
use lib.Count.{ones}
use Rattle.meaning.specs.Tree.{count, under}
use Rattle.meaning.specs.Fraction.{gcd, wrong_with}
use Rattle.meaning.specs.Reduce.{reduce, kept_of, dropped, size}
use Rattle.meaning.specs.Message.{encode, node_bytes, thresholds_bytes}
use Rattle.meaning.specs.Lists.{go_on, form_tree, stand_at, form, gathered, others, grown, first_tree, concept, owned, labelled, said}
use Rattle.meaning.specs.Writing.{nodes_from, limits_from, shared_out, whole, node_fits, nodes_fit, limit_fits, own_fit, lists_fit, write_call}
use Rattle.meaning.specs.Sheet.{all_true}
use Rattle.meaning.proofs.Orders.{same_side, is}

-- ---- lists

-- so many nodes without names under role 0, each one below the one before, the first at this depth
down : ℕ → ℕ → List ℕ
down d zero = []
down d (suc n) = 0 ∷ d ∷ 0 ∷ down (suc d) n

-- so many nodes at depth 1
wide : ℕ → List ℕ
wide zero = []
wide (suc n) = 0 ∷ 1 ∷ 0 ∷ wide n

-- so many thresholds of the root, "at least 1/2" of one inner node each
halves : ℕ → List ℕ
halves zero = []
halves (suc n) = 0 ∷ 3 ∷ 1 ∷ 2 ∷ 1 ∷ halves n

root : List ℕ
root = 0 ∷ 0 ∷ 0 ∷ []

-- a root with one child under this role
pair : ℕ → List ℕ
pair r = 0 ∷ 0 ∷ 0 ∷ 0 ∷ 1 ∷ r ∷ []

-- so many roots, one after the other
roots : ℕ → List ℕ
roots zero = []
roots (suc n) = 0 ∷ 0 ∷ 0 ∷ roots n

-- a threshold of a node, with this comparison and so many inner nodes
half : ℕ → ℕ → ℕ → List ℕ
half owner how inner = owner ∷ how ∷ 1 ∷ 2 ∷ inner ∷ []

-- a threshold of the root, with this comparison and fraction and two inner nodes
limited : ℕ → ℕ → ℕ → List ℕ
limited how p q = 0 ∷ how ∷ p ∷ q ∷ 2 ∷ []

-- nodes of one name under different roles; below a root with these names: 31 nodes, reduced size 60 and the names
fan : ℕ → List ℕ
fan zero = []
fan (suc n) = 1 ∷ 1 ∷ n ∷ fan n

sized : ℕ → List ℕ
sized names = names ∷ 0 ∷ 0 ∷ fan 30

taken : ℕ → Answer (List ℕ) → Bool
taken n (good m) = eqb (length m) n
taken n (refused r) = false

pub writings : List Bool
unfolding is down wide halves root pair roots half limited fan sized taken
writings =
    -- 22: no node, another depth at first, a jump by two, a second root, a rest
    is call 22 0 (write_call [] [] [] 100)
    ∷ is call 22 0 (write_call (0 ∷ 1 ∷ 0 ∷ []) [] [] 100)
    ∷ is call 22 0 (write_call (root ++ (0 ∷ 2 ∷ 0 ∷ [])) [] [] 100)
    ∷ is call 22 0 (write_call (roots 2) [] [] 100)
    ∷ is call 22 0 (write_call (root ++ (0 ∷ [])) [] [] 100)
    ∷ taken 13 (write_call root [] [] 13)
    ∷ taken 24 (write_call (pair 31) [] [] 24)
    -- 22: a node that is not there, one below the one before, an inner list that is empty or forms no tree, too many inner nodes or too few, a rest
    ∷ is call 22 0 (write_call root (half 1 3 1) root 100)
    ∷ is call 22 0 (write_call (pair 0) (half 1 3 1 ++ half 0 3 1) (roots 2) 100)
    ∷ taken 58 (write_call (pair 0) (half 0 3 1 ++ half 1 3 1) (roots 2) 58)
    ∷ is call 22 0 (write_call root (half 0 3 0) [] 100)
    ∷ is call 22 0 (write_call root (half 0 3 2) (roots 2) 100)
    ∷ is call 22 0 (write_call root (half 0 3 1) (roots 2) 100)
    ∷ is call 22 0 (write_call root (half 0 3 2) root 100)
    ∷ is call 22 0 (write_call root (half 0 3 1) (root ++ (0 ∷ [])) 100)
    ∷ is call 22 0 (write_call root (half 0 3 1 ++ (0 ∷ [])) root 100)
    -- 22 of the last list, then 7; 7, 9, 10 at a node
    ∷ is call 22 0 (write_call (pair 32) (half 0 3 1 ++ half 0 3 0) root 100)
    ∷ is call 7 0 (write_call (pair 32) (half 1 4 1) root 0)
    ∷ is call 7 0 (write_call (down 0 17 ++ (0 ∷ 17 ∷ 32 ∷ [])) [] [] 0)
    ∷ is call 9 0 (write_call (root ++ (wide 47 ++ down 1 17)) [] [] 0)
    ∷ is call 9 0 (write_call (down 0 18) [] [] 0)
    ∷ is call 10 0 (write_call (root ++ wide 64) [] [] 0)
    ∷ taken 189 (write_call (down 0 17) [] [] 189)
    ∷ taken 706 (write_call (root ++ wide 63) [] [] 706)
    -- a node's thresholds before its children: 12, 13, 23, 24, 25, the inner list, 14
    ∷ is call 13 0 (write_call (pair 32) (half 0 4 1) root 0)
    ∷ is call 12 0 (write_call root (halves 16 ++ half 0 4 1) (roots 17) 0)
    ∷ taken 285 (write_call root (halves 16) (roots 16) 285)
    ∷ is call 13 0 (write_call root (half 0 4 2) (pair 32) 0)
    ∷ is call 13 0 (write_call root (limited 4 1 0) (pair 32) 0)
    ∷ is call 13 0 (write_call root (limited 4 2 1) (pair 32) 0)
    ∷ is call 13 0 (write_call root (limited 4 2 4) (pair 32) 0)
    ∷ is call 12 0 (write_call root (halves 16 ++ limited 3 1 0) (roots 16 ++ pair 32) 0)
    ∷ is call 23 0 (write_call root (limited 3 1 0) (pair 32) 0)
    ∷ is call 23 0 (write_call root (limited 3 1002 1001) (pair 32) 0)
    ∷ is call 23 0 (write_call root (limited 3 2 1002) (pair 32) 0)
    ∷ is call 24 0 (write_call root (limited 3 2 1) (pair 32) 0)
    ∷ is call 24 0 (write_call root (limited 3 4 2) (pair 32) 0)
    ∷ is call 25 0 (write_call root (limited 3 2 4) (pair 32) 0)
    ∷ is call 25 0 (write_call root (limited 3 0 2) (pair 32) 0)
    ∷ taken 41 (write_call root (limited 3 0 1) (pair 31) 41)
    ∷ taken 41 (write_call root (limited 3 1 1000) (pair 31) 41)
    ∷ is call 23 0 (write_call root (limited 3 1 1001) (pair 31) 41)
    ∷ is call 7 0 (write_call root (half 0 3 32) (sized 1 ++ (0 ∷ 1 ∷ 32 ∷ [])) 0)
    ∷ is call 9 0 (write_call root (half 0 3 18) (down 0 18) 0)
    ∷ is call 10 0 (write_call root (half 0 3 65) (root ++ wide 64) 0)
    ∷ is call 14 0 (write_call (pair 32) (half 0 3 31) (sized 1) 0)
    -- 14, then 21
    ∷ is call 14 0 (write_call root (half 0 3 31) (sized 1) 0)
    ∷ taken 360 (write_call root (half 0 3 31) (sized 0) 360)
    ∷ is call 21 0 (write_call root (half 0 3 31) (sized 0) 359)
    ∷ is call 21 0 (write_call root [] [] 12)
    ∷ []

pub write-orders : T (all_true writings)
unfolding
    writings is same_side down wide halves root pair roots half limited fan sized taken all_true
    write_call whole shared_out nodes_from limits_from node_fits nodes_fit limit_fits own_fit lists_fit
    go_on form_tree stand_at form gathered others grown first_tree concept owned labelled said
    encode node_bytes thresholds_bytes bytes headed gcd wrong_with reduce kept_of dropped size count under ones refuse_if ◌>>=◌ ◌>>◌
write-orders = tt
