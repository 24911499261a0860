-- Document 02, §1: the call that writes a requirement's message, as a function of what is handed in, in its order of refusals:
-- "22 when a list is empty, its depths form no tree (first 0, each later one from 1 to one above the one before) or a threshold's node isn't in the
-- list or is below the one before; 7, 9, 10 and 12 to 14 as in reading, after 22 and before 21, all on the call's side." "21 when the output buffer is
-- too short". §2's 23 to 25 come after 13, as in reading, "with place 0".
-- Assumes nothing.
use Rattle.std.specs.Prelude.{Bool, not, ◌&&◌, cond, List, [], ◌∷◌, ◌++◌, ℕ, zero, suc, ◌+◌, ◌*◌, ◌-◌, ◌/◌, ◌%◌, ltb, leb, eqb, length, get_or}
use Rattle.std.proofs.lemmas.List.Edits.{sets}
use Rattle.meaning.specs.Refusal.{Answer, good, refused, on_call, refuse_if, ◌>>◌}
use Rattle.meaning.specs.Fraction.{fraction}
use Rattle.meaning.specs.Reduce.{reduce, size}
use Rattle.meaning.specs.Bounds.{most_role, most_levels, most_nodes, most_thresholds, most_size}
use Rattle.meaning.specs.Message.{encode}
use Rattle.meaning.specs.Lists.{Listed, Limit, Lists, form, concept, said}

-- ---- the numbers handed over

-- names, depth and role of each node, one after the other: the k-th node, and n nodes from the k-th on
abbrev pub node_at : List ℕ → ℕ → Listed ℕ
node_at ns k = record { label = get_or ns (3 * k) 0; depth = get_or ns (3 * k + 1) 0; role = get_or ns (3 * k + 2) 0 }

unfoldable pub nodes_from : List ℕ → ℕ → ℕ → List (Listed ℕ)
nodes_from ns k zero = []
nodes_from ns k (suc n) = node_at ns k ∷ nodes_from ns (suc k) n

abbrev pub nodes_in : List ℕ → List (Listed ℕ)
nodes_in ns = nodes_from ns 0 (length ns / 3)

-- node, comparison, p, q and how many inner nodes of each threshold, one after the other. The inner nodes of all thresholds stand one after the other,
-- too: the j-th threshold, whose inner nodes begin at the k-th, and m thresholds from the j-th on
abbrev pub inners_at : List ℕ → ℕ → ℕ
inners_at hs j = get_or hs (5 * j + 4) 0

abbrev pub limit_at : List ℕ → List ℕ → ℕ → ℕ → Limit
limit_at hs inner j k =
    record {
      owner = get_or hs (5 * j) 0;
      how = get_or hs (5 * j + 1) 0;
      p = get_or hs (5 * j + 2) 0;
      q = get_or hs (5 * j + 3) 0;
      inner = nodes_from inner k (inners_at hs j);
    }

unfoldable pub limits_from : List ℕ → List ℕ → ℕ → ℕ → ℕ → List Limit
limits_from hs inner j k zero = []
limits_from hs inner j k (suc m) = limit_at hs inner j k ∷ limits_from hs inner (suc j) (k + inners_at hs j) m

abbrev pub lists_in : List ℕ → List ℕ → List ℕ → Lists
lists_in nodes hs inner = record { outer = nodes_in nodes; limits = limits_from hs inner 0 0 (length hs / 5) }

-- the numbers of lists
unfoldable pub node_numbers : List (Listed ℕ) → List ℕ
node_numbers [] = []
node_numbers (x ∷ xs) = x.label ∷ x.depth ∷ x.role ∷ node_numbers xs

unfoldable pub limit_numbers : List Limit → List ℕ
limit_numbers [] = []
limit_numbers (h ∷ hs) = h.owner ∷ h.how ∷ h.p ∷ h.q ∷ length h.inner ∷ limit_numbers hs

unfoldable pub inner_numbers : List Limit → List ℕ
inner_numbers [] = []
inner_numbers (h ∷ hs) = node_numbers h.inner ++ inner_numbers hs

-- m thresholds from the j-th on have as many inner nodes as are left
unfoldable pub shared_out : List ℕ → ℕ → ℕ → ℕ → Bool
shared_out hs j zero left = eqb left 0
shared_out hs j (suc m) left = leb (inners_at hs j) left && shared_out hs (suc j) m (left - inners_at hs j)

-- the numbers go into whole nodes and thresholds, and the inner nodes into those of the thresholds
unfoldable pub whole : List ℕ → List ℕ → List ℕ → Bool
whole nodes hs inner =
    eqb (length nodes % 3) 0 && eqb (length hs % 5) 0 && eqb (length inner % 3) 0 && shared_out hs 0 (length hs / 5) (length inner / 3)

-- ---- what reading would refuse

-- "at each node but a root 7, then 9, 10": the i-th node of its list
unfoldable pub node_fits : ℕ → Listed ℕ → Answer (Unit {0})
node_fits i x = do
  refuse_if (ltb 0 i && ltb most_role x.role) (on_call 7)
  refuse_if (leb most_levels x.depth) (on_call 9)
  refuse_if (leb most_nodes i) (on_call 10)

unfoldable pub nodes_fit : ℕ → List (Listed ℕ) → Answer (Unit {0})
nodes_fit i [] = good tt
nodes_fit i (x ∷ xs) = do
  node_fits i x
  nodes_fit (suc i) xs

-- 12, 13, what is wrong with the fraction, the inner list by the same rule, 14: the k-th threshold
unfoldable pub limit_fits : ℕ → Limit → Answer (Unit {0})
limit_fits k h = do
  refuse_if (leb most_thresholds k) (on_call 12)
  refuse_if (ltb 3 h.how) (on_call 13)
  fraction on_call h.p h.q
  nodes_fit 0 h.inner
  refuse_if (ltb most_size (size (reduce (concept h.inner)))) (on_call 14)

-- the thresholds of the i-th node, of those from the k-th on
unfoldable pub own_fit : ℕ → ℕ → List Limit → Answer (Unit {0})
own_fit i k [] = good tt
own_fit i k (h ∷ hs) = do
  cond (eqb h.owner i) (limit_fits k h) (good tt)
  own_fit i (suc k) hs

-- "a node's thresholds after the node and before its children": the nodes from the i-th on
unfoldable pub lists_fit : ℕ → List (Listed ℕ) → List Limit → Answer (Unit {0})
lists_fit i [] hs = good tt
lists_fit i (x ∷ xs) hs = do
  node_fits i x
  own_fit i 0 hs
  lists_fit (suc i) xs hs

-- ---- the call

unfoldable pub write_call : List ℕ → List ℕ → List ℕ → ℕ → Answer (List ℕ)
write_call nodes hs inner room = do
  let l = lists_in nodes hs inner
  refuse_if (not (whole nodes hs inner && form l)) (on_call 22)
  lists_fit 0 l.outer l.limits
  refuse_if (ltb room (length (encode (said l)))) (on_call 21)
  good (encode (said l))

-- the output afterwards: "Bytes of the output buffer behind the message keep their contents", and after a refusal all do
abbrev pub after_write : List ℕ → Answer (List ℕ) → List ℕ
after_write old (good m) = sets old 0 m
after_write old (refused r) = old
