-- Lists are told back by their numbers.
-- Assumes nothing.
use mathlib.Core.Path.{◌≡◌, refl, sym, ap, ap₂, ◌∙◌, subst}
use mathlib.Core.Bool.{◌&&◌}
use mathlib.Core.List.{List, [], ◌∷◌, ◌++◌, append_assoc, append-nil}
use Prim.Native.Nat.{ℕ, suc, ◌+◌, ◌*◌, ◌-◌, ◌/◌, ◌%◌}
use native.Mathlib.Omega.{arith}
use lib.Dec.{T, leb, eqb, le→leb, eqb_refl}
use lib.ListN.{length, get_or, length-append}
use Rattle.meaning.specs.Lists.{Listed, Limit, Lists}
use Rattle.meaning.specs.Writing.{nodes_from, limits_from, lists_in, node_numbers, limit_numbers, inner_numbers, shared_out, whole}
use Rattle.meaning.proofs.Tests.{both-and, is-eqb}

-- a number behind others
getD-behind : (pre post : List ℕ) (k : ℕ) → get_or (pre ++ post) (length pre + k) 0 ≡ get_or post k 0
getD-behind [] post k = ap (λ (z : ℕ). get_or post z 0) (omega arith)
getD-behind (x ∷ pre) post k =
    let e : suc (length pre) + k ≡ suc (length pre + k) = omega arith in
    ap (λ (z : ℕ). get_or (x ∷ (pre ++ post)) z 0) e ∙ getD-behind pre post k

-- the j-th of them, where `at` says how many stand before
number_behind : (pre post : List ℕ) (at k : ℕ) → at ≡ length pre → get_or (pre ++ post) (at + k) 0 ≡ get_or post k 0
number_behind pre post at k e = ap (λ (z : ℕ). get_or (pre ++ post) (z + k) 0) e ∙ getD-behind pre post k

node-length : (xs : List (Listed ℕ)) → length (node_numbers xs) ≡ 3 * length xs
unfolding node_numbers
node-length [] = refl
node-length (x ∷ xs) = omega (arith, node-length xs)

limit-length : (hs : List Limit) → length (limit_numbers hs) ≡ 5 * length hs
unfolding limit_numbers
limit-length [] = refl
limit-length (h ∷ hs) = omega (arith, limit-length hs)

nodes-back : (xs : List (Listed ℕ)) (pre post : List ℕ) (k : ℕ) → length pre ≡ 3 * k → nodes_from (pre ++ (node_numbers xs ++ post)) k (length xs) ≡ xs
unfolding nodes_from node_numbers
nodes-back [] pre post k e = refl
nodes-back (x ∷ xs) pre post k e =
    let rest = node_numbers xs ++ post in
    let here = x.label ∷ x.depth ∷ x.role ∷ rest in
    let a : get_or (pre ++ here) (3 * k) 0 ≡ x.label = ap (λ (z : ℕ). get_or (pre ++ here) z 0) (omega arith) ∙ number_behind pre here (3 * k) 0 (sym e) in
    let b : get_or (pre ++ here) (3 * k + 1) 0 ≡ x.depth = number_behind pre here (3 * k) 1 (sym e) in
    let c : get_or (pre ++ here) (3 * k + 2) 0 ≡ x.role = number_behind pre here (3 * k) 2 (sym e) in
    let pre' = pre ++ (x.label ∷ x.depth ∷ x.role ∷ []) in
    let q : pre ++ here ≡ pre' ++ rest = sym (append_assoc pre (x.label ∷ x.depth ∷ x.role ∷ []) rest) in
    let m : length pre' ≡ 3 * suc k = length-append pre (x.label ∷ x.depth ∷ x.role ∷ []) ∙ omega (arith, e) in
    let tail : nodes_from (pre ++ here) (suc k) (length xs) ≡ xs = ap (λ (z : List ℕ). nodes_from z (suc k) (length xs)) q ∙ nodes-back xs pre' post (suc k) m in
    rw (a, b, c, tail) refl

-- ---- the thresholds, and the inner nodes of all of them

unfoldable inner_count : List Limit → ℕ
inner_count [] = 0
inner_count (h ∷ hs) = length h.inner + inner_count hs

inner-length : (hs : List Limit) → length (inner_numbers hs) ≡ 3 * inner_count hs
unfolding inner_numbers inner_count
inner-length [] = refl
inner-length (h ∷ hs) = length-append (node_numbers h.inner) (inner_numbers hs) ∙ omega (arith, node-length h.inner, inner-length hs)

module _ (h : Limit) (hs : List Limit) (pre : List ℕ) (j : ℕ) (e : length pre ≡ 5 * j) where
  abbrev five : List ℕ
  five = h.owner ∷ h.how ∷ h.p ∷ h.q ∷ length h.inner ∷ []

  abbrev here : List ℕ
  here = h.owner ∷ h.how ∷ h.p ∷ h.q ∷ length h.inner ∷ limit_numbers hs

  first : get_or (pre ++ here) (5 * j) 0 ≡ h.owner
  first = ap (λ (z : ℕ). get_or (pre ++ here) z 0) (omega arith) ∙ number_behind pre here (5 * j) 0 (sym e)

  inners : get_or (pre ++ here) (5 * j + 4) 0 ≡ length h.inner
  inners = number_behind pre here (5 * j) 4 (sym e)

  onward : pre ++ here ≡ (pre ++ five) ++ limit_numbers hs
  onward = sym (append_assoc pre five (limit_numbers hs))

  longer : length (pre ++ five) ≡ 5 * suc j
  longer = length-append pre five ∙ omega (arith, e)

limits-back : (hs : List Limit) (pre ipre : List ℕ) (j k : ℕ) → length pre ≡ 5 * j → length ipre ≡ 3 * k
    → limits_from (pre ++ limit_numbers hs) (ipre ++ inner_numbers hs) j k (length hs) ≡ hs
unfolding limits_from limit_numbers inner_numbers
limits-back [] pre ipre j k e d = refl
limits-back (h ∷ hs) pre ipre j k e d =
    let inner = ipre ++ (node_numbers h.inner ++ inner_numbers hs) in
    let b : get_or (pre ++ here h hs pre j e) (5 * j + 1) 0 ≡ h.how = number_behind pre (here h hs pre j e) (5 * j) 1 (sym e) in
    let c : get_or (pre ++ here h hs pre j e) (5 * j + 2) 0 ≡ h.p = number_behind pre (here h hs pre j e) (5 * j) 2 (sym e) in
    let f : get_or (pre ++ here h hs pre j e) (5 * j + 3) 0 ≡ h.q = number_behind pre (here h hs pre j e) (5 * j) 3 (sym e) in
    let ipre' = ipre ++ node_numbers h.inner in
    let q : inner ≡ ipre' ++ inner_numbers hs = sym (append_assoc ipre (node_numbers h.inner) (inner_numbers hs)) in
    let m : length ipre' ≡ 3 * (k + length h.inner) = length-append ipre (node_numbers h.inner) ∙ omega (arith, d, node-length h.inner) in
    let tail : limits_from (pre ++ here h hs pre j e) inner (suc j) (k + length h.inner) (length hs) ≡ hs =
    ap₂ (λ (y z : List ℕ). limits_from y z (suc j) (k + length h.inner) (length hs)) (onward h hs pre j e) q
    ∙ limits-back hs (pre ++ five h hs pre j e) ipre' (suc j) (k + length h.inner) (longer h hs pre j e) m in
    rw (first h hs pre j e, b, c, f, inners h hs pre j e, nodes-back h.inner ipre (inner_numbers hs) k d, tail) refl

shared_back : (hs : List Limit) (pre : List ℕ) (j : ℕ) → length pre ≡ 5 * j → T (shared_out (pre ++ limit_numbers hs) j (length hs) (inner_count hs))
unfolding shared_out limit_numbers inner_count
shared_back [] pre j e = eqb_refl 0
shared_back (h ∷ hs) pre j e =
    let n = length h.inner in
    let d : n + inner_count hs - n ≡ inner_count hs = omega arith in
    let r = subst (λ (z : List ℕ). T (shared_out z (suc j) (length hs) (inner_count hs))) (sym (onward h hs pre j e)) (shared_back hs (pre ++ five h hs pre j e) (suc j) (longer h hs pre j e)) in
    let ns = pre ++ here h hs pre j e in
    rw (inners h hs pre j e, d) (both-and (leb n (n + inner_count hs)) (shared_out ns (suc j) (length hs) (inner_count hs)) (le→leb n (n + inner_count hs) (omega arith)) r)

-- ---- all lists

pub lists_back : (l : Lists) → lists_in (node_numbers l.outer) (limit_numbers l.limits) (inner_numbers l.limits) ≡ l
lists_back l =
    let n : length (node_numbers l.outer) / 3 ≡ length l.outer = omega (arith, node-length l.outer) in
    let m : length (limit_numbers l.limits) / 5 ≡ length l.limits = omega (arith, limit-length l.limits) in
    let a : nodes_from (node_numbers l.outer) 0 (length l.outer) ≡ l.outer =
    ap (λ (z : List ℕ). nodes_from z 0 (length l.outer)) (sym (append-nil (node_numbers l.outer))) ∙ nodes-back l.outer [] [] 0 refl in
    rw (n, m, a, limits-back l.limits [] [] 0 0 refl refl) refl

pub numbers-whole : (l : Lists) → T (whole (node_numbers l.outer) (limit_numbers l.limits) (inner_numbers l.limits))
unfolding whole
numbers-whole l =
    let hs = l.limits in
    let m : length (limit_numbers hs) / 5 ≡ length hs = omega (arith, limit-length hs) in
    let k : length (inner_numbers hs) / 3 ≡ inner_count hs = omega (arith, inner-length hs) in
    let s : T (shared_out (limit_numbers hs) 0 (length (limit_numbers hs) / 5) (length (inner_numbers hs) / 3)) = rw (m, k) (shared_back hs [] 0 refl) in
    let x : length (node_numbers l.outer) % 3 ≡ 0 = omega (arith, node-length l.outer) in
    let y : length (limit_numbers hs) % 5 ≡ 0 = omega (arith, limit-length hs) in
    let z : length (inner_numbers hs) % 3 ≡ 0 = omega (arith, inner-length hs) in
    let a = eqb (length (node_numbers l.outer) % 3) 0 in
    let b = eqb (length (limit_numbers hs) % 5) 0 in
    let c = eqb (length (inner_numbers hs) % 3) 0 in
    let d = shared_out (limit_numbers hs) 0 (length (limit_numbers hs) / 5) (length (inner_numbers hs) / 3) in
    both-and (a && b && c) d (both-and (a && b) c (both-and a b (is-eqb x) (is-eqb y)) (is-eqb z)) s
