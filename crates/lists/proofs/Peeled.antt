-- Nodes and thresholds taken off the front of what is handed over, one at a time.
-- Assumes nothing.
use mathlib.Core.Path.{◌≡◌, refl, ap, ap₂, ◌∙◌}
use mathlib.Core.Bool.{◌&&◌}
use mathlib.Core.List.{List, [], ◌∷◌}
use Prim.Native.Nat.{ℕ, zero, suc, ◌+◌, ◌*◌, ◌-◌, ◌/◌, ◌≤◌, ◌<◌}
use native.Mathlib.Omega.{arith}
use lib.Dec.{eqb, leb}
use lib.ListN.{length, get_or, take, drop, length-drop}
use lib.Seq.{length-take-le}
use Rattle.std.proofs.lemmas.List.{get_or-take, get_or-drop}
use Rattle.meaning.specs.Lists.{Listed}
use Rattle.meaning.specs.Writing.{node_at, nodes_from, nodes_in, inners_at, limit_at, limits_from, shared_out}
use Rattle.lists.specs.Handed.{nodes_to}

-- ---- nodes

module _ (ns : List ℕ) where
  pub node-first : (k end : ℕ) → k < end → nodes_to ns k end ≡ node_at ns k ∷ nodes_to ns (k + 1) end
  unfolding nodes_from
  node-first k end h =
      let e : end - k ≡ suc (end - (k + 1)) = omega arith in
      let g : suc k ≡ k + 1 = omega arith in
      ap (nodes_from ns k) e ∙ ap (λ (z : ℕ). node_at ns k ∷ nodes_from ns z (end - (k + 1))) g

  pub node-none : (k end : ℕ) → end ≤ k → nodes_to ns k end ≡ []
  unfolding nodes_from
  node-none k end h = let e : end - k ≡ 0 = omega arith in ap (nodes_from ns k) e

  pub nodes-many : (k n : ℕ) → length (nodes_from ns k n) ≡ n
  unfolding nodes_from
  nodes-many k zero = refl
  nodes-many k (suc n) = ap suc (nodes-many (suc k) n)

-- nodes of a part of the numbers
node-in : (s : List ℕ) (f n k : ℕ) → k < n → node_at (take (3 * n) (drop (3 * f) s)) k ≡ node_at s (f + k)
node-in s f n k h =
    let own = take (3 * n) (drop (3 * f) s) in
    let one : (i j : ℕ) → i < 3 * n → 3 * f + i ≡ j → get_or own i 0 ≡ get_or s j 0 =
    λ i j l e. get_or-take (3 * n) (drop (3 * f) s) i 0 l ∙ get_or-drop (3 * f) s i 0 ∙ ap (λ (z : ℕ). get_or s z 0) e in
    let a : get_or own (3 * k) 0 ≡ get_or s (3 * (f + k)) 0 = one (3 * k) (3 * (f + k)) (omega arith) (omega arith) in
    let b : get_or own (3 * k + 1) 0 ≡ get_or s (3 * (f + k) + 1) 0 = one (3 * k + 1) (3 * (f + k) + 1) (omega arith) (omega arith) in
    let d : get_or own (3 * k + 2) 0 ≡ get_or s (3 * (f + k) + 2) 0 = one (3 * k + 2) (3 * (f + k) + 2) (omega arith) (omega arith) in
    cc

nodes-inside : (s : List ℕ) (f n k m : ℕ) → k + m ≤ n → nodes_from (take (3 * n) (drop (3 * f) s)) k m ≡ nodes_from s (f + k) m
unfolding nodes_from
nodes-inside s f n k zero h = refl
nodes-inside s f n k (suc m) h =
    let e : f + suc k ≡ suc (f + k) = omega arith in
    ap₂ (λ (x : Listed ℕ) (xs : List (Listed ℕ)). x ∷ xs) (node-in s f n k (omega arith))
    (nodes-inside s f n (suc k) m (omega arith) ∙ ap (λ (z : ℕ). nodes_from s z m) e)

pub nodes-part : (s : List ℕ) (f n : ℕ) → 3 * (f + n) ≤ length s
    → nodes_in (take (3 * (f + n) - 3 * f) (drop (3 * f) s)) ≡ nodes_from s f n
nodes-part s f n h =
    let own = take (3 * n) (drop (3 * f) s) in
    let e : 3 * (f + n) - 3 * f ≡ 3 * n = omega arith in
    let long : length own / 3 ≡ n = let l : length own ≡ 3 * n = length-take-le (3 * n) (drop (3 * f) s) (omega (arith, length-drop (3 * f) s)) in omega (arith, l) in
    let z : f + 0 ≡ f = omega arith in
    ap (λ (i : ℕ). nodes_in (take i (drop (3 * f) s))) e ∙ ap (nodes_from own 0) long ∙ nodes-inside s f n 0 n (omega arith)
    ∙ ap (λ (i : ℕ). nodes_from s i n) z

-- ---- thresholds, m of them from the first on

module _ (hs inner : List ℕ) where
  pub limit-first : (j k m : ℕ) → j < m
      → limits_from hs inner j k (m - j) ≡ limit_at hs inner j k ∷ limits_from hs inner (j + 1) (k + inners_at hs j) (m - (j + 1))
  unfolding limits_from
  limit-first j k m h =
      let e : m - j ≡ suc (m - (j + 1)) = omega arith in
      let g : suc j ≡ j + 1 = omega arith in
      ap (limits_from hs inner j k) e ∙ ap (λ (z : ℕ). limit_at hs inner j k ∷ limits_from hs inner z (k + inners_at hs j) (m - (j + 1))) g

  pub limit-none : (j k m : ℕ) → m ≤ j → limits_from hs inner j k (m - j) ≡ []
  unfolding limits_from
  limit-none j k m h = let e : m - j ≡ 0 = omega arith in ap (limits_from hs inner j k) e

module _ (hs : List ℕ) where
  pub shared-first : (j m left : ℕ) → j < m
      → shared_out hs j (m - j) left ≡ (leb (inners_at hs j) left && shared_out hs (j + 1) (m - (j + 1)) (left - inners_at hs j))
  unfolding shared_out
  shared-first j m left h =
      let e : m - j ≡ suc (m - (j + 1)) = omega arith in
      let g : suc j ≡ j + 1 = omega arith in
      ap (λ (z : ℕ). shared_out hs j z left) e ∙ ap (λ (z : ℕ). leb (inners_at hs j) left && shared_out hs z (m - (j + 1)) (left - inners_at hs j)) g

  pub shared-none : (j m left : ℕ) → m ≤ j → shared_out hs j (m - j) left ≡ eqb left 0
  unfolding shared_out
  shared-none j m left h = let e : m - j ≡ 0 = omega arith in ap (λ (z : ℕ). shared_out hs j z left) e
