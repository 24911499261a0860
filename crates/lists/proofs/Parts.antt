-- A threshold whose inner nodes are a list of their own.
-- Assumes nothing.
use mathlib.Core.Path.{◌≡◌, sym, ap, subst, ◌∙◌}
use mathlib.Core.List.{List}
use Prim.Native.Nat.{ℕ, ◌*◌, ◌/◌}
use native.Mathlib.Omega.{arith}
use lib.Dec.{T}
use lib.ListN.{length}
use Rattle.meaning.specs.Lists.{Listed, form_tree}
use Rattle.meaning.specs.Writing.{nodes_from, nodes_in, inners_at, limit_at}
use Rattle.lists.specs.Handed.{One}

-- they are all that the list has
pub nodes-own : (hs own : List ℕ) (j : ℕ) → length own ≡ 3 * inners_at hs j → nodes_in own ≡ nodes_from own 0 (inners_at hs j)
nodes-own hs own j e = let q : length own / 3 ≡ inners_at hs j = omega (arith, e) in ap (nodes_from own 0) q

-- a part of all inner nodes
module _ (hs inner own : List ℕ) (j k n : ℕ) (e : nodes_in own ≡ nodes_from inner k n) (long : length own ≡ 3 * n) (q : n ≡ inners_at hs j) where
  own-nodes : nodes_from own 0 (inners_at hs j) ≡ nodes_from inner k (inners_at hs j)
  own-nodes = sym (nodes-own hs own j (omega (arith, long, q))) ∙ e ∙ ap (nodes_from inner k) q

  pub limit-own : limit_at hs own j 0 ≡ limit_at hs inner j k
  limit-own = let e = own-nodes in cc

  pub one-own : One hs inner j k → One hs own j 0
  one-own w = record { whole = w.whole; room = omega (arith, long, q); forms = subst (λ (z : List (Listed ℕ)). T (form_tree z)) (sym own-nodes) w.forms }
