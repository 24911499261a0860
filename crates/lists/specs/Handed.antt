-- The numbers handed over as code asks for them: nodes from one number up to another, one threshold, one inner list.
-- Assumes nothing.
use Rattle.std.specs.Prelude.{◌≡◌, List, ℕ, ◌+◌, ◌*◌, ◌-◌, ◌≤◌, T, length}
use Rattle.meaning.specs.Refusal.{good}
use Rattle.meaning.specs.Lists.{Listed, form_tree}
use Rattle.meaning.specs.Writing.{nodes_from, nodes_in, inners_at, nodes_fit}

-- the nodes from `first` up to `end`
abbrev pub nodes_to : List ℕ → ℕ → ℕ → List (Listed ℕ)
nodes_to list first end = nodes_from list first (end - first)

-- the j-th threshold has the inner nodes from the k-th on, and they form a tree
pub record One (hs inner : List ℕ) (j k : ℕ) : Type 0 where
  pub whole : 5 * j + 5 ≤ length hs
  pub room : 3 * (k + inners_at hs j) ≤ length inner
  pub forms : T (form_tree (nodes_from inner k (inners_at hs j)))

-- a list that passes as an inner one: a tree, and every test of a node
pub record Inner (list : List ℕ) : Type 0 where
  pub forms : T (form_tree (nodes_in list))
  pub fits : nodes_fit 0 (nodes_in list) ≡ good tt
