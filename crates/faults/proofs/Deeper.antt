-- How many nodes below one there are, node after node.
-- Assumes nothing.
use mathlib.Core.Path.{◌≡◌, refl, ap, ◌∙◌}
use mathlib.Core.List.{List}
use Prim.Native.Nat.{ℕ, suc, ◌+◌, ◌*◌, ◌≤◌, ◌<◌}
use native.Mathlib.Omega.{arith}
use lib.ListN.{get_or}
use Rattle.meaning.proofs.Reading.{at_most, not-le}
use Rattle.lists.specs.Handed.{nodes_to}
use Rattle.lists.proofs.Peeled.{node-first, node-none}
use Rattle.faults.specs.Faulty.{deeper}

module _ (list : List ℕ) (d k end : ℕ) where
  pub deeper-none : end ≤ k → deeper d (nodes_to list k end) ≡ 0
  unfolding deeper
  deeper-none h = ap (deeper d) (node-none list k end h)

  pub deeper-stop : (x : ℕ) → k < end → x ≡ get_or list (3 * k + 1) 0 → x ≤ d → deeper d (nodes_to list k end) ≡ 0
  unfolding deeper
  deeper-stop x h e l = ap (deeper d) (node-first list k end h) ∙ rw (at_most (get_or list (3 * k + 1) 0) d (omega (arith, e, l))) refl

  pub deeper-next : (x : ℕ) → k < end → x ≡ get_or list (3 * k + 1) 0 → d < x → deeper d (nodes_to list k end) ≡ suc (deeper d (nodes_to list (k + 1) end))
  unfolding deeper
  deeper-next x h e l = ap (deeper d) (node-first list k end h) ∙ rw (not-le (get_or list (3 * k + 1) 0) d (omega (arith, e, l))) refl
