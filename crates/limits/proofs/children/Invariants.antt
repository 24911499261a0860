-- `limits::children` meets its contract: what is counted and what is ahead stay the same together.
-- Assumes nothing.
use mathlib.Core.Path.{◌≡◌}
use Prim.Native.Nat.{◌+◌, ◌/◌, ◌≤◌}
use lib.ListN.{length}
use Rattle.lists.specs.Handed.{nodes_to}
use Rattle.limits.specs.Flat.{ahead}
use Rattle.limits.proofs.children.Given as goal

abbrev pub invariant-loop-e : goal.invariant-loop-e
invariant-loop-e l =
    (l.n + l.k + 1 ≤ l.e) × (l.n + ahead l.d (nodes_to l.list l.e (length l.list / 3)) ≡ ahead l.d (nodes_to l.list (l.k + 1) (length l.list / 3)))
