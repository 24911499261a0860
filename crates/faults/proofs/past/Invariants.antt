-- `faults::past` meets its contract: what is deeper is passed, node after node.
-- Assumes nothing.
use mathlib.Core.Path.{◌≡◌}
use Prim.Native.Nat.{◌+◌, ◌/◌}
use lib.ListN.{length}
use Rattle.lists.specs.Handed.{nodes_to}
use Rattle.faults.specs.Faulty.{deeper}
use Rattle.faults.proofs.past.Given as goal

abbrev pub invariant-loop-e : goal.invariant-loop-e
invariant-loop-e l =
    l.k + 1 + deeper l.d (nodes_to l.list (l.k + 1) (length l.list / 3)) ≡ l.e + deeper l.d (nodes_to l.list l.e (length l.list / 3))
