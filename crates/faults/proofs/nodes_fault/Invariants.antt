-- `faults::nodes_fault` meets its contract: node after node passes, up to the first that does not.
-- Assumes nothing.
use mathlib.Core.Path.{◌≡◌}
use Prim.Native.Nat.{◌/◌}
use lib.ListN.{length}
use Rattle.meaning.specs.Writing.{nodes_in, nodes_fit}
use Rattle.lists.specs.Handed.{nodes_to}
use Rattle.faults.proofs.nodes_fault.Given as goal

abbrev pub invariant-loop-i : goal.invariant-loop-i
invariant-loop-i l = nodes_fit 0 (nodes_in l.list) ≡ nodes_fit l.i (nodes_to l.list l.i (length l.list / 3))
