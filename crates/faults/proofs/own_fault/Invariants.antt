-- `faults::own_fault` meets its contract: threshold after threshold of the node passes, up to the first that does not, or is of another.
-- Assumes nothing.
use Prim.Native.Nat.{◌/◌}
use lib.ListN.{length}
use Rattle.faults.proofs.Owned.{Passed}
use Rattle.faults.proofs.own_fault.Given as goal

abbrev pub invariant-loop-next : goal.invariant-loop-next
invariant-loop-next l = Passed l.of.limits l.of.inner (length l.of.nodes / 3) l.i l.j l.first l.next l.at
