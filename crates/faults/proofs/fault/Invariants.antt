-- `faults::fault` meets its contract: node after node passes with its thresholds, up to the first that does not.
-- Assumes nothing.
use Rattle.faults.proofs.Owned.{Gone}
use Rattle.faults.proofs.fault.Given as goal

abbrev pub invariant-loop-i : goal.invariant-loop-i
invariant-loop-i l = Gone l.of.nodes l.of.limits l.of.inner l.i l.next.limit l.next.first
