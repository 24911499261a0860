-- `faults::fault` meets its contract: node after node passes with its thresholds, up to the first that does not.
-- Assumes nothing.
use native.Mathlib.Omega.{arith}
use Rattle.std.proofs.lemmas.Result.{err_from_is_err_and}
use Rattle.faults.proofs.Owned.{gone-none, gone-end, gone-node, gone-own, gone-more}
use Rattle.faults.proofs.fault.Goals as goal

pub loop-i-init : goal.loop-i-init
loop-i-init c =
    gone-none _ _ _ c.requires.0 c.requires.1

pub returns-in_err-node_fault : goal.returns-in_err-node_fault
returns-in_err-node_fault c =
    let p = err_from_is_err_and c.from_residual.result c.from_residual.ensures.1 in
    rw (p.1, p.2) (gone-node _ _ _ _ _ _ c.loop-i.invariant (omega arith) _ c.in_err-node_fault.ensures)

pub returns-in_err-next : goal.returns-in_err-next
returns-in_err-next c =
    let p = err_from_is_err_and c.from_residual-in_err-next.result c.from_residual-in_err-next.ensures.1 in
    rw (p.1, p.2) (gone-own _ _ _ _ _ _ c.loop-i.invariant (omega arith) c.in_ok-node_fault.ensures _ c.in_err-next.ensures)

pub loop-i-preserved : goal.loop-i-preserved
loop-i-preserved c =
    gone-more _ _ _ _ _ _ c.loop-i.invariant (omega arith) c.in_ok-node_fault.ensures _ c.in_ok-next.ensures

pub returns : goal.returns
returns c =
    gone-end _ _ _ _ _ _ c.loop-i.invariant (omega arith)
