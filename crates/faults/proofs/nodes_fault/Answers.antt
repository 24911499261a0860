-- `faults::nodes_fault` meets its contract: node after node passes, up to the first that does not.
-- Assumes nothing.
use mathlib.Core.Path.{sym, ◌∙◌}
use native.Mathlib.Omega.{arith}
use Rattle.std.proofs.lemmas.Result.{err_from_is_err_and}
use Rattle.faults.proofs.Faults.{nodes-none, nodes-stop, nodes-next}
use Rattle.faults.proofs.nodes_fault.Goals as goal

pub returns-in_err-node_fault : goal.returns-in_err-node_fault
returns-in_err-node_fault c =
    let p = err_from_is_err_and c.from_residual.result c.from_residual.ensures.1 in
    rw (p.1, p.2) (nodes-stop _ _ _ _ (omega arith) c.in_err-node_fault.ensures ∙ sym c.loop-i.invariant)

pub loop-i-preserved : goal.loop-i-preserved
loop-i-preserved c =
    c.loop-i.invariant ∙ nodes-next _ _ _ (omega arith) c.in_ok-node_fault.ensures

pub returns : goal.returns
returns c =
    nodes-none _ _ _ (omega arith) ∙ sym c.loop-i.invariant
