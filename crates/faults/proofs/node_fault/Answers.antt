-- `faults::node_fault` meets its contract: the tests are made in their order.
-- Assumes nothing.
use Prim.Native.Nat.{◌*◌, ◌+◌, ◌<◌, ◌≤◌}
use native.Mathlib.Omega.{arith}
use lib.ListN.{get_or}
use Rattle.meaning.specs.Bounds.{most_role}
use Rattle.faults.proofs.Faults.{node-role, node-level, node-many, node-good}
use Rattle.faults.proofs.node_fault.Goals as goal
use Rattle.faults.proofs.node_fault.Goals.{else-i-gt0-via-then-i-gt0+else-role-gt-MOST_ROLE, else-i-gt0-via-else-i-gt0}

pub returns-then-role-gt-MOST_ROLE : goal.returns-then-role-gt-MOST_ROLE
returns-then-role-gt-MOST_ROLE c =
    node-role _ _ c.if-i-gt0.true (omega arith)

pub returns-then-depth-ge-MOST_LEVELS : goal.returns-then-depth-ge-MOST_LEVELS
returns-then-depth-ge-MOST_LEVELS c =
    let role : 0 < c.args.i → get_or c.args.list.now (3 * c.args.i + 2) 0 ≤ most_role =
    elim c.else-i-gt0.branch [ else-i-gt0-via-then-i-gt0+else-role-gt-MOST_ROLE w ↦ λ h. omega arith | else-i-gt0-via-else-i-gt0 w ↦ λ h. omega arith ] in
    node-level _ _ role (omega arith)

pub returns-then-i-ge-MOST_NODES : goal.returns-then-i-ge-MOST_NODES
returns-then-i-ge-MOST_NODES c =
    let role : 0 < c.args.i → get_or c.args.list.now (3 * c.args.i + 2) 0 ≤ most_role =
    elim c.else-i-gt0.branch [ else-i-gt0-via-then-i-gt0+else-role-gt-MOST_ROLE w ↦ λ h. omega arith | else-i-gt0-via-else-i-gt0 w ↦ λ h. omega arith ] in
    node-many _ _ role (omega arith) c.if-i-ge-MOST_NODES.true

pub returns : goal.returns
returns c =
    let role : 0 < c.args.i → get_or c.args.list.now (3 * c.args.i + 2) 0 ≤ most_role =
    elim c.else-i-gt0.branch [ else-i-gt0-via-then-i-gt0+else-role-gt-MOST_ROLE w ↦ λ h. omega arith | else-i-gt0-via-else-i-gt0 w ↦ λ h. omega arith ] in
    node-good _ _ role (omega arith) c.if-i-ge-MOST_NODES.false
