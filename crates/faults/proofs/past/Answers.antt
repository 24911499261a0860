-- `faults::past` meets its contract: what is deeper is passed, node after node.
-- Assumes nothing.
use mathlib.Core.Path.{◌≡◌, ap}
use mathlib.Core.List.{List}
use Prim.Native.Nat.{ℕ, ◌+◌, ◌*◌, ◌/◌}
use native.Mathlib.Omega.{arith}
use lib.ListN.{length, get_or}
use Rattle.lists.specs.Handed.{nodes_to}
use Rattle.faults.specs.Faulty.{deeper}
use Rattle.faults.proofs.Deeper.{deeper-none, deeper-stop, deeper-next}
use Rattle.faults.proofs.past.Goals as goal

-- the depth that the others are held against
own : (list : List ℕ) (k end d : ℕ) → d ≡ get_or list (3 * k + 1) 0
    → deeper d (nodes_to list (k + 1) end) ≡ deeper (get_or list (3 * k + 1) 0) (nodes_to list (k + 1) end)
own list k end d e = ap (λ (z : ℕ). deeper z (nodes_to list (k + 1) end)) e

pub returns-then-depth-d-clause-value : goal.returns-then-depth-d-clause-value
returns-then-depth-d-clause-value c =
    let list = c.args.list.now in
    let z = deeper-stop list c.depth-d.result c.loop-e.e (length list / 3) _ (omega arith) c.depth.ensures c.if-depth-d.true in
    omega (arith, c.loop-e.invariant, z, own list c.args.k (length list / 3) _ c.depth-d.ensures)

pub loop-e-preserved : goal.loop-e-preserved
loop-e-preserved c =
    let list = c.args.list.now in
    omega (arith, c.loop-e.invariant, deeper-next list c.depth-d.result c.loop-e.e (length list / 3) _ (omega arith) c.depth.ensures c.if-depth-d.false)

pub returns-clause-value : goal.returns-clause-value
returns-clause-value c =
    let list = c.args.list.now in
    let z = deeper-none list c.depth-d.result c.loop-e.e (length list / 3) (omega arith) in
    omega (arith, c.loop-e.invariant, z, own list c.args.k (length list / 3) _ c.depth-d.ensures)
