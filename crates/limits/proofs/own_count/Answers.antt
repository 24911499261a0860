-- `limits::own_count` meets its contract: what is counted and what is left of the run stay the same together.
-- Assumes nothing.
use Prim.Native.Nat.{◌/◌}
use lib.ListN.{length}
use native.Mathlib.Omega.{arith}
use Rattle.limits.proofs.Runs.{run_more, run-stop, run_none}
use Rattle.limits.proofs.own_count.Goals as goal

pub returns-then-owner-i : goal.returns-then-owner-i
returns-then-owner-i c =
    omega (arith, c.loop-e.invariant, run-stop c.args.limits.now c.args.i c.loop-e.e (length c.args.limits.now / 5) _ (omega arith) c.owner.ensures c.if-owner-i.true)

pub loop-e-preserved : goal.loop-e-preserved
loop-e-preserved c =
    omega (arith, c.loop-e.invariant, run_more c.args.limits.now c.args.i c.loop-e.e (length c.args.limits.now / 5) _ (omega arith) c.owner.ensures c.if-owner-i.false)

pub returns : goal.returns
returns c =
    omega (arith, c.requires, c.loop-e.invariant, run_none c.args.limits.now c.args.i c.loop-e.e (length c.args.limits.now / 5) (omega arith))
