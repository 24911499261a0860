-- `limits::put_limit` meets its contract: four fields one after the other, and the inner list.
-- Assumes nothing.
use native.Mathlib.Omega.{arith}
use Rattle.limits.proofs.Limits.{limit-inner, limit-some, limit-put}
use Rattle.limits.proofs.put_limit.Goals as goal

pub overflow_sub-count : goal.overflow_sub-count
overflow_sub-count c =
    omega (arith, limit-some _ _ _ c.requires.in_bounds.0 c.requires.one.0 c.requires.one.1)

pub put-requires-4 : goal.put-requires-4
put-requires-4 c =
    omega (arith, limit-some _ _ _ c.requires.in_bounds.0 c.requires.one.0 c.requires.one.1)

pub put_inner-requires : goal.put_inner-requires
put_inner-requires c =
    (limit-inner _ _ _ c.requires.in_bounds.0 c.requires.one.0 c.requires.one.1, omega arith)

pub returns-clause-out_after : goal.returns-clause-out_after
returns-clause-out_after c =
    let some = limit-some _ _ _ c.requires.in_bounds.0 c.requires.one.0 c.requires.one.1 in
    limit-put c.args.limits.now c.args.inner.now _ _ _ _ _ _ _ _ _ _ _ _ c.requires.one.0 c.requires.one.1 c.requires.in_bounds.0
    c.how.ensures c.p.ensures c.q.ensures c.put.ensures c.put-2.ensures c.put-3.ensures c.put-4.ensures c.put_inner.ensures.out_after (omega arith)
