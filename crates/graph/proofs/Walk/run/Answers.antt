use mathlib.Core.Path.{◌≡◌}
use native.Mathlib.Omega.{arith}
use Rattle.graph.proofs.Walk.run.Goals as goal

pub returns-then-role_of-role : goal.returns-then-role_of-role
returns-then-role_of-role c =
    λ j. (c.from_role-start.ensures j).run _ (record {
      behind = omega arith;
      within = omega arith;
      before = c.loop-k.invariant j;
      here = λ l. omega (arith, c.role_of.ensures j);
    })

pub returns : goal.returns
returns c =
    λ j. let o = c.from_role-start.ensures j in
    let e : c.loop-k.k ≡ c.from_role-start.result.end = omega (arith, o.order) in
    o.run _ (record {
      behind = o.order;
      within = omega arith;
      before = rw e at (c.loop-k.invariant j);
      here = λ l. absurd (omega arith);
    })
