use mathlib.Core.Path.{◌≡◌}
use native.Mathlib.Omega.{arith}
use Rattle.graph.proofs.Runs.{opens-found, ends-within}
use Rattle.graph.proofs.Walk.from_role.Goals as goal

pub returns-then-role-role_of : goal.returns-then-role-role_of
returns-then-role-role_of c =
    λ j. opens-found c.args.self.now.image.now c.args.self.now.judged.read.3 _ _ j _ _ _ _ _ c.requires c.from-begin.ensures c.from-end.ensures (record {
      behind = omega arith;
      within = omega arith;
      before = c.loop-k.invariant j;
      here = λ l. omega (arith, c.role_of.ensures j);
    })

pub returns : goal.returns
returns c =
    λ j. let k = ends-within j c.requires c.from-begin.ensures c.from-end.ensures in
    let e : c.loop-k.k ≡ c.from-end.result = omega arith in
    opens-found c.args.self.now.image.now c.args.self.now.judged.read.3 _ _ j _ _ _ _ _ c.requires c.from-begin.ensures c.from-end.ensures (record {
      behind = k.0;
      within = omega arith;
      before = rw e at (c.loop-k.invariant j);
      here = λ l. absurd (omega arith);
    })
