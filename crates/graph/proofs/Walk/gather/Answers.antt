-- `gather` meets its contract: it stops where the links of the role end, which are the run of the item's successors.
-- Assumes nothing.
use mathlib.Core.Path.{◌≡◌}
use native.Mathlib.Omega.{arith}
use Rattle.graph.proofs.Members.{gathered_none, gathered-more, gathered-run}
use Rattle.graph.proofs.Rising.{one_on}
use Rattle.graph.proofs.Walk.gather.Goals as goal

pub loop-k-init : goal.loop-k-init
loop-k-init c =
    λ j. (λ l. absurd (omega arith), gathered_none _ _ _ _ c.requires.1)

pub returns-then-role-role_of : goal.returns-then-role-role_of
returns-then-role-role_of c =
    λ j. gathered-run _ _ _ _ _ _ _ _ _ (c.from_role-start.ensures j) (record {
      behind = omega arith;
      within = omega arith;
      before = (c.loop-k.invariant j).0;
      here = λ l. omega (arith, c.role_of.ensures j);
    }) (c.loop-k.invariant j).1

pub loop-k-preserved : goal.loop-k-preserved
loop-k-preserved c =
    λ j. (
      λ l. one_on j.register _ _ (omega (arith, c.role_of.ensures j)),
      gathered-more _ _ _ _ _ _ _ _ (c.loop-k.invariant j).1 c.insert.ensures (c.end_of.ensures.image j) c.end_of.ensures.upper_bound,
    )

pub returns : goal.returns
returns c =
    λ j. let o = c.from_role-start.ensures j in
    let e : c.loop-k.k ≡ c.from_role-start.result.end = omega (arith, o.order) in
    let w = rw e at (c.loop-k.invariant j) in
    gathered-run _ _ _ _ _ _ _ _ _ o (record {
      behind = o.order;
      within = omega arith;
      before = w.0;
      here = λ l. absurd (omega arith);
    }) w.1
