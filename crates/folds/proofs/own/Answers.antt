use Prim.Native.Nat.{◌+◌}
use native.Mathlib.Omega.{arith}
use mathlib.Core.Path.{ap, ◌∙◌}
use mathlib.Core.Logic.{inr}
use Rattle.meaning.specs.Names.{common}
use Rattle.graph.proofs.Judging.{judged}
use Rattle.folds.proofs.Fill.{filled-on, filled_more, filled-kept, filled_apart, filled-all, sum_fits, sum_is, times-one}
use Rattle.folds.proofs.own.Goals as goal

pub folded-requires : goal.folded-requires
folded-requires c =
    let s = c.in-Some.ensures.steps in
    let n = rw c.loop-x.invariant.same at s.1.0 in
    let j = judged c.args.on.now.judged in
    sum_fits _ _ _ _ _ 1 _ (ap (common c.args.names) (c.names.ensures j))
    (filled_apart _ _ _ _ _ _ (c.loop-x.invariant.filled j) (c.args.at + 512) (inr (omega arith)) _ s.1.1) (rw times-one (c.requires.fits j _ (n.member s.1.1)))

pub loop-x-preserved : goal.loop-x-preserved
loop-x-preserved c =
    let s = c.in-Some.ensures.steps in
    let n = rw c.loop-x.invariant.same at s.1.0 in
    record {
      same = rw s.0 c.loop-x.invariant.same;
      filled = λ j. let w = c.loop-x.invariant.filled j in rw s.1.2
          (filled_more _ _ _ _ _ _ (filled-on _ _ _ _ _ _ w _ n) _ s.1.1 (omega (arith, c.requires.rows))
          (sum_is _ _ _ _ _ _ 1 c.folded.ensures (ap (common c.args.names) (c.names.ensures j))
          (filled_apart _ _ _ _ _ _ w (c.args.at + 512) (inr (omega arith)) _ s.1.1) ∙ times-one _ _));
    }

pub returns : goal.returns
returns c =
    let j = judged c.args.on.now.judged in
    record {
      sums = λ j x m.
          filled-all _ _ _ _ _ _ (c.loop-x.invariant.filled j) (rw c.loop-x.invariant.same at c.in-None.ensures.steps.1.0)
          (λ x m. let l = c.requires.members x m in omega (arith, j.most)) x m;
      kept = filled-kept _ _ _ _ _ _ (c.loop-x.invariant.filled j);
    }
