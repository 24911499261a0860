use native.Mathlib.Omega.{arith}
use mathlib.Core.Path.{ap, ◌∙◌}
use Prim.Native.Nat.{ℕ}
use Rattle.meaning.specs.Names.{common}
use Rattle.meaning.specs.Names.{names as many}
use Rattle.meaning.specs.Degree.{or_one}
use Rattle.graph.proofs.Judging.{judged}
use Rattle.folds.proofs.Fill.{filled-on, filled_more, filled-kept, filled-all}
use Rattle.folds.proofs.alone.Goals as goal

pub loop-x-preserved : goal.loop-x-preserved
loop-x-preserved c =
    let s = c.in-Some.ensures.steps in
    let n = rw c.loop-x.invariant.same at s.1.0 in
    record {
      same = rw s.0 c.loop-x.invariant.same;
      filled = λ j. rw s.1.2
          (filled_more _ _ _ _ _ _ (filled-on _ _ _ _ _ _ (c.loop-x.invariant.filled j) _ n) _ s.1.1 c.requires.row
          (c.bare.ensures ∙ ap (λ (z : ℕ). or_one (many c.args.names) (common c.args.names z)) (c.names.ensures j)));
    }

pub returns : goal.returns
returns c =
    let j = judged c.args.on.now.judged in
    record {
      scale = omega (arith, c.max.ensures, c.from.ensures);
      values = λ j x m.
          filled-all _ _ _ _ _ _ (c.loop-x.invariant.filled j) (rw c.loop-x.invariant.same at c.in-None.ensures.steps.1.0)
          (λ x m. let l = c.requires.members x m in omega (arith, j.most)) x m;
      kept = filled-kept _ _ _ _ _ _ (c.loop-x.invariant.filled j);
    }
