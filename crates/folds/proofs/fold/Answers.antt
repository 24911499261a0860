use native.Mathlib.Omega.{arith}
use native.Mathlib.Nat.{le_refl}
use mathlib.Core.Path.{refl}
use Rattle.folds.proofs.Fill.{sum_fits}
use Rattle.folds.proofs.Step.{opens-along, chosen-along, step-on, step_value, step-more, step_end}
use Rattle.folds.proofs.fold.Goals as goal

pub folded-requires : goal.folded-requires
folded-requires c =
    let e = c.walk-walk.ensures in
    let s = c.in-Some.ensures.steps in
    let n = rw c.loop-x.invariant.same at s.1.0 in
    let j = c.requires.folding.graph in
    let w = step-on j _ _ _ _ _ _ _ _ _ _ _ _ _ (c.loop-x.invariant.stepped j) n in
    sum_fits _ _ _ _ _ _ _ (w.filled.ahead _ (le_refl _))
    (step_value j _ _ _ _ _ _ _ _ _ c.args.on.now.judged.read.3 _ _ _ w c.requires.folding.apart _ _ _
    (opens-along e.image e.items e.index c.from_role-run.ensures j)
    (chosen-along e.image e.items e.index c.chosen-best.ensures j))
    (c.requires.folding.fits _ (n.member s.1.1))

pub loop-x-preserved-in-Some-link : goal.loop-x-preserved-in-Some-link
loop-x-preserved-in-Some-link c =
    let e = c.walk-walk.ensures in
    let s = c.in-Some.ensures.steps in
    let n = rw c.loop-x.invariant.same at s.1.0 in
    record {
      same = rw s.0 c.loop-x.invariant.same;
      stepped = λ j. rw s.1.2
          (step-more j _ _ _ _ _ _ _ _ _ c.args.on.now.judged.read.3 _ _ _ (step-on j _ _ _ _ _ _ _ _ _ _ _ _ _ (c.loop-x.invariant.stepped j) n)
          c.requires.folding.apart _ _ _
          (opens-along e.image e.items e.index c.from_role-run.ensures j)
          (chosen-along e.image e.items e.index c.chosen-best.ensures j) _ _ s.1.1 c.requires.folding.to-fits c.folded.ensures (rw c.in-Some-link.is c.note.ensures));
    }

pub loop-x-preserved : goal.loop-x-preserved
loop-x-preserved c =
    let e = c.walk-walk.ensures in
    let s = c.in-Some.ensures.steps in
    let n = rw c.loop-x.invariant.same at s.1.0 in
    record {
      same = rw s.0 c.loop-x.invariant.same;
      stepped = λ j. rw s.1.2
          (step-more j _ _ _ _ _ _ _ _ _ c.args.on.now.judged.read.3 _ _ _ (step-on j _ _ _ _ _ _ _ _ _ _ _ _ _ (c.loop-x.invariant.stepped j) n)
          c.requires.folding.apart _ _ _
          (opens-along e.image e.items e.index c.from_role-run.ensures j)
          (chosen-along e.image e.items e.index c.chosen-best.ensures j) _ _ s.1.1 c.requires.folding.to-fits c.folded.ensures (rw c.in_default.is refl));
    }

pub returns : goal.returns
returns c =
    λ j. step_end j _ _ _ _ _ _ _ _ _ _ _ _ (c.loop-x.invariant.stepped j) (rw c.loop-x.invariant.same at c.in-None.ensures.steps.1.0)
    (λ x m. let l = c.requires.members x m in omega (arith, j.most))
