-- `screening::judge` meets its contract: the degrees of the items of the set are compared as the message says.
-- Assumes nothing.
use native.Mathlib.Omega.{arith}
use Rattle.graph.proofs.Judging.{judged}
use Rattle.screening.proofs.Sifting.{none_stays}
use Rattle.screening.proofs.Inner.{sifted-passes, scale-fits}
use Rattle.screening.proofs.judge.Goals as goal

pub returns-then-is_empty : goal.returns-then-is_empty
returns-then-is_empty c =
    λ j h st. none_stays _ _ (c.is_empty.ensures.yes c.if-is_empty.true)

pub sift-requires : goal.sift-requires
sift-requires c =
    let one = c.requires.one_stands in
    let st = one.stands in
    let worked = c.grade-scale.ensures (judged c.args.on.now.judged) one.threshold st in
    let p = c.two-p.ensures.value in
    let q = c.two-q.ensures.value in (
      omega arith,
      scale-fits _ one.threshold c.args.message.now c.args.first st c.args.set.now.words _ _ worked,
      omega (arith, p, st.num, st.low.0),
      omega (arith, q, st.den, st.low.1),
    )

pub returns : goal.returns
returns c = λ j h st.
    sifted-passes j.register h c.args.message.now c.args.first st c.args.set.now.words _ _ (c.grade-scale.ensures j h st) _ _ c.two-p.ensures.value c.two-q.ensures.value
    _ c.sift.ensures
