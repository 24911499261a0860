-- `fixed::Stretch::cut` meets its contract: the first width that does not fit is where the fields are cut short.
-- Assumes nothing.
use mathlib.Core.Path.{◌∙◌}
use native.Mathlib.Omega.{arith}
use Rattle.fixed.proofs.Cut.{summed, cut-here, whole-here}
use Rattle.fixed.proofs.Stretch.cut.Goals as goal

pub returns-then-self-place : goal.returns-then-self-place
returns-then-self-place g c =
    let i = c.loop-width in
    rw c.at.ensures (i.invariant.same ∙ cut-here c.args.widths i.width-index (omega (arith, c.loop-width-test.true)) c.args.self.now.end i.place (omega (arith, c.if-self-place.true)))

pub loop-width-preserved : goal.loop-width-preserved
loop-width-preserved g c =
    let i = c.loop-width in
    let w = summed c.args.widths i.width-index (omega (arith, c.loop-width-test.true)) in
    let fits = c.if-self-place.false in
    record {
      inside = omega arith;
      short = omega (arith, i.invariant.short, w);
      same = i.invariant.same ∙ whole-here c.args.widths i.width-index (omega (arith, c.loop-width-test.true)) c.args.self.now.end i.place (omega arith);
    }
