use native.Mathlib.Omega.{arith}
use mathlib.Core.Path.{sym, ◌∙◌}
use Rattle.graph.proofs.Judging.{judged}
use Rattle.shown.proofs.Along.{looking-next}
use Rattle.shown.proofs.found.Goals as goal

pub loop-k-init : goal.loop-k-init
loop-k-init c =
    record {
      graph = judged c.args.on.now.judged;
      inside = rw c.in_ok-x.was at c.requires.inside.0;
      places = omega (arith, c.requires.links_in_bounds, c.args.on.now.judged.read.2);
      behind = omega (arith, c.from-k.ensures);
      unmet = λ i l m. absurd (omega (arith, c.from-k.ensures));
    }

pub loop-k-preserved : goal.loop-k-preserved
loop-k-preserved c =
    looking-next c.loop-k.invariant (omega (arith, c.loop-k-test.true, c.from-k-end.ensures)) (sym c.on.ensures ∙ c.if-on.false)
