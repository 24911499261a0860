-- `lines::push_places` meets its contract: at each turn one comma and one place more.
-- Assumes nothing.
use mathlib.Core.List.{append_assoc}
use native.Mathlib.Omega.{arith}
use Rattle.lines.proofs.Lines.{places-next}
use Rattle.lines.proofs.push_places.Goals as goal

pub loop-to-preserved : goal.loop-to-preserved
loop-to-preserved c =
    let one = places-next c.args.map.now c.loop-to.to-index c.loop-to-test.true in
    record { text = rw (c.push_place.ensures.text, c.push.ensures.text, c.loop-to.invariant.text, one) (simp append_assoc); room = omega arith }
