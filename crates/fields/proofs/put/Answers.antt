-- `fields::put` meets its contract: what is left to store makes of the list what the whole number makes of it.
-- Assumes nothing.
use mathlib.Core.Path.{◌∙◌}
use Rattle.fields.proofs.Putting.{put-more, put_all}
use Rattle.fields.proofs.put.Goals as goal

pub loop-i-preserved : goal.loop-i-preserved
loop-i-preserved c =
    put-more c.loop-i.s c.args.at c.loop-i.i c.loop-i.rest c.low.result c.loop-i-test.true c.low.ensures ∙ c.loop-i.invariant

pub returns : goal.returns
returns c =
    put_all c.loop-i.s _ c.args.at c.loop-i.i c.loop-i.rest c.loop-i-test.false c.loop-i.invariant
