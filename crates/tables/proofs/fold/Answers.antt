use mathlib.Core.Path.{refl}
use Rattle.tables.proofs.Stored.{stored-start, stored_more, stored-ahead, fits-here, sum-here}
use Rattle.tables.proofs.fold.Goals as goal

pub loop-x-init : goal.loop-x-init
loop-x-init c = stored-start _ _ _ _ refl

pub sum-requires : goal.sum-requires
sum-requires c =
    fits-here _ _ _ _ _ _ (stored-ahead _ _ _ _ _ c.loop-x.invariant) (c.requires.by_index _ c.loop-x-test.true)

pub loop-x-preserved : goal.loop-x-preserved
loop-x-preserved c =
    stored_more _ _ _ _ _ _ _ c.loop-x.invariant refl (sum-here _ _ _ _ _ _ c.sum.ensures (stored-ahead _ _ _ _ _ c.loop-x.invariant))
