use mathlib.Core.Path.{refl}
use Rattle.tables.proofs.Stored.{stored-start, stored_more, stored-ahead, closed-here}
use Rattle.tables.proofs.close.Goals as goal

pub loop-x-init : goal.loop-x-init
loop-x-init c = λ g h. stored-start _ _ _ _ refl

pub loop-x-preserved : goal.loop-x-preserved
loop-x-preserved c =
    λ g h. stored_more _ _ _ _ _ _ _ (c.loop-x.invariant g h) refl
    (closed-here _ c.args.n _ _ _ _ c.last.ensures (c.is_out.ensures g h)
    (stored-ahead _ _ _ _ _ (c.loop-x.invariant g h)))
