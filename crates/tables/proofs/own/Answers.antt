use mathlib.Core.Path.{refl}
use native.Mathlib.Omega.{arith}
use Rattle.tables.proofs.Stored.{stored-start, stored_more, stored-none, row-filled}
use Rattle.tables.proofs.own.Goals as goal

pub returns-then-names-eq0 : goal.returns-then-names-eq0
returns-then-names-eq0 c =
    stored-none _ _ _ _ _ _ _ c.if-names-eq0.true (omega arith)
    (row-filled _ _ _ _ _ (omega arith) (omega (arith, c.requires.1)) (c.fill.ensures.after (λ y e. e)))

pub loop-x-init : goal.loop-x-init
loop-x-init c = stored-start _ _ _ _ refl

pub loop-x-preserved : goal.loop-x-preserved
loop-x-preserved c = stored_more _ _ _ _ _ _ _ c.loop-x.invariant refl refl
