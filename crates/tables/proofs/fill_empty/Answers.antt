use Rattle.tables.proofs.Stored.{counted-kept, counted_none, row-filled}
use Rattle.tables.proofs.fill_empty.Goals as goal

pub returns-then-n-eq0 : goal.returns-then-n-eq0
returns-then-n-eq0 c =
    counted_none _ _ _ _ _ c.if-n-eq0.true
    (row-filled _ _ _ _ _ c.requires.0 c.requires.1 (c.fill.ensures.after (λ y e. e)))

pub returns-else-n-eq0 : goal.returns-else-n-eq0
returns-else-n-eq0 c =
    counted-kept _ _ _ _ c.if-n-eq0.false
