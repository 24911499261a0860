-- `spread` meets its contract: item by item, or until all items are there.
-- Assumes nothing.
use mathlib.Core.Path.{◌≡◌}
use Rattle.graph.proofs.Spreading.{Spreading}
use Rattle.graph.proofs.Walk.spread.Given as goal

abbrev pub invariant-loop-x : goal.invariant-loop-x
invariant-loop-x l =
    (l.x-iterator.set.now.words ≡ l.set.words)
    × Spreading l.self.image.now l.self.items l.self.index.now l.set.words l.role l.below.words l.full l.x-iterator.from
