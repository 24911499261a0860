use mathlib.Core.Path.{◌≡◌}
use Rattle.graph.proofs.Sieve.{Sieved}
use Rattle.graph.proofs.sets.Items.retain.Given as goal

-- the members before the next one were asked
abbrev pub invariant-loop-x : goal.invariant-loop-x
invariant-loop-x g l =
    (l.x-iterator.set.now.words ≡ l.fn.self.words) × Sieved (goal.F-post g l.keep) l.x-iterator.from l.fn.self.words l.self.words
