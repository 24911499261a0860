-- `limits::own_count` meets its contract: what is counted and what is left of the run stay the same together.
-- Assumes nothing.
use mathlib.Core.Path.{◌≡◌}
use Prim.Native.Nat.{◌+◌, ◌-◌, ◌/◌}
use lib.ListN.{length}
use Rattle.limits.specs.Flat.{run}
use Rattle.limits.proofs.own_count.Given as goal

abbrev pub invariant-loop-e : goal.invariant-loop-e
invariant-loop-e l =
    l.j + run l.limits l.i l.j (length l.limits / 5 - l.j) ≡ l.e + run l.limits l.i l.e (length l.limits / 5 - l.e)
