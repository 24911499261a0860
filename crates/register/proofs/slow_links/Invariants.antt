-- `register::slow_links` meets its contract: link after link, and nothing behind them.
-- Assumes nothing.
use Prim.Native.Nat.{◌+◌, ◌*◌, ◌≤◌}
use Rattle.links.proofs.Links.{Going}
use Rattle.register.proofs.slow_links.Given as goal

abbrev pub invariant-loop-i : goal.invariant-loop-i
invariant-loop-i l =
    (l.start + 5 * l.i ≤ l.end) × Going l.s l.end l.items l.links l.start l.i (l.start + 5 * l.i) l.floor
