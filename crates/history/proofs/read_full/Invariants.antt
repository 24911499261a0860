-- `history::read_full` ends: at each turn fewer bytes of the buffer are free.
use Rattle.std.proofs.Common.{◌-◌, ◌≤◌, length}
use Rattle.history.proofs.read_full.Given as goal

abbrev pub invariant-loop-more : goal.invariant-loop-more
invariant-loop-more g l = l.count ≤ length l.buffer

abbrev pub decreases-loop-more : goal.decreases-loop-more
decreases-loop-more g l = length l.initial.buffer - l.count
