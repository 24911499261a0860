-- The readers of a message meet their contracts. At each turn of the cycle the bytes left fall, or they stay and the reader's place in a round does.
-- Assumes nothing.
use Prim.Native.Nat.{◌+◌, ◌*◌, ◌-◌}
use Rattle.readers.proofs.Turns.{Children, Thresholds}
use Rattle.readers.proofs.+reading.Given as goal

abbrev pub invariant-read_children-loop : goal.invariant-read_children-loop
invariant-read_children-loop l =
    Children l.inner l.stretch.bytes.now l.stretch.end l.left l.count l.fn.from.next l.fn.from.nodes l.fn.from.parts l.initial.rows (l.count - l.counter) l.here.next l.here.nodes l.here.parts l.rows

abbrev pub decreases-read_children : goal.decreases-read_children
decreases-read_children l = 4 * (l.stretch.now.end - l.from.next)

abbrev pub decreases-read_inner : goal.decreases-read_inner
decreases-read_inner l = 4 * (l.stretch.now.end - l.at) + 1

abbrev pub decreases-read_node : goal.decreases-read_node
decreases-read_node l = 4 * (l.stretch.now.end - l.from.next)

abbrev pub decreases-read_threshold : goal.decreases-read_threshold
decreases-read_threshold l = 4 * (l.stretch.now.end - l.from.next) + 2

abbrev pub invariant-read_thresholds-loop : goal.invariant-read_thresholds-loop
invariant-read_thresholds-loop l =
    Thresholds l.stretch.bytes.now l.stretch.end l.owner l.count l.fn.from.next l.fn.from.nodes l.fn.from.parts l.initial.rows (l.count - l.counter) l.here.next l.here.nodes l.here.parts l.rows

abbrev pub decreases-read_thresholds : goal.decreases-read_thresholds
decreases-read_thresholds l = 4 * (l.stretch.now.end - l.from.next) + 3
