-- `meeting::meet`: the children so far are folded in, and those from the next one on are left.
use mathlib.Core.Path.{◌≡◌}
use Prim.Native.Nat.{◌<◌}
use lib.ListN.{length, get_or}
use Rattle.rows.proofs.Going.{Going}
use Rattle.graph.specs.Sets.{Among}
use Rattle.trails.specs.Cells.{Outside}
use Rattle.meeting.specs.Required.{Required}
use Rattle.meeting.proofs.Left.{Left}
use Rattle.meeting.proofs.+meet.Given as goal

abbrev pub decreases-meet : goal.decreases-meet
decreases-meet l = l.left

abbrev pub invariant-loop-child : goal.invariant-loop-child
invariant-loop-child l = record {
  going : Going l.wanted.tree.ends (get_or l.wanted.tree.ends l.node 0) l.child-iterator;
  behind : l.node < l.child-iterator.at;
  size : length l.met ≡ 64;
  among : Among l.on.items l.set.words;
  left : (k : Required l.on l.wanted l.node l.left) → Left k l.initial.set.words l.set.words l.met l.child-iterator.at
      × Outside l.node (get_or l.wanted.tree.ends l.node 0) l.initial.met l.met;
}
