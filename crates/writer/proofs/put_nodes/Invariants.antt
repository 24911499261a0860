-- `writer::put_nodes` meets its contract: the root, then node after node, each with its thresholds.
-- Assumes nothing.
use mathlib.Core.Path.{◌≡◌}
use mathlib.Core.List.{List}
use Prim.Native.Nat.{ℕ, ◌/◌, ◌≤◌}
use lib.ListN.{length}
use Rattle.meaning.specs.Lists.{said}
use Rattle.meaning.specs.Message.{requirement_bytes}
use Rattle.meaning.specs.Writing.{lists_in}
use Rattle.writer.proofs.Stages.{Stage}
use Rattle.writer.proofs.put_nodes.Given as goal

-- `put`: whatever stood there before the root was put
abbrev pub invariant-loop-k : goal.invariant-loop-k
invariant-loop-k l = record {
  room : length l.out ≡ length l.initial.out;
  thresholds : l.j ≤ length l.of.limits / 5;
  nodes : l.first ≤ length l.of.inner / 3;
  put : (old : List ℕ)
      → Stage l.of.nodes l.of.limits l.of.inner old l.initial.out (requirement_bytes (said (lists_in l.of.nodes l.of.limits l.of.inner))) 1 l.initial.j l.initial.first
      → Stage l.of.nodes l.of.limits l.of.inner old l.out (requirement_bytes (said (lists_in l.of.nodes l.of.limits l.of.inner))) l.k l.j l.first;
}
