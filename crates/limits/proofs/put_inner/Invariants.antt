-- `limits::put_inner` meets its contract: the root, then node after node, each a step on in the bytes that the list says.
-- Assumes nothing.
use mathlib.Core.Path.{◌≡◌}
use Prim.Native.Nat.{◌+◌, ◌*◌, ◌/◌}
use lib.ListN.{length}
use Rattle.lists.specs.Handed.{nodes_to}
use Rattle.limits.proofs.Inner.{plain_bytes}
use Rattle.limits.proofs.Putting.{Put}
use Rattle.limits.proofs.put_inner.Given as goal

abbrev pub invariant-loop-k : goal.invariant-loop-k
invariant-loop-k l = record {
  place : l.p + 1 ≡ l.at + 11 * l.k;
  room : length l.out ≡ length l.initial.out;
  put : Put l.initial.out l.out (l.at + 10) l.p (plain_bytes (nodes_to l.list 1 (length l.list / 3))) (plain_bytes (nodes_to l.list l.k (length l.list / 3)));
}
