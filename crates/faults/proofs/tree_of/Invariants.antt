-- `faults::tree_of` meets its contract: what each node says is stored.
-- Assumes nothing.
use Prim.Native.Nat.{◌+◌, ◌*◌, ◌/◌, ◌%◌}
use lib.ListN.{length, get_or}
use Rattle.lists.specs.Handed.{nodes_to}
use Rattle.faults.specs.Faulty.{deeper}
use Rattle.faults.proofs.Filling.{Filled}
use Rattle.faults.proofs.tree_of.Given as goal

abbrev pub invariant-loop-i : goal.invariant-loop-i
invariant-loop-i l = record {
  names : Filled (λ i. get_or l.list (3 * i) 0) 64 l.names l.i;
  roles : Filled (λ i. get_or l.list (3 * i + 2) 0 % 256) 64 l.roles l.i;
  ends : Filled (λ i. i + 1 + deeper (get_or l.list (3 * i + 1) 0) (nodes_to l.list (i + 1) (length l.list / 3))) 64 l.ends l.i;
}
