-- `lists::Nodes::form_tree` meets its contract: node after node goes on from the one before.
-- Assumes nothing.
use mathlib.Core.Path.{◌≡◌}
use Prim.Native.Nat.{◌/◌}
use lib.ListN.{length}
use Rattle.meaning.specs.Lists.{go_on, form_tree}
use Rattle.meaning.specs.Writing.{nodes_in}
use Rattle.lists.specs.Handed.{nodes_to}
use Rattle.lists.proofs.Nodes.form_tree.Given as goal

abbrev pub invariant-loop-k : goal.invariant-loop-k
invariant-loop-k l = form_tree (nodes_in l.self) ≡ go_on l.before (nodes_to l.self l.k (length l.self / 3))
