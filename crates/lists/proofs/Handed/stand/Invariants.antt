-- `lists::Handed::stand` meets its contract: threshold after threshold stands, and takes its inner nodes from those that are left.
-- Assumes nothing.
use Prim.Native.Nat.{◌/◌}
use lib.ListN.{length}
use Rattle.lists.proofs.Forms.{Stood}
use Rattle.lists.proofs.Handed.stand.Given as goal

abbrev pub invariant-loop-j : goal.invariant-loop-j
invariant-loop-j l = Stood l.self.limits l.self.inner (length l.self.nodes / 3) l.before l.used l.j
