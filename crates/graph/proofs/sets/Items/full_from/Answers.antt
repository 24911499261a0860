-- `graph::sets::full_from` meets its contract: the lowest digit that is not set is the lowest that is set in what is left to the greatest number.
-- Assumes nothing.
use mathlib.Core.Path.{refl}
use mathlib.Core.List.{List}
use Prim.Native.Nat.{ℕ, ◌-◌, ◌/◌, ◌%◌, ◌^◌}
use native.Mathlib.Omega.{arith}
use lib.ListN.{get_or}
use Rattle.std.proofs.Common.{rules}
use lib.Pow.{shr_le}
use Rattle.graph.proofs.Members.{full_at, next-bound}
use Rattle.graph.proofs.sets.Items.full_from.Goals as goal

abbrev rest : List ℕ → ℕ → ℕ
rest set from = get_or set (from / 64) 0 / 2 ^ (from % 64)

pub returns : goal.returns
returns c =
    full_at c.args.self.now.words _ _ refl (search rules)
