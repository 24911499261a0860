use mathlib.Core.Path.{ap}
use Prim.Native.Nat.{ℕ, ◌%◌, ◌/◌}
use native.Mathlib.Omega.{arith}
use lib.Bits.{bit_or}
use lib.ListN.{get_or}
use Rattle.graph.proofs.Digits.{bit-at}
use Rattle.graph.proofs.Members.{with_item}
use Rattle.graph.proofs.sets.Items.insert.Goals as goal

pub returns : goal.returns
returns c =
    with_item c.args.self.now.words c.args.x _ (omega arith)
    (ap (λ (z : ℕ). bit_or (get_or c.args.self.now.words (c.args.x / 64) 0) z) (bit-at (c.args.x % 64) (omega arith)))
