use mathlib.Core.Path.{◌≡◌}
use Prim.Native.Nat.{ℕ, ◌<◌}
use lib.ListN.{get_or}
use Rattle.graph.specs.Walked.{walked}
use Rattle.register.specs.Image.{Image}
use Rattle.tables.proofs.hold.Given as goal

abbrev pub invariant-loop-x : goal.invariant-loop-x
invariant-loop-x l =
    Image l.read.bytes.now (λ g. (y : ℕ) → y < l.x → get_or l.held y 0 ≡ (walked g).names y)
