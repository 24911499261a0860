use mathlib.Core.Path.{◌≡◌}
use mathlib.Core.Bool.{false}
use Prim.Native.Nat.{ℕ, ◌<◌}
use Rattle.meaning.specs.Register.{withdrawn}
use Rattle.register.specs.Image.{Image}
use Rattle.graph.proofs.none_out.Given as goal

abbrev pub invariant-loop-i : goal.invariant-loop-i
invariant-loop-i l =
    Image l.s (λ g. (x : ℕ) → x < l.i → withdrawn g x ≡ false)
