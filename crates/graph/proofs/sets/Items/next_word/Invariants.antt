use mathlib.Core.Path.{◌≡◌}
use mathlib.Core.Bool.{false}
use Prim.Native.Nat.{ℕ, ◌*◌, ◌≤◌, ◌<◌}
use Rattle.graph.specs.Sets.{in_set}
use Rattle.graph.proofs.sets.Items.next_word.Given as goal

abbrev pub invariant-loop-i : goal.invariant-loop-i
invariant-loop-i l =
    (l.w ≤ l.i) × (l.i ≤ 8) × ((x : ℕ) → l.w * 64 ≤ x → x < l.i * 64 → in_set l.self.words x ≡ false)
