-- What was written over the front of a list is there.
-- Assumes nothing.
use mathlib.Core.Path.{◌≡◌, ap, ◌∙◌}
use mathlib.Core.List.{List}
use Prim.Native.Nat.{ℕ, ◌+◌, ◌≤◌}
use native.Mathlib.Omega.{arith}
use lib.ListN.{length, take, drop, replicate}
use lib.Seq.{sets, sets-eq, take_at}
use Rattle.meaning.specs.Bounds.{most_nodes}

pub front : (old m : List ℕ) (k : ℕ) → length m ≡ k → k ≤ length old → take k (sets old 0 m) ≡ m
front old m k e l = ap (λ (z : List ℕ). take k z) (sets-eq m old 0 (omega (arith, e))) ∙ take_at m (drop (0 + length m) old) k e

-- a map before it is written
abbrev pub empty_map : List ℕ
empty_map = replicate most_nodes 0
