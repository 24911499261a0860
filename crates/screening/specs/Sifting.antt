-- Sets of items of which some stay.
-- Assumes nothing.
use Rattle.std.specs.Prelude.{◌≡◌, Bool, ◌&&◌, List, ℕ}
use Rattle.graph.specs.Sets.{in_set}

-- of a set stay the items that say yes
pub record Sifted (p : ℕ → Bool) (old new : List ℕ) : Type 0 where
  pub each : (x : ℕ) → in_set new x ≡ (in_set old x && p x)
