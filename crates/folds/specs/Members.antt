-- Sets of items.
-- Assumes nothing.
use Rattle.std.specs.Prelude.{◌≡◌, true, List, ℕ}
use Rattle.graph.specs.Sets.{in_set}

-- x is in the set
abbrev pub Member : List ℕ → ℕ → Type 0
Member set x = in_set set x ≡ true
