-- Room for numbers: a row of 512 ones, and behind it six rows of which some are in use.
-- Assumes nothing.
use Rattle.std.specs.Prelude.{◌≡◌, List, ℕ, zero, suc, ◌+◌, ◌-◌, ◌*◌, ◌≤◌, ◌<◌, length, get_or}
use Rattle.graph.specs.Sets.{Among}
use Rattle.folds.specs.Notes.{Clear}

unfoldable pub doubled : ℕ → ℕ
doubled zero = 1
doubled (suc t) = 2 * doubled t

-- Of the six rows of numbers those from place `at` on are free, and they are enough for a tree of so many nodes: each further row that is in
-- use is so for a tree of less than half of the nodes.
pub record Room (size at nodes : ℕ) : Type 0 where
  pub used : ℕ
  pub at-is : at ≡ 512 + 512 * used
  pub enough : (nodes + 1) * doubled used ≤ 65
  pub size_is : size ≡ 3584

-- row 0 is all ones
abbrev pub Ones : List ℕ → Type 0
Ones numbers = (x : ℕ) → x < 512 → get_or numbers x 0 ≡ 1

-- what is lent for the tree at a row: a set of items, notes that say nothing yet of the rows below it, and room for its numbers from `at` on
pub record Lent (items : ℕ) (set notes numbers ends : List ℕ) (node at : ℕ) : Type 0 where
  pub members : Among items set
  pub clear : Clear notes (node + 1) (get_or ends node 0)
  pub room : Room (length numbers) at (get_or ends node 0 - node)
  pub ones : Ones numbers
