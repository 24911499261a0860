-- What stands in the numbers that the readers are lent. The names of the written node n stand at n; the role of the edge to it, and 256 times the index
-- just past its subtree, at 64 + n; of the k-th threshold its written node, and 256 times the place of its first byte, at 128 + k.
-- Assumes nothing.
use Rattle.std.specs.Prelude.{List, map, ℕ, ◌/◌, ◌%◌, take, drop}
use Rattle.meaning.specs.Bounds.{most_nodes, most_thresholds}

-- the lower byte, the byte above it, the two bytes above it
abbrev pub low : ℕ → ℕ
low x = x % 256

abbrev pub high : ℕ → ℕ
high x = x / 256 % 256

abbrev pub high_pair : ℕ → ℕ
high_pair x = x / 256 % 65536

-- of each written node its names, the role of the edge to it, and the index just past its subtree
unfoldable pub names_in : List ℕ → List ℕ
names_in rows = take most_nodes rows

unfoldable pub roles_in : List ℕ → List ℕ
roles_in rows = map low (take most_nodes (drop 64 rows))

unfoldable pub ends_in : List ℕ → List ℕ
ends_in rows = map high (take most_nodes (drop 64 rows))

-- of each threshold its written node, and the place of its first byte
unfoldable pub owners_in : List ℕ → List ℕ
owners_in rows = map low (take most_thresholds (drop 128 rows))

unfoldable pub firsts_in : List ℕ → List ℕ
firsts_in rows = map high_pair (take most_thresholds (drop 128 rows))
