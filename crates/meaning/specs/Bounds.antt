-- Every bound of document 01, each once; src/lib.rt has the same numbers for the code.
-- Assumes nothing.
use Rattle.std.specs.Prelude.{ℕ}

-- "Then the item count (2 bytes, 1 to 512)"; "the link count (2 bytes, 0 to 4,096)"
abbrev pub most_items : ℕ
most_items = 512

abbrev pub most_links : ℕ
most_links = 4096

-- "name k (0 to 63)"; "role (1, 0 to 31)"
abbrev pub most_name : ℕ
most_name = 63

abbrev pub most_role : ℕ
most_role = 31

-- document 02, §5: "Name 63 now means withdrawn."
abbrev pub withdrawn_name : ℕ
withdrawn_name = 63

-- "Root depth is 0 .. depth at most 16", so a tree has at most 17 levels; "At most 64 nodes", "16 thresholds"
abbrev pub most_levels : ℕ
most_levels = 17

abbrev pub most_nodes : ℕ
most_nodes = 64

abbrev pub most_thresholds : ℕ
most_thresholds = 16

-- "q from 1 to 1,000"
abbrev pub most_q : ℕ
most_q = 1000

-- "Size: .. at most 60"; "the scale is at most 3^20 = 3,486,784,401"
abbrev pub most_size : ℕ
most_size = 60

abbrev pub most_scale : ℕ
most_scale = 3486784401

-- the margin is "never beyond 3,486,784,401,000 either way"
abbrev pub most_margin : ℕ
most_margin = 3486784401000

-- "The log is a lent list of step records, at most 64 in use"
abbrev pub most_steps : ℕ
most_steps = 64
