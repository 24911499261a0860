-- Where the parts of an image stand, by name: an item is 8 bytes (its names), a link 5 (from, role, to); in front of the items stand the head and
-- their count, in front of the links theirs. Code and proofs use these names alone: an item or a link of another width moves these lines.
-- Assumes nothing.
use Rattle.std.specs.Prelude.{ℕ, ◌+◌, ◌*◌, ◌-◌, ◌/◌}

-- the names of an item
abbrev pub names_at : ℕ → ℕ
names_at item = 5 + 8 * item

-- the link count, behind so many items
abbrev pub count_at : ℕ → ℕ
count_at items = names_at items

-- the k-th link
abbrev pub link_place : ℕ → ℕ → ℕ
link_place items k = 7 + 8 * items + 5 * k

-- how long an image of so many items and links is, and the length that its head tells
abbrev pub image_length : ℕ → ℕ → ℕ
image_length items links = link_place items links

abbrev pub body_length : ℕ → ℕ → ℕ
body_length items links = 4 + 8 * items + 5 * links

-- the names of the first item that does not fit before an end
abbrev pub cut_names : ℕ → ℕ
cut_names end = 5 + (end - 5) / 8 * 8
