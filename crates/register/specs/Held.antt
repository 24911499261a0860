-- The register that bytes begin with, and what it is that it was read.
-- Assumes nothing.
use Rattle.std.specs.Prelude.{◌≡◌, Bool, true, false, List, [], ℕ, length}
use Rattle.meaning.specs.Refusal.{Answer, good, refused}
use Rattle.meaning.specs.Bytes.{Bytes}
use Rattle.meaning.specs.Register.{Register, read_buffer}

abbrev pub is_good : {A : Type 0} → Answer A → Bool
is_good (good x) = true
is_good (refused r) = false

-- what was read, or a register without items
abbrev pub read_of : Answer Register → Register
read_of (good g) = g
read_of (refused r) = record { names = []; links = [] }

-- the register that bytes begin with, if there is one
unfoldable pub held : List ℕ → Register
held s = read_of (read_buffer s)

-- there is one, and it has so many items and links; and what holds of every lent slice of bytes
abbrev pub IsRead : List ℕ → ℕ → ℕ → Type 0
IsRead s items links = (is_good (read_buffer s) ≡ true) × (items ≡ length (held s).names) × (links ≡ length (held s).links) × Bytes s
