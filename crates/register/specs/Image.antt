-- An image that was read, and its links by number.
-- Assumes nothing.
use Rattle.std.specs.Prelude.{◌≡◌, List, ℕ, ◌≤◌, ◌<◌, length, get_or}
use Rattle.meaning.specs.Refusal.{good}
use Rattle.meaning.specs.Register.{Link, Register, read_buffer}

-- what is asked of the register that these bytes begin with: there is one, and it is as wanted
pub record Asked (s : List ℕ) (P : Register → Type 0) : Type 0 where
  pub register : Register
  pub read : read_buffer s ≡ good register
  pub holds : P register

-- it has so many items and links
abbrev pub OfSize : List ℕ → ℕ → ℕ → Type 0
OfSize s items links = Asked s (λ g. (items ≡ length g.names) × (links ≡ length g.links))

-- what is said of it
abbrev pub Image : List ℕ → (Register → Type 0) → Type 0
Image s P = (g : Register) → read_buffer s ≡ good g → P g

abbrev pub no_link : Link
no_link = record { from = 0; role = 0; to = 0 }

-- the k-th link
abbrev pub link_no : Register → ℕ → Link
link_no g k = get_or g.links k no_link

-- the links of an item begin at the k-th: those before it lead from items before, and no other does
pub record Begins (ls : List Link) (item k : ℕ) : Type 0 where
  pub within : k ≤ length ls
  pub before : (j : ℕ) → j < k → (get_or ls j no_link).from < item
  pub behind : (j : ℕ) → k ≤ j → j < length ls → item ≤ (get_or ls j no_link).from
