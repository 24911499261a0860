-- The table of the list call (document 02, §3), row by row; and before it what a degree and a margin ask first as well: a register, and a requirement
-- that must be plain. "A number is given exactly when its row holds and nothing earlier in the order below applies."
-- Assumes nothing.
use Rattle.std.specs.Prelude.{◌≡◌, List, [], ◌∷◌, ℕ, ◌*◌, ◌≤◌, ◌<◌, length}
use Rattle.meaning.specs.declared.Side.TheVariants.{Requirement as requirement}
use Rattle.meaning.specs.declared.Refusal.{Refusal}
use Rattle.meaning.specs.Refusal.{good, refused, at, on_call}
use Rattle.meaning.specs.Tree.{nodes}
use Rattle.meaning.specs.Register.{Register, read_register}
use Rattle.meaning.specs.Reduce.{reduce, size}
use Rattle.meaning.specs.Bounds.{most_size}
use Rattle.meaning.specs.Requirement.{Requirement, bare}
use Rattle.meaning.specs.Message.{Part, read_requirement}

-- ---- what is read first

-- a register, and a requirement without thresholds whose reduced size is at most 60
pub record Readable (image message : List ℕ) : Type 0 where
  pub register : Register
  pub tree : Requirement
  pub read : read_register image ≡ good register
  pub written : read_requirement message ≡ good (tree, [])
  pub small : size (reduce (bare tree)) ≤ most_size

-- a row that gives the refusal f
pub data Unreadable (image message : List ℕ) (f : Refusal) : Type 0 where
  bad_register : read_register image ≡ refused f → Unreadable image message f
  bad_requirement : (g : Register) → read_register image ≡ good g → read_requirement message ≡ refused f → Unreadable image message f
  has_threshold : (g : Register) (q : Requirement) (p : Part) (ps : List Part) → read_register image ≡ good g → read_requirement message ≡ good (q, p ∷ ps)
      → f ≡ at requirement 11 p.first → Unreadable image message f
  too_large : (g : Register) (q : Requirement) → read_register image ≡ good g → read_requirement message ≡ good (q, []) → most_size < size (reduce (bare q))
      → f ≡ at requirement 14 3 → Unreadable image message f

-- ---- the list, with so many places in the table

-- "a place for each written node at each item"
abbrev pub places_of : {image message : List ℕ} → Readable image message → ℕ
places_of x = nodes (bare x.tree) * length x.register.names

pub record ListTakes (image message : List ℕ) (room : ℕ) : Type 0 where
  pub readable : Readable image message
  pub fits : places_of readable ≤ room

-- "16 here when the table is shorter than written nodes × items"
pub data ListRow (image message : List ℕ) (room : ℕ) (f : Refusal) : Type 0 where
  unreadable : Unreadable image message f → ListRow image message room f
  short_table : (x : Readable image message) → room < places_of x → f ≡ on_call 16 → ListRow image message room f
