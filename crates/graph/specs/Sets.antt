-- A set of items: eight numbers of 64 bits, item x being bit x % 64 of number x / 64.
-- Assumes nothing.
use Rattle.std.specs.Prelude.{◌≡◌, Bool, true, false, ◌||◌, ℕ, ◌+◌, ◌/◌, ◌%◌, ◌≤◌, ◌<◌, eqb, ltb, get_or, Option, Some, None}
use mathlib.Core.List.{List, Memᴰ}
use Rattle.meaning.specs.Bounds.{most_items}
use Rattle.meaning.specs.Names.{has}
use Rattle.meaning.specs.Graph.{Graph}

abbrev pub in_set : List ℕ → ℕ → Bool
in_set set x = has (get_or set (x / 64) 0) (x % 64)

-- all members are among the first so many items
abbrev pub Among : ℕ → List ℕ → Type 0
Among items set = (x : ℕ) → in_set set x ≡ true → x < items

-- the first so many items, and no other
pub record All (items : ℕ) (set : List ℕ) : Type 0 where
  pub has : (x : ℕ) → in_set set x ≡ ltb x items

-- r is the least member from `from` on, or the count of all items there may be
pub record Next (set : List ℕ) (from r : ℕ) : Type 0 where
  pub behind : from ≤ r
  pub within : r ≤ most_items
  pub passed : (x : ℕ) → from ≤ x → x < r → in_set set x ≡ false
  pub member : r < most_items → in_set set r ≡ true

-- the least member from `from` on, or nothing where there is none
abbrev pub Found : List ℕ → ℕ → Option ℕ → Type 0
Found set from None = Next set from most_items
Found set from (Some x) = Next set from x × (x < most_items)

-- the same, and a walk over the set goes on behind it at `onward`
abbrev pub Stepped : List ℕ → ℕ → Option ℕ → ℕ → Type 0
Stepped set from None onward = Next set from most_items × (onward ≡ from)
Stepped set from (Some x) onward = Next set from x × (x < most_items) × (onward ≡ x + 1)

-- a set with x, and one from which x was taken
abbrev pub With : List ℕ → ℕ → List ℕ → Type 0
With old x new = (y : ℕ) → in_set new y ≡ (eqb x y || in_set old y)

pub record Without (old : List ℕ) (x : ℕ) (new : List ℕ) : Type 0 where
  pub gone : in_set new x ≡ false
  pub others : (y : ℕ) → (y ≡ x → ⊥) → in_set new y ≡ in_set old y

-- of the members stay those of which a test says yes, where it says one of two things of each
pub record Retained (says : ℕ → Bool → Type 0) (old new : List ℕ) : Type 0 where
  pub member : (x : ℕ) → in_set old x ≡ true → says x (in_set new x)
  pub other : (x : ℕ) → in_set old x ≡ false → in_set new x ≡ false

-- every successor under the role of a member of the first set is in the second
abbrev pub Closed : Graph ℕ → List ℕ → ℕ → List ℕ → Type 0
Closed G set role below = (x y : ℕ) → in_set set x ≡ true → Memᴰ y (G.next x role) → in_set below y ≡ true

-- the second set has all successors of the first under a role, and items alone
pub record Spread (G : Graph ℕ) (items : ℕ) (set : List ℕ) (role : ℕ) (below : List ℕ) : Type 0 where
  pub closed : Closed G set role below
  pub among : Among items below

-- a set that has grown: by all of a list, and by items alone
pub record Gathered (ys : List ℕ) (items : ℕ) (old new : List ℕ) : Type 0 where
  pub kept : (y : ℕ) → in_set old y ≡ true → in_set new y ≡ true
  pub got : (y : ℕ) → Memᴰ y ys → in_set new y ≡ true
  pub among : Among items new
