-- What a listing prints of its items.
-- Assumes nothing.
use Rattle.std.specs.Prelude.{List, [], ◌++◌, ℕ, zero, suc}

-- the rows of the first n items, one after the other
unfoldable pub texts : (ℕ → List ℕ) → ℕ → List ℕ
texts row zero = []
texts row (suc n) = texts row n ++ row n
