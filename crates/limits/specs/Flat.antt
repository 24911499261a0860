-- What the code that writes asks and answers: a node's children told from a list alone.
-- Assumes nothing.
use Rattle.std.specs.Prelude.{◌≡◌, cond, List, [], ◌∷◌, ◌++◌, map, ℕ, zero, suc, ◌+◌, ◌*◌, leb, eqb, get_or}
use Rattle.meaning.specs.Bytes.{bytes}
use Rattle.meaning.specs.Refusal.{good}
use Rattle.meaning.specs.Requirement.{Threshold}
use Rattle.meaning.specs.Lists.{Listed, Limit, threshold}
use Rattle.meaning.specs.Writing.{inners_at, limit_at, limit_fits}
use Rattle.lists.specs.Handed.{nodes_to, One}

-- how many nodes of a list stand one deeper than d, before the next that is not deeper than d
unfoldable pub ahead : {L : Type 0} → ℕ → List (Listed L) → ℕ
ahead d [] = 0
ahead d (x ∷ xs) = cond (leb x.depth d) 0 (cond (eqb x.depth (suc d)) (suc (ahead d xs)) (ahead d xs))

-- the ten bytes of the k-th node's fixed fields, in a list that goes up to `end`
abbrev pub fixed_at : List ℕ → ℕ → ℕ → ℕ → List ℕ
fixed_at list k end limits = bytes 8 (get_or list (3 * k) 0) ++ (limits ∷ ahead (get_or list (3 * k + 1) 0) (nodes_to list (k + 1) end) ∷ [])

-- of m thresholds from the j-th on, how many are of the i-th node before one of another
unfoldable pub run : List ℕ → ℕ → ℕ → ℕ → ℕ
run hs i j zero = 0
run hs i j (suc m) = cond (eqb (get_or hs (5 * j) 0) i) (suc (run hs i (suc j) m)) 0

-- m thresholds from the j-th on have the inner nodes from the k-th on: where those of the next begin
unfoldable pub after : List ℕ → ℕ → ℕ → ℕ → ℕ
after hs j k zero = k
after hs j k (suc m) = after hs (suc j) (k + inners_at hs j) m

-- each of them stands and passes
unfoldable pub Each : List ℕ → List ℕ → ℕ → ℕ → ℕ → Type 0
Each hs inner j k zero = Unit {0}
Each hs inner j k (suc m) = One hs inner j k × (limit_fits j (limit_at hs inner j k) ≡ good tt) × Each hs inner (suc j) (k + inners_at hs j) m

abbrev pub thresholds : List Limit → List Threshold
thresholds hs = map (λ h. threshold h) hs
