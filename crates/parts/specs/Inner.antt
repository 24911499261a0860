-- Where the k-th inner concept of a message stands, and what rows hold after one was read again.
-- Assumes nothing.
use Rattle.std.specs.Prelude.{◌≡◌, List, [], ◌∷◌, ℕ, zero, suc, ◌+◌, ◌≤◌, Option, Some, None}
use Rattle.meaning.specs.Refusal.{Answer, good, refused}
use Rattle.meaning.specs.Tree.{Concept, nodes}
use Rattle.meaning.specs.Bounds.{most_levels, most_nodes}
use Rattle.meaning.specs.Requirement.{Requirement}
use Rattle.meaning.specs.Message.{Part, Spot, read_inner}
use Rattle.meaning.specs.Rows.{Holds}
use Rattle.parts.specs.declared.Place.{Place}

-- among the thresholds of a message
unfoldable pub place_among : ℕ → List Part → Option Place
place_among k [] = None
place_among zero (x ∷ ps) = Some (record { start = x.first + 7; len = x.len })
place_among (suc k) (x ∷ ps) = place_among k ps

abbrev pub inner_place : ℕ → Answer (Requirement × List Part) → Option Place
inner_place k (good x) = place_among k x.1
inner_place k (refused e) = None

-- the rows hold the concept that the bytes from p up to stop are read as, if they are read as one
abbrev pub ConceptDone : List ℕ → ℕ → ℕ → List ℕ → List ℕ → List ℕ → Type 0
ConceptDone s stop p names roles ends =
    (t : Concept) (v : Spot) → read_inner s stop p ≡ good (t, v) → Holds names roles ends t most_levels 0 (nodes t) × (nodes t ≤ most_nodes)
