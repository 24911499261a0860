-- One result of each call that hands out a part of a message: any two that its promise allows are equal.
-- Assumes nothing.
use mathlib.Core.Path.{◌≡◌}
use mathlib.Core.List.{List}
use Prim.Native.Nat.{ℕ}
use Rattle.meaning.specs.Message.{read_requirement, inner_part}
use Rattle.fields.proofs.Once.{itself, once}
use Rattle.std.specs.Prelude.{Option}
use Rattle.parts.specs.declared.Place.{Place}
use Rattle.parts.specs.Inner.{inner_place}

-- `find_inner`: place and length
pub one_place : (s : List ℕ) (k : ℕ) (p q : Option Place) → p ≡ inner_place k (read_requirement s) → q ≡ inner_place k (read_requirement s) → p ≡ q
one_place s k = once (λ (x : Option Place). x) itself (inner_place k (read_requirement s))

-- `inner_part`: the bytes
pub one-part : (s : List ℕ) (k : ℕ) (p q : List ℕ) → p ≡ inner_part s k → q ≡ inner_part s k → p ≡ q
one-part s k = once (λ (x : List ℕ). x) itself (inner_part s k)
