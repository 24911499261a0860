-- Lists that can be written.
-- Assumes nothing.
use Rattle.std.specs.Prelude.{◌≡◌, List, ℕ, T}
use Rattle.meaning.specs.Refusal.{good}
use Rattle.meaning.specs.Lists.{form}
use Rattle.meaning.specs.Writing.{lists_in, whole, lists_fit}

-- numbers that form a requirement, of which nothing is refused
pub record Ready (nodes hs inner : List ℕ) : Type 0 where
  pub whole : T (whole nodes hs inner)
  pub forms : T (form (lists_in nodes hs inner))
  pub fits : lists_fit 0 (lists_in nodes hs inner).outer (lists_in nodes hs inner).limits ≡ good tt
