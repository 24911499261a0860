-- Document 01, "Requirement message" and "Member": concept trees with thresholds, and the items that meet them.
-- Assumes nothing.
use Rattle.std.specs.Prelude.{Bool, true, ◌&&◌, List, [], ◌∷◌, ℕ}
use Rattle.meaning.specs.Tree.{Tree, Concept, relabel}
use Rattle.meaning.specs.Graph.{Graph}
use Rattle.meaning.specs.Fraction.{Frac, Comparison, compares}
use Rattle.meaning.specs.Whole.{meets_by, held, WholeMap}
use Rattle.meaning.specs.Degree.{degree_of}

-- "at least 2/3 of this": a comparison with a limit, and a plain inner concept
pub record Threshold : Type 0 where
  pub how : Comparison
  pub limit : Frac
  pub inner : Concept

pub record Label : Type 0 where
  pub names : ℕ
  pub thresholds : List Threshold

abbrev pub Requirement : Type 0
Requirement = Tree Label

unfoldable pub every : {A : Type 0} → (A → Bool) → List A → Bool
every p [] = true
every p (x ∷ xs) = p x && every p xs

module _ {N : Type 0} (G : Graph N) where
  -- "its degree in each inner concept satisfies the comparison"
  abbrev pub passes : Threshold → N → Bool
  passes h x = compares h.how (degree_of G h.inner x) h.limit

  abbrev pub fulfils : Label → N → Bool
  fulfils a x = held G a.names x && every (λ h. passes h x) a.thresholds

  -- "An item meets a tree when it holds the root's names, its degree in each inner concept satisfies the comparison,
  -- and each child has a successor under its role that meets the child."
  abbrev pub member : Requirement → N → Bool
  member = meets_by fulfils G

  -- the threshold-respecting homomorphism of LTCS-Report 15-09, Definition 13, that sends the root to x
  abbrev pub RespectingMap : Requirement → N → Type 0
  RespectingMap = WholeMap fulfils G

-- a requirement's tree without its thresholds, and a plain concept as a requirement
abbrev pub bare : Requirement → Concept
bare = relabel (λ a. a.names)

abbrev pub plain : Concept → Requirement
plain = relabel (λ a. record { names = a; thresholds = [] })
