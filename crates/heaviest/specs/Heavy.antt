-- A node's children by their rows, and the one with the most of them.
-- Assumes nothing.
use Rattle.std.specs.Prelude.{◌≡◌, ◌⊎◌, List, Option, Some, None, ℕ, ◌+◌, ◌-◌, ◌≤◌, get_or}
use Rattle.meaning.specs.Bounds.{most_nodes}
use Rattle.meaning.specs.Tree.{Forest, none, more, Concept, children}
use Rattle.meaning.specs.Rows.{Holds}

-- of the trees f, which stand from row i on, the one at row c is t
unfoldable pub Stands : List ℕ → Forest ℕ → ℕ → ℕ → Concept → Type 0
Stands ends none i c t = ⊥
Stands ends (more r u f) i c t = ((i ≡ c) × (u ≡ t)) ⊎ Stands ends f (get_or ends i 0) c t

-- rows with these ends hold a tree at a row
pub record Written (ends : List ℕ) (node : ℕ) : Type 0 where
  pub names : List ℕ
  pub roles : List ℕ
  pub left : ℕ
  pub tree : Concept
  pub held : Holds names roles ends tree left node (get_or ends node 0)
  pub few : get_or ends node 0 ≤ most_nodes

-- no kept child has more rows than the one at row h
abbrev pub Most : List ℕ → List ℕ → Concept → ℕ → ℕ → Type 0
Most ends marks t node h = (c : ℕ) (u : Concept) → Stands ends (children t) (node + 1) c u → (get_or marks c 0 ≡ 0 → ⊥) → get_or ends c 0 - c ≤ get_or ends h 0 - h

-- some kept child of the tree at a row, of which none has more rows; or none, where no child is kept
pub record Heavy (ends marks : List ℕ) (t : Concept) (node : ℕ) (o : Option ℕ) : Type 0 where
  pub none : o ≡ None → (c : ℕ) (u : Concept) → Stands ends (children t) (node + 1) c u → get_or marks c 0 ≡ 0
  pub some : (h : ℕ) → o ≡ Some h → (get_or marks h 0 ≡ 0 → ⊥) × ((u : Concept) × Stands ends (children t) (node + 1) h u)
  pub most : (h : ℕ) → o ≡ Some h → Most ends marks t node h
