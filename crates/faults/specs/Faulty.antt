-- What is asked of lists that are tested as reading would test them, and what is answered.
-- Assumes nothing.
use Rattle.std.specs.Prelude.{◌≡◌, cond, List, [], ◌∷◌, ℕ, suc, Result, Ok, Err, IfOk, ◌-◌, ◌/◌, ◌≤◌, ◌<◌, T, leb, length}
use Rattle.meaning.specs.declared.Rule.{Rule}
use Rattle.meaning.specs.Rules.{number_of}
use Rattle.meaning.specs.Refusal.{Answer, good, refused, on_call}
use Rattle.faults.specs.declared.Next.{Next}
use Rattle.meaning.specs.Lists.{Listed, Limit, stand_at}
use Rattle.meaning.specs.Writing.{limits_from, own_fit, shared_out}

-- the rule that is broken as a refusal on the call's side, or that nothing is refused
abbrev pub told : {A : Type 0} → Result A Rule → Answer (Unit {0})
told (Ok x) = good tt
told (Err r) = refused (on_call (number_of r))

-- the thresholds from the j-th on, whose inner nodes begin at the k-th
abbrev pub limits_on : List ℕ → List ℕ → ℕ → ℕ → List Limit
limits_on hs inner j k = limits_from hs inner j k (length hs / 5 - j)

-- these have the inner nodes from the k-th on, no node that one of them is of is below the i-th or behind n nodes, and each inner
-- list forms a tree
pub record Rest (hs inner : List ℕ) (n i j k : ℕ) : Type 0 where
  pub begun : j ≤ length hs / 5
  pub used : k ≤ length inner / 3
  pub shared : T (shared_out hs j (length hs / 5 - j) (length inner / 3 - k))
  pub stands : T (stand_at n i (limits_on hs inner j k))

-- what is found at the thresholds of the i-th node, the first of which is the j-th of all, with the inner nodes from the k-th on: how these fare; and where
-- none is refused, those that follow, which are of later nodes
pub record Found (hs inner : List ℕ) (n i j k : ℕ) (r : Result Next Rule) : Type 0 where
  pub answer : told r ≡ own_fit i j (limits_on hs inner j k)
  pub rest : IfOk r (λ m. Rest hs inner n (suc i) m.limit m.first)
  pub later : IfOk r (λ m. (h : ℕ) → i < h → own_fit h j (limits_on hs inner j k) ≡ own_fit h m.limit (limits_on hs inner m.limit m.first))

-- how many nodes at the front of a list are deeper
unfoldable pub deeper : {L : Type 0} → ℕ → List (Listed L) → ℕ
deeper d [] = 0
deeper d (x ∷ xs) = cond (leb x.depth d) 0 (suc (deeper d xs))
