-- Document 01, "Map shown": one number for each written node of the outer tree in reading order.
-- Assumes nothing.
use Rattle.std.specs.Prelude.{Bool, cond, List, [], ◌∷◌, ◌++◌, map, ℕ, ltb, replicate}
use Rattle.std.proofs.Math.Option.{Option, some, none as nowhere}
use Rattle.meaning.specs.Tree.{Tree, node, Forest, none, more, Concept, under, nodes}
use Rattle.meaning.specs.Graph.{Graph}
use Rattle.meaning.specs.Whole.{meets_by}
use Rattle.meaning.specs.Reduce.{reduce, reduce_f, dropped}
use Rattle.meaning.specs.Degree.{degree}
use Rattle.meaning.specs.Requirement.{Requirement, fulfils}

-- ---- for a degree

-- the first of greatest v: of x and those after it, and of a list
unfoldable pub first_best : {A : Type 0} → (A → ℕ) → A → List A → A
first_best v x [] = x
first_best v x (y ∷ ys) = first_best v (cond (ltb (v x) (v y)) y x) ys

unfoldable pub pick : {A : Type 0} → (A → ℕ) → List A → Option A
unfolding first_best
pick v [] = nowhere
pick v (x ∷ xs) = some (first_best v x xs)

-- a written node is dropped, or goes to an item or nowhere
pub data Mark (N : Type 0) : Type 0 where
  out : Mark N
  goes : Option N → Mark N

module _ {N : Type 0} (G : Graph N) where
  -- "A child goes to the lowest-numbered among the successors of greatest degree, even where that is 0." Its parent goes to the first argument.
  unfoldable pub goes_to : Option N → ℕ → Concept → Option N
  unfolding pick
  goes_to nowhere r t = nowhere
  goes_to (some x) r t = pick (λ y. degree G (reduce t) y) (G.next x r)

  unfoldable mutual
    unfolding goes_to dropped under reduce nodes

    pub shown : Concept → Option N → List (Mark N)
    shown (node a f) o = goes o ∷ shown_f f none o

    -- before the children f the children b are written
    pub shown_f : Forest ℕ → Forest ℕ → Option N → List (Mark N)
    shown_f none b o = []
    shown_f (more r t f) b o =
        cond (dropped (under r (reduce_f b)) (reduce t) (under r (reduce_f f))) (replicate (nodes t) out) (shown t (goes_to o r t)) ++ shown_f f (more r t b) o

-- "the item that it goes to; 65,535 where the parent is unmapped or has no such successor; before either, 65,534 for a dropped node"
abbrev pub mark_number : Mark ℕ → ℕ
mark_number out = 65534
mark_number (goes nowhere) = 65535
mark_number (goes (some i)) = i

abbrev pub degree_map : Graph ℕ → Concept → ℕ → List ℕ
degree_map G t x = map mark_number (shown G t (some x))

-- ---- for a yes

unfoldable pub first : {A : Type 0} → (A → Bool) → List A → Option A
first p [] = nowhere
first p (x ∷ xs) = cond (p x) (some x) (first p xs)

abbrev pub from : {A B : Type 0} → Option A → (A → List B) → List B
from nowhere k = []
from (some y) k = k y

module _ {L N : Type 0} (fits : L → N → Bool) (G : Graph N) where
  -- "For a yes: the lowest-numbered successor that meets the child."
  unfoldable mutual
    unfolding first meets_by

    pub yes_by : Tree L → N → List N
    yes_by (node a f) x = x ∷ yes_by_f f x

    pub yes_by_f : Forest L → N → List N
    yes_by_f none x = []
    yes_by_f (more r t f) x = from (first (λ y. meets_by fits G t y) (G.next x r)) (λ y. yes_by t y) ++ yes_by_f f x

abbrev pub yes_map : Graph ℕ → Requirement → ℕ → List ℕ
yes_map G = yes_by (fulfils G) G
