-- The tests of the drop rule, over rows.
-- Assumes nothing.
use Rattle.std.specs.Prelude.{◌≡◌, Bool, ◌&&◌, ◌||◌, not, List, ℕ, eqb, get_or}
use Rattle.meaning.specs.Tree.{Concept, under}
use Rattle.meaning.specs.Whole.{any}
use Rattle.meaning.specs.Reduce.{subsumes, dropped}
use Rattle.reduction.specs.Held.{Held, HeldF, ForTree, ForTrees}

-- "drop child i when another child j is subsumed by child i and either the converse fails or j stands earlier": child i for child j
unfoldable pub yields : Bool → Concept → Concept → Bool
yields earlier i j = subsumes i j && (earlier || not (subsumes j i))

module _ (names roles ends : List ℕ) (left : ℕ) where
  -- two trees, at c and at d
  pub record Two (c d : ℕ) : Type 0 where
    pub one : Held names roles ends left c
    pub other : Held names roles ends left d

  -- a test of the two
  abbrev pub Tests : (Concept → Concept → Bool) → ℕ → ℕ → Bool → Type 0
  Tests p c d b = ForTree names roles ends left c (λ t. ForTree names roles ends left d (λ u. b ≡ p t u))

  -- the same, and that both stand under the same role
  abbrev pub TestsLike : (Concept → Concept → Bool) → ℕ → ℕ → Bool → Type 0
  TestsLike p c d b = Tests (λ t u. eqb (get_or roles c 0) (get_or roles d 0) && p t u) c d b

  -- a tree at c, and others from i up to e
  pub record Among (c i e : ℕ) : Type 0 where
    pub one : Held names roles ends left c
    pub others : HeldF names roles ends left i e

  -- a test of the tree at c and some one of the others under its role
  abbrev pub TestsOne : (Concept → Concept → Bool) → ℕ → ℕ → ℕ → Bool → Type 0
  TestsOne p c i e b = ForTree names roles ends left c (λ t. ForTrees names roles ends left i e (λ f. b ≡ any (λ u. p t u) (under (get_or roles c 0) f)))

  -- the child at c, of the children from i up to e
  pub record Sibling (i c e : ℕ) : Type 0 where
    pub before : HeldF names roles ends left i c
    pub here : Held names roles ends left c
    pub after : HeldF names roles ends left (get_or ends c 0) e

  -- whether it is dropped
  abbrev pub TestsDropped : ℕ → ℕ → ℕ → Bool → Type 0
  TestsDropped i c e d =
      ForTrees names roles ends left i c (λ b. ForTree names roles ends left c (λ t. ForTrees names roles ends left (get_or ends c 0) e (λ f.
      d ≡ dropped (under (get_or roles c 0) b) t (under (get_or roles c 0) f))))
