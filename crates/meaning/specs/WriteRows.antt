-- Document 02, §1, row by row, in the document's own numbers: what the writing call takes, and what it refuses with which number. "22 when a list is
-- empty, its depths form no tree .. or a threshold's node isn't in the list or is below the one before; 7, 9, 10 and 12 to 14 as in reading, after 22 and
-- before 21, all on the call's side." §2's 23 to 25 come after 13, as in reading.
-- Assumes nothing.
use Rattle.std.specs.Prelude.{◌≡◌, ◌⊎◌, true, false, ◌&&◌, List, [], ◌∷◌, ℕ, suc, ◌≤◌, ◌<◌, length}
use Rattle.meaning.specs.declared.Refusal.{Refusal}
use Rattle.meaning.specs.Refusal.{on_call}
use Rattle.meaning.specs.FractionRows.{FractionTakes, FractionRow}
use Rattle.meaning.specs.Reduce.{reduce, size}
use Rattle.meaning.specs.Message.{encode}
use Rattle.meaning.specs.Lists.{Listed, Limit, form, concept, said}
use Rattle.meaning.specs.Writing.{lists_in, whole}

-- ---- a node, the i-th of its list

-- 7: "role above 31"; "not read at the root"
abbrev pub RoleFits : ℕ → Listed ℕ → Type 0
RoleFits i x = 0 < i → x.role ≤ 31

pub record NodeTakes (i : ℕ) (x : Listed ℕ) : Type 0 where
  pub role : RoleFits i x
  pub depth : x.depth ≤ 16
  pub many : i < 64

pub data NodeRow (i : ℕ) (x : Listed ℕ) (f : Refusal) : Type 0 where
  role_above : 0 < i → 31 < x.role → f ≡ on_call 7 → NodeRow i x f
  too_deep : RoleFits i x → 16 < x.depth → f ≡ on_call 9 → NodeRow i x f
  too_many : RoleFits i x → x.depth ≤ 16 → 64 ≤ i → f ≡ on_call 10 → NodeRow i x f

-- the nodes of a list from the i-th on: a row of the first of them that has one
unfoldable pub NodesTake : ℕ → List (Listed ℕ) → Type 0
NodesTake i [] = Unit {0}
NodesTake i (x ∷ xs) = NodeTakes i x × NodesTake (suc i) xs

unfoldable pub NodesRow : ℕ → List (Listed ℕ) → Refusal → Type 0
NodesRow i [] f = ⊥
NodesRow i (x ∷ xs) f = NodeRow i x f ⊎ (NodeTakes i x × NodesRow (suc i) xs f)

-- ---- a threshold, the k-th of all

pub record LimitTakes (k : ℕ) (h : Limit) : Type 0 where
  pub few : k < 16
  pub how : h.how ≤ 3
  pub rule : FractionTakes h.p h.q
  pub inner : NodesTake 0 h.inner
  pub small : size (reduce (concept h.inner)) ≤ 60

pub data LimitRow (k : ℕ) (h : Limit) (f : Refusal) : Type 0 where
  seventeenth : 16 ≤ k → f ≡ on_call 12 → LimitRow k h f
  no_comparison : k < 16 → 3 < h.how → f ≡ on_call 13 → LimitRow k h f
  no_fraction : k < 16 → h.how ≤ 3 → FractionRow on_call h.p h.q f → LimitRow k h f
  bad_inner : k < 16 → h.how ≤ 3 → FractionTakes h.p h.q → NodesRow 0 h.inner f → LimitRow k h f
  too_large : k < 16 → h.how ≤ 3 → FractionTakes h.p h.q → NodesTake 0 h.inner → 60 < size (reduce (concept h.inner)) → f ≡ on_call 14
      → LimitRow k h f

-- those of the i-th node, of the thresholds from the k-th on
unfoldable pub OwnTake : ℕ → ℕ → List Limit → Type 0
OwnTake i k [] = Unit {0}
OwnTake i k (h ∷ hs) = (h.owner ≡ i → LimitTakes k h) × OwnTake i (suc k) hs

unfoldable pub OwnRow : ℕ → ℕ → List Limit → Refusal → Type 0
OwnRow i k [] f = ⊥
OwnRow i k (h ∷ hs) f = ((h.owner ≡ i) × LimitRow k h f) ⊎ ((h.owner ≡ i → LimitTakes k h) × OwnRow i (suc k) hs f)

-- ---- all lists: "a node's thresholds after the node and before its children"

unfoldable pub ListsTake : ℕ → List (Listed ℕ) → List Limit → Type 0
ListsTake i [] hs = Unit {0}
ListsTake i (x ∷ xs) hs = NodeTakes i x × OwnTake i 0 hs × ListsTake (suc i) xs hs

unfoldable pub ListsRow : ℕ → List (Listed ℕ) → List Limit → Refusal → Type 0
ListsRow i [] hs f = ⊥
ListsRow i (x ∷ xs) hs f = NodeRow i x f ⊎ (NodeTakes i x × OwnRow i 0 hs f) ⊎ (NodeTakes i x × OwnTake i 0 hs × ListsRow (suc i) xs hs f)

-- ---- the call

pub record WriteTakes (nodes hs inner : List ℕ) (room : ℕ) : Type 0 where
  pub forms : (whole nodes hs inner && form (lists_in nodes hs inner)) ≡ true
  pub fits : ListsTake 0 (lists_in nodes hs inner).outer (lists_in nodes hs inner).limits
  pub enough : length (encode (said (lists_in nodes hs inner))) ≤ room

pub data WriteRow (nodes hs inner : List ℕ) (room : ℕ) (f : Refusal) : Type 0 where
  no_lists : (whole nodes hs inner && form (lists_in nodes hs inner)) ≡ false → f ≡ on_call 22 → WriteRow nodes hs inner room f
  unread : (whole nodes hs inner && form (lists_in nodes hs inner)) ≡ true
      → ListsRow 0 (lists_in nodes hs inner).outer (lists_in nodes hs inner).limits f → WriteRow nodes hs inner room f
  short : (whole nodes hs inner && form (lists_in nodes hs inner)) ≡ true → ListsTake 0 (lists_in nodes hs inner).outer (lists_in nodes hs inner).limits
      → room < length (encode (said (lists_in nodes hs inner))) → f ≡ on_call 21 → WriteRow nodes hs inner room f
