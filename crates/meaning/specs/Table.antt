-- Document 02, §3, "The whole list sooner": the table of a list, and the call that fills it; with §5's withdrawn items.
-- Assumes nothing.
use Rattle.std.specs.Prelude.{Bool, cond, ℕ, zero, suc, ◌*◌, ltb, length}
use mathlib.Core.List.{List, [], ◌∷◌, ◌++◌}
use Rattle.std.proofs.lemmas.List.Edits.{sets}
use Rattle.meaning.specs.Refusal.{Answer, good, refused, on_call, refuse_if, ◌>>=◌, ◌>>◌}
use Rattle.meaning.specs.Tree.{node, Forest, none, more, Concept, nodes}
use Rattle.meaning.specs.Graph.{Graph}
use Rattle.meaning.specs.Register.{withdrawn, judged, read_register}
use Rattle.meaning.specs.Reduce.{reduce, kept, scale}
use Rattle.meaning.specs.Degree.{degree}
use Rattle.meaning.specs.Calls.{read_plain}

-- the tree at each written node, in reading order
unfoldable mutual
  pub trees : Concept → List Concept
  trees (node a f) = node a f ∷ trees_f f

  pub trees_f : Forest ℕ → List Concept
  trees_f none = []
  trees_f (more r t f) = trees t ++ trees_f f

-- f of 0, of 1 .., n of them
unfoldable pub up_to : ℕ → (ℕ → ℕ) → List ℕ
up_to zero f = []
up_to (suc n) f = up_to n f ++ (f n ∷ [])

module _ (G : Graph ℕ) (out : ℕ → Bool) (items : ℕ) where
  -- "the whole number over its scale that is a kept node's degree", and document 02, §5: "whose table holds 0 at a withdrawn item"
  abbrev pub placed : Concept → ℕ → ℕ
  placed t x = cond (out x) 0 (degree G (reduce t) x)

  -- "0 for a dropped node": of the tree t at a node, for each item
  abbrev pub row : Bool → Concept → List ℕ
  row is_kept t = up_to items (λ x. cond is_kept (placed t x) 0)

  -- the rows of some nodes, of which it is said which are kept
  unfoldable pub rows_of : List Bool → List Concept → List ℕ
  unfolding up_to
  rows_of [] ts = []
  rows_of (k ∷ ks) [] = []
  rows_of (k ∷ ks) (t ∷ ts) = row k t ++ rows_of ks ts

  -- "The table has a place for each written node at each item, node by node"
  abbrev pub table : Concept → List ℕ
  table t = rows_of (kept t) (trees t)

-- ---- the call

-- how many items and written nodes there are, the scale of the first row, and the table
pub record Tabled : Type 0 where
  pub items : ℕ
  pub nodes : ℕ
  pub scale : ℕ
  pub table : List ℕ

-- "The call takes no item and no map. Refusals: 16 here when the table is shorter than written nodes × items."
unfoldable pub list_call : List ℕ → List ℕ → ℕ → Answer Tabled
list_call image message room = do
  g ← read_register image
  t ← read_plain message
  refuse_if (ltb room (nodes t * length g.names)) (on_call 16)
  good (record { items = length g.names; nodes = nodes t; scale = scale (reduce t); table = table (judged g) (withdrawn g) (length g.names) t })

-- the lent table afterwards: "places behind stay", and a refusal changes none
abbrev pub after_list : List ℕ → Answer Tabled → List ℕ
after_list old (good a) = sets old 0 a.table
after_list old (refused r) = old
