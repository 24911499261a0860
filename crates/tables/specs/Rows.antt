-- The rows of a table, one for each written node, with a place for each item: what is asked where a child's row is folded into its parent's, what a
-- row holds once all are, and what is left where a tree's rows are filled.
-- Assumes nothing.
use Rattle.std.specs.Prelude.{◌≡◌, Bool, true, false, cond, List, ℕ, ◌+◌, ◌*◌, ◌≤◌, ◌<◌, length, get_or}
use Rattle.std.proofs.lemmas.List.Edits.{sets}
use Rattle.meaning.specs.Tree.{Concept}
use Rattle.meaning.specs.Register.{Register, withdrawn, targets, judged}
use Rattle.meaning.specs.Degree.{or_one, best}
use Rattle.meaning.specs.Table.{table}
use Rattle.meaning.specs.InPlace.{scale_in, table_in}
use Rattle.register.specs.Image.{Image}
use Rattle.graph.specs.Walked.{walked}
use Rattle.sorted.specs.Order.{Sorted}
use Rattle.rows.specs.declared.Reduced.{Reduced}
use Rattle.degrees.specs.Gradable.{Gradable}
use Rattle.tables.specs.declared.Survey.{Survey}

-- the names of each item, one after the other
pub record Names (s : List ℕ) (items : ℕ) (held : List ℕ) : Type 0 where
  pub room : items ≤ length held
  pub each : Image s (λ g. (x : ℕ) → x < items → get_or held x 0 ≡ (walked g).names x)

-- if it is said that all items are in service, they are
abbrev pub Served : List ℕ → ℕ → Bool → Type 0
Served s items served = served ≡ true → Image s (λ g. (x : ℕ) → x < items → withdrawn g x ≡ false)

-- a row of numbers from a place on
abbrev pub row_at : List ℕ → ℕ → ℕ → ℕ
row_at table at x = get_or table (at + x) 0

-- of the ends of each item's links under a role, the greatest number in the row from a place on
abbrev pub row_tops : {s : List ℕ} {items : ℕ} {begins order : List ℕ} → Sorted s items begins order → ℕ → ℕ → List ℕ → ℕ → ℕ
row_tops c role from table x = best (row_at table from) (targets c.register.links x role)

-- the number of an item in the row from a place on, with a child's tops folded in
abbrev pub folded : List ℕ → ℕ → ℕ → ℕ → (ℕ → ℕ) → ℕ → ℕ
folded table at scale product tops x = row_at table at x * scale + tops x * product

-- and once all children are folded in, where n names and children are counted: 0 at an item that is out, and 1 elsewhere if none is counted
abbrev pub closed : (ℕ → Bool) → ℕ → List ℕ → ℕ → ℕ → ℕ
closed out n table at x = cond (out x) 0 (or_one n (row_at table at x))

-- the register's links are in order, and a reduced tree at a row is put to it
abbrev pub SortedIn : Survey → Type 0
SortedIn over = Sorted over.image.now over.items over.links.begins.now over.links.order.now

abbrev pub TabledIn : Survey → Reduced → ℕ → ℕ → Type 0
TabledIn over of node left = Gradable (SortedIn over) of.tree.names of.tree.roles of.tree.ends of.marks node left

-- what is asked: both rows stand in the table, and the sums fit
pub record Folding (s : List ℕ) (items : ℕ) (begins order : List ℕ) (role from at scale product : ℕ) (table : List ℕ) : Type 0 where
  pub in_order : Sorted s items begins order
  pub from-fits : from + items ≤ length table
  pub at-fits : at + items ≤ length table
  pub sums-fit : (x : ℕ) → x < items → folded table at scale product (row_tops in_order role from table) x < 4294967296

abbrev pub FoldingIn : Survey → ℕ → ℕ → ℕ → ℕ → ℕ → List ℕ → Type 0
FoldingIn over = Folding over.image.now over.items over.links.begins.now over.links.order.now

-- the rows of a tree are filled, and nothing else has changed
pub record Worked {s : List ℕ} {items : ℕ} {begins order names roles ends marks : List ℕ} {node left : ℕ}
    (k : Gradable (Sorted s items begins order) names roles ends marks node left) (scale : ℕ) (old new : List ℕ) : Type 0 where
  pub scaled : scale ≡ scale_in k.tree
  pub filled : new ≡ sets old (node * items) (table_in (walked k.posed.graph.register) (withdrawn k.posed.graph.register) items k.tree)

-- the whole table of a tree, over the graph that is judged, stands at the front, and nothing else has changed
pub record Whole (items : ℕ) (g : Register) (t : Concept) (scale : ℕ) (old new : List ℕ) : Type 0 where
  pub scaled : scale ≡ scale_in t
  pub filled : new ≡ sets old 0 (table (judged g) (withdrawn g) items t)
