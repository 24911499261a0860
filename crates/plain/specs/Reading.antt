-- What reading leaves: a plain requirement in rows that are marked by the drop rule, and the register it is asked of.
-- Assumes nothing.
use Rattle.std.specs.Prelude.{◌≡◌, List, ℕ, ◌≤◌, length, Result, Ok, Err}
use Rattle.meaning.specs.declared.Refusal.{Refusal}
use Rattle.meaning.specs.Refusal.{Answer, good, refused, ◌>>=◌}
use Rattle.meaning.specs.Tree.{Concept, nodes}
use Rattle.meaning.specs.Register.{Register, read_register}
use Rattle.meaning.specs.Bounds.{most_levels, most_size}
use Rattle.meaning.specs.InPlace.{size_in}
use Rattle.meaning.specs.Rows.{Marked}
use Rattle.meaning.specs.Calls.{read_plain}
use Rattle.graph.specs.Posed.{Posed}
use Rattle.rows.specs.declared.Reduced.{Reduced}
use Rattle.plain.specs.declared.Plain.{Plain}
use Rattle.plain.specs.declared.Both.{Both}

-- the rows of a requirement
pub record Rows : Type 0 where
  pub names : List ℕ
  pub roles : List ℕ
  pub ends : List ℕ
  pub marks : List ℕ

abbrev pub rows : List ℕ → List ℕ → List ℕ → List ℕ → Rows
rows n r e m = record { names = n; roles = r; ends = e; marks = m }

abbrev pub rows_of : Reduced → Rows
rows_of r = rows r.tree.names r.tree.roles r.tree.ends r.marks

-- they hold the tree of a plain requirement, small enough for a degree, and are marked; of a register R is known
pub record PlainRows (R : Type 0) (A : Rows) (t : Concept) : Type 0 where
  pub posed : Posed R A.names A.roles A.ends t 0 most_levels
  pub marked : Marked A.ends A.marks t 0
  pub small : size_in t ≤ most_size

-- ---- the requirement

pub record PlainGood (t : Concept) (p : Plain) : Type 0 where
  pub written : p.nodes ≡ nodes t
  pub held : PlainRows (Unit {0}) (rows_of p.reduced) t

abbrev pub PlainOutcome : Answer Concept → Result Plain Refusal → Type 0
PlainOutcome (good t) (Ok p) = PlainGood t p
PlainOutcome (good t) (Err e) = ⊥
PlainOutcome (refused f) (Ok p) = ⊥
PlainOutcome (refused f) (Err e) = e ≡ f

abbrev pub PlainDone : List ℕ → Result Plain Refusal → Type 0
PlainDone message r = PlainOutcome (read_plain message) r

-- ---- the register, and then the requirement

unfoldable pub read_both : List ℕ → List ℕ → Answer (Register × Concept)
read_both image message = do
  g ← read_register image
  t ← read_plain message
  good (g, t)

pub record BothGood (image : List ℕ) (g : Register) (t : Concept) (b : Both) : Type 0 where
  pub items : b.size.items ≡ length g.names
  pub links : b.size.links ≡ length g.links
  pub written : b.plain.nodes ≡ nodes t
  pub held : PlainRows (read_register image ≡ good g) (rows_of b.plain.reduced) t

abbrev pub BothOutcome : List ℕ → Answer (Register × Concept) → Result Both Refusal → Type 0
BothOutcome image (good x) (Ok b) = BothGood image x.0 x.1 b
BothOutcome image (good x) (Err e) = ⊥
BothOutcome image (refused f) (Ok b) = ⊥
BothOutcome image (refused f) (Err e) = e ≡ f

abbrev pub BothDone : List ℕ → List ℕ → Result Both Refusal → Type 0
BothDone image message r = BothOutcome image (read_both image message) r
