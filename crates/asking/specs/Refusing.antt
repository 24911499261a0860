-- The document's table for the degree and the margin, row by row: what each call takes, and what it refuses with which number and place.
-- "A number is given exactly when its row holds and nothing earlier in the order below applies."
-- Assumes nothing.
use Rattle.std.specs.Prelude.{◌≡◌, Result, true, false, List, ℕ, ◌≤◌, ◌<◌, length}
use Rattle.meaning.specs.declared.Refusal.{Refusal}
use Rattle.meaning.specs.Refusal.{on_call}
use Rattle.meaning.specs.Tree.{Concept, nodes}
use Rattle.meaning.specs.Register.{withdrawn}
use Rattle.meaning.specs.Requirement.{bare}
use Rattle.meaning.specs.FractionRows.{FractionTakes, FractionRow}
use Rattle.meaning.specs.ListRows.{Readable, Unreadable}
use Rattle.meaning.specs.Calls.{degree_call, after_degree, margin_call}
use Rattle.asking.specs.declared.Answered.{Answered}
use Rattle.asking.specs.declared.Margin.{Margin}
use Rattle.asking.specs.Answers.{paper_degree, told, paper_margin}

-- ---- what both calls ask first

-- what is read (meaning's ListRows), and an item of the register that is in service
pub record Askable (image message : List ℕ) (item : ℕ) : Type 0 where
  pub readable : Readable image message
  pub inside : item < length readable.register.names
  pub serves : withdrawn readable.register item ≡ false

-- a row of both calls that gives the refusal f
pub data Early (image message : List ℕ) (item : ℕ) (f : Refusal) : Type 0 where
  unread : Unreadable image message f → Early image message item f
  no_item : (x : Readable image message) → length x.register.names ≤ item → f ≡ on_call 15 → Early image message item f
  -- document 02, §5: "26 when the asked item is withdrawn, directly after 15"
  is_withdrawn : (x : Readable image message) → item < length x.register.names → withdrawn x.register item ≡ true → f ≡ on_call 26 → Early image message item f

-- the plain requirement that is asked about
abbrev pub concept_of : {image message : List ℕ} {item : ℕ} → Askable image message item → Concept
concept_of x = bare x.readable.tree

-- ---- the degree

pub record DegreeTakes (image message : List ℕ) (item room : ℕ) : Type 0 where
  pub asked : Askable image message item
  pub fits : nodes (concept_of asked) ≤ room

pub data DegreeRow (image message : List ℕ) (item room : ℕ) (f : Refusal) : Type 0 where
  earlier : Early image message item f → DegreeRow image message item room f
  no_room : (x : Askable image message item) → room < nodes (concept_of x) → f ≡ on_call 16 → DegreeRow image message item room f

-- what the call promises of its result and of the lent map afterwards
abbrev pub DegreePromise : List ℕ → List ℕ → ℕ → List ℕ → List ℕ → Result Answered Refusal → Type 0
DegreePromise image message item old new r =
    (paper_degree r ≡ told (degree_call image message item (length old))) × (new ≡ after_degree old (degree_call image message item (length old)))

-- ---- the margin

pub record MarginTakes (image message : List ℕ) (item p q : ℕ) : Type 0 where
  pub asked : Askable image message item
  pub rule : FractionTakes p q

pub data MarginRow (image message : List ℕ) (item p q : ℕ) (f : Refusal) : Type 0 where
  before : Early image message item f → MarginRow image message item p q f
  no_threshold : Askable image message item → FractionRow on_call p q f → MarginRow image message item p q f

-- what the call promises of its result
abbrev pub MarginPromise : List ℕ → List ℕ → ℕ → ℕ → ℕ → Result Margin Refusal → Type 0
MarginPromise image message item p q r = paper_margin r ≡ margin_call image message item p q
