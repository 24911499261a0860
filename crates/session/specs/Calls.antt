-- What the calls answer, in the document's words.
-- Assumes nothing.
use Rattle.std.specs.Prelude.{◌≡◌, Bool, List, ℕ, length, set, Result}
use Rattle.meaning.specs.declared.Fact.{Fact}
use Rattle.meaning.specs.declared.Step.{Step}
use Rattle.meaning.specs.declared.Refusal.{Refusal}
use Rattle.meaning.specs.Refusal.{Answer, good, refused}
use Rattle.meaning.specs.Rules.{paper}
use Rattle.meaning.specs.Register.{is_fact}
use Rattle.meaning.specs.Session.{Changed, Edit, open_call, edit_call, undo_call, keep_call, no_steps, counted, buffer_opened, buffer_after}
use Rattle.session.specs.declared.Edited.{Edited}

-- what a call hands back: the count of steps in use, or its refusal
abbrev pub Counted : Type 0
Counted = Result ℕ Refusal

abbrev pub paper_count : Counted → Answer ℕ
paper_count = paper

-- whether the fact was there before an edit, and the count
abbrev pub paper_edit : Result Edited Refusal → Answer Edited
paper_edit = paper

abbrev pub was_before : Fact → Answer Changed → Answer Edited
was_before f (good c) = good (record { was = is_fact c.before f; count = c.count })
was_before f (refused r) = refused r

abbrev pub an_edit : Fact → Bool → Edit
an_edit f v = record { fact = f; adds = v }

-- ---- the promises: what a call hands back, and the buffer afterwards; the log has so many records, of which `count` are in use

abbrev pub OpenPromise : List ℕ → Counted → List ℕ → Type 0
OpenPromise s r t = (paper_count r ≡ no_steps (open_call s)) × (t ≡ buffer_opened s (open_call s))

abbrev pub EditPromise : List ℕ → ℕ → ℕ → Edit → Result Edited Refusal → List ℕ → Type 0
EditPromise s log count e r t = (paper_edit r ≡ was_before e.fact (edit_call s log count e)) × (t ≡ buffer_after s (edit_call s log count e))

abbrev pub UndoPromise : List ℕ → ℕ → ℕ → Step → Counted → List ℕ → Type 0
UndoPromise s log count last r t = (paper_count r ≡ counted (undo_call s log count last)) × (t ≡ buffer_after s (undo_call s log count last))

abbrev pub KeepPromise : List ℕ → ℕ → ℕ → Counted → Type 0
KeepPromise s log count r = paper_count r ≡ no_steps (keep_call s log count)

-- ---- on a log of records, each made of a fact and whether the fact was there

-- "An accepted edit, also one that changes nothing, writes the record at the count"
abbrev pub records_after : {R : Type 0} → (Fact → Bool → R) → List R → ℕ → Fact → Answer Changed → List R
records_after of log count f (good c) = set log count (of f (is_fact c.before f))
records_after of log count f (refused r) = log

abbrev pub LogPromise : {R : Type 0} → List ℕ → (Fact → Bool → R) → List R → ℕ → Edit → Counted → List ℕ → List R → Type 0
LogPromise s of log count e r t l =
    (paper_count r ≡ counted (edit_call s (length log) count e))
    × (t ≡ buffer_after s (edit_call s (length log) count e))
    × (l ≡ records_after of log count e.fact (edit_call s (length log) count e))
