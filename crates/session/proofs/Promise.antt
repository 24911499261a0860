-- Each promise of a session's calls allows one result: what is handed back, and the buffer afterwards.
-- Assumes nothing.
use mathlib.Core.Path.{◌≡◌}
use mathlib.Core.List.{List}
use Prim.Native.Nat.{ℕ}
use Rattle.std.specs.Prelude.{Result}
use Rattle.meaning.specs.declared.Refusal.{Refusal}
use Rattle.meaning.specs.declared.Step.{Step}
use Rattle.meaning.specs.Session.{Edit}
use Rattle.fields.proofs.Once.{Apart, paper_told, once, once-left}
use Rattle.session.specs.declared.Edited.{Edited}
use Rattle.session.specs.Calls.{Counted, paper_count, paper_edit, OpenPromise, EditPromise, UndoPromise, KeepPromise}

-- the document's words tell all results apart
pub count-told : Apart paper_count
count-told = paper_told

pub edit-told : Apart paper_edit
edit-told = paper_told

pub one-open : (s : List ℕ) (r q : Counted) (t u : List ℕ) → OpenPromise s r t → OpenPromise s q u → (r ≡ q) × (t ≡ u)
one-open s = once-left paper_count count-told _ _

pub one-edit : (s : List ℕ) (log count : ℕ) (e : Edit) (r q : Result Edited Refusal) (t u : List ℕ) → EditPromise s log count e r t → EditPromise s log count e q u
    → (r ≡ q) × (t ≡ u)
one-edit s log count e = once-left paper_edit edit-told _ _

pub one-undo : (s : List ℕ) (log count : ℕ) (last : Step) (r q : Counted) (t u : List ℕ) → UndoPromise s log count last r t → UndoPromise s log count last q u
    → (r ≡ q) × (t ≡ u)
one-undo s log count last = once-left paper_count count-told _ _

pub one-keep : (s : List ℕ) (log count : ℕ) (r q : Counted) → KeepPromise s log count r → KeepPromise s log count q → r ≡ q
one-keep s log count = once paper_count count-told _
