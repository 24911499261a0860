-- What each call from C promises of the four numbers, and of what it was lent for writing: the last argument is the numbers that it wrote.
-- Assumes nothing.
use Rattle.std.specs.Prelude.{◌≡◌, Bool, List, ℕ, ◌-◌, length, get_or}
use Rattle.meaning.specs.declared.Fact.{Fact}
use Rattle.meaning.specs.Register.{read_register_by}
use Rattle.meaning.specs.Message.{read_requirement}
use Rattle.meaning.specs.Calls.{degree_call, after_degree, margin_call, member_call, after_member}
use Rattle.meaning.specs.Session.{open_call, edit_call, undo_call, keep_call, no_steps, counted, buffer_opened, buffer_after}
use Rattle.meaning.specs.Table.{list_call, after_list}
use Rattle.meaning.specs.Writing.{write_call, after_write}
use Rattle.fields.specs.Head.{wrong_in}
use Rattle.register.specs.Reading.{counted as counted_items}
use Rattle.parts.specs.Inner.{inner_place}
use Rattle.asking.specs.Answers.{told}
use Rattle.tabling.specs.Answers.{told as list_told}
use Rattle.deciding.specs.Answers.{said}
use Rattle.session.specs.Calls.{an_edit}
use Rattle.writer.specs.Promise.{long}
use Rattle.numbered.specs.Coded.{decoded, numbers_after}
use Rattle.answers.specs.Numbers.{numbers, counts, is_session, written, place_numbers, degree_numbers, list_numbers, margin_numbers, verdicts, in_use}

-- ---- reading

abbrev pub RegisterPromise : List ℕ → ℕ → List ℕ → Type 0
RegisterPromise image session l = l ≡ numbers counts (counted_items (read_register_by (wrong_in (is_session session)) image))

abbrev pub RequirementPromise : List ℕ → List ℕ → Type 0
RequirementPromise message l = l ≡ numbers written (read_requirement message)

abbrev pub InnerPromise : List ℕ → ℕ → List ℕ → Type 0
InnerPromise message k l = l ≡ place_numbers (inner_place k (read_requirement message))

-- ---- writing, with the output before and after

abbrev pub WritePromise : List ℕ → List ℕ → List ℕ → List ℕ → List ℕ → List ℕ → Type 0
WritePromise nodes hs inner old new l =
    (l ≡ numbers in_use (long (write_call nodes hs inner (length old)))) × (new ≡ after_write old (write_call nodes hs inner (length old)))

-- ---- asking, with the map or the table before and after

abbrev pub DegreePromise : List ℕ → List ℕ → ℕ → List ℕ → List ℕ → List ℕ → Type 0
DegreePromise image message item old new l =
    (l ≡ numbers degree_numbers (told (degree_call image message item (length old)))) × (new ≡ after_degree old (degree_call image message item (length old)))

abbrev pub ListPromise : List ℕ → List ℕ → List ℕ → List ℕ → List ℕ → Type 0
ListPromise image message old new l =
    (l ≡ numbers list_numbers (list_told (list_call image message (length old)))) × (new ≡ after_list old (list_call image message (length old)))

abbrev pub MarginPromise : List ℕ → List ℕ → ℕ → ℕ → ℕ → List ℕ → Type 0
MarginPromise image message item p q l = l ≡ numbers margin_numbers (margin_call image message item p q)

abbrev pub MemberPromise : List ℕ → List ℕ → ℕ → List ℕ → List ℕ → List ℕ → Type 0
MemberPromise image message item old new l =
    (l ≡ numbers verdicts (said (member_call image message item (length old)))) × (new ≡ after_member old (member_call image message item (length old)))

-- ---- a session: the buffer and the log before and after

abbrev pub OpenPromise : List ℕ → List ℕ → List ℕ → Type 0
OpenPromise b b' l = (l ≡ numbers in_use (no_steps (open_call b))) × (b' ≡ buffer_opened b (open_call b))

abbrev pub EditPromise : List ℕ → List ℕ → ℕ → Fact → Bool → List ℕ → List ℕ → List ℕ → Type 0
EditPromise b log count fact adds b' log' l =
    (l ≡ numbers in_use (counted (edit_call b (length log) count (an_edit fact adds))))
    × (b' ≡ buffer_after b (edit_call b (length log) count (an_edit fact adds)))
    × (log' ≡ numbers_after log count fact (edit_call b (length log) count (an_edit fact adds)))

abbrev pub UndoPromise : List ℕ → List ℕ → ℕ → List ℕ → List ℕ → Type 0
UndoPromise b log count b' l =
    (l ≡ numbers in_use (counted (undo_call b (length log) count (decoded (get_or log (count - 1) 0)))))
    × (b' ≡ buffer_after b (undo_call b (length log) count (decoded (get_or log (count - 1) 0))))

abbrev pub KeepPromise : List ℕ → List ℕ → ℕ → List ℕ → Type 0
KeepPromise b log count l = l ≡ numbers in_use (no_steps (keep_call b (length log) count))
