-- The calls one after another, on the face whose log is numbers: what the promise of each says of its result, from what the last one left.
-- proofs/Played.antt shows that such results, whatever they are, follow meaning's history, so that demand 3 holds of the calls themselves.
-- Assumes nothing.
use Rattle.std.specs.Prelude.{◌≡◌, List, [], ◌∷◌, map, ℕ, ◌-◌, length, get_or}
use Rattle.meaning.specs.Bytes.{Bytes}
use Rattle.meaning.specs.Session.{Session, Call, opens, edits, undoes, keeps, open_call, edit_call, undo_call, keep_call}
use Rattle.meaning.specs.Session.{no_steps, counted, buffer_opened, buffer_after, count_after, kept_if}
use Rattle.numbered.specs.Coded.{decoded, numbers_after}
use Rattle.session.specs.Calls.{Counted, paper_count, an_edit}

-- what a call is handed: the buffer, the log, and the count in use
pub record Lent : Type 0 where
  pub buffer : List ℕ
  pub log : List ℕ
  pub count : ℕ

abbrev pub lent : List ℕ → List ℕ → ℕ → Lent
lent b l n = record { buffer = b; log = l; count = n }

-- the session that is lent: its log is the steps that the numbers code
abbrev pub steps : Lent → Session
steps s = record { buffer = s.buffer; log = map decoded s.log; count = s.count }

-- The promise of each call: r is what it handed back, t what is lent afterwards. What a call is lent for reading, or not at all, stays.
abbrev pub Promised : Lent → Call → Counted → Lent → Type 0
Promised s opens r t =
    (paper_count r ≡ no_steps (open_call s.buffer))
    × (t.buffer ≡ buffer_opened s.buffer (open_call s.buffer))
    × (t.log ≡ s.log)
Promised s (edits e) r t =
    (paper_count r ≡ counted (edit_call s.buffer (length s.log) s.count (an_edit e.fact e.adds)))
    × (t.buffer ≡ buffer_after s.buffer (edit_call s.buffer (length s.log) s.count (an_edit e.fact e.adds)))
    × (t.log ≡ numbers_after s.log s.count e.fact (edit_call s.buffer (length s.log) s.count (an_edit e.fact e.adds)))
Promised s undoes r t =
    (paper_count r ≡ counted (undo_call s.buffer (length s.log) s.count (decoded (get_or s.log (s.count - 1) 0))))
    × (t.buffer ≡ buffer_after s.buffer (undo_call s.buffer (length s.log) s.count (decoded (get_or s.log (s.count - 1) 0))))
    × (t.log ≡ s.log)
Promised s keeps r t =
    (paper_count r ≡ no_steps (keep_call s.buffer (length s.log) s.count))
    × (t.buffer ≡ s.buffer)
    × (t.log ≡ s.log)

-- What the contracts of `edit`, `undo` and `keep` say, and with `session::open` that of an opening: a call of a buffer of bytes.
-- "the count in use is handed over and handed back"; after a refusal "the step count stays".
pub record Called (s : Lent) (c : Call) (r : Counted) (t : Lent) : Type 0 where
  pub bytes : Bytes s.buffer
  pub promised : Promised s c r t
  pub handed : t.count ≡ count_after s.count (paper_count r)

-- a call with what it handed back
pub record Result : Type 0 where
  pub call : Call
  pub answer : Counted

-- any calls with results that keep the promises, each from what the last one left
unfoldable pub Played : Lent → List Result → Lent → Type 0
Played s [] t = t ≡ s
Played s (x ∷ xs) t = (u : Lent) × Called s x.call x.answer u × Played u xs t

abbrev pub calls : List Result → List Call
calls = map (λ (x : Result). x.call)

-- the calls that were accepted, as their results say
unfoldable pub taken : List Result → List Call
taken [] = []
taken (x ∷ xs) = kept_if (paper_count x.answer) x.call (taken xs)
