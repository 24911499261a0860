-- The calls one after another, on the face whose log is step records: what the promise of each says of its result, from what the last one left.
-- proofs/Played.antt shows that such results, whatever they are, follow meaning's history, so that demand 3 holds of the calls themselves.
-- Assumes nothing.
use Rattle.std.specs.Prelude.{◌≡◌, List, [], ◌∷◌, map, ℕ}
use Rattle.meaning.specs.declared.Step.{Step}
use Rattle.meaning.specs.Session.{Session, Call, answer, next, kept_if}
use Rattle.session.specs.Calls.{Counted, paper_count}

abbrev pub session : List ℕ → List Step → ℕ → Session
session b l n = record { buffer = b; log = l; count = n }

-- What the contracts of `edit`, `undo` and `keep` say, on both faces, and with `session::open` that of an opening: a call on s hands back r, which is
-- meaning's answer, and leaves t, which is what meaning says is next. What a call is lent for reading, or not at all, stays. "the count in use is
-- handed over and handed back"; after a refusal "the step count stays".
abbrev pub Promised : Session → Call → Counted → Session → Type 0
Promised s c r t = (paper_count r ≡ answer s c) × (t ≡ next s c)

-- any calls, each with what it handed back, that keep the promises, from s to t
unfoldable pub Played : Session → List (Call × Counted) → Session → Type 0
Played s [] t = t ≡ s
Played s (h ∷ hs) t = (m : Session) × Promised s h.0 h.1 m × Played m hs t

abbrev pub calls : List (Call × Counted) → List Call
calls hs = map (λ h. h.0) hs

-- the calls that were accepted, as their results say
unfoldable pub taken : List (Call × Counted) → List Call
taken [] = []
taken (h ∷ hs) = kept_if (paper_count h.1) h.0 (taken hs)
