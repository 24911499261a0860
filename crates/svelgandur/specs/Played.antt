-- The calls of a session from C, one after another: what the promise of each says of the numbers that it wrote, from what the last one left.
-- proofs/Played.antt shows that such numbers, whatever they are, follow meaning's history, so that demand 3 holds of the calls from C.
-- Assumes nothing.
use Rattle.std.specs.Prelude.{◌≡◌, cond, List, [], ◌∷◌, ℕ, eqb, get_or, Ok, Err}
use Rattle.meaning.specs.declared.Side.{Side}
use Rattle.meaning.specs.declared.Side.TheVariants.{Register as register, Requirement as requirement, Call as call}
use Rattle.meaning.specs.Refusal.{at}
use Rattle.meaning.specs.Bytes.{Bytes}
use Rattle.meaning.specs.Session.{Call, opens, edits, undoes, keeps, count_after}
use Rattle.session.specs.Calls.{Counted, paper_count}
use Rattle.numbered.specs.Played.{Lent, Result}
use Rattle.svelgandur.specs.Promises.{OpenPromise, EditPromise, UndoPromise, KeepPromise}

-- What a caller reads in the four numbers: kind 0 is a refusal with side, number and place, any other a count of steps in use.
abbrev pub side_of : ℕ → Side
side_of n = cond (eqb n 0) register (cond (eqb n 1) requirement call)

abbrev pub heard : List ℕ → Counted
heard l = cond (eqb (get_or l 0 0) 0) (Err (at (side_of (get_or l 1 0)) (get_or l 2 0) (get_or l 3 0))) (Ok (get_or l 1 0))

-- the promise of each call, over all that is lent; what is lent for reading, or not at all, stays
abbrev pub Promised : Lent → Call → List ℕ → Lent → Type 0
Promised s opens l t = OpenPromise s.buffer t.buffer l × (t.log ≡ s.log)
Promised s (edits e) l t = EditPromise s.buffer s.log s.count e.fact e.adds t.buffer t.log l
Promised s undoes l t = UndoPromise s.buffer s.log s.count t.buffer l × (t.log ≡ s.log)
Promised s keeps l t = KeepPromise s.buffer s.log s.count l × (t.buffer ≡ s.buffer) × (t.log ≡ s.log)

-- A call of a buffer of bytes. "the count in use is handed over and handed back"; after a refusal "the step count stays".
pub record Called (s : Lent) (c : Call) (l : List ℕ) (t : Lent) : Type 0 where
  pub bytes : Bytes s.buffer
  pub promised : Promised s c l t
  pub handed : t.count ≡ count_after s.count (paper_count (heard l))

-- a call with the numbers that it wrote, and with what they say
pub record Numbers : Type 0 where
  pub call : Call
  pub answer : List ℕ

abbrev pub hear : Numbers → Result
hear x = record { call = x.call; answer = heard x.answer }

-- any calls with numbers that keep the promises, each from what the last one left
unfoldable pub Played : Lent → List Numbers → Lent → Type 0
Played s [] t = t ≡ s
Played s (x ∷ xs) t = (u : Lent) × Called s x.call x.answer u × Played u xs t
