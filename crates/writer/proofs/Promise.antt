-- What the promise of the writing call says of any result that it allows: which lists are taken and which refused with what, that a refusal changes no byte,
-- that what is written reads back as the requirement that the lists say, that a message is written again byte for byte, and that no two results are allowed.
-- Assumes nothing.
use mathlib.Core.Path.{◌≡◌, refl, sym, ap, ◌∙◌}
use mathlib.Core.Logic.{◌↔◌}
use mathlib.Core.List.{List}
use Prim.Native.Nat.{ℕ, ◌≤◌}
use lib.ListN.{length}
use lib.Seq.{sets}
use Rattle.meaning.specs.declared.Refusal.{Refusal}
use Rattle.meaning.specs.Refusal.{Answer, good, refused, ◌>>=◌}
use Rattle.meaning.specs.Bytes.{Bytes}
use Rattle.meaning.specs.Requirement.{Requirement}
use Rattle.meaning.specs.Message.{Part, read_requirement}
use Rattle.meaning.specs.Lists.{said, lists_of}
use Rattle.meaning.specs.Writing.{lists_in, node_numbers, limit_numbers, inner_numbers, write_call, after_write}
use Rattle.meaning.specs.WriteRows.{WriteTakes, WriteRow}
use Rattle.meaning.proofs.Reading.{not_good, good-inj}
use Rattle.meaning.proofs.Message.{parts_in}
use Rattle.meaning.proofs.Writing.{Words, written-reads, written-again}
use Rattle.meaning.proofs.WriteRows.{write-exactly}
use Rattle.fields.proofs.Once.{Apart, paper_told, once-left}
use Rattle.std.specs.Prelude.{Result, Ok, Err}
use Rattle.writer.specs.Promise.{paper_written, long, WritePromise}

-- ---- the document's words tell all results apart

pub written-told : Apart paper_written
written-told = paper_told

-- ---- lengths of answers

long-refused : (a : Answer (List ℕ)) (f : Refusal) → long a ≡ refused f → a ≡ refused f
unfolding long ◌>>=◌
long-refused (good m) f e = absurd (not_good (sym e))
long-refused (refused g) f e = let z : ◌≡◌ {A = Answer ℕ} (refused g) (refused f) = e in cc

refused-long : (a : Answer (List ℕ)) (f : Refusal) → a ≡ refused f → long a ≡ refused f
unfolding long ◌>>=◌
refused-long a f e = rw e refl

long-good : (a : Answer (List ℕ)) (n : ℕ) → long a ≡ good n → (m : List ℕ) × (a ≡ good m) × (length m ≡ n)
unfolding long ◌>>=◌
long-good (good m) n e = (m, refl, good-inj e)
long-good (refused g) n e = absurd (not_good e)

good-long : (a : Answer (List ℕ)) (m : List ℕ) → a ≡ good m → long a ≡ good (length m)
unfolding long ◌>>=◌
good-long a m e = rw e refl

-- ---- of any result

module _ (nodes hs inner old new : List ℕ) (r : Result ℕ Refusal) (w : WritePromise nodes hs inner old new r) where
  abbrev answer : Answer (List ℕ)
  answer = write_call nodes hs inner (length old)

  -- refused exactly when a row of the table holds, with that row's number
  pub write-refused : (f : Refusal) → (r ≡ Err f) ↔ WriteRow nodes hs inner (length old) f
  write-refused f = (
    (λ e. ((write-exactly nodes hs inner (length old)).refuses f).0 (long-refused answer f (sym w.0 ∙ ap paper_written e))),
    λ row. written-told r (Err f) (w.0 ∙ refused-long answer f (((write-exactly nodes hs inner (length old)).refuses f).1 row)),
  )

  -- and then no byte has changed
  pub refused-keeps : (f : Refusal) → r ≡ Err f → new ≡ old
  refused-keeps f e = w.1 ∙ ap (after_write old) (long-refused answer f (sym w.0 ∙ ap paper_written e))

  -- good exactly when none does
  pub write-good : ((n : ℕ) × (r ≡ Ok n)) ↔ WriteTakes nodes hs inner (length old)
  write-good = (
    (λ g.
        let m = long-good answer g.0 (sym w.0 ∙ ap paper_written g.1) in
        (write-exactly nodes hs inner (length old)).takes.0 (m.0, m.1)),
    λ t.
        let m = (write-exactly nodes hs inner (length old)).takes.1 t in
        (length m.0, written-told r (Ok (length m.0)) (w.0 ∙ good-long answer m.0 m.1)),
  )

  -- what is written, and that it reads back; bytes behind it are as they were
  pub write-says : Words nodes → Words inner → (n : ℕ) → r ≡ Ok n
      → (m : List ℕ) × (length m ≡ n) × (new ≡ sets old 0 m) × (read_requirement m ≡ good (said (lists_in nodes hs inner), parts_in (said (lists_in nodes hs inner))))
  write-says u v n e =
      let m = long-good answer n (sym w.0 ∙ ap paper_written e) in
      (m.0, m.2, w.1 ∙ ap (after_write old) m.1, written-reads nodes hs inner (length old) m.0 u v m.1)

-- a message that was read is written again byte for byte from the lists of what was read
pub write_again : (s : List ℕ) (q : Requirement) (ps : List Part) (old new : List ℕ) (r : Result ℕ Refusal) → Bytes s → read_requirement s ≡ good (q, ps)
    → length s ≤ length old → WritePromise (node_numbers (lists_of q).outer) (limit_numbers (lists_of q).limits) (inner_numbers (lists_of q).limits) old new r
    → (r ≡ Ok (length s)) × (new ≡ sets old 0 s)
write_again s q ps old new r b e l w =
    let a = written-again s q ps (length old) b e l in
    (written-told r (Ok (length s)) (w.0 ∙ good-long _ s a), w.1 ∙ ap (after_write old) a)

-- one result
pub one-write : (nodes hs inner old new new' : List ℕ) (r r' : Result ℕ Refusal) → WritePromise nodes hs inner old new r → WritePromise nodes hs inner old new' r'
    → (r ≡ r') × (new ≡ new')
one-write nodes hs inner old new new' r r' = once-left paper_written written-told _ _ _ _ _ _
