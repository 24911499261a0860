-- What the calls on a log of records promise is, of a log of steps, what meaning's history says.
-- Assumes nothing.
use mathlib.Core.Path.{◌≡◌, refl, ap, ◌∙◌, subst}
use mathlib.Core.Bool.{Bool}
use mathlib.Core.List.{List, [], ◌∷◌, map}
use Prim.Native.Nat.{ℕ, ◌-◌}
use lib.ListN.{length, get_or}
use Rattle.meaning.specs.declared.Fact.{Fact}
use Rattle.meaning.specs.declared.Step.{Step}
use Rattle.meaning.specs.Refusal.{Answer, good, refused}
use Rattle.meaning.specs.Session.{Changed, edit_call, log_after, no_step}
use Rattle.meaning.specs.Session.{edits, undoes, keeps, answer, count_after, next}
use Rattle.session.specs.Calls.{Counted, paper_count, an_edit, records_after, LogPromise, UndoPromise, KeepPromise}
use Rattle.recorded.specs.Played.{session, Promised}

-- the record of a step is the step
abbrev pub step : Fact → Bool → Step
step f w = record { fact = f; was = w }

written : (log : List Step) (count : ℕ) (f : Fact) (a : Answer Changed) → records_after step log count f a ≡ log_after log count f a
unfolding log_after
written log count f (good c) = refl
written log count f (refused r) = refl

as_they_are : (log : List Step) → map (λ s. s) log ≡ log
as_they_are [] = refl
as_they_are (s ∷ log) = ap (λ (z : List Step). s ∷ z) (as_they_are log)

same-session : {b c : List ℕ} {l m : List Step} {i j : ℕ} → b ≡ c → l ≡ m → i ≡ j → session b l i ≡ session c m j
same-session e f g = cc

pub edit-promised : (s : List ℕ) (log : List Step) (count : ℕ) (f : Fact) (v : Bool) (r : Counted) (t : List ℕ) (l : List Step)
    → LogPromise s step log count (an_edit f v) r t l → Promised (session s log count) (edits (an_edit f v)) r (session t l (count_after count (paper_count r)))
unfolding answer next Rattle.meaning.specs.Session.buffer Rattle.meaning.specs.Session.log
edit-promised s log count f v r t l p =
    (p.0, same-session p.1 (p.2 ∙ written log count f (edit_call s (length log) count (an_edit f v))) (ap (count_after count) p.0))

pub undo-promised : (s : List ℕ) (log : List Step) (count : ℕ) (r : Counted) (t : List ℕ)
    → UndoPromise s (length log) count (get_or (map (λ s. s) log) (count - 1) no_step) r t
    → Promised (session s log count) undoes r (session t log (count_after count (paper_count r)))
unfolding answer next Rattle.meaning.specs.Session.buffer Rattle.meaning.specs.Session.log
undo-promised s log count r t h =
    let p = subst (λ (z : List Step). UndoPromise s (length log) count (get_or z (count - 1) no_step) r t) (as_they_are log) h in
    (p.0, same-session p.1 refl (ap (count_after count) p.0))

pub keep-promised : (s : List ℕ) (log : List Step) (count : ℕ) (r : Counted) → KeepPromise s (length log) count r
    → Promised (session s log count) keeps r (session s log (count_after count (paper_count r)))
unfolding answer next Rattle.meaning.specs.Session.buffer Rattle.meaning.specs.Session.log
keep-promised s log count r p = (p, same-session refl refl (ap (count_after count) p))
