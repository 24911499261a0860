-- A log of numbers is a log of steps: the log that an edit leaves, and the step that an undo is handed.
-- Assumes nothing.
use mathlib.Core.Path.{◌≡◌, refl, sym, ap, ◌∙◌, subst}
use mathlib.Core.Bool.{Bool}
use mathlib.Core.List.{List, [], ◌∷◌, map}
use Prim.Native.Nat.{ℕ, zero, suc, ◌-◌}
use lib.ListN.{length, get_or, set}
use lib.ListN.{get_or-map}
use Rattle.meaning.specs.Bounds.{most_items}
use Rattle.meaning.specs.declared.Fact.{Fact}
use Rattle.meaning.specs.declared.Step.{Step}
use Rattle.meaning.specs.declared.Refusal.{Refusal}
use Rattle.meaning.specs.Refusal.{Answer, good, refused}
use Rattle.meaning.specs.Bytes.{Bytes}
use Rattle.meaning.specs.Register.{is_fact}
use Rattle.meaning.specs.Session.{Changed, no_step, edit_call, log_after}
use Rattle.setting.specs.Setting.{Ranged}
use Rattle.session.specs.Calls.{Counted, an_edit, was_before, UndoPromise}
use Rattle.session.specs.Codes.{coded-back}
use Rattle.session.proofs.Answered.{has-place}
use Rattle.numbered.specs.Coded.{code_of, decoded, numbers_after}

-- ---- a log of numbers is a log of steps

pub last-decoded : (log : List ℕ) (k : ℕ) → get_or (map decoded log) k no_step ≡ decoded (get_or log k 0)
last-decoded log k = get_or-map decoded log k 0

map-set : (log : List ℕ) (k x : ℕ) → map decoded (set log k x) ≡ set (map decoded log) k (decoded x)
map-set [] k x = refl
map-set (y ∷ ys) zero x = refl
map-set (y ∷ ys) (suc k) x = ap (λ (z : List Step). decoded y ∷ z) (map-set ys k x)

pub numbers-decoded : (log : List ℕ) (count : ℕ) (f : Fact) (a : Answer Changed) → Ranged most_items f
    → map decoded (numbers_after log count f a) ≡ log_after (map decoded log) count f a
unfolding log_after
numbers-decoded log count f (good c) o = map-set log count _ ∙ ap (set (map decoded log) count) (coded-back f (is_fact c.before f) o)
numbers-decoded log count f (refused r) o = refl

unchanged-log : (log : List ℕ) (count : ℕ) (f : Fact) (r : Refusal) → map decoded (numbers_after log count f (refused r)) ≡ log_after (map decoded log) count f (refused r)
unfolding log_after
unchanged-log log count f r = refl

-- so the log of numbers that an edit leaves is the log of steps that it leaves
pub log-decoded : (s log : List ℕ) → Bytes s → (count : ℕ) (f : Fact) (v : Bool)
    → map decoded (numbers_after log count f (edit_call s (length log) count (an_edit f v))) ≡ log_after (map decoded log) count f (edit_call s (length log) count (an_edit f v))
log-decoded s log by count f v = go (edit_call s (length log) count (an_edit f v)) refl
  where
    go : (a : Answer Changed) → edit_call s (length log) count (an_edit f v) ≡ a → map decoded (numbers_after log count f a) ≡ log_after (map decoded log) count f a
    go (good c) e =
        numbers-decoded log count f (good c)
        (has-place (λ f w. code_of (record { fact = f; was = w })) s log count f v (record { was = is_fact c.before f; count = c.count }) (sym (ap (was_before f) e)) by).1
    go (refused r) e = unchanged-log log count f r

-- the step that an undo is handed
pub undo-face : (s log : List ℕ) (count : ℕ) (r : Counted) (t : List ℕ) → UndoPromise s (length log) count (get_or (map decoded log) (count - 1) no_step) r t
    → UndoPromise s (length log) count (decoded (get_or log (count - 1) 0)) r t
undo-face s log count r t = subst (λ (z : Step). UndoPromise s (length log) count z r t) (last-decoded log (count - 1))
