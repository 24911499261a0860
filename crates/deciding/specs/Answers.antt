-- The yes/no call's answer, in the document's words.
-- Assumes nothing.
use Rattle.std.specs.Prelude.{ℕ, length, Option, Some, None, Result, Ok, Err}
use Rattle.meaning.specs.declared.Refusal.{Refusal}
use Rattle.meaning.specs.Refusal.{Answer, good, refused}
use Rattle.meaning.specs.Calls.{Decision, met, unmet}

-- yes, with how many places of the map are written, or no
pub data Said : Type 0 where
  yes : ℕ → Said
  no : Said

-- a decision, of which the map itself is lent
abbrev pub says : Decision → Said
says (met m) = yes (length m)
says unmet = no

abbrev pub said : Answer Decision → Answer Said
said (good d) = good (says d)
said (refused r) = refused r

-- what the call answers: a number of places, nothing, or the refusal
abbrev pub paper_verdict : Result (Option ℕ) Refusal → Answer Said
paper_verdict (Ok (Some n)) = good (yes n)
paper_verdict (Ok None) = good no
paper_verdict (Err r) = refused r
