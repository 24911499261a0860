-- What the promise of `read` says of any result that it allows: no two results are allowed.
-- Assumes nothing.
use mathlib.Core.Path.{◌≡◌, refl}
use mathlib.Core.List.{List}
use Prim.Native.Nat.{ℕ}
use Rattle.meaning.specs.Refusal.{Answer, good, refused}
use Rattle.meaning.specs.Message.{read_requirement}
use Rattle.fields.proofs.Once.{Apart, told_back, once}
use Rattle.requirement.specs.declared.Message.{Message}
use Rattle.meaning.specs.declared.Refusal.{Refusal}
use Rattle.std.specs.Prelude.{Result, Ok, Err}
use Rattle.requirement.specs.Message.{paper_message, counted}

abbrev back : Answer (ℕ × ℕ) → Result Message Refusal
back (good x) = Ok (record { nodes = x.0; parts = x.1 })
back (refused e) = Err e

-- the document's words tell all results apart
pub message-told : Apart paper_message
message-told = told_back paper_message back go
  where
    go : (r : Result Message Refusal) → back (paper_message r) ≡ r
    go (Ok m) = refl
    go (Err e) = refl

-- any two results that the promise allows are equal
pub one-message : (s : List ℕ) (r q : Result Message Refusal) → paper_message r ≡ counted (read_requirement s) → paper_message q ≡ counted (read_requirement s) → r ≡ q
one-message s = once paper_message message-told (counted (read_requirement s))
