-- The numbers of a message that was read, and of the place of an inner concept.
-- Assumes nothing.
use mathlib.Core.Path.{◌≡◌, refl, ap, ◌∙◌}
use mathlib.Core.List.{List}
use Prim.Native.Nat.{ℕ}
use native.Mathlib.Omega.{arith}
use Rattle.std.specs.Prelude.{Result, Ok, Err, Option, Some, None}
use Rattle.meaning.specs.declared.Refusal.{Refusal}
use Rattle.meaning.specs.Refusal.{Answer, good, refused}
use Rattle.meaning.specs.Rules.{paper}
use Rattle.meaning.specs.Requirement.{Requirement}
use Rattle.meaning.specs.Message.{Part, read_requirement}
use Rattle.requirement.specs.declared.Message.{Message}
use Rattle.requirement.specs.Message.{paper_message, counted}
use Rattle.parts.specs.declared.Place.{Place}
use Rattle.answers.specs.Numbers.{numbers, written, sizes, place_numbers}
use Rattle.answers.proofs.Numbers.{nth, pair}

-- what the reader hands back has the numbers of what the document reads
pub message-told : (s : List ℕ) (r : Result Message Refusal) → paper_message r ≡ counted (read_requirement s)
    → numbers sizes (paper r) ≡ numbers written (read_requirement s)
message-told s r h = told r ∙ ap (numbers pair) h ∙ same (read_requirement s)
  where
    told : (m : Result Message Refusal) → numbers sizes (paper m) ≡ numbers pair (paper_message m)
    told (Ok m) = refl
    told (Err f) = refl

    same : (a : Answer (Requirement × List Part)) → numbers pair (counted a) ≡ numbers written a
    same (good x) = refl
    same (refused f) = refl

-- ---- the numbers of two places are the same only where the places are

pub places-apart : (p q : Option Place) → place_numbers p ≡ place_numbers q → p ≡ q
places-apart (Some p) (Some q) e = same (nth 1 e) (nth 2 e)
  where
    same : {a b m n : ℕ} → a ≡ b → m ≡ n → ◌≡◌ {A = Option Place} (Some (record { start = a; len = m })) (Some (record { start = b; len = n }))
    same e f = cc
places-apart (Some p) None e = let z : ◌≡◌ {A = ℕ} 1 0 = nth 0 e in absurd (omega arith)
places-apart None (Some q) e = let z : ◌≡◌ {A = ℕ} 0 1 = nth 0 e in absurd (omega arith)
places-apart None None e = refl
