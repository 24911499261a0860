-- What a call hands back has the numbers of the document's answer.
-- Assumes nothing.
use mathlib.Core.Path.{◌≡◌, refl}
use Prim.Native.Nat.{ℕ}
use Rattle.std.specs.Prelude.{Result, Ok, Err, Option, Some, None}
use Rattle.meaning.specs.declared.Refusal.{Refusal}
use Rattle.meaning.specs.Rules.{paper}
use Rattle.asking.specs.declared.Answered.{Answered}
use Rattle.asking.specs.declared.Margin.{Margin}
use Rattle.asking.specs.Answers.{paper_degree, paper_margin}
use Rattle.tabling.specs.declared.Listed.{Listed}
use Rattle.tabling.specs.Answers.{paper_list}
use Rattle.deciding.specs.Answers.{paper_verdict}
use Rattle.answers.specs.Numbers.{numbers, degree_numbers, margin_numbers, list_numbers, verdicts, answered_numbers, signed_numbers, listed_numbers, verdict_numbers}

pub degree-told : (r : Result Answered Refusal) → numbers answered_numbers (paper r) ≡ numbers degree_numbers (paper_degree r)
degree-told (Ok a) = refl
degree-told (Err f) = refl

pub margin-told : (r : Result Margin Refusal) → numbers signed_numbers (paper r) ≡ numbers margin_numbers (paper_margin r)
margin-told (Ok m) = refl
margin-told (Err f) = refl

pub list-told : (r : Result Listed Refusal) → numbers listed_numbers (paper r) ≡ numbers list_numbers (paper_list r)
list-told (Ok l) = refl
list-told (Err f) = refl

pub verdict-told : (r : Result (Option ℕ) Refusal) → numbers verdict_numbers (paper r) ≡ numbers verdicts (paper_verdict r)
verdict-told (Ok (Some n)) = refl
verdict-told (Ok None) = refl
verdict-told (Err f) = refl
