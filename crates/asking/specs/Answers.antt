-- What the calls answer, in the document's words, and what that is to be.
-- Assumes nothing.
use Rattle.std.specs.Prelude.{Result, Ok, Err, ℕ, length}
use Rattle.meaning.specs.declared.Refusal.{Refusal}
use Rattle.meaning.specs.Refusal.{Answer, good, refused, ◌>>=◌}
use Rattle.meaning.specs.Fraction.{Frac, ◌÷◌}
use Rattle.meaning.specs.Calls.{Found, Against}
use Rattle.asking.specs.declared.Answered.{Answered}
use Rattle.asking.specs.declared.Margin.{Margin}

-- ---- the degree: the fraction, and how many places of the map are written

pub record Told : Type 0 where
  pub degree : Frac
  pub places : ℕ

abbrev pub paper_degree : Result Answered Refusal → Answer Told
paper_degree (Ok a) = good (record { degree = a.num ÷ a.den; places = a.nodes })
paper_degree (Err r) = refused r

unfoldable pub told : Answer Found → Answer Told
told a = a >>= λ f. good (record { degree = f.degree; places = length f.map })

-- ---- the margin

abbrev pub paper_margin : Result Margin Refusal → Answer Against
paper_margin (Ok m) = good (record { margin = m.margin; over = m.over })
paper_margin (Err r) = refused r
