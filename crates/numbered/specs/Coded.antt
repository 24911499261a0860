-- The numbers of a log after an edit; which number a step is, session/specs/Coded.antt says.
-- Assumes nothing.
use Rattle.std.specs.Prelude.{List, ℕ}
use Rattle.meaning.specs.declared.Fact.{Fact}
use Rattle.meaning.specs.Refusal.{Answer}
use Rattle.meaning.specs.Session.{Changed}
use Rattle.session.specs.Calls.{records_after}
pub use Rattle.session.specs.Coded.{bit, coded, code_of, decoded}

abbrev pub numbers_after : List ℕ → ℕ → Fact → Answer Changed → List ℕ
numbers_after = records_after (λ f w. code_of (record { fact = f; was = w }))
