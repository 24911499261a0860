-- `svelgandur::yes_no::svelgandur_member` meets its contract: the numbers written are those of the verdict, and the map is the call's.
-- Assumes nothing.
use mathlib.Core.Path.{◌∙◌, ap}
use Rattle.answers.specs.Numbers.{numbers, verdicts}
use Rattle.answers.proofs.Told.{verdict-told}
use Rattle.svelgandur.proofs.yes_no.svelgandur_member.Goals as goal

pub returns : goal.returns
returns c =
    (c.of.ensures ∙ verdict-told c.decide.result ∙ ap (numbers verdicts) c.decide.ensures.0, c.decide.ensures.1)
