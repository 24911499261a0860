-- `svelgandur::trial::svelgandur_open` meets its contract: the numbers written and the buffer are those of the call.
-- Assumes nothing.
use mathlib.Core.Path.{◌∙◌, ap}
use Rattle.answers.specs.Numbers.{numbers, in_use}
use Rattle.svelgandur.proofs.trial.svelgandur_open.Goals as goal

pub returns : goal.returns
returns c =
    (c.of.ensures ∙ ap (numbers in_use) c.open.ensures.0, c.open.ensures.1)
