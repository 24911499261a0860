-- `svelgandur::trial::svelgandur_keep` meets its contract: the numbers written are those of the call.
-- Assumes nothing.
use mathlib.Core.Path.{◌∙◌, ap}
use Rattle.answers.specs.Numbers.{numbers, in_use}
use Rattle.svelgandur.proofs.trial.svelgandur_keep.Goals as goal

pub returns : goal.returns
returns c =
    c.of.ensures ∙ ap (numbers in_use) c.keep.ensures.promised.0
