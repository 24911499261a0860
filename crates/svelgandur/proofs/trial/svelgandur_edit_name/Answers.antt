-- `svelgandur::trial::svelgandur_edit_name` meets its contract: the numbers written, the buffer and the log are those of the call.
-- Assumes nothing.
use mathlib.Core.Path.{◌∙◌, ap}
use Rattle.answers.specs.Numbers.{numbers, in_use}
use Rattle.svelgandur.proofs.trial.svelgandur_edit_name.Goals as goal

pub returns : goal.returns
returns c =
    let edited = c.edit.ensures.promised in
    (c.of.ensures ∙ ap (numbers in_use) edited.0, edited.1, edited.2)
