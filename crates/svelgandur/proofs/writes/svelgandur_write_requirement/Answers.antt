-- `svelgandur::writes::svelgandur_write_requirement` meets its contract: the numbers written are those of the call, and so is the output.
-- Assumes nothing.
use mathlib.Core.Path.{◌∙◌, ap}
use Rattle.answers.specs.Numbers.{numbers, in_use}
use Rattle.svelgandur.proofs.writes.svelgandur_write_requirement.Goals as goal

pub returns : goal.returns
returns c =
    (c.of.ensures ∙ ap (numbers in_use) c.write.ensures.0, c.write.ensures.1)
