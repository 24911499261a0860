-- `svelgandur::svelgandur_read_register` meets its contract: the numbers written are those of the reading, which is meaning's.
-- Assumes nothing.
use mathlib.Core.Path.{◌∙◌, ap}
use Rattle.answers.specs.Numbers.{numbers, counts}
use Rattle.svelgandur.proofs.svelgandur_read_register.Goals as goal

pub returns : goal.returns
returns c =
    c.of.ensures ∙ ap (numbers counts) c.read.ensures
