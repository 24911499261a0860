-- `svelgandur::svelgandur_read_requirement` meets its contract: the numbers written are those of the reading, which is meaning's.
-- Assumes nothing.
use mathlib.Core.Path.{◌∙◌}
use Rattle.answers.proofs.Messages.{message-told}
use Rattle.svelgandur.proofs.svelgandur_read_requirement.Goals as goal

pub returns : goal.returns
returns c =
    c.of.ensures ∙ message-told _ c.read.result c.read.ensures
