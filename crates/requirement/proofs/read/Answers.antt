-- `requirement::read` meets its contract.
-- Assumes nothing.
use Rattle.requirement.proofs.Whole.{message-counted}
use Rattle.requirement.proofs.read.Goals as goal

pub returns : goal.returns
returns c =
    message-counted c.args.s.now _ _ c.read_message.ensures
