-- `recorded::undo` meets its contract: what the session promises on a log of records is what meaning's history says.
-- Assumes nothing.
use Rattle.recorded.proofs.Recorded.{undo-promised}
use Rattle.recorded.proofs.undo.Goals as goal

pub returns : goal.returns
returns c =
    let a = c.args in undo-promised a.s.now a.log.now a.count c.undo.result _ c.undo.ensures
