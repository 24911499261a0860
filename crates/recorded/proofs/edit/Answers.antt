-- `recorded::edit` meets its contract: what the session promises on a log of records is what meaning's history says.
-- Assumes nothing.
use Rattle.recorded.proofs.Recorded.{edit-promised}
use Rattle.recorded.proofs.edit.Goals as goal

pub returns : goal.returns
returns c =
    let a = c.args in edit-promised a.s.now a.log.now a.count a.fact a.adds c.edit.result _ _ c.edit.ensures
