-- `recorded::keep` meets its contract: what the session promises on a log of records is what meaning's history says.
-- Assumes nothing.
use Rattle.recorded.proofs.Recorded.{keep-promised}
use Rattle.recorded.proofs.keep.Goals as goal

pub returns : goal.returns
returns c =
    keep-promised c.args.s.now c.args.log.now c.args.count _ c.keep.ensures
