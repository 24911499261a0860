-- `reduction::put` meets its contract.
-- Assumes nothing.
use Rattle.reduction.proofs.Marks.{put_one}
use Rattle.reduction.proofs.put.Goals as goal

pub returns : goal.returns
returns c =
    put_one _ _ _ c.requires
