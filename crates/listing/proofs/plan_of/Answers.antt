-- `listing::plan_of` meets its contract: what is planned, or the refusal.
-- Assumes nothing.
use Rattle.listing.proofs.Pieces.{opens-refused}
use Rattle.listing.proofs.plan_of.Goals as goal

pub returns-in-Err : goal.returns-in-Err
returns-in-Err c =
    opens-refused _ _ _ _ c.in-Err.ensures c.refusal_line.ensures.text
