-- `verdicts::judge` meets its contract: what stays of all items are those that meet the requirement.
-- Assumes nothing.
use Rattle.verdicts.proofs.All.{tabled}
use Rattle.verdicts.proofs.judge.Goals as goal

pub returns : goal.returns
returns c = λ k. tabled c.first-set.ensures (c.meet.ensures k)
