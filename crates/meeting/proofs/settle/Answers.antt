-- `meeting::settle` meets its contract: the item meets the requirement where it stays of a set that has it alone.
-- Assumes nothing.
use Rattle.meeting.proofs.Settled.{one_in, settled-no, charted, settled-yes}
use Rattle.meeting.proofs.settle.Goals as goal

pub returns-then-not-contains : goal.returns-then-not-contains
returns-then-not-contains c = λ k.
    let there = one_in _ _ _ c.none-set.ensures c.insert.ensures in
    settled-no k _ _ _ _ _ _ (c.meet.ensures k) there c.contains.ensures c.if-not-contains.true _

pub walk-requires : goal.walk-requires
walk-requires c =
    let there = one_in _ _ _ c.none-set.ensures c.insert.ensures in
    let k = c.requires.required in record {
      charted = charted k _ _ _ _ _ _ (c.meet.ensures k) there c.contains.ensures c.if-not-contains.false c.requires.in_bounds.0;
      in_bounds = c.requires.in_bounds.1;
    }

pub returns : goal.returns
returns c = λ k.
    let there = one_in _ _ _ c.none-set.ensures c.insert.ensures in
    let done = c.meet.ensures k in
    let says = c.contains.ensures in
    let yes = c.if-not-contains.false in
    settled-yes k _ _ _ _ _ _ done there says yes _ _ (c.walk.ensures (charted k _ _ _ _ _ _ done there says yes c.requires.in_bounds.0))
