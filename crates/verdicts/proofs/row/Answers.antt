-- `verdicts::row` meets its contract: `withdrawn`, or the line of what the table says of the item.
-- Assumes nothing.
use mathlib.Core.Path.{sym, ◌∙◌}
use Rattle.verdicts.proofs.Rows.{out-row, no_row, charted, yes-row}
use Rattle.verdicts.proofs.row.Goals as goal

pub returns-then-is_out : goal.returns-then-is_out
returns-then-is_out c =
    λ m k. c.withdrawn_line.ensures.text ∙ sym (out-row k c.requires.item_lt c.is_out.ensures c.if-is_out.true)

pub returns-then-not-contains : goal.returns-then-not-contains
returns-then-not-contains c =
    λ m k. c.no_line.ensures.text ∙ sym (no_row k c.requires.item_lt c.is_out.ensures c.if-is_out.false c.contains.ensures c.if-not-contains.true)

pub walk-requires : goal.walk-requires
walk-requires c =
    record {
      charted = charted c.requires.told.1 c.requires.item_lt c.is_out.ensures c.if-is_out.false c.contains.ensures c.if-not-contains.false;
      in_bounds = c.requires.told.1.posed.few;
    }

pub slice_bounds-yes_line-end : goal.slice_bounds-yes_line-end
slice_bounds-yes_line-end c =
    let row = yes-row c.requires.told.1 c.requires.item_lt c.is_out.ensures c.if-is_out.false c.contains.ensures c.if-not-contains.false
    c.walk.ensures c.from-nodes.ensures in row.3

pub returns : goal.returns
returns c = λ m k.
    let row = yes-row k c.requires.item_lt c.is_out.ensures c.if-is_out.false c.contains.ensures c.if-not-contains.false
    c.walk.ensures c.from-nodes.ensures in
    c.yes_line.ensures.text ∙ sym row.0
