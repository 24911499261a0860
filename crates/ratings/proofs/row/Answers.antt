-- `ratings::row` meets its contract: `withdrawn`, or the line of what was worked out for the item.
-- Assumes nothing.
use mathlib.Core.Path.{sym, ◌∙◌}
use native.Mathlib.Omega.{arith}
use Rattle.ratings.proofs.Rows.{positive, drawing, out-row, row_is}
use Rattle.ratings.proofs.row.Goals as goal

pub returns-then-is_out : goal.returns-then-is_out
returns-then-is_out c =
    λ m w. c.withdrawn_line.ensures.text ∙ sym (out-row w _ c.requires.inside c.is_out.ensures c.if-is_out.true)

pub show-requires-clause-drawing : goal.show-requires-clause-drawing
show-requires-clause-drawing c =
    drawing c.requires.rated.1 _ c.requires.inside

pub lowest-degree-requires : goal.lowest-degree-requires
lowest-degree-requires c =
    positive c.requires.rated.1

pub returns : goal.returns
returns c =
    λ m w. c.degree_line.ensures.text
    ∙ sym (row_is w _ c.requires.inside _ c.show.new.map (omega arith) c.show.ensures _ c.from-nodes.ensures c.is_out.ensures c.if-is_out.false _ _ _
    c.from-number.ensures c.lowest-degree.ensures)
