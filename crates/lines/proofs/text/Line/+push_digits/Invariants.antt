-- `lines::text::Line::push_digits` meets its contract: each call writes one digit less.
-- Assumes nothing.
use Rattle.lines.proofs.text.Line.+push_digits.Given as goal

abbrev pub decreases-push_digits : goal.decreases-push_digits
decreases-push_digits l = l.left
