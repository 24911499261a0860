-- `session::keep_in` meets its contract.
-- Assumes nothing.
use Rattle.std.proofs.lemmas.Result.{err_from_is_err_and}
use Rattle.session.proofs.Answered.{read-sizes, keep-unread, keep-17, keep-done}
use Rattle.session.proofs.keep_in.Goals as goal

pub returns-in_err-read : goal.returns-in_err-read
returns-in_err-read c =
    let p = err_from_is_err_and c.from_residual.result c.from_residual.ensures.1 in
    rw (p.1, p.2) (keep-unread _ _ _ _ c.in_err-read.ensures)

pub returns-then-min-count : goal.returns-then-min-count
returns-then-min-count c = keep-17 _ _ _ c.min.ensures _ _ (read-sizes _ _ c.type_inv.s c.in_ok-read.ensures) _ c.if-min-count.true c.of_call.ensures

pub returns-else-min-count : goal.returns-else-min-count
returns-else-min-count c = keep-done _ _ _ c.min.ensures _ _ (read-sizes _ _ c.type_inv.s c.in_ok-read.ensures) c.if-min-count.false
