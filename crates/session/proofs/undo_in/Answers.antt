-- `session::undo_in` meets its contract.
-- Assumes nothing.
use Rattle.std.proofs.lemmas.Result.{err_from_is_err_and}
use Rattle.session.proofs.Answered.{read-sizes, undo-unread, undo-17, undo-19, undo-range, undo-role, undo-full, undo-done}
use Rattle.session.proofs.undo_in.Goals as goal
use Rattle.session.proofs.undo_in.Goals.{then-out_of_range-via-then-out_of_range, then-out_of_range-via-else-out_of_range+then-role_above}

pub returns-in_err-size : goal.returns-in_err-size
returns-in_err-size c =
    let p = err_from_is_err_and c.from_residual.result c.from_residual.ensures.1 in
    rw (p.1, p.2) (undo-unread _ _ _ _ _ c.in_err-size.ensures)

pub returns-then-min-count : goal.returns-then-min-count
returns-then-min-count c = undo-17 _ _ _ _ c.min.ensures _ _ (read-sizes _ _ c.slice_known-1.given c.in_ok-size.ensures) _ c.if-min-count.true c.of_call.ensures

pub returns-then-count-eq0 : goal.returns-then-count-eq0
returns-then-count-eq0 c = undo-19 _ _ _ _ c.min.ensures _ _ (read-sizes _ _ c.slice_known-1.given c.in_ok-size.ensures) c.if-min-count.false _ c.if-count-eq0.true c.of_call-then-count-eq0.ensures

pub returns-then-out_of_range : goal.returns-then-out_of_range
returns-then-out_of_range c =
    let a = read-sizes _ _ c.slice_known-1.given c.in_ok-size.ensures in elim c.then-out_of_range.branch [
      | then-out_of_range-via-then-out_of_range w ↦
          undo-range _ _ _ _ c.min.ensures _ _ a c.if-min-count.false c.if-count-eq0.false c.out_of_range.ensures _ w.if-out_of_range.true c.of_call-then-out_of_range.ensures
      | then-out_of_range-via-else-out_of_range+then-role_above w ↦
          undo-role _ _ _ _ c.min.ensures _ _ a c.if-min-count.false c.if-count-eq0.false c.out_of_range.ensures w.if-out_of_range.false w.role_above.ensures _ w.if-role_above.true
          c.of_call-then-out_of_range.ensures
    ]

pub set_fact-set-requires-clause-of_size : goal.set_fact-set-requires-clause-of_size
set_fact-set-requires-clause-of_size c = read-sizes _ _ c.slice_known-1.given c.in_ok-size.ensures

pub returns-in_err-ok_or : goal.returns-in_err-ok_or
returns-in_err-ok_or c =
    let p = err_from_is_err_and c.from_residual-in_err-ok_or.result c.from_residual-in_err-ok_or.ensures.1 in
    rw (p.1, p.2) (undo-full _ _ _ _ c.min.ensures _ _ (read-sizes _ _ c.slice_known-1.given c.in_ok-size.ensures) c.if-min-count.false c.if-count-eq0.false c.out_of_range.ensures
    c.if-out_of_range.false c.role_above.ensures c.if-role_above.false _ _ c.set_fact-set.ensures _ _ c.in_err-ok_or.ensures.value c.of_call-2.ensures)

pub returns : goal.returns
returns c =
    undo-done _ _ _ _ c.min.ensures _ _ (read-sizes _ _ c.slice_known-1.given c.in_ok-size.ensures) c.if-min-count.false c.if-count-eq0.false c.out_of_range.ensures
    c.if-out_of_range.false c.role_above.ensures c.if-role_above.false _ _ c.set_fact-set.ensures _ _ c.in_ok-ok_or.ensures.value
