-- `session::edit_in` meets its contract.
-- Assumes nothing.
use Rattle.std.proofs.lemmas.Result.{err_from_is_err_and}
use Rattle.session.proofs.Answered.{read-sizes, edit-unread, edit-17, edit-15, edit-7, edit-18, edit-full, edit-done}
use Rattle.session.proofs.edit_in.Goals as goal

pub returns-in_err-size : goal.returns-in_err-size
returns-in_err-size c =
    let p = err_from_is_err_and c.from_residual.result c.from_residual.ensures.1 in
    rw (p.1, p.2) (edit-unread _ _ _ _ _ _ c.in_err-size.ensures)

pub returns-then-room-count : goal.returns-then-room-count
returns-then-room-count c = edit-17 _ _ _ _ _ c.min-room.ensures _ _ (read-sizes _ _ c.slice_known-1.given c.in_ok-size.ensures) _ c.if-room-count.true c.of_call.ensures

pub returns-then-out_of_range : goal.returns-then-out_of_range
returns-then-out_of_range c =
    edit-15 _ _ _ _ _ c.min-room.ensures _ _ (read-sizes _ _ c.slice_known-1.given c.in_ok-size.ensures) c.if-room-count.false c.out_of_range.ensures _ c.if-out_of_range.true
    c.of_call-then-out_of_range.ensures

pub returns-then-role_above : goal.returns-then-role_above
returns-then-role_above c =
    edit-7 _ _ _ _ _ c.min-room.ensures _ _ (read-sizes _ _ c.slice_known-1.given c.in_ok-size.ensures) c.if-room-count.false c.out_of_range.ensures c.if-out_of_range.false
    c.role_above.ensures _ c.if-role_above.true c.of_call-then-role_above.ensures

pub returns-then-count-room : goal.returns-then-count-room
returns-then-count-room c =
    edit-18 _ _ _ _ _ c.min-room.ensures _ _ (read-sizes _ _ c.slice_known-1.given c.in_ok-size.ensures) c.if-room-count.false c.out_of_range.ensures c.if-out_of_range.false
    c.role_above.ensures c.if-role_above.false _ c.if-count-room.true c.of_call-then-count-room.ensures

pub set_fact-set-requires-clause-of_size : goal.set_fact-set-requires-clause-of_size
set_fact-set-requires-clause-of_size c = read-sizes _ _ c.slice_known-1.given c.in_ok-size.ensures

pub returns-in_err-was : goal.returns-in_err-was
returns-in_err-was c =
    let p = err_from_is_err_and c.from_residual-in_err-was.result c.from_residual-in_err-was.ensures.1 in
    rw (p.1, p.2) (edit-full _ _ _ _ _ c.min-room.ensures _ _ (read-sizes _ _ c.slice_known-1.given c.in_ok-size.ensures) c.if-room-count.false c.out_of_range.ensures
    c.if-out_of_range.false c.role_above.ensures c.if-role_above.false c.if-count-room.false _ _ c.set_fact-set.ensures _ _ c.in_err-was.ensures.value c.of_call-2.ensures)

pub returns : goal.returns
returns c =
    edit-done _ _ _ _ _ c.min-room.ensures _ _ (read-sizes _ _ c.slice_known-1.given c.in_ok-size.ensures) c.if-room-count.false c.out_of_range.ensures c.if-out_of_range.false
    c.role_above.ensures c.if-role_above.false c.if-count-room.false _ _ c.set_fact-set.ensures _ _ c.in_ok-was.ensures.value
