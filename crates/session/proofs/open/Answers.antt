-- `session::open` meets its contract.
-- Assumes nothing.
use Rattle.std.proofs.Common.{rules, arith}
use Rattle.std.proofs.lemmas.Result.{err_from_is_err_and}
use Rattle.fields.proofs.Known.{bytes-known}
use Rattle.setting.proofs.Set.{sizes-fit}
use Rattle.session.proofs.Answered.{read-sizes, filled, open-unread, open_done}
use Rattle.session.proofs.open.Goals as goal

pub returns-in_err-size : goal.returns-in_err-size
returns-in_err-size c =
    let p = err_from_is_err_and c.from_residual.result c.from_residual.ensures.1 in
    rw (p.1, p.2) (open-unread _ _ c.in_err-size.ensures)

pub image_len-end-requires : goal.image_len-end-requires
image_len-end-requires c =
    let q = sizes-fit c.args.s.now (bytes-known c.args.s.now c.slice_known-1.given) _ _ (read-sizes _ _ c.slice_known-1.given c.in_ok-size.ensures) in (q.0, q.1)

pub slice_bounds-fill-count : goal.slice_bounds-fill-count
slice_bounds-fill-count c =
    let q = sizes-fit c.args.s.now (bytes-known c.args.s.now c.slice_known-1.given) _ _ (read-sizes _ _ c.slice_known-1.given c.in_ok-size.ensures) in
    omega (arith, q.2, c.image_len-end.ensures)

pub slice_bounds-fill-start : goal.slice_bounds-fill-start
slice_bounds-fill-start c =
    let q = sizes-fit c.args.s.now (bytes-known c.args.s.now c.slice_known-1.given) _ _ (read-sizes _ _ c.slice_known-1.given c.in_ok-size.ensures) in
    search (rules, q.2, c.image_len-end.ensures)

pub returns : goal.returns
returns c =
    let a = read-sizes _ _ c.slice_known-1.given c.in_ok-size.ensures in
    let q = sizes-fit c.args.s.now (bytes-known c.args.s.now c.slice_known-1.given) _ _ a in
    open_done _ _ _ _ _ c.slice_known-1.given a c.image_len-end.ensures
    (filled c.args.s.now c.image_len-end.result c.fill.new.self (omega (arith, q.2, c.image_len-end.ensures)) (c.fill.ensures.after (λ y h. h)))
