-- `session::edit` meets its contract: an accepted edit has a place in the log, and its record is written there.
-- Assumes nothing.
use Rattle.std.proofs.Common.{rules, arith}
use Rattle.std.proofs.lemmas.Result.{err_from_is_err_and}
use Rattle.fields.proofs.Known.{bytes-known}
use Rattle.session.proofs.Answered.{none_written, one_written, has-place}
use Rattle.session.proofs.edit.Goals as goal

pub returns-in_err-edited : goal.returns-in_err-edited
returns-in_err-edited g c =
    let p = err_from_is_err_and c.from_residual.result c.from_residual.ensures.1 in
    let q = none_written g.R.Record.of c.args.s.now c.args.log.now c.args.count c.args.fact c.args.adds _ c.in_err-edited.ensures.0 in
    rw (p.1, p.2) (q.0, c.in_err-edited.ensures.1, q.1)

pub of-requires : goal.of-requires
of-requires g c = (has-place g.R.Record.of c.args.s.now c.args.log.now c.args.count c.args.fact c.args.adds _ c.in_ok-edited.ensures.0 (bytes-known c.args.s.now c.slice_known-1.given)).1

pub offset_bounds-log-count : goal.offset_bounds-log-count
offset_bounds-log-count g c =
    let h = (has-place g.R.Record.of c.args.s.now c.args.log.now c.args.count c.args.fact c.args.adds _ c.in_ok-edited.ensures.0 (bytes-known c.args.s.now c.slice_known-1.given)).0 in search rules

pub bounds-log-count : goal.bounds-log-count
bounds-log-count g c =
    omega (arith, (has-place g.R.Record.of c.args.s.now c.args.log.now c.args.count c.args.fact c.args.adds _ c.in_ok-edited.ensures.0 (bytes-known c.args.s.now c.slice_known-1.given)).0)

pub returns : goal.returns
returns g c =
    let q = one_written g.R.Record.of c.args.s.now c.args.log.now c.args.count c.args.fact c.args.adds _ c.in_ok-edited.ensures.0 in (q.0, c.in_ok-edited.ensures.1, rw c.of.ensures q.1)
