-- `plain::read_both` meets its contract: the register, and then the plain requirement.
-- Assumes nothing.
use Rattle.std.proofs.lemmas.Result.{err_from_is_err_and}
use Rattle.plain.proofs.ReadBoth.{register-refused, both-refused, both-good}
use Rattle.plain.proofs.read_both.Goals as goal

pub returns-in_err-size : goal.returns-in_err-size
returns-in_err-size c =
    let p = err_from_is_err_and c.from_residual.result c.from_residual.ensures.1 in
    rw (p.1, p.2) (register-refused c.args.image.now c.args.message.now _ c.in_err-size.ensures)

pub returns-in_err-plain : goal.returns-in_err-plain
returns-in_err-plain c =
    let p = err_from_is_err_and c.from_residual-in_err-plain.result c.from_residual-in_err-plain.ensures.1 in
    rw (p.1, p.2) (both-refused c.args.image.now c.args.message.now _ c.in_ok-size.ensures _ c.in_err-plain.ensures)

pub returns : goal.returns
returns c =
    both-good c.args.image.now c.args.message.now _ c.in_ok-size.ensures _ c.in_ok-plain.ensures
