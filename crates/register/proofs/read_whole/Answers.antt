-- `register::read_whole` meets its contract: the head, and what stands under it.
-- Assumes nothing.
use mathlib.Core.Path.{sym, ◌∙◌}
use Rattle.std.proofs.lemmas.Result.{err_from_is_err_and}
use Rattle.meaning.specs.declared.Side.TheVariants.{Register as register}
use Rattle.fields.specs.Head.{wrong_in}
use Rattle.register.proofs.Whole.{whole-good, whole-refused}
use Rattle.register.proofs.read_whole.Goals as goal

pub returns-in_err-end : goal.returns-in_err-end
returns-in_err-end c =
    let p = err_from_is_err_and c.from_residual.result c.from_residual.ensures.1 in
    rw (p.1, p.2) (sym (whole-refused (wrong_in c.args.session) c.args.s.now _ (sym (c.in_err-end.ensures.result_value register))))

pub returns : goal.returns
returns c =
    c.read_body.ensures
    ∙ sym (whole-good (wrong_in c.args.session) c.args.s.now _ (sym (c.in_ok-end.ensures.result_value register)))
