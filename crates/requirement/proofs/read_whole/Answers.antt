-- `requirement::read_whole` meets its contract: the head, then the node at byte 3, then that nothing is left.
-- Assumes nothing.
use mathlib.Core.Path.{refl, sym}
use native.Mathlib.Omega.{arith}
use Rattle.std.proofs.lemmas.Result.{err_from_is_err_and}
use Rattle.meaning.specs.declared.Side.TheVariants.{Requirement as requirement}
use Rattle.fields.proofs.Known.{bytes-known}
use Rattle.requirement.proofs.Whole.{head-refused, whole-refused, whole-left, whole-good, head-short}
use Rattle.requirement.proofs.read_whole.Goals as goal

pub returns-in_err-end : goal.returns-in_err-end
returns-in_err-end c =
    let p = err_from_is_err_and c.from_residual.result c.from_residual.ensures.1 in
    rw (p.1, p.2) (head-refused c.args.s.now _ _ (sym (c.in_err-end.ensures.result_value requirement)))

pub returns-in_err-reached : goal.returns-in_err-reached
returns-in_err-reached c =
    let p = err_from_is_err_and c.from_residual-in_err-reached.result c.from_residual-in_err-reached.ensures.1 in
    rw (p.1, p.2) (whole-refused c.args.s.now _ _ _ (sym (c.in_ok-end.ensures.result_value requirement)) _ c.in_err-reached.ensures _ refl)

pub returns-then-reached-end : goal.returns-then-reached-end
returns-then-reached-end c =
    let z = c.if-reached-end.true in
    rw c.at.ensures (whole-left c.args.s.now _ _ _ (sym (c.in_ok-end.ensures.result_value requirement)) _ c.in_ok-reached.ensures _ _ _ refl (omega (arith, z)))

pub returns : goal.returns
returns c =
    let z = c.if-reached-end.false in
    whole-good c.args.s.now _ _ _ (sym (c.in_ok-end.ensures.result_value requirement)) _ c.in_ok-reached.ensures _ _ _ refl (omega (arith, z))

pub invariant_of-stretch : goal.invariant_of-stretch
invariant_of-stretch c =
    let s = c.args.s.now in
    let w = c.in_ok-end.ensures.ends_within in
    record { within = (w.1, head-short s _ (bytes-known s c.type_inv.s) (sym (c.in_ok-end.ensures.result_value requirement))) }
