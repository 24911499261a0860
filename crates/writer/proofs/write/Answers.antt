-- `writer::write` meets its contract: each end of the call.
-- Assumes nothing.
use mathlib.Core.Path.{sym, ◌∙◌}
use native.Mathlib.Omega.{arith}
use Rattle.std.proofs.lemmas.Result.{err_from_is_err_and}
use Rattle.writer.proofs.Ends.{no-lists, unfit, too_short, writes}
use Rattle.writer.proofs.write.Goals as goal

pub returns-then-not-form : goal.returns-then-not-form
returns-then-not-form c =
    rw c.of_call.ensures (no-lists _ _ _ _ (sym (rw c.new-of.ensures at c.form.ensures) ∙ c.if-not-form.true))

pub returns-in_err-fit : goal.returns-in_err-fit
returns-in_err-fit c =
    let formed = sym (rw c.new-of.ensures at c.form.ensures) ∙ c.if-not-form.false in
    let p = err_from_is_err_and c.from_residual.result c.from_residual.ensures.1 in
    rw (p.1, p.2) (unfit _ _ _ _ formed _ (rw c.new-of.ensures at c.in_err-fit.ensures))

pub returns-then-out-len : goal.returns-then-out-len
returns-then-out-len c =
    let formed = sym (rw c.new-of.ensures at c.form.ensures) ∙ c.if-not-form.false in
    let len = rw c.new-of.ensures at c.message_len-len.ensures in
    rw c.of_call-then-out-len.ensures (too_short _ _ _ _ formed (rw c.new-of.ensures at c.in_ok-fit.ensures) (omega (arith, len)))

pub returns : goal.returns
returns c =
    let formed = sym (rw c.new-of.ensures at c.form.ensures) ∙ c.if-not-form.false in
    writes _ _ _ _ formed (rw c.new-of.ensures at c.in_ok-fit.ensures) _ (rw c.new-of.ensures at c.message_len-len.ensures) (omega (arith, c.if-out-len.false)) _
    (rw c.new-of.ensures at c.put_message.ensures)
