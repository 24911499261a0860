-- `tabling::list_of` meets its contract: answer and table are those of the document's call, for every refusal too.
-- Assumes nothing.
use mathlib.Core.Path.{ap}
use native.Mathlib.Omega.{arith}
use Rattle.std.specs.Prelude.{Err}
use Rattle.std.proofs.lemmas.Result.{err_from_is_err_and}
use Rattle.fields.proofs.Known.{bytes-known}
use Rattle.plain.proofs.Known.{known}
use Rattle.tabling.proofs.Calls.{list-stopped, gradable, was_read, few, room, list-no-room, list-answer}
use Rattle.tabling.proofs.list_of.Goals as goal

pub returns-in_err-both : goal.returns-in_err-both
returns-in_err-both c =
    let p = err_from_is_err_and c.from_residual.result c.from_residual.ensures.1 in
    rw (p.1, p.2) (list-stopped _ _ _ _ c.in_err-both.ensures)

pub overflow_mul-nodes : goal.overflow_mul-nodes
overflow_mul-nodes c =
    omega (arith, few (known c.in_ok-both.ensures (bytes-known c.args.image.now c.type_inv.image)))

pub returns-then-table-nodes : goal.returns-then-table-nodes
returns-then-table-nodes c =
    let w = known c.in_ok-both.ensures (bytes-known c.args.image.now c.type_inv.image) in
    list-no-room w _ c.if-table-nodes.true _ (ap Err c.of_call.ensures)

pub invariant_of-read : goal.invariant_of-read
invariant_of-read c = record { read = was_read (known c.in_ok-both.ensures (bytes-known c.args.image.now c.type_inv.image)) }

pub whole-scale-requires : goal.whole-scale-requires
whole-scale-requires c =
    let w = known c.in_ok-both.ensures (bytes-known c.args.image.now c.type_inv.image) in
    record { gradable = gradable w; in_bounds = room w c.if-table-nodes.false }

pub returns : goal.returns
returns c =
    let w = known c.in_ok-both.ensures (bytes-known c.args.image.now c.type_inv.image) in
    list-answer w _ _ c.if-table-nodes.false _ (c.whole-scale.ensures (gradable w))
