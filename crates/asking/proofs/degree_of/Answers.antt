-- `asking::degree_of` meets its contract: answer and map are those of the document's call, for every refusal too.
-- Assumes nothing.
use mathlib.Core.Path.{ap}
use native.Mathlib.Omega.{arith}
use Rattle.std.proofs.Common.{rules}
use Rattle.std.specs.Prelude.{Err}
use Rattle.std.proofs.lemmas.Result.{err_from_is_err_and}
use Rattle.fields.proofs.Known.{bytes-known}
use Rattle.shown.proofs.Entry.{graded-fits}
use Rattle.plain.proofs.Known.{known}
use Rattle.asking.proofs.Calls.{Mapped, told-no, told-yes, degree-stopped, gradable, was_read, counted, room, asks, degree-no-item, degree-no-room, degree-answer}
use Rattle.asking.proofs.degree_of.Goals as goal

pub returns-in_err-both : goal.returns-in_err-both
returns-in_err-both c =
    let p = err_from_is_err_and c.from_residual.result c.from_residual.ensures.1 in
    rw (p.1, p.2) (degree-stopped _ _ _ _ _ c.in_err-both.ensures)

pub refusal_of-requires : goal.refusal_of-requires
refusal_of-requires c = counted (known c.in_ok-both.ensures (bytes-known c.args.image.now c.type_inv.image))

pub returns-in_err-map_err : goal.returns-in_err-map_err
returns-in_err-map_err c =
    let w = known c.in_ok-both.ensures (bytes-known c.args.image.now c.type_inv.image) in
    let p = err_from_is_err_and c.from_residual-in_err-map_err.result c.from_residual-in_err-map_err.ensures.1 in
    let m : Mapped c.refusal_of.result (Err c.in_err-map_err.field-0.0) = search (rules, c.in_err-map_err.ensures.cases) in
    let q = told-no _ _ m in
    rw (p.1, p.2) (degree-no-item _ _ _ w _ c.refusal_of.ensures q.0 _ _ (ap Err q.1))

pub returns-then-map-both : goal.returns-then-map-both
returns-then-map-both c =
    let w = known c.in_ok-both.ensures (bytes-known c.args.image.now c.type_inv.image) in
    let i = asks _ _ _ w _ c.refusal_of.ensures (told-yes c.refusal_of.result _ c.in_ok-map_err.ensures.cases) in
    degree-no-room _ _ _ w i _ c.if-map-both.true _ (ap Err c.of_call.ensures)

pub invariant_of-read : goal.invariant_of-read
invariant_of-read c = record { read = was_read (known c.in_ok-both.ensures (bytes-known c.args.image.now c.type_inv.image)) }

pub shown_at-degree-requires : goal.shown_at-degree-requires
shown_at-degree-requires c =
    let w = known c.in_ok-both.ensures (bytes-known c.args.image.now c.type_inv.image) in
    let i = asks _ _ c.args.item w _ c.refusal_of.ensures (told-yes c.refusal_of.result _ c.in_ok-map_err.ensures.cases) in
    record { gradable = gradable w; node_in_bounds = (room w c.if-map-both.false, omega (arith, i.inside, w.held.items)) }

pub lowest-low-requires : goal.lowest-low-requires
lowest-low-requires c =
    let k = gradable (known c.in_ok-both.ensures (bytes-known c.args.image.now c.type_inv.image)) in
    (graded-fits k.posed.graph.register k.tree _ _ (c.shown_at-degree.ensures k).0).0

pub returns : goal.returns
returns c =
    let w = known c.in_ok-both.ensures (bytes-known c.args.image.now c.type_inv.image) in
    let i = asks _ _ _ w _ c.refusal_of.ensures (told-yes c.refusal_of.result _ c.in_ok-map_err.ensures.cases) in
    let d = c.shown_at-degree.ensures (gradable w) in
    degree-answer _ _ _ w i _ _ c.if-map-both.false _ _ d.0 c.lowest-low.ensures d.1
