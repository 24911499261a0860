-- `deciding::decide` meets its contract: each end is that of the call.
-- Assumes nothing.
use mathlib.Core.Path.{refl, ap}
use mathlib.Core.Bool.{false}
use native.Mathlib.Omega.{arith}
use Rattle.std.proofs.lemmas.Result.{err_from_is_err_and}
use Rattle.meaning.specs.Rules.{told}
use Rattle.fields.proofs.Known.{bytes-known}
use Rattle.register.proofs.Holding.{size-read}
use Rattle.graph.proofs.Judging.{judged}
use Rattle.deciding.proofs.BothRead.{stands, required, settled-by}
use Rattle.deciding.proofs.Answered.{imaged, image-refused, image-unread, understood, message-refused, message-unread, items-known, asks, no-item, no_room_lem, rows_end, both_read, answers}
use Rattle.deciding.proofs.decide.Goals as goal

pub returns-in_err-items : goal.returns-in_err-items
returns-in_err-items c =
    let p = err_from_is_err_and c.from_residual.result c.from_residual.ensures.1 in
    rw (p.1, p.2) (image-unread _ _ _ _ _ (image-refused _ _ c.in_err-items.ensures))

pub returns-in_err-nodes : goal.returns-in_err-nodes
returns-in_err-nodes c =
    let p = err_from_is_err_and c.from_residual-in_err-nodes.result c.from_residual-in_err-nodes.ensures.1 in
    let i = imaged _ _ c.in_ok-items.ensures in
    rw (p.1, p.2) (message-unread _ _ _ _ i _ (message-refused _ _ _ c.in_err-nodes.ensures))

pub refusal_of-requires : goal.refusal_of-requires
refusal_of-requires c =
    items-known (imaged _ _ c.in_ok-items.ensures) (bytes-known c.args.image.now c.type_inv.image)

pub returns-in-Err : goal.returns-in-Err
returns-in-Err c =
    let i = imaged _ _ c.in_ok-items.ensures in
    let u = understood _ _ _ c.in_ok-nodes.ensures in
    rw c.of_call.ensures (no-item _ _ _ _ i u (bytes-known c.args.image.now c.type_inv.image) _ c.refusal_of.ensures _ c.in-Err.is)

pub returns-then-map-nodes : goal.returns-then-map-nodes
returns-then-map-nodes c =
    let b = bytes-known c.args.image.now c.type_inv.image in
    let i = imaged _ _ c.in_ok-items.ensures in
    let u = understood _ _ _ c.in_ok-nodes.ensures in
    let a = asks _ _ c.args.item c.args.map.now i u b _ c.refusal_of.ensures (ap told c.in_default.is) in
    rw c.of_call-then-map-nodes.ensures (no_room_lem _ _ _ _ i u a c.if-map-nodes.true)

pub invariant_of-new : goal.invariant_of-new
invariant_of-new c =
    record { read = size-read _ false _ (bytes-known c.args.image.now c.type_inv.image) c.in_ok-items.ensures }

pub settle-meets-requires : goal.settle-meets-requires
settle-meets-requires c =
    let b = bytes-known c.args.image.now c.type_inv.image in
    let i = imaged _ _ c.in_ok-items.ensures in
    let u = understood _ _ _ c.in_ok-nodes.ensures in
    let a = asks _ _ c.args.item c.args.map.now i u b _ c.refusal_of.ensures (ap told c.in_default.is) in
    let s = stands c.new-on.ensures.image c.of.ensures c.of-2.ensures in record {
      required = required (both_read i u b) s (bytes-known c.args.message.now c.type_inv.message) (judged c.new-on.result.judged);
      in_bounds = (omega (arith, a.inside, i.items-are, c.new-on.ensures.items), rw s.ends (omega (arith, rows_end i u)));
    }

pub returns : goal.returns
returns c =
    let b = bytes-known c.args.image.now c.type_inv.image in
    let i = imaged _ _ c.in_ok-items.ensures in
    let u = understood _ _ _ c.in_ok-nodes.ensures in
    let a = asks _ _ c.args.item c.args.map.now i u b _ c.refusal_of.ensures (ap told c.in_default.is) in
    let s = stands c.new-on.ensures.image c.of.ensures c.of-2.ensures in
    let j = judged c.new-on.result.judged in
    rw c.then_some.ensures (answers _ _ c.args.item c.args.map.now i u a c.if-map-nodes.false b _ _
    (λ k. settled-by k s j _ _ _ _ _ (c.settle-meets.ensures (required k s (bytes-known c.args.message.now c.type_inv.message) j))) c.settle-meets.result refl)
