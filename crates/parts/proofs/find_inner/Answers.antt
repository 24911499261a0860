-- `parts::find_inner` meets its contract: the threshold's row gives its first byte, and the message its length.
-- Assumes nothing.
use native.Mathlib.Omega.{arith}
use Rattle.std.proofs.Common.{rules}
use Rattle.fields.proofs.Known.{bytes-known}
use Rattle.parts.proofs.Standing.{found, found_none, found-room, found-place, found-inside}
use Rattle.parts.proofs.find_inner.Goals as goal

pub returns-then-message-k-clause-value : goal.returns-then-message-k-clause-value
returns-then-message-k-clause-value c =
    let s = c.args.s.now in
    found_none s _ _ (found s _ _ c.in-Ok.ensures) c.args.k c.if-message-k.true

pub two-requires : goal.two-requires
two-requires c =
    let s = c.args.s.now in
    omega (arith, found-room s (bytes-known s c.type_inv.s) _ _ (found s _ _ c.in-Ok.ensures) c.args.k c.if-message-k.false _ c.of.ensures.firsts c.from-first.result (search rules))

pub returns-clause-value : goal.returns-clause-value
returns-clause-value c =
    let s = c.args.s.now in
    found-place s (bytes-known s c.type_inv.s) _ _ (found s _ _ c.in-Ok.ensures) c.args.k c.if-message-k.false _ c.of.ensures.firsts c.from-first.result (search rules) _ c.two.ensures.value

pub returns-clause-len_in_bounds : goal.returns-clause-len_in_bounds
returns-clause-len_in_bounds c =
    let s = c.args.s.now in
    found-inside s (bytes-known s c.type_inv.s) _ _ (found s _ _ c.in-Ok.ensures) c.args.k c.if-message-k.false _ c.of.ensures.firsts c.from-first.result (search rules) _ c.two.ensures.value
