-- `links::quick_links` meets its contract: link after link passes by its number.
-- Assumes nothing.
use native.Mathlib.Omega.{arith}
use borrow.Author.Tests.{leb-true}
use Rattle.fields.proofs.Known.{bytes-known}
use Rattle.links.proofs.Rightly.{rest-all, rest-more, rest_none, rightly-all}
use Rattle.links.proofs.quick_links.Goals as goal

pub loop-k-init : goal.loop-k-init
loop-k-init c =
    rest-all _ _ _ _

pub loop-k-preserved : goal.loop-k-preserved
loop-k-preserved c =
    rest-more _ _ _ _ _ _ _ c.loop-k-test.true c.key_behind-number.ensures (c.wrong.ensures c.if-wrong.false) c.loop-k.invariant

pub returns : goal.returns
returns c =
    let a = c.args in
    λ h. rightly-all a.s.now a.items (bytes-known a.s.now c.type_inv.s) _ c.requires.2 _ _ (omega arith)
    (rest_none _ _ _ _ _ _ c.loop-k-test.false (leb-true _ _ h) c.loop-k.invariant)
