-- `register::read_links` meets its contract: all links are right at once, or they are read one by one.
-- Assumes nothing.
use mathlib.Core.Path.{refl, sym}
use native.Mathlib.Omega.{arith}
use Rattle.register.proofs.Behind.{links-left, links-done}
use Rattle.register.proofs.read_links.Goals as goal

pub returns-then-start-links : goal.returns-then-start-links
returns-then-start-links c =
    let a = c.args in
    rw c.at.ensures (sym (links-left a.s.now a.end a.items a.links a.start (c.quick_links.ensures c.if-not-quick_links.false) _ refl (omega arith)))

pub returns : goal.returns
returns c =
    let a = c.args in
    sym (links-done a.s.now a.end a.items a.links a.start (c.quick_links.ensures c.if-not-quick_links.false) _ refl (omega arith))
