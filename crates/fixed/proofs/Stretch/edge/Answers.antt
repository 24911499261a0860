-- `fixed::Stretch::edge` meets its contract: 1 and 7 as the readers of children give them.
-- Assumes nothing.
use Prim.Native.Nat.{◌+◌, ◌≤◌, ◌<◌}
use native.Mathlib.Omega.{arith}
use Rattle.meaning.specs.Bytes.{number}
use Rattle.fixed.proofs.Nodes.{children-cut, children-role}
use Rattle.fixed.proofs.Stretch.edge.Goals as goal

pub returns-then-self-at-lt1 : goal.returns-then-self-at-lt1
returns-then-self-at-lt1 c =
    let a = c.args in
    let h : a.self.now.end < a.at + 1 = omega (arith, c.if-self-at-lt1.true, c.requires) in
    λ inner left k n ps l. rw c.at.ensures (children-cut inner a.self.now.bytes.now a.self.now.end a.at n ps left k l h)

pub returns-then-role-gt-MOST_ROLE : goal.returns-then-role-gt-MOST_ROLE
returns-then-role-gt-MOST_ROLE c =
    let a = c.args in
    let fits : a.at + 1 ≤ a.self.now.end = omega (arith, c.if-self-at-lt1.false, c.requires) in
    let above : 31 < number a.self.now.bytes.now a.at 1 = omega (arith, c.if-role-gt-MOST_ROLE.true, c.one-role.ensures.value) in
    λ inner left k n ps l. rw c.at-then-role-gt-MOST_ROLE.ensures (children-role inner a.self.now.bytes.now a.self.now.end a.at n ps left k l fits above)
