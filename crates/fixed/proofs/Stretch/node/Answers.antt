-- `fixed::Stretch::node` meets its contract: 1, 9, 10, 11 as the reader of a node gives them, and what stands there where none is given.
-- Assumes nothing.
use mathlib.Core.Path.{◌≡◌, refl}
use mathlib.Core.Logic.{inl, inr}
use Prim.Native.Nat.{◌+◌, ◌≤◌, ◌<◌}
use native.Mathlib.Omega.{arith}
use Rattle.meaning.specs.Bytes.{number}
use Rattle.meaning.proofs.Reading.{below, not-below}
use Rattle.fixed.proofs.Nodes.{node-cut-end, node-deep, node-many, node-forbidden}
use Rattle.fixed.proofs.Stretch.node.Goals as goal

pub returns-then-self-at-lt10 : goal.returns-then-self-at-lt10
returns-then-self-at-lt10 c =
    let a = c.args in
    λ ps. node-cut-end a.inner a.self.now.bytes.now a.self.now.end a.at a.n ps a.left _ c.cut.ensures

pub returns-then-left-eq0 : goal.returns-then-left-eq0
returns-then-left-eq0 c =
    let a = c.args in
    let fits : a.at + 10 ≤ a.self.now.end = omega (arith, c.if-self-at-lt10.false, c.requires) in
    let z : a.left ≡ 0 = omega (arith, c.if-left-eq0.true) in
    λ ps. rw c.at.ensures (node-deep a.inner a.self.now.bytes.now a.self.now.end a.at a.n ps fits a.left z)

pub returns-then-n-ge-MOST_NODES : goal.returns-then-n-ge-MOST_NODES
returns-then-n-ge-MOST_NODES c =
    let a = c.args in
    let fits : a.at + 10 ≤ a.self.now.end = omega (arith, c.if-self-at-lt10.false, c.requires) in
    let deep : 0 < a.left = omega (arith, c.if-left-eq0.false) in
    let many : 64 ≤ a.n = omega (arith, c.if-n-ge-MOST_NODES.true) in
    λ ps. rw c.at-then-n-ge-MOST_NODES.ensures (node-many a.inner a.self.now.bytes.now a.self.now.end a.at a.n ps fits a.left deep many)

pub returns-then-thresholds-gt0 : goal.returns-then-thresholds-gt0
returns-then-thresholds-gt0 c =
    let a = c.args in
    let fits : a.at + 10 ≤ a.self.now.end = omega (arith, c.if-self-at-lt10.false, c.requires) in
    let deep : 0 < a.left = omega (arith, c.if-left-eq0.false) in
    let room : a.n < 64 = omega (arith, c.if-n-ge-MOST_NODES.false) in
    let count = number a.self.now.bytes.now (a.at + 8) 1 in
    let some' : 0 < count = omega (arith, c.if-thresholds-gt0.true, c.one-thresholds.ensures.value) in
    let forbidden = node-forbidden a.inner a.self.now.bytes.now a.self.now.end a.at a.n in
    λ ps. rw c.at-then-thresholds-gt0.ensures (forbidden ps fits room a.left deep (rw c.if-inner.true (below _ _ some')))

pub returns : goal.returns
returns c =
    let a = c.args in record {
      fits = omega (arith, c.if-self-at-lt10.false, c.requires);
      deep = omega (arith, c.if-left-eq0.false);
      room = omega (arith, c.if-n-ge-MOST_NODES.false);
      free = elim c.else-inner.either [
        | inl w ↦ (
            let k : number a.self.now.bytes.now (a.at + 8) 1 ≤ 0 = omega (arith, w.1, c.one-thresholds.ensures.value) in
            rw w.0 (not-below _ _ k)
            )
        | inr w ↦ rw w refl
      ];
      names = c.eight.ensures;
      thresholds = c.one-thresholds.ensures.value;
      children = c.one.ensures.value;
    }
