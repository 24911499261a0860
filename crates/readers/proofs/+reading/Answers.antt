-- The readers of a message meet their contracts. At each turn of the cycle the bytes left fall, or they stay and the reader's place in a round does.
-- Assumes nothing.
use mathlib.Core.Path.{refl}
use native.Mathlib.Omega.{arith}
use lib.ListN.{length-set}
use Rattle.std.proofs.lemmas.Result.{err_from_is_err_and}
use Rattle.readers.proofs.Turns.{start, child-read, threshold-read}
use Rattle.readers.proofs.Cycle.{children-empty, child-stops, node-stops, children-here, children-stop}
use Rattle.readers.proofs.Cycle.{children-end, node-then, thresholds-empty, first_stops, inner-stops, threshold-then}
use Rattle.readers.proofs.Cycle.{inner_first, inner-short, inner-rows, inner-big, inner-whole}
use Rattle.readers.proofs.+reading.Goals as goal

pub read_children-returns-in_err-here : goal.read_children-returns-in_err-here
read_children-returns-in_err-here t c =
    let a = c.args in
    let i = c.loop in
    let p = err_from_is_err_and c.from_residual-in_err-here.result c.from_residual-in_err-here.ensures.1 in
    rw (p.1, p.2) (i.invariant.rest _ _
    (child-stops a.inner a.stretch.now.bytes.now a.stretch.now.end a.left _ i.here.next i.here.nodes i.here.parts _ _ _ _ (omega (arith, c.loop-test.true)) c.in_ok-role.ensures
    c.in_err-here.ensures _ _ refl))

pub read_children-loop-preserved : goal.read_children-loop-preserved
read_children-loop-preserved t c =
    let a = c.args in
    let i = c.loop in
    let l = c.read_node.auto.rows in
    child-read _ _ _ _ _ _ _ _ _ _ i.here.next i.here.nodes i.here.parts _ i.rows _ _ _ _ _ i.invariant (omega (arith, c.loop-test.true)) c.in_ok-role.ensures
    c.in_ok-here.ensures refl (omega (arith, l)) (omega arith)

pub read_children-returns : goal.read_children-returns
read_children-returns t c =
    let a = c.args in
    let i = c.loop in
    let z = c.loop-test.false in
    i.invariant.rest _ _ (children-empty a.inner a.stretch.now.bytes.now a.stretch.now.end a.left _ i.here.next i.here.nodes i.here.parts i.rows (omega (arith, z)) i.invariant.start)

pub read_inner-returns-in_err-reached : goal.read_inner-returns-in_err-reached
read_inner-returns-in_err-reached t c =
    let a = c.args in
    let p = err_from_is_err_and c.from_residual.result c.from_residual.ensures.1 in
    rw (p.1, p.2) (inner_first a.stretch.now.bytes.now a.stretch.now.end a.at _ _ _ c.in_err-reached.ensures _ refl)

pub read_inner-returns-then-reached-stretch : goal.read_inner-returns-then-reached-stretch
read_inner-returns-then-reached-stretch t c =
    let a = c.args in
    let z = c.if-reached-stretch.true in
    rw c.at.ensures (inner-short a.stretch.now.bytes.now a.stretch.now.end a.at _ _ _ c.in_ok-reached.ensures _ _ _ refl (omega (arith, z)))

pub read_inner-size_in-requires-clause-held : goal.read_inner-size_in-requires-clause-held
read_inner-size_in-requires-clause-held t c =
    let a = c.args in inner-rows a.stretch.now.bytes.now a.stretch.now.end a.at _ _ _ c.in_ok-reached.ensures _ _ _ refl

pub read_inner-returns-then-size_in-gt-MOST_SIZE : goal.read_inner-returns-then-size_in-gt-MOST_SIZE
read_inner-returns-then-size_in-gt-MOST_SIZE t c =
    let a = c.args in
    let y = c.if-reached-stretch.false in
    let z = c.if-size_in-gt-MOST_SIZE.true in
    rw c.at-then-size_in-gt-MOST_SIZE.ensures (inner-big a.stretch.now.bytes.now a.stretch.now.end a.at _ _ _ c.in_ok-reached.ensures _ _ _ refl
    (omega (arith, y)) _ c.size_in.ensures (omega (arith, z)))

pub read_inner-returns : goal.read_inner-returns
read_inner-returns t c =
    let a = c.args in
    let y = c.if-reached-stretch.false in
    let z = c.if-size_in-gt-MOST_SIZE.false in
    inner-whole a.stretch.now.bytes.now a.stretch.now.end a.at _ _ _ c.in_ok-reached.ensures _ _ _ refl
    (omega (arith, y)) _ c.size_in.ensures (omega (arith, z))

pub read_node-returns-in_err-behind : goal.read_node-returns-in_err-behind
read_node-returns-in_err-behind t c =
    let a = c.args in
    let b = start c.args.stretch.now.within c.requires.start in
    let p = err_from_is_err_and c.from_residual-in_err-behind.result c.from_residual-in_err-behind.ensures.1 in
    rw (p.1, p.2) (node-stops a.inner a.stretch.now.bytes.now a.stretch.now.end a.left a.role a.from.next a.from.nodes a.from.parts _ _ _ a.rows.now _ _ b c.in_ok-head.ensures
    c.in_err-behind.ensures _ _ refl)

pub read_node-read_children-requires : goal.read_node-read_children-requires
read_node-read_children-requires t c =
    let a = c.args in
    let o = c.in_ok-head.ensures in
    let b = start c.args.stretch.now.within c.requires.start in
    let l = simp length-set at c.read_thresholds.auto.rows in
    let x = children-here a.inner a.stretch.now.bytes.now a.stretch.now.end a.left a.role a.from.next a.from.nodes a.from.parts _ _ _ a.rows.now _ _ b o
    c.in_ok-behind.ensures _ _ _ refl in (
      omega (arith, x.0, o.fits),
      record {
        before = x.1;
        few = omega (arith, o.room, x.2);
        room = x.3;
        rows = omega (arith, b.long, l);
      },
    )

pub read_node-returns-in_err-reached : goal.read_node-returns-in_err-reached
read_node-returns-in_err-reached t c =
    let a = c.args in
    let b = start c.args.stretch.now.within c.requires.start in
    let p = err_from_is_err_and c.from_residual-in_err-reached.result c.from_residual-in_err-reached.ensures.1 in
    rw (p.1, p.2) (children-stop a.inner a.stretch.now.bytes.now a.stretch.now.end a.left a.role a.from.next a.from.nodes a.from.parts _ _ _ a.rows.now _ _ b c.in_ok-head.ensures
    c.in_ok-behind.ensures _ _ _ refl _ _ c.in_err-reached.ensures _ _ refl)

pub read_node-packed-requires : goal.read_node-packed-requires
read_node-packed-requires t c =
    let a = c.args in
    let b = start c.args.stretch.now.within c.requires.start in
    let x = children-end a.inner a.stretch.now.bytes.now a.stretch.now.end a.left a.role a.from.next a.from.nodes a.from.parts _ _ _ a.rows.now _ _ b c.in_ok-head.ensures
    c.in_ok-behind.ensures _ _ _ refl _ _ c.in_ok-reached.ensures _ _ _ refl in
    (c.requires.role_bound, omega (arith, x.1))

pub read_node-returns : goal.read_node-returns
read_node-returns t c =
    let a = c.args in
    let b = start c.args.stretch.now.within c.requires.start in
    let l = simp length-set at c.read_thresholds.auto.rows in
    let k = c.read_children.auto.rows in
    node-then a.inner a.stretch.now.bytes.now a.stretch.now.end a.left a.role a.from.next a.from.nodes a.from.parts _ _ _ a.rows.now _ _ b c.in_ok-head.ensures
    c.in_ok-behind.ensures _ _ _ refl _ _ c.in_ok-reached.ensures _ _ _ refl _
    c.packed.ensures c.requires.role_bound (omega (arith, b.long, l, k))

pub read_threshold-returns-in_err-read_inner : goal.read_threshold-returns-in_err-read_inner
read_threshold-returns-in_err-read_inner t c =
    let a = c.args in
    let p = err_from_is_err_and c.from_residual-in_err-read_inner.result c.from_residual-in_err-read_inner.ensures.1 in
    rw (p.1, p.2) (inner-stops a.stretch.now.bytes.now a.stretch.now.end a.owner a.from.next a.from.nodes a.from.parts _ a.rows.now _ (start c.args.stretch.now.within c.requires) c.in_ok-stop.ensures
    c.in_err-read_inner.ensures _ _ refl)

pub read_threshold-returns : goal.read_threshold-returns
read_threshold-returns t c =
    let a = c.args in
    threshold-then a.stretch.now.bytes.now a.stretch.now.end a.owner a.from.next a.from.nodes a.from.parts _ a.rows.now _ (start c.args.stretch.now.within c.requires) c.in_ok-stop.ensures
    c.in_ok-read_inner.ensures _ c.packed.ensures _ refl

pub read_thresholds-returns-in_err-here : goal.read_thresholds-returns-in_err-here
read_thresholds-returns-in_err-here t c =
    let a = c.args in
    let i = c.loop in
    let p = err_from_is_err_and c.from_residual.result c.from_residual.ensures.1 in
    rw (p.1, p.2) (i.invariant.rest _ _
    (first_stops a.stretch.now.bytes.now a.stretch.now.end a.owner _ i.here.next i.here.nodes i.here.parts _ _ _ (omega (arith, c.loop-test.true)) c.in_err-here.ensures _ _ refl))

pub read_thresholds-loop-preserved : goal.read_thresholds-loop-preserved
read_thresholds-loop-preserved t c =
    let i = c.loop in
    let l = c.read_threshold.auto.rows in
    threshold-read _ _ _ _ _ _ _ _ _ i.here.next i.here.nodes i.here.parts i.rows _ _ _ _ _ i.invariant (omega (arith, c.loop-test.true))
    c.in_ok-here.ensures refl (omega (arith, l)) (omega arith)

pub read_thresholds-returns : goal.read_thresholds-returns
read_thresholds-returns t c =
    let a = c.args in
    let i = c.loop in
    let z = c.loop-test.false in
    i.invariant.rest _ _ (thresholds-empty a.stretch.now.bytes.now a.stretch.now.end a.owner _ i.here.next i.here.nodes i.here.parts _ (omega (arith, z)) i.invariant.start)
