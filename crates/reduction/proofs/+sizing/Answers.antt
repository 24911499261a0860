-- `reduction::size` and `reduction::child_size` meet their contracts.
-- Assumes nothing.
use native.Mathlib.Omega.{arith}
use Rattle.rows.proofs.Going.{begins, turn, ended}
use Rattle.reduction.proofs.Held.{in-range, inside, rise}
use Rattle.reduction.proofs.Sizes.{size-start, size-child, size-next, size-all, none-sized, kept-sized}
use Rattle.reduction.proofs.+sizing.Goals as goal

pub child_size-bounds-marks-c : goal.child_size-bounds-marks-c
child_size-bounds-marks-c t c =
    let a = in-range _ _ _ _ c.requires.held in omega arith

pub child_size-returns-then-marks-c-ne1 : goal.child_size-returns-then-marks-c-ne1
child_size-returns-then-marks-c-ne1 t c =
    none-sized _ _ _ _ _ c.if-marks-c-ne1.true

pub child_size-size-requires : goal.child_size-size-requires
child_size-size-requires t c =
    (omega arith, c.requires)

pub child_size-overflow_add-result : goal.child_size-overflow_add-result
child_size-overflow_add-result t c =
    let s = c.size.ensures.small in let f = c.requires.held.fits in omega arith

pub child_size-returns : goal.child_size-returns
child_size-returns t c =
    kept-sized _ _ _ _ _ _ c.if-marks-c-ne1.false c.size.ensures

pub size-offset_bounds-tree-node : goal.size-offset_bounds-tree-node
size-offset_bounds-tree-node t c =
    let a = in-range _ _ _ _ c.requires.held in omega arith

pub size-bounds-tree-node : goal.size-bounds-tree-node
size-bounds-tree-node t c =
    in-range _ _ _ _ c.requires.held

pub size-children-child-items-requires : goal.size-children-child-items-requires
size-children-child-items-requires t c =
    in-range _ _ _ _ c.requires.held

pub size-loop-child-init : goal.size-loop-child-init
size-loop-child-init t c =
    let o = inside _ _ _ _ _ c.requires.held in
    let l = c.named-n.ensures.upper_bound in
    let b = c.children-child-items.ensures in
    let g = begins c.into_iter-child-iterator.ensures.into_iter_gives b.ends b.from b.end (rise _ _ _ _ _ _ o.children) in
    record { going = g.0; small = rw g.1 (omega arith); sizing = rw g.1 (size-start _ _ _ _ _ c.named-n.ensures.value) }

pub size-overflow_sub-left : goal.size-overflow_sub-left
size-overflow_sub-left t c =
    let o = inside _ _ _ _ _ c.requires.held in omega arith

pub size-child_size-n-requires : goal.size-child_size-n-requires
size-child_size-n-requires t c =
    let o = inside _ _ _ _ _ c.requires.held in
    let g = turn c.loop-child.invariant.going c.in-Some.ensures.goes.keeps c.in-Some.ensures.steps in
    let f = size-child _ _ _ _ _ _ _ (rw g.here at c.loop-child.invariant.sizing) c.requires g.inside in
    (omega arith, record { roles = _; held = f.here })

pub size-loop-child-preserved : goal.size-loop-child-preserved
size-loop-child-preserved t c =
    let g = turn c.loop-child.invariant.going c.in-Some.ensures.goes.keeps c.in-Some.ensures.steps in
    let f = size-child _ _ _ _ _ _ _ (rw g.here at c.loop-child.invariant.sizing) c.requires g.inside in
    let s = c.child_size-n.ensures in
    let l = rw g.here at c.loop-child.invariant.small in
    let m = s.small in
    record {
      going = g.going;
      small = rw g.onward (omega arith);
      sizing = size-next _ _ _ _ _ _ _ (rw g.here at c.loop-child.invariant.sizing) g.inside _ s g.onward;
    }

pub size-returns : goal.size-returns
size-returns t c =
    let e = ended c.loop-child.invariant.going c.in-None.ensures.steps in
    let l = c.loop-child.invariant.small in
    record { right = size-all _ _ _ _ _ _ _ c.loop-child.invariant.sizing e; small = omega arith }
