-- `reduction::mark` and `reduction::mark_child` meet their contracts.
-- Assumes nothing.
use mathlib.Core.Path.{refl}
use native.Mathlib.Omega.{arith}
use Rattle.rows.proofs.Going.{begins, turn, ended}
use Rattle.reduction.proofs.Held.{in-range, inside, rise}
use Rattle.reduction.proofs.Alone.{below}
use Rattle.reduction.proofs.Marks.{child-dropped, child-kept, mark-start, mark-all, next-child, mark-next}
use Rattle.reduction.proofs.+marking.Goals as goal

pub mark-apart-alone-requires : goal.mark-apart-alone-requires
mark-apart-alone-requires t c =
    below _ _ _ _ _ c.requires refl

pub mark-children-child-items-requires : goal.mark-children-child-items-requires
mark-children-child-items-requires t c =
    in-range _ _ _ _ c.requires

pub mark-loop-child-init : goal.mark-loop-child-init
mark-loop-child-init t c =
    let b = c.children-child-items.ensures in
    let g = begins c.into_iter-child-iterator.ensures.into_iter_gives b.ends b.from b.end (rise _ _ _ _ _ _ (inside _ _ _ _ _ c.requires).children) in
    record { going = g.0; marking = rw g.1 (mark-start _ _ _ _ _ _) }

pub mark-overflow_sub-left : goal.mark-overflow_sub-left
mark-overflow_sub-left t c =
    let o = inside _ _ _ _ _ c.requires in omega arith

pub mark-mark_child-requires : goal.mark-mark_child-requires
mark-mark_child-requires t c =
    let g = turn c.loop-child.invariant.going c.in-Some.ensures.goes.keeps c.in-Some.ensures.steps in
    let o = inside _ _ _ _ _ c.requires in
    let s = next-child _ _ _ _ _ _ _ _ (rw g.here at c.loop-child.invariant.marking) c.requires g.inside in
    (omega arith, (s, c.apart-alone.ensures))

pub mark-loop-child-preserved : goal.mark-loop-child-preserved
mark-loop-child-preserved t c =
    let g = turn c.loop-child.invariant.going c.in-Some.ensures.goes.keeps c.in-Some.ensures.steps in record {
      going = g.going;
      marking = mark-next _ _ _ _ _ _ _ _ (rw g.here at c.loop-child.invariant.marking) g.inside _ refl c.mark_child.ensures g.onward c.requires;
    }

pub mark-returns : goal.mark-returns
mark-returns t c =
    mark-all _ _ _ _ _ _ _ _ c.loop-child.invariant.marking (ended c.loop-child.invariant.going c.in-None.ensures.steps)

pub mark_child-put-requires : goal.mark_child-put-requires
mark_child-put-requires t c =
    let a = in-range _ _ _ _ c.requires.sibling.here in omega arith

pub mark_child-returns-then-dropped : goal.mark_child-returns-then-dropped
mark_child-returns-then-dropped t c =
    child-dropped _ _ _ _ _ _ _ _ (inside _ _ _ _ _ c.requires.sibling.here).inside c.dropped.ensures _ c.if-dropped.true c.put.ensures

pub mark_child-put-requires-2 : goal.mark_child-put-requires-2
mark_child-put-requires-2 t c =
    let a = in-range _ _ _ _ c.requires.sibling.here in omega arith

pub mark_child-mark-requires : goal.mark_child-mark-requires
mark_child-mark-requires t c =
    (omega arith, c.requires.sibling.here)

pub mark_child-returns : goal.mark_child-returns
mark_child-returns t c =
    child-kept _ _ _ _ _ _ _ _ (inside _ _ _ _ _ c.requires.sibling.here).inside c.dropped.ensures _ _ c.if-dropped.false c.put-2.ensures c.mark.ensures
