use mathlib.Core.Path.{refl}
use native.Mathlib.Omega.{arith}
use Rattle.rows.proofs.Going.{begins, turn, ended}
use Rattle.tables.proofs.Stored.{row-filled}
use Rattle.tables.proofs.Filling.{here, children-rise, room-one, going_start, worked-before, going-rows, going-skip}
use Rattle.tables.proofs.Filling.{kid-asked, kid-room, kid-folding, kid-fits, going_next, going-fits, going-last}
use Rattle.tables.proofs.+fill.Goals as goal

pub overflow_mul-at : goal.overflow_mul-at
overflow_mul-at t c =
    omega (arith, room-one c.requires.gradable c.requires.names.2)

pub offset_bounds-of-node : goal.offset_bounds-of-node
offset_bounds-of-node t c =
    omega (arith, (here c.requires.gradable).1)

pub bounds-of-node : goal.bounds-of-node
bounds-of-node t c =
    omega (arith, (here c.requires.gradable).1)

pub own-requires : goal.own-requires
own-requires t c =
    (c.requires.names.0.room, room-one c.requires.gradable c.requires.names.2)

pub children-child-items-requires : goal.children-child-items-requires
children-child-items-requires t c =
    (here c.requires.gradable).1

pub loop-child-init : goal.loop-child-init
loop-child-init t c =
    let b = c.children-child-items.ensures in
    let g = begins c.into_iter-child-iterator.ensures.into_iter_gives b.ends b.from b.end (children-rise c.requires.gradable) in
    record {
      going = g.0;
      filled = rw g.1 (going_start _ _ _ _ _ _ _ _ _ _ _ c.requires.gradable _ c.requires.names.2 c.own.auto.table _ c.requires.names.0 c.own.ensures);
    }

pub offset_bounds-of-node-2 : goal.offset_bounds-of-node-2
offset_bounds-of-node-2 t c =
    omega (arith, (here c.requires.gradable).1)

pub bounds-of-node-2 : goal.bounds-of-node-2
bounds-of-node-2 t c =
    omega (arith, (here c.requires.gradable).1)

pub slice_bounds-fill-end : goal.slice_bounds-fill-end
slice_bounds-fill-end t c =
    let g = turn c.loop-child.invariant.going c.in-Some.ensures.goes.keeps c.in-Some.ensures.steps in
    omega (arith, going-rows (rw g.here at c.loop-child.invariant.filled) g.inside _ c.from-end.ensures)

pub loop-child-preserved-then-of-child-eq0 : goal.loop-child-preserved-then-of-child-eq0
loop-child-preserved-then-of-child-eq0 t c =
    let g = turn c.loop-child.invariant.going c.in-Some.ensures.goes.keeps c.in-Some.ensures.steps in
    let w = rw g.here at c.loop-child.invariant.filled in
    let rows = going-rows w g.inside _ c.from-end.ensures in
    record {
      going = g.going;
      filled = rw (g.onward, ← c.from-end.ensures) (going-skip w g.inside c.if-of-child-eq0.true _ c.from-end.ensures _
          (row-filled _ _ _ _ _ rows.0 rows.1 (c.fill.ensures.after (λ y e. e))));
    }

pub overflow_sub-left : goal.overflow_sub-left
overflow_sub-left t c =
    omega (arith, (here c.requires.gradable).0)

pub fill-scale-requires : goal.fill-scale-requires
fill-scale-requires t c =
    let g = turn c.loop-child.invariant.going c.in-Some.ensures.goes.keeps c.in-Some.ensures.steps in
    let w = rw g.here at c.loop-child.invariant.filled in (
      omega (arith, (here c.requires.gradable).0, c.decreases),
      (
        kid-asked w g.inside c.if-of-child-eq0.false w.asked,
        (c.requires.names.0, c.requires.names.1, kid-room w g.inside c.if-of-child-eq0.false),
      ),
    )

pub take-requires : goal.take-requires
take-requires t c =
    let g = turn c.loop-child.invariant.going c.in-Some.ensures.goes.keeps c.in-Some.ensures.steps in
    kid-folding (rw g.here at c.loop-child.invariant.filled) g.inside c.if-of-child-eq0.false _ _ c.fill-scale.auto.table c.fill-scale.ensures _ refl

pub overflow_mul-product : goal.overflow_mul-product
overflow_mul-product t c =
    let g = turn c.loop-child.invariant.going c.in-Some.ensures.goes.keeps c.in-Some.ensures.steps in
    omega (
      arith,
      (kid-fits (rw g.here at c.loop-child.invariant.filled) g.inside c.if-of-child-eq0.false _ _ c.fill-scale.auto.table c.fill-scale.ensures).0,
    )

pub overflow_add-n : goal.overflow_add-n
overflow_add-n t c =
    let g = turn c.loop-child.invariant.going c.in-Some.ensures.goes.keeps c.in-Some.ensures.steps in
    omega (
      arith,
      (kid-fits (rw g.here at c.loop-child.invariant.filled) g.inside c.if-of-child-eq0.false _ _ c.fill-scale.auto.table c.fill-scale.ensures).1,
    )

pub loop-child-preserved : goal.loop-child-preserved
loop-child-preserved t c =
    let g = turn c.loop-child.invariant.going c.in-Some.ensures.goes.keeps c.in-Some.ensures.steps in
    record {
      going = g.going;
      filled = going_next (rw g.here at c.loop-child.invariant.filled) g.inside c.if-of-child-eq0.false _ _ c.fill-scale.auto.table c.fill-scale.ensures _
          refl _ g.onward _ c.take.auto.table c.take.ensures;
    }

pub close-requires-clause-served : goal.close-requires-clause-served
close-requires-clause-served t c =
    let w = c.loop-child.invariant.filled in
    (c.requires.names.1, room-one c.requires.gradable (omega (arith, w.room, w.size)))

pub overflow_mul-result : goal.overflow_mul-result
overflow_mul-result t c =
    omega (arith, going-fits c.loop-child.invariant.filled (ended c.loop-child.invariant.going c.in-None.ensures.steps) _ c.max.ensures)

pub returns : goal.returns
returns t c =
    worked-before _ _ _ c.requires.names.0 c.own.ensures _ _
    (going-last c.loop-child.invariant.filled (ended c.loop-child.invariant.going c.in-None.ensures.steps) _ c.close.ensures _ c.max.ensures)
