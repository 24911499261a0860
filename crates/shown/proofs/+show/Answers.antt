use native.Mathlib.Omega.{arith}
use mathlib.Core.Path.{refl}
use lib.ListN.{length-set}
use Rattle.rows.proofs.Going.{begins, turn, ended}
use Rattle.degrees.proofs.Filled.{part-filled}
use Rattle.shown.proofs.Walk.{drawing-here, drawing-notes, drawing-rises, trace-start, trace-end, walk-low, walk_rows, walk-skip, walk-child, walk-next}
use Rattle.shown.proofs.+show.Goals as goal

pub offset_bounds-map-node : goal.offset_bounds-map-node
offset_bounds-map-node t c =
    omega (arith, (drawing-here c.requires.drawing).1)

pub bounds-map-node : goal.bounds-map-node
bounds-map-node t c =
    omega (arith, (drawing-here c.requires.drawing).2, c.requires.node_in_bounds)

pub children-child-items-requires : goal.children-child-items-requires
children-child-items-requires t c =
    (drawing-here c.requires.drawing).1

pub loop-child-init : goal.loop-child-init
loop-child-init t c =
    let b = c.children-child-items.ensures in
    let g = begins c.into_iter-child-iterator.ensures.into_iter_gives b.ends b.from b.end (drawing-rises c.requires.drawing) in
    record {
      going = g.0;
      walk = rw g.1 (record {
        asked = c.requires.drawing;
        room = omega (arith, c.requires.node_in_bounds, length-set c.args.map.now c.args.node c.unwrap_or.result);
        long = refl;
        each = λ k. trace-start k _;
      });
    }

pub slice_bounds-fill-end : goal.slice_bounds-fill-end
slice_bounds-fill-end t c =
    let g = turn c.loop-child.invariant.going c.in-Some.ensures.goes.keeps c.in-Some.ensures.steps in
    omega (arith, walk_rows (rw g.here at c.loop-child.invariant.walk) g.inside _ c.from-end.ensures)

pub loop-child-preserved-then-of-child-eq0 : goal.loop-child-preserved-then-of-child-eq0
loop-child-preserved-then-of-child-eq0 t c =
    let g = turn c.loop-child.invariant.going c.in-Some.ensures.goes.keeps c.in-Some.ensures.steps in
    let w = rw g.here at c.loop-child.invariant.walk in
    let rows = walk_rows w g.inside _ c.from-end.ensures in
    record {
      going = g.going;
      walk = rw (g.onward, ← c.from-end.ensures) (walk-skip w g.inside c.if-of-child-eq0.true _ c.from-end.ensures _
          (part-filled _ _ _ _ _ rows.0 rows.1 (c.fill.ensures.after (λ y e. e))));
    }

pub found-next-requires : goal.found-next-requires
found-next-requires t c =
    let g = turn c.loop-child.invariant.going c.in-Some.ensures.goes.keeps c.in-Some.ensures.steps in
    let w = rw g.here at c.loop-child.invariant.walk in
    record { links_in_bounds = drawing-notes c.requires.drawing; inside = (c.requires.drawing.inside, walk-low w g.inside) }

pub overflow_sub-left : goal.overflow_sub-left
overflow_sub-left t c =
    omega (arith, (drawing-here c.requires.drawing).0)

pub show-requires : goal.show-requires
show-requires t c =
    let g = turn c.loop-child.invariant.going c.in-Some.ensures.goes.keeps c.in-Some.ensures.steps in
    let w = rw g.here at c.loop-child.invariant.walk in (
      omega (arith, (drawing-here c.requires.drawing).0),
      walk-child w g.inside c.if-of-child-eq0.false _ c.found-next.ensures,
    )

pub loop-child-preserved : goal.loop-child-preserved
loop-child-preserved t c =
    let g = turn c.loop-child.invariant.going c.in-Some.ensures.goes.keeps c.in-Some.ensures.steps in
    let w = rw g.here at c.loop-child.invariant.walk in
    record {
      going = g.going;
      walk = walk-next w g.inside c.if-of-child-eq0.false _ c.found-next.ensures _ g.onward _ c.show.auto.map c.show.ensures;
    }

pub returns : goal.returns
returns t c =
    λ k. trace-end k _ _ _ _ c.unwrap_or.ensures (c.loop-child.invariant.walk.each k) (ended c.loop-child.invariant.going c.in-None.ensures.steps)
