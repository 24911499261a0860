-- `trails::walk` meets its contract: a child goes to the first successor in its row, and there is one.
-- Assumes nothing.
use mathlib.Core.Path.{◌≡◌}
use native.Mathlib.Omega.{arith}
use lib.ListN.{length-set}
use Rattle.std.proofs.Common.{rules}
use Rattle.rows.proofs.Going.{begins, turn, ended}
use Rattle.trails.proofs.Down.{here, low, children-rise, ahead-start, ahead-end, next, goes, next-ahead, next-charted}
use Rattle.trails.proofs.+walk.Goals as goal

pub offset_bounds-map-node : goal.offset_bounds-map-node
offset_bounds-map-node t c =
    omega (arith, low c.requires.charted.posed)

pub bounds-map-node : goal.bounds-map-node
bounds-map-node t c =
    omega (arith, (here c.requires.charted.posed).1)

pub children-child-items-requires : goal.children-child-items-requires
children-child-items-requires t c =
    low c.requires.charted.posed

pub loop-child-init : goal.loop-child-init
loop-child-init t c =
    let b = c.children-child-items.ensures in
    let g = begins c.into_iter-child-iterator.ensures.into_iter_gives b.ends b.from b.end (children-rise c.requires.charted.posed) in
    record { going = g.0; left = λ k. rw g.1 (ahead-start k _) }

pub unwrap-to-requires : goal.unwrap-to-requires
unwrap-to-requires t c =
    let k = c.requires.charted in
    let g = turn c.loop-child.invariant.going c.in-Some.ensures.goes.keeps c.in-Some.ensures.steps in
    let w = rw g.here at (c.loop-child.invariant.left k) in
    let z = c.seek.ensures k.posed.graph in
    let e = goes k c.args.on.now.judged.read.3 w g.inside _ _ c.from-role.ensures z in
    rw e (search rules)

pub overflow_sub-left : goal.overflow_sub-left
overflow_sub-left t c =
    omega (arith, (here c.requires.charted.posed).0)

pub walk-requires : goal.walk-requires
walk-requires t c =
    let k = c.requires.charted in
    let b = c.args.on.now.judged.read.3 in
    let g = turn c.loop-child.invariant.going c.in-Some.ensures.goes.keeps c.in-Some.ensures.steps in
    let w = rw g.here at (c.loop-child.invariant.left k) in
    let e = goes k b w g.inside _ _ c.from-role.ensures (c.seek.ensures k.posed.graph) in
    let to : c.unwrap-to.result ≡ (next k b w g.inside).to = cc in (
      omega (arith, (here k.posed).0, c.decreases),
      (
        next-charted k b w g.inside _ to,
        omega (arith, length-set c.args.map.now c.args.node c.args.item, (next k b w g.inside).within),
      ),
    )

pub loop-child-preserved : goal.loop-child-preserved
loop-child-preserved t c =
    let b = c.args.on.now.judged.read.3 in
    let g = turn c.loop-child.invariant.going c.in-Some.ensures.goes.keeps c.in-Some.ensures.steps in
    record {
      going = g.going;
      left = λ k.
          let w = rw g.here at (c.loop-child.invariant.left k) in
          let e = goes k b w g.inside _ _ c.from-role.ensures (c.seek.ensures k.posed.graph) in
          let to : c.unwrap-to.result ≡ (next k b w g.inside).to = cc in
          rw g.onward (next-ahead k b w g.inside _ _ to (c.walk.ensures (next-charted k b w g.inside _ to)));
    }

pub returns : goal.returns
returns t c =
    λ k. ahead-end k _ _ _ (c.loop-child.invariant.left k) (ended c.loop-child.invariant.going c.in-None.ensures.steps)
