-- `meeting::meet` meets its contract: what holds the node's names and satisfies its thresholds is narrowed by one child after the other.
-- Assumes nothing.
use Prim.Native.Nat.{◌<◌}
use native.Mathlib.Nat.{le_refl}
use native.Mathlib.Omega.{arith}
use lib.ListN.{length}
use Rattle.rows.proofs.Going.{begins, turn, ended}
use Rattle.screening.proofs.Sifting.{stays-among}
use Rattle.trails.proofs.Table.{outside-none, outside-part}
use Rattle.trails.proofs.Down.{here, low, children-rise}
use Rattle.meeting.proofs.Left.{child, child-required, next-left, left-start, left-none, whole}
use Rattle.meeting.proofs.+meet.Goals.{in-None, in-Some+then-is_empty}
use Rattle.meeting.proofs.+meet.Goals as goal

pub offset_bounds-wanted-node : goal.offset_bounds-wanted-node
offset_bounds-wanted-node t c =
    omega (arith, low c.requires.required.posed)

pub bounds-wanted-node : goal.bounds-wanted-node
bounds-wanted-node t c =
    low c.requires.required.posed

pub screen-requires-clause-count_le_most : goal.screen-requires-clause-count_le_most
screen-requires-clause-count_le_most t c =
    (c.requires.required.most, stays-among _ _ _ (c.hold.ensures c.requires.required.posed.graph) _ c.requires.among)

pub children-child-items-requires : goal.children-child-items-requires
children-child-items-requires t c =
    low c.requires.required.posed

pub loop-child-init : goal.loop-child-init
loop-child-init t c =
    let p = c.requires.required in
    let b = c.children-child-items.ensures in
    let g = begins c.into_iter-child-iterator.ensures.into_iter_gives b.ends b.from b.end (children-rise p.posed) in
    record {
      going = g.0;
      behind = omega (arith, g.1);
      size = omega arith;
      among = stays-among _ _ _ (c.screen.ensures p.posed.graph p.stand) _ (stays-among _ _ _ (c.hold.ensures p.posed.graph) _ c.requires.among);
      left = λ k. (rw g.1 (left-start k _ _), outside-none _ _ _);
    }

pub overflow_sub-left : goal.overflow_sub-left
overflow_sub-left t c =
    omega (arith, (here c.requires.required.posed).0)

pub meet-requires : goal.meet-requires
meet-requires t c =
    let k = c.requires.required in
    let i = c.loop-child.invariant in
    let g = turn i.going c.in-Some.ensures.goes.keeps c.in-Some.ensures.steps in
    let w = rw g.here at (i.left k).0 in
    let d = rw g.here at i.behind in (
      omega (arith, (here k.posed).0, c.decreases),
      (child-required k w d g.inside, (c.spread.ensures k.posed.graph).among),
    )

pub loop-child-preserved : goal.loop-child-preserved
loop-child-preserved t c =
    let p = c.requires.required in
    let i = c.loop-child.invariant in
    let g = turn i.going c.in-Some.ensures.goes.keeps c.in-Some.ensures.steps in
    let d = rw g.here at i.behind in
    record {
      going = g.going;
      behind = rw g.onward (let r = g.rises in omega arith);
      size = c.meet.array_long;
      among = stays-among _ _ _ (c.fold.ensures p.posed.graph) _ i.among;
      left = λ k.
          let was = i.left k in
          let w = rw g.here at was.0 in
          let done = c.meet.ensures (child-required k w d g.inside) in (
            rw g.onward (next-left k w d g.inside _ _ _ _ _ c.from-role.ensures (c.spread.ensures k.posed.graph) done (c.fold.ensures k.posed.graph)),
            outside-part _ _ _ _ _ _ _ (omega (arith, d)) (child k w d g.inside).within was.1 done.outside,
          );
    }

pub offset_bounds-met-node : goal.offset_bounds-met-node
offset_bounds-met-node t c =
    omega (arith, low c.requires.required.posed)

pub bounds-met-node : goal.bounds-met-node
bounds-met-node t c =
    low c.requires.required.posed

pub returns : goal.returns
returns t c = λ k.
    let i = c.loop-child.invariant in
    let held = c.hold.ensures k.posed.graph in
    let screened = c.screen.ensures k.posed.graph k.stand in
    let size = i.size in
    let room : c.args.node < length c.loop-child.met = omega (arith, low k.posed) in
    let was = i.left k in
    elim c.match-next.branch [
      | in-None w ↦ whole k _ _ _ _ _ _ _ room held screened was.0 (ended i.going w.in-None.ensures.steps) was.1
      | in-Some+then-is_empty w ↦
          whole k _ _ _ _ _ _ _ room held screened (left-none k was.0 (w.is_empty.ensures.yes w.if-is_empty.true)) (le_refl _) was.1
    ]
