-- `degrees::work`, `degrees::reach` and `degrees::others` meet their contracts. A child of the loop that is not passed over is to be folded in (`at-hand`);
-- where a child is kept, the heaviest comes first.
use Rattle.folds.specs.Members.{Member}
use native.Mathlib.Omega.{arith}
use Rattle.rows.proofs.Going.{begins, turn, ended}
use Rattle.degrees.proofs.Reaching.{written, here, rises, lent-here, reach-done}
use Rattle.degrees.proofs.Head.{alone-done, empty-done, first-low, first-asked, first-lent, first_two, first-folding, first-own, first-rows, first-headed, first_done}
use Rattle.degrees.proofs.Going.{going_start, going-pass, going-fits, going_done}
use Rattle.degrees.proofs.Going.{at-hand, child-asked, child-lent, child-count, child-two, child-product, child-folding, child-next}
use Rattle.degrees.proofs.+others_reach_work.Goals as goal

pub others-offset_bounds-of-node : goal.others-offset_bounds-of-node
others-offset_bounds-of-node t c =
    omega (arith, (here c.requires.asked).1)

pub others-bounds-of-node : goal.others-bounds-of-node
others-bounds-of-node t c =
    (here c.requires.asked).1

pub others-children-child-items-requires : goal.others-children-child-items-requires
others-children-child-items-requires t c =
    (here c.requires.asked).1

pub others-loop-child-init : goal.others-loop-child-init
others-loop-child-init t c =
    let b = c.children-child-items.ensures in
    let g = begins c.into_iter-child-iterator.ensures.into_iter_gives b.ends b.from b.end (rises c.requires.asked) in
    record { over = g.0; going = rw (g.1, c.from-n.ensures) (going_start _ _ _ _ _ _ _ _ _ _ _ _ _ _ _ c.requires) }

pub others-loop-child-preserved-then-passed : goal.others-loop-child-preserved-then-passed
others-loop-child-preserved-then-passed t c =
    let g = turn c.loop-child.invariant.over c.in-Some.ensures.goes.keeps c.in-Some.ensures.steps in
    let w = rw g.here at c.loop-child.invariant.going in
    record { over = g.going; going = going-pass w g.inside _ g.onward _ c.passed.ensures c.if-passed.true }

pub others-overflow_sub-left : goal.others-overflow_sub-left
others-overflow_sub-left t c =
    (here c.requires.asked).0

pub others-overflow_add-at : goal.others-overflow_add-at
others-overflow_add-at t c =
    let g = turn c.loop-child.invariant.over c.in-Some.ensures.goes.keeps c.in-Some.ensures.steps in
    let w = rw g.here at c.loop-child.invariant.going in
    omega (arith, child-two w (at-hand w g.inside _ c.passed.ensures c.if-passed.false))

pub others-reach-from-requires : goal.others-reach-from-requires
others-reach-from-requires t c =
    let g = turn c.loop-child.invariant.over c.in-Some.ensures.goes.keeps c.in-Some.ensures.steps in
    let w = rw g.here at c.loop-child.invariant.going in
    let o = at-hand w g.inside _ c.passed.ensures c.if-passed.false in
    (omega (arith, (here c.requires.asked).0), (child-asked w o, child-lent w o))

pub others-fold-requires-clause-folding : goal.others-fold-requires-clause-folding
others-fold-requires-clause-folding t c =
    let g = turn c.loop-child.invariant.over c.in-Some.ensures.goes.keeps c.in-Some.ensures.steps in
    let w = rw g.here at c.loop-child.invariant.going in
    child-folding w (at-hand w g.inside _ c.passed.ensures c.if-passed.false) _ _ _ _ _
    c.from-role.ensures c.reach-from.ensures.done c.reach-from.ensures.standing c.reach-from.auto.numbers

pub others-overflow_mul-product : goal.others-overflow_mul-product
others-overflow_mul-product t c =
    let g = turn c.loop-child.invariant.over c.in-Some.ensures.goes.keeps c.in-Some.ensures.steps in
    let w = rw g.here at c.loop-child.invariant.going in
    omega (
      arith,
      child-product w (at-hand w g.inside _ c.passed.ensures c.if-passed.false) _ _ _ _ _
          c.from-role.ensures c.reach-from.ensures.done c.reach-from.ensures.standing,
    )

pub others-overflow_add-n-in-loop-child : goal.others-overflow_add-n-in-loop-child
others-overflow_add-n-in-loop-child t c =
    let g = turn c.loop-child.invariant.over c.in-Some.ensures.goes.keeps c.in-Some.ensures.steps in
    let w = rw g.here at c.loop-child.invariant.going in
    omega (arith, child-count w (at-hand w g.inside _ c.passed.ensures c.if-passed.false))

pub others-loop-child-preserved : goal.others-loop-child-preserved
others-loop-child-preserved t c =
    let g = turn c.loop-child.invariant.over c.in-Some.ensures.goes.keeps c.in-Some.ensures.steps in
    let w = rw g.here at c.loop-child.invariant.going in
    record {
      over = g.going;
      going = child-next w (at-hand w g.inside _ c.passed.ensures c.if-passed.false) _ _ _ _ _
          c.from-role.ensures c.reach-from.ensures.done c.reach-from.ensures.standing _ g.onward _ _
          c.reach-from.auto.notes c.reach-from.auto.numbers
          c.fold.auto.notes c.fold.auto.numbers c.fold.ensures;
    }

pub others-overflow_mul-result : goal.others-overflow_mul-result
others-overflow_mul-result t c =
    omega (arith, going-fits c.loop-child.invariant.going (ended c.loop-child.invariant.over c.in-None.ensures.steps))

pub others-returns : goal.others-returns
others-returns t c =
    going_done c.loop-child.invariant.going (ended c.loop-child.invariant.over c.in-None.ensures.steps)

pub reach-empty-requires : goal.reach-empty-requires
reach-empty-requires t c =
    (here c.requires.gradable).1

pub reach-returns-then-empty-clause-done : goal.reach-returns-then-empty-clause-done
reach-returns-then-empty-clause-done t c =
    let said = c.empty.ensures c.if-empty.true in
    empty-done c.requires.gradable c.args.on.now.judged.read.3 c.args.set.now.words _ _ _ said.0 said.1 c.requires.lent.ones

pub reach-bounds-of-node : goal.reach-bounds-of-node
reach-bounds-of-node t c =
    (here c.requires.gradable).1

pub reach-work-scale-requires : goal.reach-work-scale-requires
reach-work-scale-requires t c =
    let lent = c.requires.lent in (
      omega (arith),
      (
        c.requires.gradable,
        record {
          members = (c.spread.ensures c.requires.gradable.posed.graph).among;
          clear = lent.clear;
          room = lent.room;
          ones = lent.ones;
        },
      ),
    )

pub reach-returns-clause-done : goal.reach-returns-clause-done
reach-returns-clause-done t c =
    λ k. reach-done k c.args.set.now.words _ _ _ _ _ _ _ _ c.from.ensures (c.spread.ensures k.posed.graph) (c.work-scale.ensures k)

pub work-offset_bounds-of-node : goal.work-offset_bounds-of-node
work-offset_bounds-of-node t c =
    omega (arith, (here c.requires.gradable).1)

pub work-bounds-of-node : goal.work-bounds-of-node
work-bounds-of-node t c =
    (here c.requires.gradable).1

pub work-alone-requires-clause-row : goal.work-alone-requires-clause-row
work-alone-requires-clause-row t c =
    lent-here c.requires.gradable c.requires.lent

pub work-returns-in_default : goal.work-returns-in_default
work-returns-in_default t c =
    let k = c.requires.gradable in
    alone-done k (rw c.in_default.is at (c.heaviest.ensures (written k))) (Member c.args.set.now.words) _ _ _ _ _ _ c.alone.ensures.scale
    c.alone.ensures.values c.alone.ensures.kept

pub work-overflow_sub-left : goal.work-overflow_sub-left
work-overflow_sub-left t c =
    (here c.requires.gradable).0

pub work-reach-child-requires : goal.work-reach-child-requires
work-reach-child-requires t c =
    let f = c.in-Some.ensures (written c.requires.gradable) in
    (omega (arith, (here c.requires.gradable).0), (first-asked c.requires.gradable c.requires.lent f, first-lent c.requires.gradable c.requires.lent f))

pub work-bounds-of-heavy : goal.work-bounds-of-heavy
work-bounds-of-heavy t c =
    first-low c.requires.gradable c.requires.lent (c.in-Some.ensures (written c.requires.gradable))

pub work-overflow_add-at : goal.work-overflow_add-at
work-overflow_add-at t c =
    omega (arith, first_two c.requires.gradable c.requires.lent (c.in-Some.ensures (written c.requires.gradable)))

pub work-fold-requires-clause-folding : goal.work-fold-requires-clause-folding
work-fold-requires-clause-folding t c =
    first-folding c.requires.gradable c.requires.lent (c.in-Some.ensures (written c.requires.gradable)) _ _ _ _ _
    c.from-role.ensures c.reach-child.ensures.done c.reach-child.ensures.standing c.reach-child.auto.numbers

pub work-own-requires-clause-fits : goal.work-own-requires-clause-fits
work-own-requires-clause-fits t c =
    first-own c.requires.gradable c.requires.lent (c.in-Some.ensures (written c.requires.gradable)) _ _ _ _ _
    c.from-role.ensures c.reach-child.ensures.done c.reach-child.ensures.standing c.reach-child.auto.numbers
    _ _ c.fold.ensures c.fold.auto.notes c.fold.auto.numbers

pub work-own-requires-clause-rows : goal.work-own-requires-clause-rows
work-own-requires-clause-rows t c =
    first-rows c.requires.gradable c.requires.lent (c.in-Some.ensures (written c.requires.gradable)) _ _ _ _ _
    c.from-role.ensures c.reach-child.ensures.done c.reach-child.ensures.standing c.reach-child.auto.numbers
    _ _ c.fold.ensures c.fold.auto.notes c.fold.auto.numbers

pub work-others-requires : goal.work-others-requires
work-others-requires t c = (
  omega (arith),
  first-headed c.requires.gradable c.requires.lent (c.in-Some.ensures (written c.requires.gradable)) _ _ _ _ _
      c.from-role.ensures c.reach-child.ensures.done c.reach-child.ensures.standing c.reach-child.auto.numbers
      _ _ c.fold.ensures c.fold.auto.notes c.fold.auto.numbers
      _ c.own.auto.numbers c.own.ensures.kept c.own.ensures.sums,
)

pub work-returns : goal.work-returns
work-returns t c =
    first_done c.requires.gradable c.requires.lent (c.in-Some.ensures (written c.requires.gradable)) _ _ _ _ _
    c.from-role.ensures c.reach-child.ensures.done c.reach-child.ensures.standing c.reach-child.auto.numbers
    _ _ c.fold.ensures c.fold.auto.notes c.fold.auto.numbers
    _ _ _ _ c.own.ensures.kept c.others.ensures
