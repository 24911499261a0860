use Rattle.rows.proofs.Going.{begins, turn, ended}
use Rattle.heaviest.proofs.Seeking.{start-inside, start-rises, sought-start, sought-pass, sought-take, sought-end}
use Rattle.heaviest.proofs.heaviest.Goals as goal

pub children-child-items-requires : goal.children-child-items-requires
children-child-items-requires c =
    start-inside c.requires c.args.of.now.marks

pub loop-child-init : goal.loop-child-init
loop-child-init c =
    let b = c.children-child-items.ensures in
    let g = begins c.into_iter-child-iterator.ensures.into_iter_gives b.ends b.from b.end (start-rises c.requires c.args.of.now.marks) in
    record { going = g.0; each = λ k. rw g.1 (sought-start k c.args.of.now.marks) }

pub returns : goal.returns
returns c =
    λ k. sought-end k _ (c.loop-child.invariant.each k) (ended c.loop-child.invariant.going c.in-None.ensures.steps)

pub loop-child-preserved-then-lighter : goal.loop-child-preserved-then-lighter
loop-child-preserved-then-lighter c =
    let g = turn c.loop-child.invariant.going c.in-Some.ensures.goes.keeps c.in-Some.ensures.steps in
    record {
      going = g.going;
      each = λ k. rw g.onward
          (sought-pass k _ (rw g.here at (c.loop-child.invariant.each k)) g.inside _ (rw c.from.ensures at c.lighter.ensures) c.if-lighter.true);
    }

pub loop-child-preserved : goal.loop-child-preserved
loop-child-preserved c =
    let g = turn c.loop-child.invariant.going c.in-Some.ensures.goes.keeps c.in-Some.ensures.steps in
    record {
      going = g.going;
      each = λ k. rw (g.onward, c.from.ensures)
          (sought-take k _ (rw g.here at (c.loop-child.invariant.each k)) g.inside _ (rw c.from.ensures at c.lighter.ensures) c.if-lighter.false);
    }
