-- `reduction::yields_one` meets its contract.
-- Assumes nothing.
use mathlib.Core.Path.{refl}
use Rattle.rows.proofs.Going.{begins, turn, ended}
use Rattle.reduction.proofs.Held.{front, rise}
use Rattle.reduction.proofs.Subsumed.{seek-start, unseen, seek-none, seek-next, seek_found}
use Rattle.reduction.proofs.yields_one.Goals as goal

pub loop-d-init : goal.loop-d-init
loop-d-init g c =
    let a = c.requires.among in
    let g = begins c.into_iter-d-iterator.ensures.into_iter_gives c.requires.siblings refl refl (rise _ _ _ _ _ _ a.others) in
    record { going = g.0; seeking = rw g.1 (seek-start _ _ _ _ _ _ _ _) }

pub yields-requires : goal.yields-requires
yields-requires g c =
    let g = turn c.loop-d.invariant.going c.in-Some.ensures.goes.keeps c.in-Some.ensures.steps in
    let a = c.requires.among in
    let f = front _ _ _ _ _ _ (unseen _ _ _ _ _ _ _ _ _ (rw g.here at c.loop-d.invariant.seeking) a) g.inside in
    record { one = a.one; other = f.here }

pub returns-then-yields : goal.returns-then-yields
returns-then-yields g c =
    let g = turn c.loop-d.invariant.going c.in-Some.ensures.goes.keeps c.in-Some.ensures.steps in
    seek_found _ _ _ _ _ _ _ _ _ (rw g.here at c.loop-d.invariant.seeking) g.inside c.yields.ensures c.if-yields.true

pub loop-d-preserved : goal.loop-d-preserved
loop-d-preserved g c =
    let g = turn c.loop-d.invariant.going c.in-Some.ensures.goes.keeps c.in-Some.ensures.steps in record {
      going = g.going;
      seeking = seek-next _ _ _ _ _ _ _ _ _ (rw g.here at c.loop-d.invariant.seeking) g.inside c.yields.ensures c.if-yields.false g.onward;
    }

pub returns : goal.returns
returns g c =
    seek-none _ _ _ _ _ _ _ _ _ c.loop-d.invariant.seeking (ended c.loop-d.invariant.going c.in-None.ensures.steps)
