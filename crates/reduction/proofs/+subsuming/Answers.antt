-- `reduction::subsumes`, `subsumes_one` and `subsumes_like` meet their contracts.
-- Assumes nothing.
use native.Mathlib.Omega.{arith}
use mathlib.Core.Path.{refl}
use Rattle.rows.proofs.Going.{begins, turn, ended}
use Rattle.reduction.proofs.Held.{in-range, inside, front, rise}
use Rattle.reduction.proofs.Subsumed.{names-differ, serve-start, left_over, serve-all, serve-next, serve-not, role-differs, role_same, seek-start, unseen, seek-none, seek-next, seek_found}
use Rattle.reduction.proofs.+subsuming.Goals as goal

pub subsumes-offset_bounds-tree-c : goal.subsumes-offset_bounds-tree-c
subsumes-offset_bounds-tree-c t c =
    let a = in-range _ _ _ _ c.requires.one in omega arith

pub subsumes-bounds-tree-c : goal.subsumes-bounds-tree-c
subsumes-bounds-tree-c t c =
    in-range _ _ _ _ c.requires.one

pub subsumes-offset_bounds-tree-d : goal.subsumes-offset_bounds-tree-d
subsumes-offset_bounds-tree-d t c =
    let a = in-range _ _ _ _ c.requires.other in omega arith

pub subsumes-bounds-tree-d : goal.subsumes-bounds-tree-d
subsumes-bounds-tree-d t c =
    in-range _ _ _ _ c.requires.other

pub subsumes-returns-then-not-within : goal.subsumes-returns-then-not-within
subsumes-returns-then-not-within t c =
    names-differ _ _ _ _ _ _ c.within.ensures c.if-not-within.true

pub subsumes-children-child-items-requires : goal.subsumes-children-child-items-requires
subsumes-children-child-items-requires t c =
    in-range _ _ _ _ c.requires.one

pub subsumes-loop-child-init : goal.subsumes-loop-child-init
subsumes-loop-child-init t c =
    let b = c.children-child-items.ensures in
    let g = begins c.into_iter-child-iterator.ensures.into_iter_gives b.ends b.from b.end (rise _ _ _ _ _ _ (inside _ _ _ _ _ c.requires.one).children) in
    record { going = g.0; serving = rw g.1 (serve-start _ _ _ _ _ _ c.within.ensures c.if-not-within.false) }

pub subsumes-children-requires : goal.subsumes-children-requires
subsumes-children-requires t c =
    in-range _ _ _ _ c.requires.other

pub subsumes-overflow_sub-left : goal.subsumes-overflow_sub-left
subsumes-overflow_sub-left t c =
    let o = inside _ _ _ _ _ c.requires.other in omega arith

pub subsumes-subsumes_one-requires : goal.subsumes-subsumes_one-requires
subsumes-subsumes_one-requires t c =
    let g = turn c.loop-child.invariant.going c.in-Some.ensures.goes.keeps c.in-Some.ensures.steps in
    let o = inside _ _ _ _ _ c.requires.one in
    let r = inside _ _ _ _ _ c.requires.other in
    let b = c.children.ensures in
    let f = front _ _ _ _ _ _ (left_over _ _ _ _ _ _ _ (rw g.here at c.loop-child.invariant.serving) c.requires) g.inside in
    (omega arith, (b.ends, record { one = f.here; others = rw (b.from, b.end) r.children }))

pub subsumes-returns-then-not-subsumes_one : goal.subsumes-returns-then-not-subsumes_one
subsumes-returns-then-not-subsumes_one t c =
    let g = turn c.loop-child.invariant.going c.in-Some.ensures.goes.keeps c.in-Some.ensures.steps in
    let b = c.children.ensures in
    serve-not _ _ _ _ _ _ _ (rw g.here at c.loop-child.invariant.serving) g.inside b.end (rw b.from at c.subsumes_one.ensures) c.if-not-subsumes_one.true

pub subsumes-loop-child-preserved : goal.subsumes-loop-child-preserved
subsumes-loop-child-preserved t c =
    let g = turn c.loop-child.invariant.going c.in-Some.ensures.goes.keeps c.in-Some.ensures.steps in
    let b = c.children.ensures in
    record {
      going = g.going;
      serving = serve-next _ _ _ _ _ _ _ (rw g.here at c.loop-child.invariant.serving) g.inside b.end (rw b.from at c.subsumes_one.ensures)
          c.if-not-subsumes_one.false g.onward;
    }

pub subsumes-returns : goal.subsumes-returns
subsumes-returns t c =
    serve-all _ _ _ _ _ _ _ c.loop-child.invariant.serving (ended c.loop-child.invariant.going c.in-None.ensures.steps)

pub subsumes_like-bounds-tree-c : goal.subsumes_like-bounds-tree-c
subsumes_like-bounds-tree-c t c =
    in-range _ _ _ _ c.requires.one

pub subsumes_like-bounds-tree-d : goal.subsumes_like-bounds-tree-d
subsumes_like-bounds-tree-d t c =
    in-range _ _ _ _ c.requires.other

pub subsumes_like-returns-then-tree-c : goal.subsumes_like-returns-then-tree-c
subsumes_like-returns-then-tree-c t c =
    role-differs _ _ _ _ _ c.args.c c.args.d (λ e. omega (arith, c.if-tree-c.true, e))

pub subsumes_like-returns : goal.subsumes_like-returns
subsumes_like-returns t c =
    role_same _ _ _ _ _ c.args.c c.args.d c.subsumes.ensures (omega arith) (omega arith) (omega (arith, c.if-tree-c.false))

pub subsumes_one-loop-d-init : goal.subsumes_one-loop-d-init
subsumes_one-loop-d-init t c =
    let a = c.requires.among in
    let g = begins c.into_iter-d-iterator.ensures.into_iter_gives c.requires.siblings refl refl (rise _ _ _ _ _ _ a.others) in
    record { going = g.0; seeking = rw g.1 (seek-start _ _ _ _ _ _ _ _) }

pub subsumes_one-subsumes_like-requires : goal.subsumes_one-subsumes_like-requires
subsumes_one-subsumes_like-requires t c =
    let g = turn c.loop-d.invariant.going c.in-Some.ensures.goes.keeps c.in-Some.ensures.steps in
    let a = c.requires.among in
    let f = front _ _ _ _ _ _ (unseen _ _ _ _ _ _ _ _ _ (rw g.here at c.loop-d.invariant.seeking) a) g.inside in
    (omega arith, record { one = a.one; other = f.here })

pub subsumes_one-returns-then-subsumes_like : goal.subsumes_one-returns-then-subsumes_like
subsumes_one-returns-then-subsumes_like t c =
    let g = turn c.loop-d.invariant.going c.in-Some.ensures.goes.keeps c.in-Some.ensures.steps in
    seek_found _ _ _ _ _ _ _ _ _ (rw g.here at c.loop-d.invariant.seeking) g.inside c.subsumes_like.ensures c.if-subsumes_like.true

pub subsumes_one-loop-d-preserved : goal.subsumes_one-loop-d-preserved
subsumes_one-loop-d-preserved t c =
    let g = turn c.loop-d.invariant.going c.in-Some.ensures.goes.keeps c.in-Some.ensures.steps in record {
      going = g.going;
      seeking = seek-next _ _ _ _ _ _ _ _ _ (rw g.here at c.loop-d.invariant.seeking) g.inside c.subsumes_like.ensures c.if-subsumes_like.false g.onward;
    }

pub subsumes_one-returns : goal.subsumes_one-returns
subsumes_one-returns t c =
    seek-none _ _ _ _ _ _ _ _ _ c.loop-d.invariant.seeking (ended c.loop-d.invariant.going c.in-None.ensures.steps)
