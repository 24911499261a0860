-- `reduction::apart` meets its contract.
-- Assumes nothing.
use native.Mathlib.Omega.{arith}
use mathlib.Core.Path.{◌∙◌, sym}
use Rattle.std.proofs.Common.{rules}
use Rattle.rows.proofs.Going.{begins, turn, ended}
use Rattle.reduction.proofs.Held.{reaches, rise}
use Rattle.reduction.proofs.Alone.{gather-start, gather-twice, gather-all, gather-next}
use Rattle.reduction.proofs.apart.Goals as goal

pub children-child-items-requires : goal.children-child-items-requires
children-child-items-requires c =
    let l = reaches _ _ _ _ _ _ c.requires.held in
    let f = c.requires.held.fits in omega arith

pub loop-child-init : goal.loop-child-init
loop-child-init c =
    let b = c.children-child-items.ensures in
    let g = begins c.into_iter-child-iterator.ensures.into_iter_gives b.ends b.from b.end (rise _ _ _ _ _ _ c.requires.held) in
    record { going = g.0; gathering = rw g.1 (gather-start _ _ _ _) }

pub bounds-tree-child : goal.bounds-tree-child
bounds-tree-child c =
    let g = turn c.loop-child.invariant.going c.in-Some.ensures.goes.keeps c.in-Some.ensures.steps in
    let f = c.requires.held.fits in omega arith

pub returns-then-on : goal.returns-then-on
returns-then-on c =
    gather-twice _ _ _ _

pub with_bit-seen-requires : goal.with_bit-seen-requires
with_bit-seen-requires c =
    (omega arith, sym c.if-on.false ∙ c.on.ensures)

pub loop-child-preserved : goal.loop-child-preserved
loop-child-preserved c =
    let g = turn c.loop-child.invariant.going c.in-Some.ensures.goes.keeps c.in-Some.ensures.steps in
    record {
      going = g.going;
      gathering = gather-next _ _ _ _ _ _ (rw g.here at c.loop-child.invariant.gathering) g.inside (search rules)
          (sym c.on.ensures ∙ c.if-on.false) c.with_bit-seen.ensures g.onward;
    }

pub returns : goal.returns
returns c =
    gather-all _ _ _ _ _ _ c.loop-child.invariant.gathering (ended c.loop-child.invariant.going c.in-None.ensures.steps)
