-- `reduction::dropped` meets its contract.
-- Assumes nothing.
use mathlib.Core.Path.{refl}
use native.Mathlib.Omega.{arith}
use Rattle.std.proofs.Common.{rules, ◌≡◌, get_or}
use Rattle.reduction.proofs.Held.{in-range, reaches}
use Rattle.reduction.proofs.Subsumed.{drop-before, drop-after}
use Rattle.reduction.proofs.dropped.Goals as goal

pub returns-then-alone : goal.returns-then-alone
returns-then-alone c =
    c.requires.kept_if c.if-alone.true _ _ _

pub overflow_add-node : goal.overflow_add-node
overflow_add-node c =
    let a = in-range _ _ _ _ c.requires.sibling.here in
    let l = reaches _ _ _ _ _ _ c.requires.sibling.before in omega arith

pub yields_one-requires : goal.yields_one-requires
yields_one-requires c =
    let s = c.requires.sibling in
    let b = c.between.ensures in
    record { siblings = b.ends; among = record { one = s.here; others = rw (b.from, b.end) s.before } }

pub returns-then-yields_one : goal.returns-then-yields_one
returns-then-yields_one c =
    let b = c.between.ensures in
    drop-before _ _ _ _ _ _ _ (rw (b.from, b.end) at c.yields_one.ensures) refl c.if-yields_one.true

pub bounds-tree-node : goal.bounds-tree-node
bounds-tree-node c =
    let a = in-range _ _ _ _ c.requires.sibling.here in
    let l = reaches _ _ _ _ _ _ c.requires.sibling.before in omega arith

pub bounds-tree-c : goal.bounds-tree-c
bounds-tree-c c =
    in-range _ _ _ _ c.requires.sibling.here

pub yields_one-requires-2 : goal.yields_one-requires-2
yields_one-requires-2 c =
    let s = c.requires.sibling in
    let b = c.between-2.ensures in
    let next : c.from-next.result ≡ get_or c.args.tree.now.ends c.args.c 0 = search rules in
    let end : c.from-end.result ≡ get_or c.args.tree.now.ends c.args.node 0 = search rules in
    record { siblings = b.ends; among = record { one = s.here; others = rw (b.from, b.end, next, end) s.after } }

pub returns : goal.returns
returns c =
    let a = c.between.ensures in
    let b = c.between-2.ensures in
    let next : c.from-next.result ≡ get_or c.args.tree.now.ends c.args.c 0 = search rules in
    let end : c.from-end.result ≡ get_or c.args.tree.now.ends c.args.node 0 = search rules in
    drop-after _ _ _ _ _ _ _ (rw (a.from, a.end) at c.yields_one.ensures) refl _ c.if-yields_one.false (rw (b.from, b.end, next, end) at c.yields_one-2.ensures) refl
