-- `lists::Handed::stand` meets its contract: threshold after threshold stands, and takes its inner nodes from those that are left.
-- Assumes nothing.
use native.Mathlib.Omega.{arith}
use Rattle.lists.proofs.Forms.{stood-all, stood-outside, stood-lower, stood-short, stood-unformed, stood-more}
use Rattle.lists.proofs.Handed.stand.Goals as goal

pub returns-then-n-owner : goal.returns-then-n-owner
returns-then-n-owner c =
    stood-outside c.loop-j.invariant (omega arith) c.owner-owner.ensures (omega arith)

pub returns-then-owner-before : goal.returns-then-owner-before
returns-then-owner-before c =
    stood-lower c.loop-j.invariant (omega arith) c.owner-owner.ensures (omega arith) c.if-owner-before.true

pub returns-then-all-used : goal.returns-then-all-used
returns-then-all-used c =
    stood-short c.loop-j.invariant (omega arith) c.owner-owner.ensures c.inners-count.ensures (omega arith)

pub returns-then-not-form_tree : goal.returns-then-not-form_tree
returns-then-not-form_tree c =
    stood-unformed c.loop-j.invariant (omega arith) c.owner-owner.ensures c.inners-count.ensures (omega arith) c.if-owner-before.false c.part.ensures.nodes c.form_tree.ensures
    c.if-not-form_tree.true

pub loop-j-preserved : goal.loop-j-preserved
loop-j-preserved c =
    stood-more c.loop-j.invariant (omega arith) c.owner-owner.ensures c.inners-count.ensures (omega arith) c.if-owner-before.false (omega arith)
    c.part.ensures.nodes c.form_tree.ensures c.if-not-form_tree.false

pub returns : goal.returns
returns c =
    stood-all c.loop-j.invariant (omega arith) c.count-all.ensures.value
