-- `lists::Nodes::form_tree` meets its contract: node after node goes on from the one before.
-- Assumes nothing.
use mathlib.Core.Path.{sym, ap, ◌∙◌}
use native.Mathlib.Omega.{arith}
use Rattle.meaning.specs.Lists.{form_tree}
use Rattle.lists.proofs.Forms.{nodes_whole, form-none, form-deep, form-first, on_none, on-low, on-jump, on-next}
use Rattle.lists.proofs.Nodes.form_tree.Goals as goal

pub returns-then-n-eq0 : goal.returns-then-n-eq0
returns-then-n-eq0 c =
    form-none _ 0 _ (omega arith) ∙ ap form_tree (nodes_whole c.args.self.now)

pub returns-then-depth-ne0 : goal.returns-then-depth-ne0
returns-then-depth-ne0 c =
    form-deep _ 0 _ _ (omega arith) c.depth.ensures c.if-depth-ne0.true ∙ ap form_tree (nodes_whole c.args.self.now)

pub loop-k-init : goal.loop-k-init
loop-k-init c =
    sym (ap form_tree (nodes_whole c.args.self.now)) ∙ form-first _ 0 _ _ (omega arith) c.depth.ensures c.if-depth-ne0.false

pub returns-then-d-lt1 : goal.returns-then-d-lt1
returns-then-d-lt1 c =
    on-low _ _ _ _ _ (omega arith) c.depth-d.ensures c.if-d-lt1.true ∙ sym c.loop-k.invariant

pub returns-then-before-d : goal.returns-then-before-d
returns-then-before-d c =
    on-jump _ _ _ _ _ (omega arith) c.depth-d.ensures c.if-d-lt1.false c.if-before-d.true ∙ sym c.loop-k.invariant

pub loop-k-preserved : goal.loop-k-preserved
loop-k-preserved c =
    c.loop-k.invariant ∙ on-next _ _ _ _ _ (omega arith) c.depth-d.ensures c.if-d-lt1.false c.if-before-d.false

pub returns : goal.returns
returns c =
    on_none _ _ _ _ (omega arith) ∙ sym c.loop-k.invariant
