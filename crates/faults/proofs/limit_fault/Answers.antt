-- `faults::limit_fault` meets its contract: the tests are made in their order.
-- Assumes nothing.
use mathlib.Core.Path.{ap₂, ◌∙◌}
use native.Mathlib.Omega.{arith}
use Rattle.std.proofs.lemmas.Result.{err_from_is_err_and}
use Rattle.meaning.specs.Fraction.{wrong_with}
use Rattle.meaning.specs.Writing.{limit_at}
use Rattle.lists.proofs.Parts.{nodes-own}
use Rattle.faults.proofs.Faults.{begun, limit-many, limit-how, limit-wrong, limit-nodes, limit-size, limit-good}
use Rattle.faults.proofs.limit_fault.Goals as goal

pub returns-then-j-ge-MOST_THRESHOLDS : goal.returns-then-j-ge-MOST_THRESHOLDS
returns-then-j-ge-MOST_THRESHOLDS c =
    limit-many _ _ c.if-j-ge-MOST_THRESHOLDS.true

pub returns-then-how-gt3 : goal.returns-then-how-gt3
returns-then-how-gt3 c =
    limit-how _ _ c.if-j-ge-MOST_THRESHOLDS.false (omega arith)

pub returns-in_err-wrong : goal.returns-in_err-wrong
returns-in_err-wrong c =
    let p = err_from_is_err_and c.from_residual.result c.from_residual.ensures.1 in
    rw (p.1, p.2) (limit-wrong _ (limit_at c.args.limits.now c.args.inner.now c.args.j 0) c.if-j-ge-MOST_THRESHOLDS.false (omega arith) _ (c.in_err-wrong.ensures ∙ ap₂ wrong_with c.p.ensures c.q.ensures))

pub returns-in_err-nodes_fault : goal.returns-in_err-nodes_fault
returns-in_err-nodes_fault c =
    let p = err_from_is_err_and c.from_residual-in_err-nodes_fault.result c.from_residual-in_err-nodes_fault.ensures.1 in
    let fits = begun _ (limit_at c.args.limits.now c.args.inner.now c.args.j 0) c.if-j-ge-MOST_THRESHOLDS.false (omega arith) c.p.ensures c.q.ensures
    c.in_ok-wrong.ensures in
    rw (p.1, p.2) (limit-nodes _ _ fits _ (nodes-own _ _ c.args.j c.requires.1) _ c.in_err-nodes_fault.ensures)

pub returns-then-inner_size-gt-MOST_SIZE : goal.returns-then-inner_size-gt-MOST_SIZE
returns-then-inner_size-gt-MOST_SIZE c =
    let fits = begun _ (limit_at c.args.limits.now c.args.inner.now c.args.j 0) c.if-j-ge-MOST_THRESHOLDS.false (omega arith) c.p.ensures c.q.ensures
    c.in_ok-wrong.ensures in
    limit-size _ _ fits _ (nodes-own _ _ c.args.j c.requires.1) c.in_ok-nodes_fault.ensures _ c.inner_size.ensures c.if-inner_size-gt-MOST_SIZE.true

pub returns : goal.returns
returns c =
    let fits = begun _ (limit_at c.args.limits.now c.args.inner.now c.args.j 0) c.if-j-ge-MOST_THRESHOLDS.false (omega arith) c.p.ensures c.q.ensures
    c.in_ok-wrong.ensures in
    limit-good _ _ fits _ (nodes-own _ _ c.args.j c.requires.1) c.in_ok-nodes_fault.ensures _ c.inner_size.ensures c.if-inner_size-gt-MOST_SIZE.false
