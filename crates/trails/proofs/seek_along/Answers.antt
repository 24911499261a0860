-- `trails::seek_along` meets its contract: the links of the role are passed one after the other, up to one that leads to an item of the set in service.
-- Assumes nothing.
use mathlib.Core.Path.{◌≡◌, sym, ap, ◌∙◌}
use native.Mathlib.Omega.{arith}
use Rattle.meaning.specs.Register.{withdrawn}
use Rattle.graph.specs.Sets.{in_set}
use Rattle.graph.proofs.Judging.{judged}
use Rattle.graph.proofs.Use.{asked-names}
use Rattle.trails.specs.Sought.{found}
use Rattle.trails.proofs.Search.{seeking-start, seeking-pass, seeking-out, seeking-found, seeking-none}
use Rattle.trails.proofs.seek_along.Goals.{else-contains-via-then-contains+else-not-is_out, else-contains-via-else-contains}
use Rattle.trails.proofs.seek_along.Goals as goal

pub loop-k-init : goal.loop-k-init
loop-k-init c = λ j. seeking-start _ _ _ _ _ _ (c.from_role-start.ensures j)

pub returns-then-role-role_of : goal.returns-then-role-role_of
returns-then-role-role_of c = λ j.
    let w = c.loop-k.invariant j in
    sym (ap found (seeking-none _ _ _ _ _ _ _ w (record {
      behind = omega arith;
      within = omega arith;
      before = w.before;
      here = λ l. omega (arith, c.role_of.ensures j);
    })))

pub is_out-requires : goal.is_out-requires
is_out-requires c = asked-names (judged c.args.walk.now.judged) c.end_of-to.ensures.upper_bound

pub loop-k-preserved : goal.loop-k-preserved
loop-k-preserved c = λ j.
    let s = c.args.set.now.words in
    let e = c.end_of-to.ensures.image j in
    let w = c.loop-k.invariant j in
    elim c.else-contains.branch [
      | else-contains-via-then-contains+else-not-is_out b ↦
          seeking-out _ _ _ _ _ _ _ w (omega (arith, c.role_of.ensures j)) (sym (ap (withdrawn j.register) e) ∙ sym (b.is_out.ensures j.register j.read) ∙ b.if-not-is_out.false)
      | else-contains-via-else-contains b ↦
          seeking-pass _ _ _ _ _ _ _ w (omega (arith, c.role_of.ensures j)) (sym (ap (in_set s) e) ∙ sym c.contains.ensures ∙ b.if-contains.false)
    ]

pub returns-then-not-is_out : goal.returns-then-not-is_out
returns-then-not-is_out c = λ j.
    let s = c.args.set.now.words in
    let e = c.end_of-to.ensures.image j in
    let t = sym (ap (in_set s) e) ∙ sym c.contains.ensures ∙ c.if-contains.true in
    let o = sym (ap (withdrawn j.register) e) ∙ sym (c.is_out.ensures j.register j.read) ∙ c.if-not-is_out.true in
    rw e (sym (ap found (seeking-found _ _ _ _ _ _ _ (c.loop-k.invariant j) (omega arith) (omega arith) (omega (arith, c.role_of.ensures j)) t o)))

pub returns : goal.returns
returns c = λ j.
    let o = c.from_role-start.ensures j in
    let e : c.loop-k.k ≡ c.from_role-start.result.end = omega (arith, o.order) in
    let w = rw e at (c.loop-k.invariant j) in
    sym (ap found (seeking-none _ _ _ _ _ _ _ w (record {
      behind = o.order;
      within = omega arith;
      before = w.before;
      here = λ l. absurd (omega arith);
    })))
