use Prim.Native.Nat.{ℕ, ◌+◌, ◌<◌}
use native.Mathlib.Omega.{arith}
use mathlib.Core.Bool.{false, not}
use borrow.Author.Tests.{ne_eqb}
use mathlib.Core.Logic.{◌⊎◌, inl, inr}
use mathlib.Core.Path.{◌≡◌, ap, sym, ◌∙◌}
use lib.ListN.{get_or}
use Rattle.std.specs.Prelude.{None}
use Rattle.meaning.specs.Register.{withdrawn}
use Rattle.graph.specs.Judged.{end_no}
use Rattle.graph.proofs.Judging.{judged}
use Rattle.graph.proofs.Use.{asked-names}
use Rattle.folds.proofs.Scanning.{passing-end, passing-by, passing-out, passing-take, there_is, there_is_none}
use Rattle.folds.proofs.best_of.Goals as goal
use Rattle.folds.proofs.best_of.Goals.{else-value-best-via-then-value-best+else-is_some, else-value-best-via-else-value-best}
use Rattle.folds.proofs.best_of.Goals.{else-not-this-via-then-not-this+else-is_out, else-not-this-via-else-not-this}

pub is_out-requires : goal.is_out-requires
is_out-requires g c =
    asked-names (judged c.args.walk.now.judged) c.end_of-to.ensures.upper_bound

pub loop-k-preserved-then-is_some : goal.loop-k-preserved-then-is_some
loop-k-preserved-then-is_some g c =
    λ j. let e = ap (λ (z : ℕ). get_or c.args.numbers.now (c.args.at + z) 0) (c.end_of-to.ensures.image j) in
    passing-by (c.loop-k.invariant j) (omega (arith, c.role_of.ensures j, c.if-role-role_of.false)) (omega (arith, e, c.if-value-best.true))
    (there_is _ (sym c.is_some.ensures ∙ c.if-is_some.true))

pub loop-k-preserved-then-is_out : goal.loop-k-preserved-then-is_out
loop-k-preserved-then-is_out g c =
    λ j. passing-out (c.loop-k.invariant j) (omega (arith, c.role_of.ensures j, c.if-role-role_of.false))
    (ap (withdrawn j.register) (sym (c.end_of-to.ensures.image j)) ∙ sym (c.is_out.ensures j.register j.read) ∙ c.if-is_out.true)

pub loop-k-preserved : goal.loop-k-preserved
loop-k-preserved g c =
    λ j. let better : (c.loop-k.best.link ≡ None) ⊎ (c.loop-k.best.value < get_or c.args.numbers.now (c.args.at + c.end_of-to.result) 0) =
    elim c.else-value-best.branch [
      | else-value-best-via-then-value-best+else-is_some w ↦ inl (there_is_none _ (sym w.is_some.ensures ∙ w.if-is_some.false))
      | else-value-best-via-else-value-best w ↦ inr (omega (arith, w.if-value-best.false))
    ] in
    let serves : withdrawn j.register (end_no j.register c.loop-k.k) ≡ false =
    elim c.else-not-this.branch [
      | else-not-this-via-then-not-this+else-is_out w ↦
          ap (withdrawn j.register) (sym (c.end_of-to.ensures.image j)) ∙ sym (w.is_out.ensures j.register j.read) ∙ w.if-is_out.false
      | else-not-this-via-else-not-this w ↦ c.requires.served (ap not (ne_eqb _ _ w.if-not-this.false)) j _
    ] in
    passing-take (c.loop-k.invariant j) (omega (arith, c.role_of.ensures j, c.if-role-role_of.false)) c.loop-k.auto.k
    (ap (λ (z : ℕ). get_or c.args.numbers.now (c.args.at + z) 0) (c.end_of-to.ensures.image j)) better serves

pub returns-after-loop-k : goal.returns-after-loop-k
returns-after-loop-k g c =
    λ j. passing-end (c.loop-k.invariant j) c.loop-k.auto.k (c.loop-k.auto.k-end (c.requires.run j).0) (λ l. absurd (omega (arith, l, c.loop-k-test.false)))

pub returns-then-role-role_of : goal.returns-then-role-role_of
returns-then-role-role_of g c =
    λ j. passing-end (c.loop-k.invariant j) c.loop-k.auto.k (omega (arith, c.loop-k-test.true)) (λ l. omega (arith, c.role_of.ensures j, c.if-role-role_of.true))
