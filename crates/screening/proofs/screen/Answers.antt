-- `screening::screen` meets its contract: a threshold of another node is passed over, and one of the node's narrows the set.
-- Assumes nothing.
use mathlib.Core.Path.{sym, subst}
use Prim.Native.Nat.{ℕ}
use native.Mathlib.Omega.{arith}
use lib.ListN.{get_or}
use Rattle.graph.proofs.Judging.{judged}
use Rattle.screening.specs.Standing.{AllStand, StandsAt, no_threshold}
use Rattle.screening.proofs.Sifting.{stays-among}
use Rattle.screening.proofs.Through.{through-none, through-pass, through-take, through-all}
use Rattle.screening.proofs.screen.Goals.{then-from-node, else-from-node}
use Rattle.screening.proofs.screen.Goals as goal

pub loop-k-init : goal.loop-k-init
loop-k-init c =
    record { among = c.requires.count_le_most.1; through = λ j a. through-none _ _ _ _ _ }

pub judge-requires : goal.judge-requires
judge-requires c =
    let all = c.requires.all_stand in
    let k = c.loop-k.k in
    let there = subst (λ (z : ℕ). StandsAt c.args.wanted.now.message.now z (get_or all.thresholds k no_threshold))
    (sym c.from-then-from-node.ensures) (all.each k c.loop-k-test.true) in
    record { one_stands = record { threshold = get_or all.thresholds k no_threshold; stands = there }; among = c.loop-k.invariant.among }

pub loop-k-preserved : goal.loop-k-preserved
loop-k-preserved c =
    let i = c.loop-k.invariant in
    let k = c.loop-k.k in
    let m = c.args.wanted.now.message.now in
    let o = c.from.ensures in
    elim c.if-from-node.branch [
      | then-from-node w ↦ (
          let there : (a : AllStand m c.args.wanted.now.parts.firsts c.args.wanted.now.parts.count)
          → StandsAt m w.from-then-from-node.result (get_or a.thresholds k no_threshold) =
          λ a. subst (λ (z : ℕ). StandsAt m z (get_or a.thresholds k no_threshold)) (sym w.from-then-from-node.ensures) (a.each k c.loop-k-test.true) in
          let said = w.judge.ensures in
          rw w.set-is (record {
            among = stays-among _ _ _ (said (judged c.args.on.now.judged) _ (there c.requires.all_stand)) _ i.among;
            through = λ j a. through-take _ _ _ _ _ _ _ _ _ (i.through j a) o w.if-from-node.true (said j _ (there a));
          }))
      | else-from-node w ↦
          rw w.set-is (record { among = i.among; through = λ j a. through-pass _ _ _ _ _ _ _ _ (i.through j a) o w.if-from-node.false })
    ]

pub returns : goal.returns
returns c =
    λ j a. through-all _ _ _ _ _ _ _ _ (c.loop-k.invariant.through j a) (omega arith)
