-- `fixed::Stretch::threshold` meets its contract: 12, 1, 13, what is wrong with its fraction, and 1, as the reader of a threshold gives them, and where its inner
-- concept ends.
-- Assumes nothing.
use mathlib.Core.Path.{refl, sym, ap, ◌∙◌}
use Prim.Native.Nat.{ℕ, ◌+◌, ◌≤◌, ◌<◌}
use native.Mathlib.Omega.{arith}
use Rattle.meaning.specs.Refusal.{refused}
use Rattle.meaning.specs.Bytes.{number}
use Rattle.fixed.proofs.Thresholds.{threshold-many, threshold-cut-end, threshold-how, threshold-fraction, threshold-length-cut, threshold-past}
use Rattle.fixed.proofs.Thresholds.{rule-kept}
use Rattle.std.proofs.lemmas.Result.{err_from_is_err_and}
use Rattle.fixed.proofs.Stretch.threshold.Goals as goal

pub returns-then-parts-ge-MOST_THRESHOLDS : goal.returns-then-parts-ge-MOST_THRESHOLDS
returns-then-parts-ge-MOST_THRESHOLDS c =
    let a = c.args in
    λ owner n ps l. rw c.at.ensures (threshold-many a.self.now.bytes.now a.self.now.end owner a.at n ps (omega (arith, l, c.if-parts-ge-MOST_THRESHOLDS.true)))

pub returns-then-self-at-lt5 : goal.returns-then-self-at-lt5
returns-then-self-at-lt5 c =
    let a = c.args in
    let room : a.parts < 16 = c.if-parts-ge-MOST_THRESHOLDS.false in
    λ owner n ps l. threshold-cut-end a.self.now.bytes.now a.self.now.end owner a.at n ps (omega (arith, l)) _ c.cut.ensures

pub returns-then-one-gt3 : goal.returns-then-one-gt3
returns-then-one-gt3 c =
    let a = c.args in
    let room : a.parts < 16 = c.if-parts-ge-MOST_THRESHOLDS.false in
    let fits : a.at + 5 ≤ a.self.now.end = omega (arith, c.if-self-at-lt5.false, c.requires) in
    let above : 3 < number a.self.now.bytes.now a.at 1 = omega (arith, c.if-one-gt3.true, c.one.ensures.value) in
    λ owner n ps l. rw c.at-then-one-gt3.ensures (threshold-how a.self.now.bytes.now a.self.now.end owner a.at n ps (omega (arith, l)) fits above)

pub returns-in_err-fraction : goal.returns-in_err-fraction
returns-in_err-fraction c =
    let a = c.args in
    let room : a.parts < 16 = c.if-parts-ge-MOST_THRESHOLDS.false in
    let fits : a.at + 5 ≤ a.self.now.end = omega (arith, c.if-self-at-lt5.false, c.requires) in
    let compared : number a.self.now.bytes.now a.at 1 ≤ 3 = omega (arith, c.if-one-gt3.false, c.one.ensures.value) in
    let w = c.in_err-fraction.ensures in
    let p = err_from_is_err_and c.from_residual.result c.from_residual.ensures.1 in
    rw (p.1, p.2) (λ owner n ps l. threshold-fraction a.self.now.bytes.now a.self.now.end owner a.at n ps (omega (arith, l, room)) fits compared _ refl w.0 ∙ ap refused (sym w.1))

pub returns-then-self-at-lt7 : goal.returns-then-self-at-lt7
returns-then-self-at-lt7 c =
    let a = c.args in
    let room : a.parts < 16 = c.if-parts-ge-MOST_THRESHOLDS.false in
    let fits : a.at + 5 ≤ a.self.now.end = omega (arith, c.if-self-at-lt5.false, c.requires) in
    let compared : number a.self.now.bytes.now a.at 1 ≤ 3 = omega (arith, c.if-one-gt3.false, c.one.ensures.value) in
    let rule = rule-kept a.self.now.bytes.now a.at compared c.in_ok-fraction.ensures in
    let cut : a.self.now.end < a.at + 7 = omega (arith, c.if-self-at-lt7.true, c.requires) in
    λ owner n ps l. rw c.at-then-self-at-lt7.ensures (threshold-length-cut a.self.now.bytes.now a.self.now.end owner a.at n ps (omega (arith, l, room)) fits rule cut)

pub returns-then-self-at : goal.returns-then-self-at
returns-then-self-at c =
    let a = c.args in
    let room : a.parts < 16 = c.if-parts-ge-MOST_THRESHOLDS.false in
    let fits : a.at + 5 ≤ a.self.now.end = omega (arith, c.if-self-at-lt5.false, c.requires) in
    let compared : number a.self.now.bytes.now a.at 1 ≤ 3 = omega (arith, c.if-one-gt3.false, c.one.ensures.value) in
    let rule = rule-kept a.self.now.bytes.now a.at compared c.in_ok-fraction.ensures in
    let long : a.at + 7 ≤ a.self.now.end = omega (arith, c.if-self-at-lt7.false, c.requires) in
    let past : a.self.now.end < a.at + 7 + number a.self.now.bytes.now (a.at + 5) 2 = omega (arith, c.if-self-at.true, c.two-len.ensures.value, long) in
    λ owner n ps l. rw c.at-then-self-at.ensures (threshold-past a.self.now.bytes.now a.self.now.end owner a.at n ps (omega (arith, l, room)) fits rule long past)

pub returns : goal.returns
returns c =
    let a = c.args in
    let room : a.parts < 16 = c.if-parts-ge-MOST_THRESHOLDS.false in
    let fits : a.at + 5 ≤ a.self.now.end = omega (arith, c.if-self-at-lt5.false, c.requires) in
    let compared : number a.self.now.bytes.now a.at 1 ≤ 3 = omega (arith, c.if-one-gt3.false, c.one.ensures.value) in
    let rule = rule-kept a.self.now.bytes.now a.at compared c.in_ok-fraction.ensures in
    let long : a.at + 7 ≤ a.self.now.end = omega (arith, c.if-self-at-lt7.false, c.requires) in
    record {
      room = room;
      fits = long;
      ruled = rule;
      stops = ap (λ (k : ℕ). a.at + 7 + k) c.two-len.ensures.value;
      inside = omega (arith, c.if-self-at.false, long);
    }
