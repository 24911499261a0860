use mathlib.Core.Path.{◌≡◌, sym, ◌∙◌, ap}
use Prim.Native.Nat.{ℕ, ◌-◌, ◌≤◌, ◌<◌}
use native.Mathlib.Omega.{arith}
use lib.ListN.{length}
use Rattle.meaning.proofs.Head.{head-short, head-version, head-length, head-good}
use Rattle.meaning.specs.Refusal.{Answer, good}
use Rattle.meaning.specs.Bytes.{number}
use Rattle.fields.specs.Head.{wrong_in}
use Rattle.fields.proofs.Wrong.{wrong-longer, wrong-shorter, right-front, right-whole}
use Rattle.fields.proofs.read_head.Goals as goal

-- a head's end as a number of its own, so that a wrong end is a false equation of numbers
ends_at : {a b : ℕ} {r : Answer ℕ} → r ≡ good b → a ≡ b → good a ≡ r
ends_at h e = ap good e ∙ sym h

pub returns-then-n-lt3-clause-result_value : goal.returns-then-n-lt3-clause-result_value
returns-then-n-lt3-clause-result_value c =
    let h : length c.args.s.now < 3 = omega arith in
    λ side. rw c.at.ensures (sym (head-short side (wrong_in c.args.session) c.args.s.now h))

pub returns-then-s-ne1-clause-result_value : goal.returns-then-s-ne1-clause-result_value
returns-then-s-ne1-clause-result_value c =
    let h : 3 ≤ length c.args.s.now = omega arith in
    λ side. rw c.at-then-s-ne1.ensures (sym (head-version side (wrong_in c.args.session) c.args.s.now h c.if-s-ne1.true))

pub returns-then-n-len-clause-result_value : goal.returns-then-n-len-clause-result_value
returns-then-n-len-clause-result_value c =
    let h : 3 ≤ length c.args.s.now = omega arith in
    let l : length c.args.s.now - 3 < number c.args.s.now 1 2 = omega arith in
    λ side. rw c.at-then-n-len.ensures (sym (head-length side (wrong_in c.args.session) c.args.s.now h c.if-s-ne1.false (wrong-longer c.args.session _ _ l)))

pub returns-then-session-clause-result_value : goal.returns-then-session-clause-result_value
returns-then-session-clause-result_value c =
    let h : 3 ≤ length c.args.s.now = omega arith in
    let l : number c.args.s.now 1 2 ≤ length c.args.s.now - 3 = omega arith in
    λ side. ends_at (head-good side (wrong_in c.args.session) c.args.s.now h c.if-s-ne1.false
    (right-front c.args.session _ _ c.if-session.true l)) (omega arith)

pub returns-then-len-n-clause-result_value : goal.returns-then-len-n-clause-result_value
returns-then-len-n-clause-result_value c =
    let h : 3 ≤ length c.args.s.now = omega arith in
    let l : number c.args.s.now 1 2 < length c.args.s.now - 3 = omega arith in
    λ side. rw c.at-then-len-n.ensures (sym (head-length side (wrong_in c.args.session) c.args.s.now h c.if-s-ne1.false (wrong-shorter c.args.session _ _ c.if-session.false l)))

pub returns-clause-result_value : goal.returns-clause-result_value
returns-clause-result_value c =
    let h : 3 ≤ length c.args.s.now = omega arith in
    let l : number c.args.s.now 1 2 ≡ length c.args.s.now - 3 = omega arith in
    λ side. ends_at (head-good side (wrong_in c.args.session) c.args.s.now h c.if-s-ne1.false
    (right-whole c.args.session _ _ c.if-session.false l)) (omega arith)
