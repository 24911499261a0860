-- `links::read_link` meets its contract: 1, 5, 7, 5, 6 as the reader of a link gives them, and the next floor where none is given.
-- Assumes nothing.
use mathlib.Core.Path.{sym, ◌∙◌, ap}
use Prim.Native.Nat.{ℕ, ◌+◌, ◌-◌, ◌≤◌, ◌<◌}
use native.Mathlib.Omega.{arith}
use Rattle.meaning.specs.Bytes.{number}
use Rattle.meaning.specs.Refusal.{good}
use Rattle.meaning.specs.Register.{link_at}
use Rattle.links.specs.Links.{key}
use Rattle.links.proofs.OneLink.{link-cut, link-from, link-role, link-to, link-order, link-good}
use Rattle.links.proofs.read_link.Goals as goal

pub returns-then-end-at-lt5-clause-result_value : goal.returns-then-end-at-lt5-clause-result_value
returns-then-end-at-lt5-clause-result_value c =
    let h : c.args.at ≤ c.args.end = omega arith in
    let l : c.args.end - c.args.at < 5 = omega arith in
    λ before f. rw c.cut.ensures (sym (link-cut c.args.s.now c.args.end c.args.items before c.args.at h l))

pub returns-then-items-from-clause-result_value : goal.returns-then-items-from-clause-result_value
returns-then-items-from-clause-result_value c =
    let h : c.args.at + 5 ≤ c.args.end = omega arith in
    let l : c.args.items ≤ number c.args.s.now c.args.at 2 = omega arith in
    λ before f. rw c.at.ensures (sym (link-from c.args.s.now c.args.end c.args.items before c.args.at h l))

pub returns-then-role-gt-MOST_ROLE-clause-result_value : goal.returns-then-role-gt-MOST_ROLE-clause-result_value
returns-then-role-gt-MOST_ROLE-clause-result_value c =
    let h : c.args.at + 5 ≤ c.args.end = omega arith in
    let a : number c.args.s.now c.args.at 2 < c.args.items = omega arith in
    let l : 31 < number c.args.s.now (c.args.at + 2) 1 = omega arith in
    λ before f. rw c.at-then-role-gt-MOST_ROLE.ensures (sym (link-role c.args.s.now c.args.end c.args.items before c.args.at h a l))

pub returns-then-items-to-clause-result_value : goal.returns-then-items-to-clause-result_value
returns-then-items-to-clause-result_value c =
    let h : c.args.at + 5 ≤ c.args.end = omega arith in
    let a : number c.args.s.now c.args.at 2 < c.args.items = omega arith in
    let b : number c.args.s.now (c.args.at + 2) 1 ≤ 31 = omega arith in
    let l : c.args.items ≤ number c.args.s.now (c.args.at + 3) 2 = omega arith in
    λ before f. rw c.at-then-items-to.ensures (sym (link-to c.args.s.now c.args.end c.args.items before c.args.at h a b l))

pub returns-then-number-floor-clause-result_value : goal.returns-then-number-floor-clause-result_value
returns-then-number-floor-clause-result_value c =
    let h : c.args.at + 5 ≤ c.args.end = omega arith in
    let a : number c.args.s.now c.args.at 2 < c.args.items = omega arith in
    let b : number c.args.s.now (c.args.at + 2) 1 ≤ 31 = omega arith in
    let d : number c.args.s.now (c.args.at + 3) 2 < c.args.items = omega arith in
    let m : c.args.items ≤ 512 = omega arith in
    let l : key (link_at c.args.s.now c.args.at) < c.args.floor = omega arith in
    λ before f. rw c.at-then-number-floor.ensures (sym (link-order c.args.s.now c.args.end c.args.items before c.args.at h a b d m c.args.floor f l))

pub returns-clause-result_value : goal.returns-clause-result_value
returns-clause-result_value c =
    let h : c.args.at + 5 ≤ c.args.end = omega arith in
    let a : number c.args.s.now c.args.at 2 < c.args.items = omega arith in
    let b : number c.args.s.now (c.args.at + 2) 1 ≤ 31 = omega arith in
    let d : number c.args.s.now (c.args.at + 3) 2 < c.args.items = omega arith in
    let m : c.args.items ≤ 512 = omega arith in
    let l : c.args.floor ≤ key (link_at c.args.s.now c.args.at) = omega arith in
    λ before f.
    ap (λ (z : ℕ). good z) (omega arith)
    ∙ sym (link-good c.args.s.now c.args.end c.args.items before c.args.at h a b d m c.args.floor f l)
