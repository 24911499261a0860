-- `register::read_body` meets its contract: 1 and 4 as the document gives them, and then the links.
-- Assumes nothing.
use mathlib.Core.Path.{sym, ◌∙◌}
use native.Mathlib.Omega.{arith}
use Rattle.register.proofs.Body.{body-items-cut, body-items-few, body-items-many, body-names-cut, body-links-cut, body-links-many, body-links}
use Rattle.register.proofs.read_body.Goals as goal

pub returns-then-end-lt5 : goal.returns-then-end-lt5
returns-then-end-lt5 c =
    let a = c.args in
    rw c.at.ensures (sym (body-items-cut a.s.now a.end (omega arith) (omega arith)))

pub returns-then-items-lt1 : goal.returns-then-items-lt1
returns-then-items-lt1 c =
    let a = c.args in
    let e = c.two-items.ensures.value in
    rw c.at-then-items-lt1.ensures (sym (body-items-few a.s.now a.end (omega arith) (omega arith)))

pub returns-then-items-gt-MOST_ITEMS : goal.returns-then-items-gt-MOST_ITEMS
returns-then-items-gt-MOST_ITEMS c =
    let a = c.args in
    let e = c.two-items.ensures.value in
    rw c.at-then-items-gt-MOST_ITEMS.ensures (sym (body-items-many a.s.now a.end (omega arith) (omega arith) (omega arith)))

pub returns-then-end-at : goal.returns-then-end-at
returns-then-end-at c =
    let a = c.args in
    let e = c.two-items.ensures.value in
    let q = c.count_at-at.ensures in
    rw c.at-then-end-at.ensures (sym (body-names-cut a.s.now a.end (omega arith) (omega arith) (omega arith) (omega arith) c.cut_names.ensures))

pub returns-then-end-at-2 : goal.returns-then-end-at-2
returns-then-end-at-2 c =
    let a = c.args in
    let e = c.two-items.ensures.value in
    let q = c.count_at-at.ensures in
    rw c.at-then-end-at-2.ensures (sym (body-links-cut a.s.now a.end (omega arith) (omega arith) (omega arith) (omega arith) (omega arith) (omega arith)))

pub returns-then-links-gt-MOST_LINKS : goal.returns-then-links-gt-MOST_LINKS
returns-then-links-gt-MOST_LINKS c =
    let a = c.args in
    let e = c.two-items.ensures.value in
    let q = c.count_at-at.ensures in
    let d = c.two-links.ensures.value in
    rw c.at-then-links-gt-MOST_LINKS.ensures (sym (body-links-many a.s.now a.end (omega arith) (omega arith) (omega arith) (omega arith) _ (omega arith) (omega arith) (omega arith)))

pub returns : goal.returns
returns c =
    let a = c.args in
    let e = c.two-items.ensures.value in
    let q = c.count_at-at.ensures in
    let d = c.two-links.ensures.value in
    c.read_links.ensures
    ∙ sym (body-links a.s.now a.end (omega arith) (omega arith) (omega arith) (omega arith) _ (omega arith) (omega arith) _ _ _ e d c.link_at.ensures (omega arith))
