-- `register::slow_links` meets its contract: link after link, and nothing behind them.
-- Assumes nothing.
use mathlib.Core.Path.{◌≡◌, refl, sym, subst}
use Prim.Native.Nat.{ℕ, ◌+◌, ◌*◌}
use native.Mathlib.Omega.{arith}
use Rattle.std.proofs.lemmas.Result.{err_from_is_err_and}
use Rattle.links.proofs.Links.{Going, going-none, going_more, going-stop, all_read}
use Rattle.register.proofs.Behind.{links-stop, links-left, links-done}
use Rattle.register.proofs.slow_links.Goals as goal

pub loop-i-init : goal.loop-i-init
loop-i-init c =
    let a = c.args in
    let e : a.start ≡ a.start + 5 * 0 = omega arith in
    (omega arith, subst (λ (z : ℕ). Going a.s.now a.end a.items a.links a.start 0 z 0) e (going-none _ _ _ _ _))

pub returns-in_err-floor : goal.returns-in_err-floor
returns-in_err-floor c =
    let w = c.loop-i.invariant.1 in
    let p = err_from_is_err_and c.from_residual.result c.from_residual.ensures.1 in
    rw (p.1, p.2) (sym (links-stop _ _ _ _ _ _ (going-stop _ _ _ _ _ _ _ _ w _ _ (omega arith)
    (c.in_err-floor.ensures.result_value w.before w.floor))))

pub loop-i-preserved : goal.loop-i-preserved
loop-i-preserved c =
    let a = c.args in
    let w = c.loop-i.invariant.1 in
    let fit = c.in_ok-floor.ensures.passed in
    let e : a.start + 5 * c.loop-i.i + 5 ≡ a.start + 5 * (c.loop-i.i + 1) = omega arith in
    let next = going_more _ _ _ _ _ _ _ _ w c.in_ok-floor.floor (omega arith) (omega arith) (c.in_ok-floor.ensures.result_value w.before w.floor) in
    (omega arith, subst (λ (z : ℕ). Going a.s.now a.end a.items a.links a.start (c.loop-i.i + 1) z c.in_ok-floor.floor) e next)

pub returns-then-behind-end : goal.returns-then-behind-end
returns-then-behind-end c =
    let all = all_read _ _ _ _ _ _ _ _ c.loop-i.invariant.1 (omega arith) in
    rw c.at.ensures (sym (links-left _ _ _ _ _ all _ refl (omega arith)))

pub returns : goal.returns
returns c =
    let all = all_read _ _ _ _ _ _ _ _ c.loop-i.invariant.1 (omega arith) in
    sym (links-done _ _ _ _ _ all _ refl (omega arith))
