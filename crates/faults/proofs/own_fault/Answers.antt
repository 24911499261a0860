-- `faults::own_fault` meets its contract: threshold after threshold of the node passes, up to the first that does not, or is of another.
-- Assumes nothing.
use mathlib.Core.Path.{◌≡◌, sym, ap, subst, ◌∙◌}
use Prim.Native.Nat.{ℕ, ◌/◌}
use lib.ListN.{length}
use Rattle.std.specs.Prelude.{Ok}
use Rattle.faults.specs.Faulty.{Found}
use native.Mathlib.Omega.{arith}
use Rattle.std.proofs.lemmas.Result.{err_from_is_err_and}
use Rattle.meaning.specs.Writing.{limit_fits}
use Rattle.lists.proofs.Parts.{limit-own, one-own}
use Rattle.faults.proofs.Owned.{rest-one, passed-more, found-other, found-end, found-stop}
use Rattle.faults.proofs.own_fault.Goals as goal

pub returns-then-owner-i : goal.returns-then-owner-i
returns-then-owner-i c =
    found-other _ _ _ _ _ _ _ _ c.loop-next.invariant (omega arith) (λ e. c.if-owner-i.true (c.owner.ensures ∙ e))

pub part-requires : goal.part-requires
part-requires c =
    omega (arith, (rest-one _ _ _ _ _ _ c.loop-next.invariant.rest (omega arith)).room, c.inners-n.ensures)

pub limit_fault-requires : goal.limit_fault-requires
limit_fault-requires c =
    (one-own _ _ _ _ _ _ c.part.ensures.nodes c.part.ensures.len c.inners-n.ensures (rest-one _ _ _ _ _ _ c.loop-next.invariant.rest (omega arith)), omega arith)

pub returns-in_err-limit_fault : goal.returns-in_err-limit_fault
returns-in_err-limit_fault c =
    let p = err_from_is_err_and c.from_residual.result c.from_residual.ensures.1 in
    let own = limit-own c.args.of.now.limits c.args.of.now.inner _ c.loop-next.next c.loop-next.at _ c.part.ensures.nodes c.part.ensures.len c.inners-n.ensures in
    rw (p.1, p.2) (found-stop _ _ _ _ _ _ _ _ c.loop-next.invariant _ (omega arith) (sym c.owner.ensures ∙ c.if-owner-i.false)
    (c.in_err-limit_fault.ensures ∙ ap (limit_fits c.loop-next.next) own))

pub loop-next-preserved : goal.loop-next-preserved
loop-next-preserved c =
    let own = limit-own c.args.of.now.limits c.args.of.now.inner _ c.loop-next.next c.loop-next.at _ c.part.ensures.nodes c.part.ensures.len c.inners-n.ensures in
    passed-more _ _ _ _ _ _ _ _ c.loop-next.invariant _ (omega arith) (sym c.owner.ensures ∙ c.if-owner-i.false)
    (c.in_ok-limit_fault.ensures ∙ ap (limit_fits c.loop-next.next) own) c.inners-n.ensures

pub returns : goal.returns
returns c =
    let many : c.loop-next.next ≡ c.count-many.result = omega arith in
    let a = c.args in
    let P : ℕ → Type 0 =
    λ m. Found a.of.now.limits a.of.now.inner (length a.of.now.nodes / 3) a.i a.j a.first (Ok (record { limit = m; first = c.loop-next.at })) in
    subst P many (found-end _ _ _ _ _ _ _ _ c.loop-next.invariant (omega arith))
