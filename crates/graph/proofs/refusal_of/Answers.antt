use mathlib.Core.Path.{sym, ◌∙◌}
use native.Mathlib.Omega.{arith}
use Rattle.graph.proofs.Asked.{item-inside, asked-none, asked-out, asked-good}
use Rattle.graph.proofs.refusal_of.Goals as goal

pub returns-then-items-item : goal.returns-then-items-item
returns-then-items-item c =
    asked-none _ c.requires (omega (arith, c.if-items-item.true))

pub returns-then-is_out : goal.returns-then-is_out
returns-then-is_out c =
    asked-out _ c.requires (omega (arith, c.if-items-item.false)) (λ g h. sym c.if-is_out.true ∙ c.is_out.ensures g h)

pub returns : goal.returns
returns c =
    asked-good _ c.requires (omega (arith, c.if-items-item.false)) (λ g h. sym c.if-is_out.false ∙ c.is_out.ensures g h)
