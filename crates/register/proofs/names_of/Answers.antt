-- `register::names_of` meets its contract.
-- Assumes nothing.
use mathlib.Core.Path.{ap, ◌∙◌}
use Prim.Native.Nat.{ℕ}
use native.Mathlib.Omega.{arith}
use Rattle.meaning.specs.Bytes.{number}
use Rattle.fields.proofs.Known.{bytes-known}
use Rattle.register.proofs.Facts.{names-place, names-value}
use Rattle.register.proofs.names_of.Goals as goal

pub names_at-requires : goal.names_at-requires
names_at-requires c =
    let a = c.args in
    (names-place a.s.now (bytes-known a.s.now c.type_inv.s) a.item c.requires).0

pub eight-requires : goal.eight-requires
eight-requires c =
    let a = c.args in
    let q = names-place a.s.now (bytes-known a.s.now c.type_inv.s) a.item c.requires in
    omega (arith, q.1)

pub returns : goal.returns
returns c =
    let a = c.args in
    names-value a.s.now (bytes-known a.s.now c.type_inv.s) a.item _ c.requires
    (c.eight.ensures ∙ ap (λ (z : ℕ). number a.s.now z 8) c.names_at.ensures)
