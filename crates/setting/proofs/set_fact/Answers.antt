use mathlib.Core.Path.{subst}
use native.Mathlib.Omega.{arith}
use Rattle.fields.proofs.Known.{bytes-known}
use Rattle.meaning.specs.declared.Fact.{Fact}
use Rattle.setting.specs.Setting.{Ranged}
use Rattle.setting.proofs.Set.{sizes-fit, name_set}
use Rattle.setting.proofs.set_fact.Goals as goal

pub set_name-requires-clause-item_le_most_items : goal.set_name-requires-clause-item_le_most_items
set_name-requires-clause-item_le_most_items c =
    let p = c.requires in
    let q = subst (λ (z : Fact). Ranged c.args.size.items z) c.in-Name.is p.ranged in
    let z = sizes-fit c.args.s.now (bytes-known c.args.s.now c.slice_known-1.given) _ _ p.of_size in
    (omega (arith, q.0, z.0), q.1, omega (arith, q.0, z.2))

pub returns-in-Name : goal.returns-in-Name
returns-in-Name c =
    let a = c.args in
    name_set a.s.now _ a.fact _ _ a.adds c.set_name.result c.in-Name.is c.set_name.ensures.image c.set_name.ensures.image_2
