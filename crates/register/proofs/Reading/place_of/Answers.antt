-- `register::Reading::place_of` meets its contract.
-- Assumes nothing.
use native.Mathlib.Omega.{arith}
use Rattle.register.proofs.Facts.{link-place}
use Rattle.register.proofs.Reading.place_of.Goals as goal

pub link_at-requires : goal.link_at-requires
link_at-requires c =
    let r = c.args.self.now in
    let q = link-place r.bytes.now r.read.3 r.items r.links c.args.k r.read c.requires in
    (q.0, q.1)

pub returns-clause-within : goal.returns-clause-within
returns-clause-within c =
    let r = c.args.self.now in
    omega (arith, (link-place r.bytes.now r.read.3 r.items r.links c.args.k r.read c.requires).2)
