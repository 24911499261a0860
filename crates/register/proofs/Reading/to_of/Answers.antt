-- `register::Reading::to_of` meets its contract.
-- Assumes nothing.
use mathlib.Core.Path.{ap, ◌∙◌}
use Prim.Native.Nat.{ℕ, ◌+◌, ◌<◌}
use Rattle.meaning.specs.Bytes.{number}
use Rattle.register.proofs.Facts.{link-part}
use Rattle.register.proofs.Reading.to_of.Goals as goal

pub returns : goal.returns
returns c =
    let r = c.args.self.now in
    link-part r.bytes.now r.read.3 r.items r.links c.args.k r.read c.requires
    (λ l. l.to) (λ n x. x < n) (λ n l o. o.2) _
    (c.two.ensures.value ∙ ap (λ (z : ℕ). number r.bytes.now (z + 3) 2) c.place_of.ensures.place)
