-- `register::Reading::from_of` meets its contract.
-- Assumes nothing.
use mathlib.Core.Path.{ap, ◌∙◌}
use Prim.Native.Nat.{ℕ, ◌<◌}
use Rattle.meaning.specs.Bytes.{number}
use Rattle.register.proofs.Facts.{link-part}
use Rattle.register.proofs.Reading.from_of.Goals as goal

pub returns : goal.returns
returns c =
    let r = c.args.self.now in
    link-part r.bytes.now r.read.3 r.items r.links c.args.k r.read c.requires
    (λ l. l.from) (λ n x. x < n) (λ n l o. o.0) _
    (c.two.ensures.value ∙ ap (λ (z : ℕ). number r.bytes.now z 2) c.place_of.ensures.place)
