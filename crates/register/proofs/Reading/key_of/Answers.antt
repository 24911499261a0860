-- `register::Reading::key_of` meets its contract.
-- Assumes nothing.
use mathlib.Core.Path.{ap, ◌∙◌}
use Prim.Native.Nat.{ℕ}
use Rattle.meaning.specs.Register.{link_at}
use Rattle.register.specs.Reading.{key}
use Rattle.register.proofs.Facts.{link-part}
use Rattle.register.proofs.Reading.key_of.Goals as goal

pub returns : goal.returns
returns c =
    let r = c.args.self.now in
    (link-part r.bytes.now r.read.3 r.items r.links c.args.k r.read c.requires
    (λ l. key l) (λ n x. Unit {0}) (λ n l o. tt) _
    (c.key_at.ensures ∙ ap (λ (z : ℕ). key (link_at r.bytes.now z)) c.place_of.ensures.place)).0
