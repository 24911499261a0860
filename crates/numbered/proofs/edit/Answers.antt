use mathlib.Core.Path.{refl}
use Rattle.fields.proofs.Known.{bytes-known}
use Rattle.numbered.proofs.edit.Goals as goal

pub returns : goal.returns
returns c =
    record { bytes = bytes-known c.args.s.now c.slice_known-1.given; promised = c.edit.ensures; handed = refl }
