use mathlib.Core.Path.{refl}
use Rattle.fields.proofs.Known.{bytes-known}
use Rattle.numbered.proofs.keep.Goals as goal

pub returns : goal.returns
returns c =
    record { bytes = bytes-known c.args.s.now c.type_inv.s; promised = (c.keep.ensures, refl, refl); handed = refl }
