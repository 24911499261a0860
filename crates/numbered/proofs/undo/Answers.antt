use mathlib.Core.Path.{refl}
use Rattle.fields.proofs.Known.{bytes-known}
use Rattle.numbered.proofs.Codes.{undo-face}
use Rattle.numbered.proofs.undo.Goals as goal

pub returns : goal.returns
returns c =
    record { bytes = bytes-known c.args.s.now c.slice_known-1.given; promised = (let d = undo-face c.args.s.now c.args.log.now c.args.count c.undo.result _ c.undo.ensures in (d.0, d.1, refl)); handed = refl }
