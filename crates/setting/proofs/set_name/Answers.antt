use mathlib.Core.Path.{ap, ◌∙◌}
use Prim.Native.Nat.{ℕ}
use lib.Seq.{sets}
use Rattle.meaning.specs.Bytes.{bytes}
use Rattle.fields.proofs.Known.{bytes-known}
use Rattle.setting.proofs.Set.{asked_is, renames, name-was}
use Rattle.setting.proofs.set_name.Goals as goal

pub returns : goal.returns
returns c =
    let a = c.args in
    let set = c.with_bit-set.result in record {
      image = λ g e. name-was a.item a.name c.names_of-names.result c.on-there.result g (c.names_of-names.ensures g e) c.on-there.ensures;
      image_2 = λ g e.
          renames a.s.now (bytes-known a.s.now c.slice_known-1.given) a.item a.name c.names_of-names.result set a.adds _ g e (asked_is c.requires.asked g e)
          (c.names_of-names.ensures g e) c.with_bit-set.ensures (c.put.ensures ∙ ap (λ (z : ℕ). sets a.s.now z (bytes 8 set)) c.names_at.ensures);
    }
