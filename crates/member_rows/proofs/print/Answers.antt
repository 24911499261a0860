-- `member_rows::print` meets its contract: the image and the requirement that were read are what is judged, and the table what the rows are read off.
-- Assumes nothing.
use mathlib.Core.Path.{◌≡◌, refl, sym, ap, ◌∙◌}
use mathlib.Core.Bool.{false}
use mathlib.Core.List.{List}
use Prim.Native.Nat.{ℕ, ◌<◌}
use native.Mathlib.Omega.{arith}
use lib.ListN.{length}
use Rattle.std.proofs.Common.{rules}
use Rattle.meaning.specs.Refusal.{good}
use Rattle.meaning.specs.Register.{Register}
use Rattle.meaning.proofs.Reading.{not_good}
use Rattle.fields.proofs.Known.{bytes-known}
use Rattle.register.proofs.Holding.{size-read}
use Rattle.graph.proofs.Judging.{judged}
use Rattle.deciding.proofs.Answered.{imaged, image-refused, understood, both_read}
use Rattle.deciding.proofs.BothRead.{stands, required}
use Rattle.lines.specs.Entries.{row_of}
use Rattle.verdicts.specs.Told.{Told}
use Rattle.verdicts.proofs.Rows.{told}
use Rattle.member_rows.proofs.print.Goals as goal

pub invariant_of-new : goal.invariant_of-new
invariant_of-new g c =
    record { read = size-read _ false _ (bytes-known c.args.image.now c.type_inv.image) c.in-Ok.ensures }

pub judge-requires : goal.judge-requires
judge-requires g c =
    let k = both_read (imaged _ _ c.in-Ok.ensures) (understood _ _ _ c.in-Ok-read_message.ensures) (bytes-known c.args.image.now c.type_inv.image) in
    let s = stands c.new-on.ensures.image c.of.ensures c.of-2.ensures in
    required k s (bytes-known c.args.message.now c.type_inv.message) (judged c.new-on.result.judged)

pub print_rows-requires : goal.print_rows-requires
print_rows-requires g c =
    let k = both_read (imaged _ _ c.in-Ok.ensures) (understood _ _ _ c.in-Ok-read_message.ensures) (bytes-known c.args.image.now c.type_inv.image) in
    let s = stands c.new-on.ensures.image c.of.ensures c.of-2.ensures in
    let r = required k s (bytes-known c.args.message.now c.type_inv.message) (judged c.new-on.result.judged) in
    let t : (m : List ℕ) × Told c.new-on.result m c.of.result c.judge.new.met = (c.args.message.now, told k c.new-on.ensures.image r refl (c.judge.ensures r)) in
    λ i l.
    let low : i < c.new-on.result.items = omega (arith, c.new-on.ensures.items) in search rules

pub returns : goal.returns
returns g c =
    let k = both_read (imaged _ _ c.in-Ok.ensures) (understood _ _ _ c.in-Ok-read_message.ensures) (bytes-known c.args.image.now c.type_inv.image) in
    let s = stands c.new-on.ensures.image c.of.ensures c.of-2.ensures in
    let r = required k s (bytes-known c.args.message.now c.type_inv.message) (judged c.new-on.result.judged) in
    let found = told k c.new-on.ensures.image r refl (c.judge.ensures r) in
    λ g' q ps eg eq l. c.print_rows.ensures (row_of false c.args.image.now c.args.message.now) (λ i line few post. rw (← c.new-on.ensures.image) (search rules))

pub returns-in_default : goal.returns-in_default
returns-in_default g c =
    λ g' q ps eg eq l. absurd (not_good (sym (image-refused _ _ c.in_default.ensures) ∙ eg))

pub returns-then-items-count : goal.returns-then-items-count
returns-then-items-count g c =
    let i = imaged _ _ c.in-Ok.ensures in
    λ g' q ps eg eq l.
    let same : good i.register ≡ good g' = sym i.read ∙ eg in
    let one : i.register ≡ g' = cc in
    absurd (omega (arith, i.items-are, ap (λ (r : Register). length r.names) one))
