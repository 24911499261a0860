use Rattle.std.specs.Prelude.{Ok, Err}
use mathlib.Core.Bool.{true, false}
use mathlib.Core.Path.{refl}
use native.Mathlib.Omega.{arith}
use Rattle.fields.proofs.Known.{bytes-known}
use Rattle.register.proofs.Holding.{is_read}
use Rattle.setting.proofs.Set.{looked, sizes-fit, set-stays, set-goes, set_full, set-tight, set-comes}
use Rattle.setting.proofs.set_link.Goals as goal

pub number_of-number-requires : goal.number_of-number-requires
number_of-number-requires c =
    let q = sizes-fit c.args.s.now (bytes-known c.args.s.now c.slice_known-1.given) _ _ c.requires.of_size in
    (omega (arith, q.0, c.requires.in_range.0), omega (arith, c.requires.in_range.1), omega (arith, q.0, c.requires.in_range.2))

pub invariant_of-read : goal.invariant_of-read
invariant_of-read c = record { read = is_read c.args.s.now _ _ (bytes-known c.args.s.now c.slice_known-1.given) c.requires.of_size }

pub returns-then-not-adds : goal.returns-then-not-adds
returns-then-not-adds c =
    let w = looked (Ok c.in-Ok.k) (bytes-known c.args.s.now c.slice_known-1.given) c.requires.of_size c.requires.in_range c.number_of-number.ensures c.in-Ok.ensures in
    set-goes w refl c.if-not-adds.true c.remove.ensures

pub returns-else-not-adds : goal.returns-else-not-adds
returns-else-not-adds c =
    let w = looked (Ok c.in-Ok.k) (bytes-known c.args.s.now c.slice_known-1.given) c.requires.of_size c.requires.in_range c.number_of-number.ensures c.in-Ok.ensures in
    set-stays w true refl c.if-not-adds.false

pub returns-then-links-ge-MOST_LINKS : goal.returns-then-links-ge-MOST_LINKS
returns-then-links-ge-MOST_LINKS c =
    let w = looked (Err c.in-Err.k) (bytes-known c.args.s.now c.slice_known-1.given) c.requires.of_size c.requires.in_range c.number_of-number.ensures c.in-Err.ensures in
    set_full w refl c.if-adds.true c.if-links-ge-MOST_LINKS.true

pub image_len-requires : goal.image_len-requires
image_len-requires c =
    let q = sizes-fit c.args.s.now (bytes-known c.args.s.now c.slice_known-1.given) _ _ c.requires.of_size in (q.0, omega (arith, c.if-links-ge-MOST_LINKS.false))

pub returns-then-s-image_len : goal.returns-then-s-image_len
returns-then-s-image_len c =
    let w = looked (Err c.in-Err.k) (bytes-known c.args.s.now c.slice_known-1.given) c.requires.of_size c.requires.in_range c.number_of-number.ensures c.in-Err.ensures in
    set-tight w refl c.if-adds.true c.if-links-ge-MOST_LINKS.false (omega (arith, c.image_len.ensures, c.if-s-image_len.true))

pub returns-else-s-image_len : goal.returns-else-s-image_len
returns-else-s-image_len c =
    let w = looked (Err c.in-Err.k) (bytes-known c.args.s.now c.slice_known-1.given) c.requires.of_size c.requires.in_range c.number_of-number.ensures c.in-Err.ensures in
    set-comes w refl c.if-adds.true c.if-links-ge-MOST_LINKS.false (omega (arith, c.image_len.ensures, c.if-s-image_len.false)) c.insert.ensures

pub returns-else-adds : goal.returns-else-adds
returns-else-adds c =
    let w = looked (Err c.in-Err.k) (bytes-known c.args.s.now c.slice_known-1.given) c.requires.of_size c.requires.in_range c.number_of-number.ensures c.in-Err.ensures in
    set-stays w false refl c.if-adds.false
