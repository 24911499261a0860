-- `listing::plan_read` meets its contract: degrees where there is no threshold, else yes and no; or the first refusal.
-- Assumes nothing.
use mathlib.Core.Path.{refl, sym, ap}
use mathlib.Core.List.{List, ◌++◌}
use Rattle.std.specs.Prelude.{ℕ}
use Rattle.std.proofs.lemmas.Result.{err_from_is_err_and}
use Rattle.fields.proofs.Known.{bytes-known}
use Rattle.listing.specs.Listing.{degree_rows, member_rows}
use Rattle.listing.proofs.Items.{listed-degrees, listed-refused, plain-read, message-read, items-plain, items-ruled, items_refused, register-good, register-refused}
use Rattle.listing.proofs.plan_read.Goals as goal

pub returns-in_err-items : goal.returns-in_err-items
returns-in_err-items c =
    let p = err_from_is_err_and c.from_residual.result c.from_residual.ensures.1 in
    rw (p.1, p.2, register-refused _ c.args.message.now _ c.in_err-items.ensures) refl

pub returns-in_err-read : goal.returns-in_err-read
returns-in_err-read c =
    let p = err_from_is_err_and c.from_residual-in_err-read.result c.from_residual-in_err-read.ensures.1 in
    let g = register-good _ c.args.message.now _ (bytes-known c.args.image.now c.type_inv.image) c.in_ok-items.ensures in
    rw (p.1, p.2, g.1, items_refused c.args.image.now _ _ _ c.in_err-read.ensures) refl

pub returns-then-branch-gt0 : goal.returns-then-branch-gt0
returns-then-branch-gt0 c =
    let g = register-good _ c.args.message.now _ (bytes-known c.args.image.now c.type_inv.image) c.in_ok-items.ensures in
    let image = c.args.image.now in
    let message = c.args.message.now in
    rw (g.1, items-ruled image message _ _ c.in_ok-read.ensures c.if-branch-gt0.true)
    (record {
      few = g.0;
      of = (refl, refl);
      readable = (g.2, message-read image message c.in_ok-items.field-0.items _ c.in_ok-read.ensures);
      whole = ap (λ (z : List ℕ). z ++ member_rows image message c.in_ok-items.field-0.items) (sym c.line_of.ensures);
    })

pub returns-in_err-read_plain : goal.returns-in_err-read_plain
returns-in_err-read_plain c =
    let p = err_from_is_err_and c.from_residual-in_err-read_plain.result c.from_residual-in_err-read_plain.ensures.1 in
    let g = register-good _ c.args.message.now _ (bytes-known c.args.image.now c.type_inv.image) c.in_ok-items.ensures in
    let image = c.args.image.now in
    rw (p.1, p.2, g.1, items-plain image _ _ _ c.in_ok-read.ensures c.if-branch-gt0.false, listed-refused image _ _ _ c.in_err-read_plain.ensures) refl

pub returns : goal.returns
returns c =
    let g = register-good _ c.args.message.now _ (bytes-known c.args.image.now c.type_inv.image) c.in_ok-items.ensures in
    let image = c.args.image.now in
    let message = c.args.message.now in
    rw (g.1, items-plain image message _ _ c.in_ok-read.ensures c.if-branch-gt0.false, listed-degrees image message _ _ c.in_ok-read_plain.ensures)
    (record {
      few = g.0;
      of = (refl, refl);
      readable = (g.2, plain-read image message c.in_ok-items.field-0.items _ c.in_ok-read_plain.ensures);
      whole = ap (λ (z : List ℕ). z ++ degree_rows image message c.in_ok-items.field-0.items) (sym c.line_of-2.ensures);
    })
