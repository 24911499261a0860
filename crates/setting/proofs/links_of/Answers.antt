use mathlib.Core.Path.{refl}
use native.Mathlib.Omega.{arith}
use Rattle.std.proofs.Common.{rules}
use Rattle.register.proofs.Holding.{of_size}
use Rattle.setting.proofs.Set.{sizes-fit}
use Rattle.setting.proofs.Rows.{rows-in}
use Rattle.setting.proofs.links_of.Goals as goal

pub link_at-start-requires : goal.link_at-start-requires
link_at-start-requires c =
    let r = c.args.read.now in
    let q = sizes-fit r.bytes.now r.read.3 _ _ (of_size _ _ _ r.read) in (q.0, omega arith)

pub image_len-end-requires : goal.image_len-end-requires
image_len-end-requires c =
    let r = c.args.read.now in
    let q = sizes-fit r.bytes.now r.read.3 _ _ (of_size _ _ _ r.read) in (q.0, q.1)

pub slice_bounds-as_chunks-end : goal.slice_bounds-as_chunks-end
slice_bounds-as_chunks-end c =
    let r = c.args.read.now in
    let q = sizes-fit r.bytes.now r.read.3 _ _ (of_size _ _ _ r.read) in
    search (rules, q.2, c.image_len-end.ensures, c.link_at-start.ensures)

pub returns : goal.returns
returns c =
    let r = c.args.read.now in
    rows-in r.bytes.now r.items r.links _ _ _ _ r.read c.link_at-start.ensures c.image_len-end.ensures refl c.as_chunks.ensures.front
