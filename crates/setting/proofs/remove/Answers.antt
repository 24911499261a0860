use native.Mathlib.Omega.{arith}
use Rattle.std.proofs.Common.{rules}
use Rattle.fields.proofs.Known.{bytes-known}
use Rattle.setting.proofs.Set.{asked_is, sizes-fit}
use Rattle.setting.proofs.Chains.{remove-chain}
use Rattle.setting.proofs.remove.Goals as goal

pub link_at-at-requires : goal.link_at-at-requires
link_at-at-requires c =
    let q = sizes-fit c.args.s.now (bytes-known c.args.s.now c.slice_known-1.given) _ _ c.requires.of_size in
    (q.0, omega (arith, q.1, c.requires.is_there))

pub image_len-end-requires : goal.image_len-end-requires
image_len-end-requires c =
    let q = sizes-fit c.args.s.now (bytes-known c.args.s.now c.slice_known-1.given) _ _ c.requires.of_size in
    (q.0, q.1)

pub copy_within-requires-clause-in_bounds : goal.copy_within-requires-clause-in_bounds
copy_within-requires-clause-in_bounds c =
    let q = sizes-fit c.args.s.now (bytes-known c.args.s.now c.slice_known-1.given) _ _ c.requires.of_size in
    omega (arith, q.2, c.image_len-end.ensures)

pub copy_within-requires-clause-dest_in_bounds : goal.copy_within-requires-clause-dest_in_bounds
copy_within-requires-clause-dest_in_bounds c =
    let q = sizes-fit c.args.s.now (bytes-known c.args.s.now c.slice_known-1.given) _ _ c.requires.of_size in
    search (rules, q.2, c.image_len-end.ensures, c.link_at-at.ensures)

pub put-requires : goal.put-requires
put-requires c =
    let q = sizes-fit c.args.s.now (bytes-known c.args.s.now c.slice_known-1.given) _ _ c.requires.of_size in
    omega (arith, q.2, c.image_len-end.ensures, c.copy_within.ensures.len)

pub put_counts-requires : goal.put_counts-requires
put_counts-requires c =
    let q = sizes-fit c.args.s.now (bytes-known c.args.s.now c.slice_known-1.given) _ _ c.requires.of_size in
    (q.0, omega (arith, q.1), omega (arith, q.2, c.put.auto.s, c.copy_within.ensures.len))

pub returns : goal.returns
returns c =
    let a = c.args in
    let p = c.requires in
    λ g e.
    remove-chain a.s.now (bytes-known c.args.s.now c.slice_known-1.given) a.size.items a.size.links a.k _ _ g e (asked_is p.of_size g e)
    c.link_at-at.ensures c.image_len-end.ensures _ _ _ p.is_there c.copy_within.ensures.after c.put.ensures c.put_counts.ensures
