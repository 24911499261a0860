use native.Mathlib.Omega.{arith}
use Rattle.fields.proofs.Known.{bytes-known}
use Rattle.setting.proofs.Set.{asked_is, sizes-fit}
use Rattle.setting.proofs.Chains.{insert-chain}
use Rattle.setting.proofs.insert.Goals as goal

pub link_at-at-requires : goal.link_at-at-requires
link_at-at-requires c =
    let q = sizes-fit c.args.s.now (bytes-known c.args.s.now c.slice_known-1.given) _ _ c.requires.of_size in
    (q.0, omega (arith, q.1, c.requires.room.0))

pub image_len-end-requires : goal.image_len-end-requires
image_len-end-requires c =
    let q = sizes-fit c.args.s.now (bytes-known c.args.s.now c.slice_known-1.given) _ _ c.requires.of_size in
    (q.0, q.1)

pub put_counts-requires : goal.put_counts-requires
put_counts-requires c =
    let q = sizes-fit c.args.s.now (bytes-known c.args.s.now c.slice_known-1.given) _ _ c.requires.of_size in
    (q.0, omega (arith, c.requires.room.1), omega (arith, q.2, c.put.auto.s, c.copy_within.ensures.len))

pub returns : goal.returns
returns c =
    let a = c.args in
    let p = c.requires in
    λ g e l en small.
    insert-chain a.s.now (bytes-known c.args.s.now c.slice_known-1.given) a.size.items a.size.links a.k _ _ g e (asked_is p.of_size g e)
    c.link_at-at.ensures c.image_len-end.ensures _ _ _ _ l p.room.0 p.room.2 en small c.copy_within.ensures.after c.put.ensures c.put_counts.ensures
