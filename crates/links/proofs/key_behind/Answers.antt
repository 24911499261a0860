-- `links::key_behind` meets its contract.
-- Assumes nothing.
use Prim.Native.Nat.{◌≤◌}
use native.Mathlib.Omega.{arith}
use Rattle.fields.proofs.Known.{bytes-known}
use Rattle.links.proofs.OneLink.{key-behind}
use Rattle.links.proofs.key_behind.Goals as goal

pub returns : goal.returns
returns c =
    let h : 3 ≤ c.args.at = omega arith in
    omega (arith, key-behind c.args.s.now (bytes-known c.args.s.now c.type_inv.s) c.args.at h)
