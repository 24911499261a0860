-- `links::wrong` meets its contract.
-- Assumes nothing.
use native.Mathlib.Omega.{arith}
use borrow.Author.Tests.{leb-false}
use Rattle.links.proofs.Masked.{masked-to, masked-role}
use Rattle.links.proofs.wrong.Goals as goal

pub returns : goal.returns
returns c =
    λ h. let l = leb-false _ _ h in (omega arith, masked-to _ _ c.requires l, masked-role _ _ c.requires l)
