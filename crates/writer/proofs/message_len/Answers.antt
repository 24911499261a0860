-- `writer::message_len` meets its contract.
-- Assumes nothing.
use native.Mathlib.Omega.{arith}
use Rattle.writer.proofs.Length.{said-length}
use Rattle.writer.proofs.message_len.Goals as goal

pub returns : goal.returns
returns c =
    omega (arith, said-length _ _ _ c.requires.0 c.requires.1)
