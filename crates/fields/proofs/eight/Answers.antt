use Rattle.std.proofs.Common.{add-zero}
use native.Mathlib.Omega.{arith}
use Rattle.meaning.specs.Bytes.{number}
use Rattle.fields.proofs.eight.Goals as goal

pub returns : goal.returns
unfolding number
returns c =
    rw add-zero (omega arith)
