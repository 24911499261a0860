use native.Mathlib.Omega.{arith}
use Rattle.meaning.proofs.Reading.{number-two}
use Rattle.fields.proofs.two.Goals as goal

pub returns-clause-value : goal.returns-clause-value
returns-clause-value c =
    omega (arith, number-two c.args.s.now c.args.at)
