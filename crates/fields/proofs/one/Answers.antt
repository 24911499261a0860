use native.Mathlib.Omega.{arith}
use Rattle.meaning.proofs.Reading.{number-one}
use Rattle.fields.proofs.one.Goals as goal

pub returns-clause-value : goal.returns-clause-value
returns-clause-value c =
    omega (arith, number-one c.args.s.now c.args.at)
