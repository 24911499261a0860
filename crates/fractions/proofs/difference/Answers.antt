-- `fractions::difference` meets its contract: what the machine subtracts is the difference of the two numbers.
-- Assumes nothing.
use Rattle.fractions.proofs.Products.{difference-fits, difference-is}
use Rattle.fractions.proofs.difference.Goals as goal

pub overflow_sub-result : goal.overflow_sub-result
overflow_sub-result c =
    difference-fits _ _ c.requires.0 c.requires.1

pub returns : goal.returns
returns c =
    let d = difference-is _ _ c.requires.0 c.requires.1 in
    record { value = d.0; sfits = d.1 }
