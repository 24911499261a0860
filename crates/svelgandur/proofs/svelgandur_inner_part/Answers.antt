-- `svelgandur::svelgandur_inner_part` meets its contract: the numbers written are those of the place.
-- Assumes nothing.
use mathlib.Core.Path.{◌∙◌, ap}
use Rattle.answers.specs.Numbers.{place_numbers}
use Rattle.svelgandur.proofs.svelgandur_inner_part.Goals as goal

pub returns : goal.returns
returns c =
    c.numbers.ensures ∙ ap place_numbers c.find_inner.ensures.value
