-- `svelgandur::asks::svelgandur_degree` meets its contract: the numbers written are those of the document's answer, and the map is its map.
-- Assumes nothing.
use mathlib.Core.Path.{◌∙◌, ap}
use Rattle.answers.specs.Numbers.{numbers, degree_numbers}
use Rattle.answers.proofs.Told.{degree-told}
use Rattle.svelgandur.proofs.asks.svelgandur_degree.Goals as goal

pub returns : goal.returns
returns c =
    (c.of.ensures ∙ degree-told c.degree_of.result ∙ ap (numbers degree_numbers) c.degree_of.ensures.0, c.degree_of.ensures.1)
