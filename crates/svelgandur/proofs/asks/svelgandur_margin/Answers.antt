-- `svelgandur::asks::svelgandur_margin` meets its contract: the numbers written are those of the document's answer.
-- Assumes nothing.
use mathlib.Core.Path.{◌∙◌, ap}
use Rattle.answers.specs.Numbers.{numbers, margin_numbers}
use Rattle.answers.proofs.Told.{margin-told}
use Rattle.svelgandur.proofs.asks.svelgandur_margin.Goals as goal

pub returns : goal.returns
returns c =
    c.of.ensures ∙ margin-told c.margin_of-r.result ∙ ap (numbers margin_numbers) c.margin_of-r.ensures
