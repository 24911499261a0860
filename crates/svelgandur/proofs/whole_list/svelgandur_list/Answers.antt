-- `svelgandur::whole_list::svelgandur_list` meets its contract: the numbers written are those of the document's answer, and the table is its table.
-- Assumes nothing.
use mathlib.Core.Path.{◌∙◌, ap}
use Rattle.answers.specs.Numbers.{numbers, list_numbers}
use Rattle.answers.proofs.Told.{list-told}
use Rattle.svelgandur.proofs.whole_list.svelgandur_list.Goals as goal

pub returns : goal.returns
returns c =
    (c.of.ensures ∙ list-told c.list_of.result ∙ ap (numbers list_numbers) c.list_of.ensures.0, c.list_of.ensures.1)
