-- An image with its index, as code holds it.
-- Assumes nothing.
use Rattle.graph.specs.declared.Indexed.{Indexed}
use Rattle.graph.specs.declared.Walk.{Walk}
use Rattle.graph.specs.Judged.{Judged}

abbrev pub JudgedOn : Indexed → Type 0
JudgedOn on = Judged on.image.now on.items on.index

abbrev pub JudgedAlong : Walk → Type 0
JudgedAlong w = Judged w.image.now w.items w.index.now
