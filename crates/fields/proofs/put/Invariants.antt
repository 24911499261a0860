-- `fields::put` meets its contract. The invariant: what is left to store makes of the list what the whole number makes of it.
-- Assumes nothing.
use mathlib.Core.Path.{◌≡◌}
use lib.Seq.{sets}
use Rattle.meaning.specs.Bytes.{bytes}
use Rattle.fields.proofs.put.Given as goal

abbrev pub invariant-loop-i : goal.invariant-loop-i
invariant-loop-i l =
    sets l.s l.at (bytes l.i l.rest) ≡ sets l.initial.s l.at (bytes l.width l.n)
