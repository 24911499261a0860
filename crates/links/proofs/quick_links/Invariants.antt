-- `links::quick_links` meets its contract: link after link passes by its number.
-- Assumes nothing.
use Rattle.links.proofs.Rightly.{Rest}
use Rattle.links.proofs.quick_links.Given as goal

abbrev pub invariant-loop-k : goal.invariant-loop-k
invariant-loop-k l =
    Rest l.s l.items l.links l.start l.k l.floor
