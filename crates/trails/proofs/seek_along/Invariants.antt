-- `trails::seek_along`: the links so far lead to no item of the set in service.
use Rattle.graph.specs.On.{JudgedAlong}
use Rattle.graph.specs.Sets.{in_set}
use Rattle.trails.proofs.Search.{Seeking}
use Rattle.trails.proofs.seek_along.Given as goal

abbrev pub invariant-loop-k : goal.invariant-loop-k
invariant-loop-k l =
    (j : JudgedAlong l.walk) → Seeking j.register l.item l.role l.start l.end (λ y. in_set l.set.words y) l.k
