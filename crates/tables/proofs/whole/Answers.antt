use Rattle.graph.proofs.Empty.{zero-at}
use Rattle.tables.proofs.Sorting.{whole_of}
use Rattle.tables.proofs.whole.Goals as goal

pub sort-requires : goal.sort-requires
sort-requires c =
    λ k. zero-at 257 k

pub returns : goal.returns
returns c =
    λ k. whole_of k c.sort.ensures _ _ _ c.fill.ensures
