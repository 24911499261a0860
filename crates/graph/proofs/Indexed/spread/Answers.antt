use Rattle.graph.specs.Walked.{walked}
use Rattle.graph.specs.Sets.{Spread}
use Rattle.graph.proofs.Judging.{along}
use Rattle.graph.proofs.Indexed.spread.Goals as goal

pub returns : goal.returns
returns c =
    let e = c.walk.ensures in
    λ j. rw e.items at
    (along (λ g. Spread (walked g) c.walk.result.items c.args.set.now.words c.args.role c.spread.new.below.words) e.image e.items e.index c.spread.ensures j)
