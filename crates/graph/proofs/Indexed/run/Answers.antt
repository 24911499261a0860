use Rattle.graph.specs.Judged.{Runs}
use Rattle.graph.proofs.Judging.{along}
use Rattle.graph.proofs.Indexed.run.Goals as goal

pub returns : goal.returns
returns c =
    let e = c.walk.ensures in
    along (λ g. Runs g c.args.item c.args.role c.run.result.start c.run.result.end) e.image e.items e.index c.run.ensures
