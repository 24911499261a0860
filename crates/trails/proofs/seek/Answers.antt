-- `trails::seek` meets its contract: what is found along the links of the image is found of it.
-- Assumes nothing.
use mathlib.Core.Path.{◌≡◌}
use Rattle.meaning.specs.Shown.{first}
use Rattle.graph.specs.Walked.{walked}
use Rattle.graph.specs.Sets.{in_set}
use Rattle.graph.proofs.Judging.{along}
use Rattle.trails.specs.Sought.{found}
use Rattle.trails.proofs.seek.Goals as goal

pub returns : goal.returns
returns c =
    let e = c.walk.ensures in
    along (λ g. c.seek_along.result ≡ found (first (λ y. in_set c.args.set.now.words y) ((walked g).next c.args.item c.args.role))) e.image e.items e.index
    c.seek_along.ensures
