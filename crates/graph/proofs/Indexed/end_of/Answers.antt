use mathlib.Core.Path.{◌≡◌, sym}
use Prim.Native.Nat.{◌<◌}
use lib.ListN.{length}
use Rattle.graph.specs.Judged.{end_no}
use Rattle.graph.proofs.Judging.{along}
use Rattle.graph.proofs.Indexed.end_of.Goals as goal

pub end_of-requires : goal.end_of-requires
end_of-requires c =
    let e = c.walk.ensures in
    along (λ g. c.args.k < length g.links) (sym e.image) (sym e.items) (sym e.index) c.requires

pub returns-clause-image : goal.returns-clause-image
returns-clause-image c =
    let e = c.walk.ensures in
    along (λ g. c.end_of.result ≡ end_no g c.args.k) e.image e.items e.index c.end_of.ensures.image
