use mathlib.Core.Path.{◌≡◌}
use Rattle.graph.specs.Judged.{end_no}
use Rattle.graph.proofs.Judging.{link-held, judged-held}
use Rattle.graph.proofs.Walk.end_of.Goals as goal

pub to_of-requires : goal.to_of-requires
to_of-requires c =
    rw c.reading.ensures.2 (link-held c.args.self.now.judged _ c.requires)

pub returns-clause-image : goal.returns-clause-image
returns-clause-image c =
    λ j. judged-held (λ g. c.to_of.result ≡ end_no g c.args.k) j (rw c.reading.ensures.0 at c.to_of.ensures.0)
