use mathlib.Core.Path.{◌≡◌}
use Rattle.graph.specs.Judged.{role_no}
use Rattle.graph.proofs.Judging.{link-held, judged-held}
use Rattle.graph.proofs.Walk.role_of.Goals as goal

pub role_of-requires : goal.role_of-requires
role_of-requires c =
    rw c.reading.ensures.2 (link-held c.args.self.now.judged _ c.requires)

pub returns : goal.returns
returns c =
    λ j. judged-held (λ g. c.role_of.result ≡ role_no g c.args.k) j (rw c.reading.ensures.0 at c.role_of.ensures.0)
