use Rattle.graph.proofs.Judging.{judged}
use Rattle.graph.proofs.Use.{asked-names}
use Rattle.graph.proofs.Indexed.names.Goals as goal

pub names_of-requires : goal.names_of-requires
names_of-requires c =
    asked-names (judged c.args.self.now.judged) c.requires
