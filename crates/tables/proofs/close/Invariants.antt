use Rattle.meaning.specs.Register.{withdrawn}
use Rattle.register.specs.Image.{Image}
use Rattle.tables.specs.Rows.{closed}
use Rattle.tables.proofs.Stored.{Stored}
use Rattle.tables.proofs.close.Given as goal

abbrev pub invariant-loop-x : goal.invariant-loop-x
invariant-loop-x l =
    Image l.over.image.now (λ g. Stored (closed (withdrawn g) l.n l.initial.table l.at) l.at l.initial.table l.table l.x)
