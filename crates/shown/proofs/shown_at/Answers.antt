use native.Mathlib.Nat.{le_refl}
use Rattle.graph.proofs.Judging.{read-few}
use Rattle.shown.proofs.shown_at.Goals as goal

pub shown_in-requires-in_default-clause-links_in_bounds :
    goal.shown_in-requires-in_default-clause-links_in_bounds
shown_in-requires-in_default-clause-links_in_bounds c =
    ((read-few _ _ _ c.args.read.now.read).1, le_refl 4096)
