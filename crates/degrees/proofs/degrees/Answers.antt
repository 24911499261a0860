use mathlib.Core.Path.{◌∙◌}
use native.Mathlib.Omega.{arith}
use Rattle.degrees.proofs.Room.{room-start, ones_low}
use Rattle.folds.proofs.Noting.{clear_none}
use Rattle.degrees.proofs.degrees.Goals as goal

pub work-requires-clause-lent : goal.work-requires-clause-lent
work-requires-clause-lent c =
    record {
      members = c.requires.items.0;
      clear = clear_none _ _;
      room = room-start _ _ (c.ones.auto.numbers ∙ c.requires.items.1) (omega (arith, c.requires.gradable.posed.few));
      ones = ones_low c.ones.new.numbers c.ones.ensures.by_index;
    }
