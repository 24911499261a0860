use Prim.Native.Nat.{ℕ}
use native.Mathlib.Omega.{arith}
use mathlib.Core.Path.{◌∙◌}
use lib.ListN.{length-replicate}
use Rattle.degrees.proofs.Room.{room-start, ones_low}
use Rattle.shown.proofs.Alone.{alone_among}
use Rattle.shown.proofs.graded.Goals as goal

pub work-scale-requires : goal.work-scale-requires
work-scale-requires c =
    record {
      gradable = c.requires.gradable;
      lent = record {
        members = alone_among _ _ _ c.none-set.ensures c.insert.ensures _ c.requires.item_lt.0;
        clear = c.requires.item_lt.1;
        room = room-start _ _ (c.ones.auto.numbers ∙ length-replicate {A = ℕ} 3584 0) (omega (arith, c.requires.gradable.posed.few));
        ones = ones_low c.ones.new.numbers c.ones.ensures.by_index;
      };
    }
