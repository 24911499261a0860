use mathlib.Core.Path.{◌∙◌}
use native.Mathlib.Omega.{arith}
use lib.ListN.{length-replicate}
use Prim.Native.Nat.{ℕ}
use Rattle.graph.proofs.All.{all_among}
use Rattle.degrees.proofs.Room.{room-start, ones_low}
use Rattle.shown.proofs.Alone.{clear-zeros}
use Rattle.ratings.proofs.All.{graded-all}
use Rattle.ratings.proofs.rate.Goals as goal

pub work-scale-requires-clause-lent : goal.work-scale-requires-clause-lent
work-scale-requires-clause-lent c =
    record {
      members = all_among c.first-set.ensures;
      clear = clear-zeros c.args.notes.now _ _ c.requires.empty;
      room = room-start _ _ (c.ones.auto.numbers ∙ length-replicate {A = ℕ} 3584 0) (omega (arith, c.requires.gradable.posed.few));
      ones = ones_low _ c.ones.ensures.by_index;
    }

pub returns : goal.returns
returns c =
    λ k. graded-all c.args.on.now c.args.of.now k c.first-set.ensures _ (c.work-scale.ensures k)
