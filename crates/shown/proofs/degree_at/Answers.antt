use native.Mathlib.Omega.{arith}
use Rattle.folds.proofs.Noting.{clear_none}
use Rattle.shown.proofs.Alone.{with-index, graded-of}
use Rattle.shown.proofs.degree_at.Goals as goal

pub graded-requires : goal.graded-requires
graded-requires c =
    record {
      gradable = with-index c.args.read.now c.requires.gradable c.new.result c.new.ensures.image;
      item_lt = (omega (arith, c.requires.item_lt, c.new.ensures.items), clear_none _ _);
    }

pub returns : goal.returns
returns c =
    λ k. graded-of c.args.read.now k c.new.result c.new.ensures.image _ _ _ c.graded.ensures
