use Prim.Native.Nat.{ℕ}
use native.Mathlib.Omega.{arith}
use lib.ListN.{length-replicate}
use Rattle.graph.proofs.Empty.{zero-at}
use Rattle.shown.proofs.Alone.{clear-zeros, with-index, graded-of, drawing-of, drawn-of}
use Rattle.shown.proofs.shown_in.Goals as goal

pub graded-degree-requires : goal.graded-degree-requires
graded-degree-requires g c =
    record {
      gradable = with-index c.args.read.now c.requires.gradable c.new-on.result c.new-on.ensures.image;
      item_lt = (omega (arith, c.requires.node_in_bounds.1, c.new-on.ensures.items), clear-zeros _ _ _ (zero-at g.row.N));
    }

pub show-requires-clause-drawing : goal.show-requires-clause-drawing
show-requires-clause-drawing g c =
    drawing-of c.args.read.now c.requires.gradable c.new-on.result c.new-on.ensures.image _ _ _ c.graded-degree.ensures (omega (arith, c.requires.node_in_bounds.1, c.new-on.ensures.items))
    (omega (arith, c.requires.links_in_bounds, c.new-on.ensures.links, c.graded-degree.auto.notes, length-replicate {A = ℕ} g.row.N 0))

pub returns : goal.returns
returns g c =
    λ k. (
      graded-of c.args.read.now k c.new-on.result c.new-on.ensures.image _ _ _ c.graded-degree.ensures,
      drawn-of c.args.read.now k c.new-on.result c.new-on.ensures.image _ _ _ c.graded-degree.ensures (omega (arith, c.requires.node_in_bounds.1, c.new-on.ensures.items))
          (omega (arith, c.requires.links_in_bounds, c.new-on.ensures.links, c.graded-degree.auto.notes, length-replicate {A = ℕ} g.row.N 0)) _ _ c.show.ensures,
    )
