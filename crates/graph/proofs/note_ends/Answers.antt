use mathlib.Core.Path.{◌≡◌}
use native.Mathlib.Omega.{arith}
use Rattle.register.proofs.Holding.{held-said}
use Rattle.graph.specs.Judged.{start_no}
use Rattle.graph.proofs.Index.{noted-none, noted_more}
use Rattle.graph.proofs.Judging.{read-few}
use Rattle.graph.proofs.note_ends.Goals as goal

pub overflow_cast-index : goal.overflow_cast-index
overflow_cast-index c =
    let q = read-few _ _ _ c.args.read.now.read in omega arith

pub offset_bounds-index-from_of : goal.offset_bounds-index-from_of
offset_bounds-index-from_of c =
    let q = read-few _ _ _ c.args.read.now.read in omega arith

pub bounds-index-from_of : goal.bounds-index-from_of
bounds-index-from_of c =
    let q = read-few _ _ _ c.args.read.now.read in omega arith

pub loop-k-preserved : goal.loop-k-preserved
loop-k-preserved c =
    let q = read-few _ _ _ c.args.read.now.read in
    noted_more _ _ c.loop-k.k c.from_of.result c.loop-k.index (held-said _ (λ g. c.from_of.result ≡ start_no g c.loop-k.k) c.from_of.ensures.0) (omega arith) c.loop-k.invariant

pub returns : goal.returns
returns c =
    let e : c.loop-k.k ≡ c.args.read.now.links = omega arith in rw e at c.loop-k.invariant
