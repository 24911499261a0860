-- `fixed::Stretch::cut` meets its contract: what stands before the width in hand fits whole.
-- Assumes nothing.
use mathlib.Core.Path.{◌≡◌}
use Prim.Native.Nat.{◌+◌, ◌≤◌, ◌<◌}
use lib.ListN.{drop}
use Rattle.std.specs.Prelude.{sum}
use Rattle.meaning.specs.declared.Side.TheVariants.{Requirement}
use Rattle.meaning.specs.Bytes.{fields}
use Rattle.fixed.proofs.Stretch.cut.Given as goal

abbrev pub invariant-loop-width : goal.invariant-loop-width
invariant-loop-width g l = record {
  inside : l.place ≤ l.self.end;
  short : l.self.end < l.place + sum (drop l.width-index l.width-items);
  same : fields Requirement l.self.end l.fn.widths l.at ≡ fields Requirement l.self.end (drop l.width-index l.width-items) l.place;
}
