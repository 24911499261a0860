-- `lines::print_rows`: the rows of the items so far are printed.
use Rattle.std.proofs.Common.{◌≡◌, List, ℕ, ◌<◌}
use Rattle.std.specs.Io.KnownBytes.{Appends}
use Rattle.lines.specs.Printed.{texts}
use Rattle.lines.proofs.print.print_rows.Given as goal

abbrev pub invariant-loop-i : goal.invariant-loop-i
invariant-loop-i g l =
    (text : ℕ → List ℕ) → ((i : ℕ) (r : List ℕ) → i < l.rows → goal.F-post g l.row i r → r ≡ text i)
    → Appends (g.W.Write.contents l.initial.output) (g.W.Write.contents l.output) (texts text l.i)
