-- `lines::print_rows` meets its contract: at each turn one row more.
-- Assumes nothing.
use Rattle.std.proofs.Common.{◌∙◌, sym, add-one}
use Rattle.std.proofs.KnownBytes.{Appends-nil, Appends-trans}
use Rattle.lines.specs.Printed.{texts}
use Rattle.lines.proofs.print.print_rows.Goals as goal

pub loop-i-init : goal.loop-i-init
unfolding texts
loop-i-init g c = λ text says. Appends-nil _

pub loop-i-preserved : goal.loop-i-preserved
unfolding texts
loop-i-preserved g c = λ text says.
    let row = c.text.ensures ∙ says c.loop-i.i _ c.loop-i-test.true c.row.ensures in
    rw add-one (Appends-trans _ _ _ _ _ (c.loop-i.invariant text says) (rw (sym row) c.in_ok-write_all.ensures.bytes))
