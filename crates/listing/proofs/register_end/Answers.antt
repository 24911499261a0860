-- `listing::register_end` meets its contract.
-- Assumes nothing.
use mathlib.Core.Path.{sym, ap, ◌∙◌}
use Prim.Native.Nat.{ℕ, ◌+◌, min}
use lib.ListN.{length}
use Rattle.listing.proofs.Items.{end_short, end-long}
use Rattle.listing.proofs.register_end.Goals as goal

pub returns-then-n-lt3-clause-value : goal.returns-then-n-lt3-clause-value
returns-then-n-lt3-clause-value c =
    sym (end_short _ c.if-n-lt3.true)

pub returns-clause-value : goal.returns-clause-value
returns-clause-value c =
    c.min.ensures ∙ ap (λ (z : ℕ). min (length c.args.input.now) (3 + z)) c.two.ensures.value ∙ sym (end-long _ c.if-n-lt3.false)
