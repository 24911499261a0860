-- `reduction::reduced_size` meets its contract.
-- Assumes nothing.
use native.Mathlib.Omega.{arith}
use mathlib.Core.Path.{sym, ◌∙◌}
use Rattle.meaning.proofs.InPlace.{size_in_lem}
use Rattle.reduction.proofs.reduced_size.Goals as goal

pub size-requires : goal.size-requires
size-requires c =
    record { roles = _; held = c.requires }

pub returns : goal.returns
returns c =
    let s = c.size.ensures.small in
    let f = c.requires.fits in record {
      for_tree = (λ t h. c.size.ensures.right _ t h (c.reduce.ensures.marked t h) ∙ sym (size_in_lem t));
      upper_bound = omega arith;
    }
