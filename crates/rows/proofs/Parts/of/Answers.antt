-- `rows::Parts::of` meets its contract: each array has at each place what the closure over the rows gives there.
-- Assumes nothing.
use mathlib.Core.Path.{ap}
use Prim.Native.Nat.{◌+◌}
use lib.ListN.{get_or}
use Rattle.std.proofs.Common.{rules}
use Rattle.rows.specs.Packed.{low, high_pair}
use Rattle.rows.proofs.At.{owner_at, first-at, owners-long, firsts-long}
use Rattle.rows.proofs.Made.{made}
use Rattle.rows.proofs.Parts.of.Goals as goal

pub returns-clause-owners : goal.returns-clause-owners
returns-clause-owners c =
    made c.from_fn.ensures.items (λ f. f.0.now) (λ A k. low (get_or A (128 + k) 0)) (λ p q i y w. (ap (λ b. b.now) w.met.1, search rules))
    (owners-long _ c.requires) (owner_at _)

pub returns-clause-firsts : goal.returns-clause-firsts
returns-clause-firsts c =
    made c.from_fn-2.ensures.items (λ f. f.0.now) (λ A k. high_pair (get_or A (128 + k) 0)) (λ p q i y w. (ap (λ b. b.now) w.met.1, search rules))
    (firsts-long _ c.requires) (first-at _)
