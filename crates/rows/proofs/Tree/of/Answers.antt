-- `rows::Tree::of` meets its contract: each array has at each place what the closure over the rows gives there.
-- Assumes nothing.
use mathlib.Core.Path.{ap}
use Prim.Native.Nat.{◌+◌}
use lib.ListN.{get_or}
use Rattle.std.proofs.Common.{rules}
use Rattle.rows.specs.Packed.{low, high}
use Rattle.rows.proofs.At.{name-at, role-at, end-at, names-long, roles-long, ends-long}
use Rattle.rows.proofs.Made.{made}
use Rattle.rows.proofs.Tree.of.Goals as goal

pub returns-clause-names : goal.returns-clause-names
returns-clause-names c =
    made c.from_fn.ensures.items (λ f. f.0.now) (λ A i. get_or A i 0) (λ p q i y w. (ap (λ b. b.now) w.met.1, search rules))
    (names-long _ c.requires) (name-at _)

pub returns-clause-roles : goal.returns-clause-roles
returns-clause-roles c =
    made c.from_fn-2.ensures.items (λ f. f.0.now) (λ A i. low (get_or A (64 + i) 0)) (λ p q i y w. (ap (λ b. b.now) w.met.1, search rules))
    (roles-long _ c.requires) (role-at _)

pub returns-clause-ends : goal.returns-clause-ends
returns-clause-ends c =
    made c.from_fn-3.ensures.items (λ f. f.0.now) (λ A i. high (get_or A (64 + i) 0)) (λ p q i y w. (ap (λ b. b.now) w.met.1, search rules))
    (ends-long _ c.requires) (end-at _)
