-- Where a search among items ended.
-- Assumes nothing.
use Rattle.std.specs.Prelude.{ℕ, Option, Some, None}
use Rattle.std.proofs.Math.Option as maybe

-- at one of them, or nowhere
abbrev pub found : maybe.Option ℕ → Option ℕ
found maybe.none = None
found (maybe.some x) = Some x
