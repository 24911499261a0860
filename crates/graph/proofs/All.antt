-- The set of all items, into which they are put one after the other.
-- Assumes nothing.
use mathlib.Core.Path.{sym, ◌∙◌}
use mathlib.Core.List.{List}
use Prim.Native.Nat.{ℕ}
use native.Mathlib.Omega.{arith}
use borrow.Author.Tests.{ltb-true, le-ltb}
use Rattle.graph.specs.Sets.{Among, All}
use Rattle.graph.proofs.Empty.{zeros, none_in}

pub all_none : All 0 (zeros 8)
all_none = record { has = λ x. none_in 8 x ∙ sym (le-ltb x 0 (omega arith)) }

pub all_among : {items : ℕ} {set : List ℕ} → All items set → Among items set
all_among {items} a x h = ltb-true x items (sym (a.has x) ∙ h)
