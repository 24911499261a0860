-- What the promise of `read` says of any result that it allows: no two results are allowed.
-- Assumes nothing.
use mathlib.Core.Path.{◌≡◌}
use mathlib.Core.Bool.{Bool}
use mathlib.Core.List.{List}
use Prim.Native.Nat.{ℕ}
use Rattle.std.specs.Prelude.{Result}
use Rattle.meaning.specs.declared.Refusal.{Refusal}
use Rattle.meaning.specs.Rules.{paper}
use Rattle.meaning.specs.Register.{read_register_by}
use Rattle.fields.specs.Head.{wrong_in}
use Rattle.fields.proofs.Once.{Apart, paper_told, once}
use Rattle.register.specs.declared.Size.{Size}
use Rattle.register.specs.Reading.{counted, ReadPromise}

-- the document's words tell all results apart
pub reading-told : Apart (paper {A = Size})
reading-told = paper_told

-- any two results that the promise allows are equal
pub one-reading : (s : List ℕ) (session : Bool) (r q : Result Size Refusal) → ReadPromise s session r → ReadPromise s session q → r ≡ q
one-reading s session r q = once paper reading-told (counted (read_register_by (wrong_in session) s)) r q
