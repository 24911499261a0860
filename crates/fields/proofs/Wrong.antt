-- Number 3's test in a session and of a whole input, as the code comes to it.
-- Assumes nothing.
use mathlib.Core.Path.{◌≡◌}
use mathlib.Core.Bool.{Bool, true, false}
use Prim.Native.Nat.{ℕ, ◌≤◌, ◌<◌}
use native.Mathlib.Omega.{arith}
use lib.Dec.{eqb, eqb→eq, eqb_refl}
use Rattle.meaning.proofs.Tests.{is-not}
use Rattle.meaning.proofs.Reading.{below, not-below, not-not}
use Rattle.fields.specs.Head.{wrong_in}

apart : (len rest : ℕ) → (len ≡ rest → ⊥) → wrong_in false len rest ≡ true
apart len rest h = is-not (eqb len rest) (λ t. h (eqb→eq len rest t))

pub wrong-longer : (session : Bool) (len rest : ℕ) → rest < len → wrong_in session len rest ≡ true
wrong-longer true len rest h = below rest len h
wrong-longer false len rest h = apart len rest (λ e. let z : len ≡ rest = e in omega arith)

pub wrong-shorter : (session : Bool) (len rest : ℕ) → session ≡ false → len < rest → wrong_in session len rest ≡ true
wrong-shorter session len rest e h = rw e (apart len rest (λ d. let z : len ≡ rest = d in omega arith))

pub right-front : (session : Bool) (len rest : ℕ) → session ≡ true → len ≤ rest → wrong_in session len rest ≡ false
right-front session len rest e h = rw e (not-below rest len h)

pub right-whole : (session : Bool) (len rest : ℕ) → session ≡ false → len ≡ rest → wrong_in session len rest ≡ false
right-whole session len rest e h = rw e (not-not (eqb len rest) (rw h (eqb_refl rest)))
