use mathlib.Core.Path.{◌≡◌, refl}
use Prim.Native.Nat.{ℕ, zero, suc}
use Rattle.std.proofs.lemmas.Nat.{zero_from_ones}
use Rattle.meaning.specs.Names.{names as many}
use Rattle.meaning.specs.Degree.{or_one}
use Rattle.folds.proofs.bare.Goals as goal

-- "its value is 1 if n is 0"
some-named : (n v : ℕ) → (n ≡ 0 → ⊥) → v ≡ or_one n v
some-named zero v h = absurd (h refl)
some-named (suc n) v h = refl

pub returns : goal.returns
returns c =
    some-named (many c.args.names) _ (λ z. c.if-names-eq0.false (zero_from_ones _ z))
