-- An image is its head and what stands under it.
-- Assumes nothing.
use mathlib.Core.Path.{◌≡◌, ap}
use mathlib.Core.Bool.{Bool}
use mathlib.Core.List.{List}
use Prim.Native.Nat.{ℕ}
use Rattle.meaning.specs.declared.Side.TheVariants.{Register as register}
use Rattle.meaning.specs.declared.Refusal.{Refusal}
use Rattle.meaning.specs.Refusal.{good, refused}
use Rattle.meaning.specs.Bytes.{read_head}
use Rattle.meaning.specs.Register.{read_body, read_register_by}
use Rattle.meaning.proofs.Reading.{took, stopped}
use Rattle.register.specs.Reading.{counted}

module _ (wrong : ℕ → ℕ → Bool) (s : List ℕ) where
  pub whole-good : (end : ℕ) → read_head register wrong s ≡ good end → counted (read_register_by wrong s) ≡ counted (read_body s end)
  unfolding read_register_by
  whole-good end e = ap counted (took (read_head register wrong s) _ end e)

  pub whole-refused : (r : Refusal) → read_head register wrong s ≡ refused r → counted (read_register_by wrong s) ≡ refused r
  unfolding read_register_by counted
  whole-refused r e = stopped (read_register_by wrong s) _ r (stopped (read_head register wrong s) _ r e)
