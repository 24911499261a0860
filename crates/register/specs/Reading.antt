-- What the readers of an image answer, in the document's words.
-- Assumes nothing.
use Rattle.std.specs.Prelude.{◌≡◌, Bool, List, ℕ, ◌+◌, ◌*◌, ltb, length, Result}
use Rattle.std.proofs.Math.Option.{none as nowhere}
use Rattle.meaning.specs.declared.Side.TheVariants.{Register as register}
use Rattle.meaning.specs.declared.Refusal.{Refusal}
use Rattle.meaning.specs.Refusal.{Answer, good, at, refuse_if, ◌>>=◌, ◌>>◌}
use Rattle.meaning.specs.Register.{Register, read_links, read_register_by}
use Rattle.meaning.specs.Rules.{paper}
use Rattle.fields.specs.Head.{wrong_in}
use Rattle.register.specs.declared.Size.{Size}
pub use Rattle.links.specs.Links.{key, Small}

-- of a register that was read, how many items and links it has
abbrev pub sizes : Register → Answer Size
sizes g = good (record { items = length g.names; links = length g.links })

unfoldable pub counted : Answer Register → Answer Size
counted a = a >>= sizes

-- The promise of `read`: of bytes, whole or in a session's buffer, and a result.
abbrev pub ReadPromise : List ℕ → Bool → Result Size Refusal → Type 0
ReadPromise s session r = paper r ≡ counted (read_register_by (wrong_in session) s)

-- the links of n items from place p on, and that nothing is left behind them
unfoldable pub links_answer : List ℕ → ℕ → ℕ → ℕ → ℕ → Answer Size
links_answer s end n m p = do
  links ← read_links s end n m nowhere p
  refuse_if (ltb (p + 5 * m) end) (at register 8 (p + 5 * m))
  good (record { items = n; links = length links })
