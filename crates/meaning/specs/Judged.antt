-- Document 02, §5, spelled out: "The graph that is judged is the register without withdrawn items and the links at them."
-- That `judged` is such a graph, and that all such have the same names and the same successors, is proofs/Judged.antt.
-- Assumes nothing.
use Rattle.std.specs.Prelude.{◌≡◌, false, ◌↔◌, ℕ, T}
use mathlib.Core.List.{Memᴰ}
use Rattle.meaning.specs.declared.Fact.TheVariants.{Name as name_on, Link as link_of}
use Rattle.meaning.specs.Bounds.{withdrawn_name}
use Rattle.meaning.specs.Names.{has}
use Rattle.meaning.specs.Graph.{Graph}
use Rattle.meaning.specs.Register.{Register, is_fact}

-- an item is judged exactly when it lacks name 63
abbrev pub InService : Register → ℕ → Type 0
InService g i = is_fact g (name_on i withdrawn_name) ≡ false

-- a judged item has the names that the register gives it; a link is judged exactly when both its ends are
pub record Judges (g : Register) (G : Graph ℕ) : Type 0 where
  pub names : (i k : ℕ) → T (has (G.names i) k) ↔ (T (is_fact g (name_on i k)) × InService g i)
  pub links : (a r b : ℕ) → Memᴰ b (G.next a r) ↔ (T (is_fact g (link_of a r b)) × InService g a × InService g b)
