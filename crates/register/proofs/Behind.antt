-- The links, and that nothing is left behind them: where a link is refused, and where all are read.
-- Assumes nothing.
use mathlib.Core.Path.{◌≡◌, ap, ◌∙◌}
use mathlib.Core.List.{List}
use mathlib.Core.Option.{none as nowhere}
use Prim.Native.Nat.{ℕ, ◌+◌, ◌*◌, ◌≤◌, ◌<◌}
use native.Mathlib.Omega.{arith}
use lib.Dec.{ltb}
use Rattle.meaning.specs.declared.Side.TheVariants.{Register as register}
use Rattle.meaning.specs.declared.Refusal.{Refusal}
use Rattle.meaning.specs.Refusal.{good, refused, at}
use Rattle.meaning.specs.Register.{read_links}
use Rattle.meaning.proofs.Reading.{pass, stop, stopped, took, below, not-below}
use Rattle.meaning.proofs.Image.{read-links-many}
use Rattle.links.specs.Links.{AllRead}
use Rattle.register.specs.Reading.{links_answer}

module _ (s : List ℕ) (end n m start : ℕ) where
  pub links-stop : (r : Refusal) → read_links s end n m nowhere start ≡ refused r → links_answer s end n m start ≡ refused r
  unfolding links_answer
  links-stop r e = stopped (read_links s end n m nowhere start) _ r e

  -- all links are read, up to place p
  module _ (q : AllRead s end n m start) (p : ℕ) (e : start + 5 * m ≡ p) where
    pub links-left : p < end → links_answer s end n m start ≡ refused (at register 8 p)
    unfolding links_answer
    links-left h =
        took (read_links s end n m nowhere start) _ q.0 q.1 ∙ stop (ltb (start + 5 * m) end) _ _ (below (start + 5 * m) end (omega arith))
        ∙ ap (λ (z : ℕ). refused (at register 8 z)) e

    pub links-done : end ≤ p → links_answer s end n m start ≡ good (record { items = n; links = m })
    unfolding links_answer
    links-done h =
        took (read_links s end n m nowhere start) _ q.0 q.1 ∙ pass (ltb (start + 5 * m) end) _ _ (not-below (start + 5 * m) end (omega arith))
        ∙ ap (λ (z : ℕ). good (record { items = n; links = z })) (read-links-many s end n m nowhere start q.0 q.1)
