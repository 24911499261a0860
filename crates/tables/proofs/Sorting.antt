-- A tree that is put to a register, once the register's links are in the order of their roles.
-- Assumes nothing.
use mathlib.Core.Path.{◌≡◌, sym, ap, subst, ◌∙◌}
use mathlib.Core.List.{List}
use mathlib.Core.Option.{none as nowhere}
use Prim.Native.Nat.{ℕ, ◌+◌, ◌*◌, ◌<◌}
use native.Mathlib.Omega.{arith}
use lib.Dec.{T}
use lib.ListN.{get_or}
use lib.Seq.{sets}
use Rattle.meaning.specs.Refusal.{good}
use Rattle.meaning.specs.Register.{Register, withdrawn, links_of}
use Rattle.meaning.specs.InPlace.{table_in}
use Rattle.register.specs.Image.{OfSize}
use Rattle.graph.specs.Walked.{walked}
use Rattle.graph.specs.Judged.{spanned}
use Rattle.sorted.specs.Order.{run, Sorted}
use Rattle.degrees.specs.Gradable.{Gradable}
use Rattle.tables.specs.Rows.{Worked, Whole}
use Rattle.tables.proofs.Judging.{table-judged}

module _ {s : List ℕ} {items links : ℕ} {names roles ends marks : List ℕ} {left : ℕ} (k : Gradable (OfSize s items links) names roles ends marks 0 left)
    {begins order : List ℕ} (c : Sorted s items begins order) where
  abbrev pub g : Register
  g = k.posed.graph.register

  pub same : c.register ≡ g
  same = let z : good c.register ≡ good g = sym c.read ∙ k.posed.graph.read in cc

  -- the order of the links of the register that is known already
  abbrev pub ordered : Sorted s items begins order
  ordered = record {
    register = g;
    read = k.posed.graph.read;
    items-are = k.posed.graph.holds.0;
    most = c.most;
    ends = subst (λ (h : Register). T (links_of items nowhere h.links)) same c.ends;
    begins-room = c.begins-room;
    within = c.within;
    runs = subst (λ (h : Register). (r : ℕ) → r < 256 → spanned (λ i. get_or order i 0) (get_or begins r 0) (get_or begins (r + 1) 0) ≡ run r h.links) same c.runs;
  }

  abbrev pub with-order : Gradable (Sorted s items begins order) names roles ends marks 0 left
  with-order = record { tree = k.tree; posed = record { graph = ordered; held = k.posed.held; few = k.posed.few }; marked = k.marked; small = k.small }

  pub whole_of : (scale : ℕ) (old new : List ℕ) → ((q : Gradable (Sorted s items begins order) names roles ends marks 0 left) → Worked q scale old new)
      → Whole items g k.tree scale old new
  whole_of scale old new w =
      let at : 0 * items ≡ 0 = omega arith in
      record {
        scaled = (w with-order).scaled;
        filled = (w with-order).filled ∙ ap (λ (z : ℕ). sets old z (table_in (walked g) (withdrawn g) items k.tree)) at
            ∙ ap (sets old 0) (table-judged g items k.tree);
      }
