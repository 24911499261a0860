-- The thresholds of a node, one after the other.
-- Assumes nothing.
use mathlib.Core.Path.{◌≡◌, refl, sym, ap, ◌∙◌}
use mathlib.Core.Bool.{Bool, true, false, ◌&&◌, and-true}
use mathlib.Core.List.{List}
use Prim.Native.Nat.{ℕ, ◌+◌}
use native.Mathlib.Numerals.{add-one}
use lib.ListN.{get_or}
use borrow.Author.Tests.{eq-eqb, ne_eqb}
use Rattle.meaning.specs.Graph.{Graph}
use Rattle.meaning.specs.Requirement.{Threshold, passes}
use Rattle.graph.specs.Sets.{in_set}
use Rattle.screening.specs.Sifting.{Sifted}
use Rattle.screening.specs.Standing.{no_threshold, ruled_at}

pub and_assoc : (a b c : Bool) → ((a && b) && c) ≡ (a && (b && c))
and_assoc true b c = refl
and_assoc false b c = refl

module _ (G : Graph ℕ) (owners : List ℕ) (hs : List Threshold) (n : ℕ) (old : List ℕ) where
  -- the first k are done
  abbrev pub Through : List ℕ → ℕ → Type 0
  Through new k = Sifted (λ x. ruled_at G owners hs k n x) old new

  pub through-none : Through old 0
  unfolding ruled_at
  through-none = record { each = λ x. sym (and-true (in_set old x)) }

  -- the next one is another node's
  pub through-pass : (new : List ℕ) (k o : ℕ) → Through new k → o ≡ get_or owners k 0 → (o ≡ n → ⊥) → Through new (k + 1)
  unfolding ruled_at
  through-pass new k o r e d = record { each = λ x. r.each x ∙ rw (add-one k, ← e, ne_eqb o n d, and-true (ruled_at G owners hs k n x)) }

  pub through-take : (new later : List ℕ) (k o : ℕ) → Through new k → o ≡ get_or owners k 0 → o ≡ n
      → Sifted (λ x. passes G (get_or hs k no_threshold) x) new later → Through later (k + 1)
  unfolding ruled_at
  through-take new later k o r e d w = record {
    each = λ x. let kept = passes G (get_or hs k no_threshold) x in
        w.each x ∙ ap (λ (b : Bool). b && kept) (r.each x) ∙ and_assoc (in_set old x) (ruled_at G owners hs k n x) kept ∙ rw (add-one k, ← e, eq-eqb o n d);
  }

  pub through-all : (new : List ℕ) (k parts : ℕ) → Through new k → k ≡ parts → Through new parts
  through-all new k parts r e = rw e at r
