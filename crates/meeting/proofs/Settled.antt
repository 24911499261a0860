-- The answer for one item, from what stays of a set that has it alone.
-- Assumes nothing.
use mathlib.Core.Path.{◌≡◌, refl, sym, ap, ◌∙◌}
use mathlib.Core.Bool.{Bool, true, false, ◌&&◌, ◌||◌}
use mathlib.Core.List.{List}
use Prim.Native.Nat.{ℕ, ◌<◌}
use native.Mathlib.Omega.{arith}
use lib.Dec.{eqb}
use lib.Seq.{sets}
use borrow.Author.Tests.{eq-eqb, eqb-true, le-ltb}
use Rattle.meaning.specs.Graph.{Graph}
use Rattle.meaning.specs.Requirement.{member}
use Rattle.meaning.specs.Shown.{yes_map}
use Rattle.meaning.proofs.Tests.{true-false}
use Rattle.graph.specs.declared.sets.Items.{Items}
use Rattle.graph.specs.declared.Indexed.{Indexed}
use Rattle.graph.specs.Walked.{walked}
use Rattle.graph.specs.Sets.{in_set, All, Among, With}
use Rattle.screening.specs.declared.Wanted.{Wanted}
use Rattle.trails.specs.Charted.{Charted}
use Rattle.meeting.specs.Required.{Required, Done, Settled}

-- a set of one item
module _ (item : ℕ) (none set : List ℕ) (empty : All 0 none) (w : With none item set) where
  pub one_in : in_set set item ≡ true
  one_in = w item ∙ ap (λ (b : Bool). b || in_set none item) (eq-eqb item item refl)

  pub one-among : (items : ℕ) → item < items → Among items set
  one-among items l x h = go (eqb item x) refl
    where
      go : (b : Bool) → eqb item x ≡ b → x < items
      go true e = let z = eqb-true item x e in omega arith
      go false e = absurd (true-false h (w x ∙ ap (λ (b : Bool). b || in_set none x) e ∙ empty.has x ∙ le-ltb x 0 (omega arith)))

module _ {on : Indexed} {wanted : Wanted} {node left : ℕ} (k : Required on wanted node left) (set left' : List ℕ) (m₀ m : List Items) (item : ℕ) (b : Bool)
    (d : Done wanted.tree.ends (walked k.posed.graph.register) k.tree node set left' m₀ m) (i : in_set set item ≡ true) (e : b ≡ in_set left' item) where
  abbrev G : Graph ℕ
  G = walked k.posed.graph.register

  pub says : b ≡ member G k.tree item
  says = e ∙ d.sifted.each item ∙ ap (λ (c : Bool). c && member G k.tree item) i

  pub settled-no : b ≡ false → (map : List ℕ) → Settled k.posed.graph.register k.tree item map map false
  settled-no n map = record { answer = sym n ∙ says; map = refl }

  abbrev pub charted : b ≡ true → item < on.items → Charted on wanted.tree m node left item
  charted y l = record { tree = k.tree; posed = k.posed; right = d.right item (sym e ∙ y); inside = l; yes = sym says ∙ y }

  pub settled-yes : b ≡ true → (old new : List ℕ) → new ≡ sets old 0 (yes_map G k.tree item) → Settled k.posed.graph.register k.tree item old new true
  settled-yes y old new q = record { answer = sym y ∙ says; map = q }
