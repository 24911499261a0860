-- The table that is filled for all items at once.
-- Assumes nothing.
use mathlib.Core.Path.{sym, ap, ◌∙◌}
use mathlib.Core.Bool.{Bool, ◌&&◌}
use mathlib.Core.List.{List}
use Prim.Native.Nat.{ℕ}
use borrow.Author.Tests.{lt-ltb}
use Rattle.meaning.specs.Graph.{Graph}
use Rattle.meaning.specs.Requirement.{Requirement, member}
use Rattle.graph.specs.declared.sets.Items.{Items}
use Rattle.graph.specs.Sets.{All}
use Rattle.meeting.specs.Required.{Done}
use Rattle.verdicts.specs.Told.{Tabled}

-- what stays of it are the items that meet the tree
pub tabled : {ends : List ℕ} {G : Graph ℕ} {t : Requirement} {items : ℕ} {set left : List ℕ} {m new : List Items} → All items set → Done ends G t 0 set left m new
    → Tabled G t items ends new
tabled {G = G} {t} {items} a d = record {
  each = λ x l. d.stored x ∙ d.sifted.each x ∙ ap (λ (b : Bool). b && member G t x) (a.has x ∙ lt-ltb x items l);
  right = λ x h. d.right x (sym (d.stored x) ∙ h);
}
