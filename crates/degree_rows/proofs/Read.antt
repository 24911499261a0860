-- A register and a plain requirement that were read: all items can be worked out, and what was worked out is what the rows are printed off.
-- Assumes nothing.
use mathlib.Core.Path.{◌≡◌, sym, ap, ◌∙◌}
use mathlib.Core.List.{List}
use Prim.Native.Nat.{ℕ}
use native.Mathlib.Omega.{arith}
use lib.ListN.{length}
use Rattle.meaning.specs.Bounds.{most_links}
use Rattle.std.specs.Prelude.{Err}
use Rattle.meaning.specs.declared.Refusal.{Refusal}
use Rattle.meaning.specs.Refusal.{Answer, good, refused}
use Rattle.meaning.specs.Tree.{Concept}
use Rattle.meaning.specs.Register.{Register, read_register, read_buffer}
use Rattle.meaning.specs.Calls.{read_plain}
use Rattle.meaning.proofs.Reading.{good-inj, taken, took}
use Rattle.meaning.proofs.Image.{whole-buffer, image-fits}
use Rattle.register.specs.Held.{held, IsRead}
use Rattle.register.proofs.Holding.{held-is, is_read}
use Rattle.rows.specs.declared.Reduced.{Reduced}
use Rattle.graph.specs.declared.Indexed.{Indexed}
use Rattle.graph.proofs.Judging.{judged}
use Rattle.degrees.specs.Gradable.{GradableOn}
use Rattle.shown.proofs.Entry.{scale_small}
use Rattle.plain.specs.declared.Both.{Both}
use Rattle.plain.specs.Reading.{read_both, BothDone}
use Rattle.plain.proofs.Known.{Known, both-no}
use Rattle.ratings.specs.declared.Ratings.{Ratings}
use Rattle.ratings.specs.Rated.{Graded, Rated}

-- where both were read, the requirement was
both-plain : (image message : List ℕ) (g : Register) (t : Concept) → read_both image message ≡ good (g, t) → read_plain message ≡ good t
unfolding read_both
both-plain image message g t e =
    let x = taken (read_register image) _ e in
    let y = taken (read_plain message) _ x.2 in
    let same : ◌≡◌ {A = Register × Concept} (x.0, y.0) (g, t) = good-inj y.2 in
    y.1 ∙ ap (λ (z : Register × Concept). good z.1) same

-- and where both are read, neither is refused
pub no_refusal : (image message : List ℕ) (f : Refusal) (g : Register) (t : Concept) → BothDone image message (Err f) → read_register image ≡ good g → read_plain message ≡ good t → ⊥
unfolding read_both
no_refusal image message f g t done eg et =
    let both : read_both image message ≡ good (g, t) = took (read_register image) _ g eg ∙ took (read_plain message) _ t et in
    let none : ◌≡◌ {A = Answer (Register × Concept)} (good (g, t)) (refused f) = sym both ∙ both-no image message f done in cc

module _ {image message : List ℕ} {b : Both} (w : Known image message b) where
  begins : read_buffer image ≡ good w.register
  begins = whole-buffer image w.register w.bytes w.held.held.posed.graph

  pub was_read : IsRead image b.size.items b.size.links
  was_read = is_read image b.size.items b.size.links w.bytes (record { register = w.register; read = begins; holds = (w.held.items, w.held.links) })

  abbrev of : Reduced
  of = b.plain.reduced

  module _ (on : Indexed) (same : on.image.now ≡ image) where
    abbrev pub gradable : GradableOn on of 0 17
    gradable =
        let h = w.held.held in
        record { tree = w.tree; posed = record { graph = judged on.judged; held = h.posed.held; few = h.posed.few }; marked = h.marked; small = scale_small w.tree h.small }

    pub rated : (notes : List ℕ) (r : Ratings) → length notes ≡ most_links
        → ((k : GradableOn on of 0 17) → Graded k.posed.graph.register k.tree on.items of notes r) → Rated on of message notes r
    rated notes r room done =
        let k = gradable in
        let one : held on.image.now ≡ w.register = held-is on.image.now w.register (ap read_buffer same ∙ begins) in
        record {
          tree = k.tree;
          wanted = both-plain image message w.register w.tree w.both;
          names = of.tree.names;
          roles = of.tree.roles;
          posed = k.posed;
          whole = ap read_register same ∙ w.held.held.posed.graph ∙ ap (λ (g : Register). good g) (sym one);
          marked = k.marked;
          places = omega (arith, ap (λ (g : Register). length g.links) one, (image-fits image w.register w.bytes begins).0.few, room);
          graded = done k;
        }
