-- What the yes/no call answers: each row of its table refuses; of a register and a requirement that were read it says whether the item meets the tree.
-- A plain requirement is met exactly where the degree is 1.
-- Assumes nothing.
use mathlib.Core.Path.{◌≡◌, refl, sym, ap, subst, ◌∙◌}
use mathlib.Core.Logic.{◌↔◌}
use mathlib.Core.List.{List, []}
use Prim.Native.Nat.{ℕ, ◌≤◌}
use lib.Dec.{T, ltb}
use borrow.Author.Tests.{le-ltb}
use Rattle.meaning.specs.declared.Refusal.{Refusal}
use Rattle.meaning.specs.Refusal.{good, refused}
use Rattle.meaning.specs.Tree.{nodes}
use Rattle.meaning.specs.Graph.{Graph}
use Rattle.meaning.specs.Register.{Register, judged, read_register}
use Rattle.meaning.specs.Degree.{answered}
use Rattle.meaning.specs.Whole.{held}
use Rattle.meaning.specs.Requirement.{Requirement, bare, member}
use Rattle.meaning.specs.Message.{Part, read_requirement, thresholds_of}
use Rattle.meaning.specs.Shown.{yes_map}
use Rattle.meaning.specs.Calls.{decide, member_call}
use Rattle.meaning.proofs.Reading.{stop, stopped, took, below, then-test, then-take}
use Rattle.meaning.proofs.Asked.{Asks, asked-stops, asked-withdrawn, asks-goes, asks-halts}
use Rattle.meaning.proofs.Whole.{meets-whole}
use Rattle.meaning.proofs.One.{answered-one}
use Rattle.meaning.proofs.Member.{bare-member}
use Rattle.deciding.specs.Refusing.{DecideRow, bad_image, bad_message, no_item, is_withdrawn, no_room}

-- each row of the table refuses
pub refuses-answer : (image message : List ℕ) (item room : ℕ) (x : Refusal) → DecideRow image message item room x → member_call image message item room ≡ refused x
unfolding member_call
refuses-answer image message item room x (bad_image e) = stopped (read_register image) _ x e
refuses-answer image message item room x (bad_message g eg e) = took (read_register image) _ g eg ∙ stopped (read_requirement message) _ x e
refuses-answer image message item room x (no_item g q ps eg em l ex) =
    took (read_register image) _ g eg ∙ took (read_requirement message) _ (q, ps) em
    ∙ asks-halts g item _ (asked-stops g item l) ∙ ap refused (sym ex)
refuses-answer image message item room x (is_withdrawn g q ps eg em l w ex) =
    took (read_register image) _ g eg ∙ took (read_requirement message) _ (q, ps) em
    ∙ asks-halts g item _ (asked-withdrawn g item l w) ∙ ap refused (sym ex)
refuses-answer image message item room x (no_room g q ps eg em l w s ex) =
    took (read_register image) _ g eg ∙ took (read_requirement message) _ (q, ps) em
    ∙ asks-goes g item _ (record { inside = l; serves = w })
    ∙ stop (ltb room (nodes q)) _ _ (below room (nodes q) s) ∙ ap refused (sym ex)

module _ (image message : List ℕ) (item room : ℕ) (g : Register) (q : Requirement) (ps : List Part) (eg : read_register image ≡ good g)
    (em : read_requirement message ≡ good (q, ps)) (asks : Asks g item) (fits : nodes q ≤ room) where
  pub member-answer : member_call image message item room ≡ good (decide (member (judged g) q item) (yes_map (judged g) q item))
  unfolding member_call
  member-answer =
      then-take _ _ g eg
      (then-take _ _ (q, ps) em
      (asks-goes g item _ asks ∙ then-test _ _ _ (le-ltb room (nodes q) fits) refl))

-- a plain requirement is met exactly where the degree is 1
pub plain-one : (G : Graph ℕ) (q : Requirement) (item : ℕ) → thresholds_of q ≡ []
    → T (member G q item) ↔ ((answered G (bare q) item).num ≡ (answered G (bare q) item).den)
plain-one G q item p =
    let same = bare-member G q item p in (
      (λ t. (answered-one G (bare q) item).1 ((meets-whole (held G) G (bare q) item).0 (subst T same t))),
      (λ d. subst T (sym same) ((meets-whole (held G) G (bare q) item).1 ((answered-one G (bare q) item).0 d))),
    )
