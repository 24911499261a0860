-- Answers and what a reader left: from a reader's answer to meaning's, and back.
-- Assumes nothing.
use mathlib.Core.Path.{◌≡◌, refl, sym, ap, ◌∙◌, subst}
use mathlib.Core.List.{List}
use mathlib.Core.Option.{Option, some}
use mathlib.Core.Option.{none as nowhere}
use Prim.Native.Nat.{ℕ}
use native.Mathlib.Omega.{arith}
use lib.ListN.{length}
use Rattle.meaning.specs.declared.Side.TheVariants.{Requirement as requirement}
use Rattle.meaning.specs.declared.Refusal.{Refusal}
use Rattle.meaning.specs.declared.Fault.{Fault}
use Rattle.meaning.specs.Refusal.{Answer, good, refused}
use Rattle.meaning.specs.Rules.{refusal_on}
use Rattle.std.specs.Prelude.{Result, Ok, Err}
use Rattle.meaning.specs.Message.{Spot}
use Rattle.readers.specs.declared.Reached.{Reached}
use Rattle.readers.specs.Reading.{reached, refusal_of, ReadGood, Outcome, PartsGood, PartsOutcome}

-- a refusal in hand is the one in the document's words
pub fault : {X : Type 0} (r : Result X Fault) (e : Refusal) (f : Fault) → refusal_of r ≡ some e → r ≡ Err f → e ≡ refusal_on requirement f
fault r e f h q = let z : some e ≡ some (refusal_on requirement f) = sym h ∙ ap refusal_of q in cc

pub not-fault : {X : Type 0} (r : Result X Fault) (e : Refusal) (x : X) → refusal_of r ≡ some e → r ≡ Ok x → ⊥
not-fault r e x h q = let z : ◌≡◌ {A = Option Refusal} nowhere (some e) = ap refusal_of (sym q) ∙ h in let y : ◌≡◌ {A = ℕ} 0 1 = cc in omega arith

pub not-both : {X : Type 0} (r : Result X Fault) (x : X) (f : Fault) → r ≡ Ok x → r ≡ Err f → ⊥
not-both {X} r x f h q = let z : ◌≡◌ {A = Result X Fault} (Ok x) (Err f) = sym h ∙ q in let y : ◌≡◌ {A = ℕ} 0 1 = cc in omega arith

-- where reading came
module _ {i j k a b c : ℕ} (e : reached i j k ≡ reached a b c) where
  abbrev came : Result Reached Fault → Reached
  came (Ok x) = x
  came (Err f) = record { next = 0; nodes = 0; parts = 0 }

  same-next : i ≡ a
  same-next = ap (λ r. (came r).next) e

  same-nodes : j ≡ b
  same-nodes = ap (λ r. (came r).nodes) e

  same-parts : k ≡ c
  same-parts = ap (λ r. (came r).parts) e

module _ {X : Type 0} (Held : X → ℕ → Type 0) (end p n : ℕ) (A B : List ℕ) where
  pub outcome-refused : (a : Answer (X × Spot)) (r : Result Reached Fault) (f : Fault) → Outcome Held end p n A B a r → r ≡ Err f → a ≡ refused (refusal_on requirement f)
  outcome-refused (good x) r f h e = absurd (not-both r _ f h.answer e)
  outcome-refused (refused g) r f h e = ap refused (fault r g f h e)

  pub outcome-good : (a : Answer (X × Spot)) (r : Result Reached Fault) (i j k : ℕ) → Outcome Held end p n A B a r → r ≡ reached i j k
      → (x : X × Spot) × (a ≡ good x) × ReadGood Held end p n A B x.0 x.1 r × (x.1.next ≡ i) × (x.1.nodes ≡ j) × (length x.1.parts ≡ k)
  outcome-good (good x) r i j k h e =
      let z = sym h.answer ∙ e in
      (x, refl, h, same-next z, same-nodes z, same-parts z)
  outcome-good (refused f) r i j k h e = absurd (not-fault r f _ h e)

  -- and the other way
  pub is-refused : (a : Answer (X × Spot)) (f : Fault) → a ≡ refused (refusal_on requirement f) → Outcome Held end p n A B a (Err f)
  is-refused a f e = subst (λ z. Outcome Held end p n A B z (Err f)) (sym e) refl

  pub is-good : (a : Answer (X × Spot)) (r : Result Reached Fault) (x : X) (v : Spot) → a ≡ good (x, v) → ReadGood Held end p n A B x v r → Outcome Held end p n A B a r
  is-good a r x v e g = subst (λ z. Outcome Held end p n A B z r) (sym e) g

module _ {X : Type 0} (end p n : ℕ) (A B : List ℕ) where
  pub parts-refused : (a : Answer (X × Spot)) (r : Result Reached Fault) (f : Fault) → PartsOutcome end p n A B a r → r ≡ Err f → a ≡ refused (refusal_on requirement f)
  parts-refused (good x) r f h e = absurd (not-both r _ f h.answer e)
  parts-refused (refused g) r f h e = ap refused (fault r g f h e)

  pub parts-good : (a : Answer (X × Spot)) (r : Result Reached Fault) (i j k : ℕ) → PartsOutcome end p n A B a r → r ≡ reached i j k
      → (x : X × Spot) × (a ≡ good x) × PartsGood end p n A B x.1 r × (x.1.next ≡ i) × (x.1.nodes ≡ j) × (length x.1.parts ≡ k)
  parts-good (good x) r i j k h e =
      let z = sym h.answer ∙ e in
      (x, refl, h, same-next z, same-nodes z, same-parts z)
  parts-good (refused f) r i j k h e = absurd (not-fault r f _ h e)

  pub parts-is-refused : (a : Answer (X × Spot)) (f : Fault) → a ≡ refused (refusal_on requirement f) → PartsOutcome end p n A B a (Err f)
  parts-is-refused a f e = subst (λ z. PartsOutcome end p n A B z (Err f)) (sym e) refl

  pub parts-is-good : (a : Answer (X × Spot)) (r : Result Reached Fault) (x : X) (v : Spot) → a ≡ good (x, v) → PartsGood end p n A B v r → PartsOutcome end p n A B a r
  parts-is-good a r x v e g = subst (λ z. PartsOutcome end p n A B z r) (sym e) g
