-- One law for every promise that is an equation: where what is handed back, in the document's words, and what is left are given, there is one result.
-- Assumes nothing.
use mathlib.Core.Path.{◌≡◌, refl, sym, ap, ◌∙◌}
use Rattle.std.specs.Prelude.{Result, Ok, Err}
use Rattle.meaning.specs.declared.Refusal.{Refusal}
use Rattle.meaning.specs.Refusal.{Answer, good, refused}
use Rattle.meaning.specs.Rules.{paper}

-- the words tell all results apart
abbrev pub Apart : {R A : Type 0} → (R → A) → Type 0
Apart {R} words = (r q : R) → words r ≡ words q → r ≡ q

-- what is handed back stands for itself
pub itself : {A : Type 0} → Apart (λ (x : A). x)
itself r q e = e

module _ {R A : Type 0} (words : R → A) where
  -- words from which each result can be told back
  pub told_back : (back : A → R) → ((r : R) → back (words r) ≡ r) → Apart words
  told_back back h r q e = sym (h r) ∙ ap back e ∙ h q

  module _ (apart : Apart words) where
    pub once : (a : A) (r q : R) → words r ≡ a → words q ≡ a → r ≡ q
    once a r q h k = apart r q (h ∙ sym k)

    -- and what is left
    pub once-left : {B : Type 0} (a : A) (b : B) (r q : R) (t u : B) → (words r ≡ a) × (t ≡ b) → (words q ≡ a) × (u ≡ b) → (r ≡ q) × (t ≡ u)
    once-left a b r q t u h k = (once a r q h.0 k.0, h.1 ∙ sym k.1)

-- the document's words for a result tell all results apart
pub paper_told : {A : Type 0} → Apart (paper {A = A})
paper_told {A} = told_back paper back go
  where
    back : Answer A → Result A Refusal
    back (good x) = Ok x
    back (refused r) = Err r

    go : (r : Result A Refusal) → back (paper r) ≡ r
    go (Ok x) = refl
    go (Err r) = refl
