-- Document 01, "Refusal numbers": an answer is what was asked for, or a refusal with side, number and byte place.
-- A call is written as a list of steps in the document's order: the first that refuses is the answer.
-- Assumes nothing.
use Rattle.std.specs.Prelude.{◌≡◌, ◌↔◌, Bool, true, false, ℕ}
use Rattle.meaning.specs.declared.Side.{Side}
use Rattle.meaning.specs.declared.Side.TheVariants.{Call}
use Rattle.meaning.specs.declared.Refusal.{Refusal}

pub data Answer (A : Type 0) : Type 0 where
  good : A → Answer A
  refused : Refusal → Answer A

-- number n at place p of a side
abbrev pub at : Side → ℕ → ℕ → Refusal
at side n p = record { side = side; number = n; place = p }

-- on the call's side the place is 0
abbrev pub on_call : ℕ → Refusal
on_call n = at Call n 0

-- "A number is given exactly when its row holds and nothing earlier in the order applies."
unfoldable pub refuse_if : Bool → Refusal → Answer (Unit {0})
refuse_if true r = refused r
refuse_if false r = good tt

-- an answer that is refused exactly when a row holds, with that row's refusal, and good exactly when what is handed in is one that is taken
pub record Exactly {A : Type 0} (a : Answer A) (Row : Refusal → Type 0) (Takes : Type 0) : Type 0 where
  pub refuses : (f : Refusal) → (a ≡ refused f) ↔ Row f
  pub takes : ((x : A) × (a ≡ good x)) ↔ Takes

-- one step, and then what follows it
infixl 10 ◌>>=◌
unfoldable pub ◌>>=◌ : {A B : Type 0} → Answer A → (A → Answer B) → Answer B
◌>>=◌ (good a) next = next a
◌>>=◌ (refused r) next = refused r

infixl 10 ◌>>◌
unfoldable pub ◌>>◌ : {B : Type 0} → Answer (Unit {0}) → Answer B → Answer B
◌>>◌ (good a) next = next
◌>>◌ (refused r) next = refused r
