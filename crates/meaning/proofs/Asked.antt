-- The item that is asked for: 15 where there is none such, 26 directly after it where it is withdrawn, and otherwise the call goes on.
-- Assumes nothing.
use mathlib.Core.Path.{◌≡◌, refl, sym, ap, ◌∙◌}
use mathlib.Core.Bool.{Bool, true, false}
use mathlib.Core.Logic.{◌⊎◌, inl, inr}
use Prim.Native.Nat.{ℕ, ◌≤◌, ◌<◌}
use lib.Dec.{leb, leb→le}
use lib.ListN.{length}
use Rattle.meaning.specs.Refusal.{Answer, good, refused, on_call, refuse_if, ◌>>◌}
use Rattle.meaning.specs.Register.{Register, withdrawn}
use Rattle.meaning.specs.Calls.{asked_for}
use Rattle.meaning.proofs.Tests.{holds}
use Rattle.meaning.proofs.Reading.{not_good, pass, stop, halted, went, gone, at_most, not-le, lt_of_not_le}

-- an item of the register that is in service
pub record Asks (g : Register) (item : ℕ) : Type 0 where
  pub inside : item < length g.names
  pub serves : withdrawn g item ≡ false

module _ (g : Register) (item : ℕ) where
  pub asked-stops : length g.names ≤ item → asked_for g item ≡ refused (on_call 15)
  unfolding asked_for
  asked-stops l = stop (leb (length g.names) item) _ _ (at_most (length g.names) item l)

  pub asked-withdrawn : item < length g.names → withdrawn g item ≡ true → asked_for g item ≡ refused (on_call 26)
  unfolding asked_for refuse_if
  asked-withdrawn l e =
      pass (leb (length g.names) item) _ _ (not-le (length g.names) item l) ∙ ap (λ (b : Bool). refuse_if b (on_call 26)) e

  pub asked-passes : Asks g item → asked_for g item ≡ good tt
  unfolding asked_for refuse_if
  asked-passes a =
      pass (leb (length g.names) item) _ _ (not-le (length g.names) item a.inside) ∙ ap (λ (b : Bool). refuse_if b (on_call 26)) a.serves

  -- nothing is left out
  pub asked-either : (length g.names ≤ item) ⊎ ((item < length g.names) × (withdrawn g item ≡ true)) ⊎ Asks g item
  asked-either = go (leb (length g.names) item) (withdrawn g item) refl refl
    where
      go : (a b : Bool) → leb (length g.names) item ≡ a → withdrawn g item ≡ b
          → (length g.names ≤ item) ⊎ ((item < length g.names) × (withdrawn g item ≡ true)) ⊎ Asks g item
      go true b d e = inl (leb→le (length g.names) item (holds d))
      go false true d e = inr (inl (lt_of_not_le (length g.names) item d, e))
      go false false d e = inr (inr (record { inside = lt_of_not_le (length g.names) item d; serves = e }))

  module _ {B : Type 0} (k : Answer B) where
    pub asks-goes : Asks g item → (asked_for g item >> k) ≡ k
    asks-goes a = went (asked_for g item) k (asked-passes a)

    pub asks-halts : {n : ℕ} → asked_for g item ≡ refused (on_call n) → (asked_for g item >> k) ≡ refused (on_call n)
    asks-halts {n} e = halted (asked_for g item) k (on_call n) e

    pub asks-went : {b : B} → (asked_for g item >> k) ≡ good b → Asks g item × (k ≡ good b)
    asks-went e = let q = gone (asked_for g item) k e in (go asked-either q.0, q.1)
      where
        go : (length g.names ≤ item) ⊎ ((item < length g.names) × (withdrawn g item ≡ true)) ⊎ Asks g item → asked_for g item ≡ good tt → Asks g item
        go (inl l) d = absurd (not_good (sym (asked-stops l) ∙ d))
        go (inr (inl w)) d = absurd (not_good (sym (asked-withdrawn w.0 w.1) ∙ d))
        go (inr (inr a)) d = a
