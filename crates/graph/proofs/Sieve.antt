-- Of a set stay the members of which a test says yes: those before a place were asked, those from it on are as they were.
-- Assumes nothing.
use mathlib.Core.Path.{◌≡◌, refl, sym, ap, ◌∙◌, subst}
use mathlib.Core.Bool.{Bool, true, false}
use mathlib.Core.List.{List}
use Prim.Native.Nat.{ℕ, ◌+◌, ◌≤◌, ◌<◌}
use native.Mathlib.Decide.{dec_lt}
use native.Mathlib.Omega.{arith}
use lib.ListN.{length}
use Rattle.meaning.proofs.Tests.{true-false}
use Rattle.graph.proofs.Members.{member-few}
use Rattle.graph.specs.Sets.{in_set, Next, Without, Retained}

pub record Sieved (says : ℕ → Bool → Type 0) (from : ℕ) (old new : List ℕ) : Type 0 where
  pub asked : (x : ℕ) → x < from → in_set old x ≡ true → says x (in_set new x)
  pub other : (x : ℕ) → x < from → in_set old x ≡ false → in_set new x ≡ false
  pub rest : (x : ℕ) → from ≤ x → in_set new x ≡ in_set old x

module _ (says : ℕ → Bool → Type 0) where
  pub sieved-none : (set : List ℕ) → Sieved says 0 set set
  sieved-none set = record { asked = λ x l. absurd (omega arith); other = λ x l. absurd (omega arith); rest = λ x l. refl }

  -- what lies before the next member is no member
  sieved-over : (from x : ℕ) (old new : List ℕ) → Sieved says from old new → Next old from x → Sieved says x old new
  sieved-over from x old new w n = record {
    asked = λ y l h. before y l h (dec_lt y from);
    other = λ y l h. aside y h (dec_lt y from);
    rest = λ y l. w.rest y (let b = n.behind in omega arith);
  }
    where
      before : (y : ℕ) → y < x → in_set old y ≡ true → Dec (y < from) → says y (in_set new y)
      before y l h (yes p) = w.asked y p h
      before y l h (no p) = absurd (true-false h (n.passed y (omega (arith, p)) l))

      aside : (y : ℕ) → in_set old y ≡ false → Dec (y < from) → in_set new y ≡ false
      aside y h (yes p) = w.other y p h
      aside y h (no p) = w.rest y (omega (arith, p)) ∙ h

  -- one member more, which stays or goes
  one_more : (x : ℕ) (old new later : List ℕ) → Sieved says x old new → in_set old x ≡ true → says x (in_set later x)
      → ((y : ℕ) → (y ≡ x → ⊥) → in_set later y ≡ in_set new y) → Sieved says (x + 1) old later
  one_more x old new later w m s e = record {
    asked = λ y l h. asked' y l h (dec_lt y x);
    other = λ y l h. aside y l h (dec_lt y x);
    rest = λ y l. e y (λ q. absurd (omega (arith, q))) ∙ w.rest y (omega arith);
  }
    where
      apart : (y : ℕ) → y < x → y ≡ x → ⊥
      apart y l q = omega (arith, q)

      asked' : (y : ℕ) → y < x + 1 → in_set old y ≡ true → Dec (y < x) → says y (in_set later y)
      asked' y l h (yes p) = subst (says y) (sym (e y (apart y p))) (w.asked y p h)
      asked' y l h (no p) = let same : x ≡ y = omega (arith, p) in subst (λ (z : ℕ). says z (in_set later z)) same s

      aside : (y : ℕ) → y < x + 1 → in_set old y ≡ false → Dec (y < x) → in_set later y ≡ false
      aside y l h (yes p) = e y (apart y p) ∙ w.other y p h
      aside y l h (no p) = let same : x ≡ y = omega (arith, p) in absurd (true-false m (ap (in_set old) same ∙ h))

  pub sieved-kept : (from x : ℕ) (old new : List ℕ) → Sieved says from old new → Next old from x → in_set old x ≡ true → says x true → Sieved says (x + 1) old new
  sieved-kept from x old new w n m s =
      let v = sieved-over from x old new w n in
      one_more x old new new v m (subst (says x) (sym (v.rest x (omega arith) ∙ m)) s) (λ y d. refl)

  pub sieved_dropped : (from x : ℕ) (old new later : List ℕ) → Sieved says from old new → Next old from x → in_set old x ≡ true → says x false → Without new x later
      → Sieved says (x + 1) old later
  sieved_dropped from x old new later w n m s o = one_more x old new later (sieved-over from x old new w n) m (subst (says x) (sym o.gone) s) o.others

  -- no item is left
  pub sieved-all : (from : ℕ) (old new : List ℕ) → length old ≡ 8 → Sieved says from old new → Next old from 512 → Retained says old new
  sieved-all from old new l w n = record {
    member = λ x h. v.asked x (member-few old l x h) h;
    other = λ x h. aside x h (dec_lt x 512);
  }
    where
      v : Sieved says 512 old new
      v = sieved-over from 512 old new w n

      aside : (x : ℕ) → in_set old x ≡ false → Dec (x < 512) → in_set new x ≡ false
      aside x h (yes p) = v.other x p h
      aside x h (no p) = v.rest x (omega (arith, p)) ∙ h
