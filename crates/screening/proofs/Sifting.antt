-- A set of which the items that say yes stay.
-- Assumes nothing.
use mathlib.Core.Path.{◌≡◌, refl, sym, ap, ◌∙◌}
use mathlib.Core.Bool.{Bool, true, false, ◌&&◌}
use mathlib.Core.List.{List}
use Prim.Native.Nat.{ℕ}
use Rattle.meaning.proofs.Tests.{true-false}
use Rattle.graph.specs.Sets.{in_set, Among}
use Rattle.screening.specs.Sifting.{Sifted}

pub none_stays : (p : ℕ → Bool) (set : List ℕ) → ((x : ℕ) → in_set set x ≡ false) → Sifted p set set
none_stays p set h = record { each = λ x. h x ∙ sym (ap (λ (b : Bool). b && p x) (h x)) }

-- what stays was there
pub stayed : (p : ℕ → Bool) (old new : List ℕ) → Sifted p old new → (x : ℕ) → in_set new x ≡ true → (in_set old x ≡ true) × (p x ≡ true)
stayed p old new s x h = go (in_set old x) refl (p x) refl (sym (s.each x) ∙ h)
  where
    go : (b : Bool) → in_set old x ≡ b → (c : Bool) → p x ≡ c → (b && c) ≡ true → (b ≡ true) × (c ≡ true)
    go true e true d t = (refl, refl)
    go true e false d t = absurd (true-false t refl)
    go false e c d t = absurd (true-false t refl)

pub stays-among : (p : ℕ → Bool) (old new : List ℕ) → Sifted p old new → (items : ℕ) → Among items old → Among items new
stays-among p old new s items a x h = a x (stayed p old new s x h).0
