-- A loop over siblings: what holds of the iterator before each turn, and what a turn shows. A: the tree's ends; the last sibling ends at e.
-- Assumes nothing.
use mathlib.Core.Path.{◌≡◌, refl, sym, ap, ◌∙◌}
use mathlib.Core.List.{List}
use Prim.Native.Nat.{ℕ, ◌≤◌, ◌<◌}
use native.Mathlib.Omega.{arith}
use lib.ListN.{get_or}
use Rattle.std.specs.Prelude.{Some, None}
use Rattle.rows.specs.Rising.{Rising, Stepped}
use Rattle.rows.specs.declared.siblings.Siblings.{Siblings}

pub record Going (A : List ℕ) (e : ℕ) (s : Siblings) : Type 0 where
  pub can : Rising s.ends.now s.at s.end
  pub ends : s.ends.now ≡ A
  pub end : s.end ≡ e

-- s is the iterator of the trees from the row i up to e, as `children` and `between` make it
pub begins : {A : List ℕ} {i e : ℕ} {s p : Siblings} → s ≡ p → p.ends.now ≡ A → p.at ≡ i → p.end ≡ e → Rising A i e → Going A e s × (s.at ≡ i)
begins {A} {i} {e} {s} {p} q a b c r =
    rw (q, a, b, c) (record { can = r; ends = refl; end = refl }, refl)

-- a turn at the row c
pub record Turn (A : List ℕ) (e : ℕ) (s : Siblings) (c : ℕ) (t : Siblings) : Type 0 where
  pub here : s.at ≡ c
  pub inside : c < e
  pub rises : c < get_or A c 0
  pub going : Going A e t
  pub onward : t.at ≡ get_or A c 0

module _ {A : List ℕ} {e : ℕ} {s : Siblings} (g : Going A e s) where
  pub turn : {c : ℕ} {t : Siblings} → Rising t.ends.now t.at t.end → (t.ends ≡ s.ends) × (t.end ≡ s.end) × Stepped s.ends.now s.at s.end (Some c) t.at → Turn A e s c t
  turn {c} {t} can h =
      let x : s.at ≡ c = sym h.2.0 in
      let r : s.at < get_or s.ends.now s.at 0 = g.can.rises s.at (omega arith) h.2.1 in
      record {
        here = x;
        inside = omega (arith, g.end);
        rises = rw (x, g.ends) at r;
        going = record { can = can; ends = ap (λ b. b.now) h.0 ∙ g.ends; end = h.1 ∙ g.end };
        onward = rw (x, g.ends) at h.2.2;
      }

  pub ended : {t : Siblings} → (t.ends ≡ s.ends) × (t.end ≡ s.end) × Stepped s.ends.now s.at s.end None t.at → e ≤ s.at
  ended h = let z : s.end ≤ s.at = h.2.0 in omega (arith, g.end)
