-- An array that a closure over a list made, place by place: where each call leaves the closure's list as it was and gives what `value` says of it, so does each place.
-- Assumes nothing.
use mathlib.Core.Path.{◌≡◌, refl, sym, ◌∙◌, subst}
use mathlib.Core.List.{List}
use Prim.Native.Nat.{ℕ, zero, suc, ◌+◌, ◌<◌}
use native.Mathlib.Omega.{arith}
use lib.ListN.{length, get_or}
use lib.Seq.{ext_get_or}
use denote.Param.Members.{Mut, Called}
use Rattle.std.specs.Array.{IsFromFnResult, IsFromFnResultFrom}

module _ {F : Type 0} (g : Mut F (ℕ × Unit {0}) ℕ) (over : F → List ℕ) (value : List ℕ → ℕ → ℕ)
    (call : (p q : F) (i y : ℕ) → Called g p (i, tt) y q → (over q ≡ over p) × (y ≡ value (over p) i)) where
  each-is : (A ys : List ℕ) (f : F) (i m : ℕ) → over f ≡ A → IsFromFnResultFrom g f ys i m → (k j : ℕ) → j ≡ i + k → k < m → get_or ys j 0 ≡ value A j
  each-is A ys f i zero e r k j a l = absurd (omega arith)
  each-is A ys f i (suc m) e r zero j a l =
      let t : i ≡ j = omega arith in
      subst (λ (v : ℕ). get_or ys v 0 ≡ value A v) t (r.2.1 0 ∙ subst (λ (X : List ℕ). r.1 ≡ value X i) e (call f r.0 i r.1 r.3).1)
  each-is A ys f i (suc m) e r (suc k) j a l = each-is A ys r.0 (i + 1) m ((call f r.0 i r.1 r.3).0 ∙ e) r.4 k j (omega arith) (omega arith)

pub made : {F : Type 0} {g : Mut F (ℕ × Unit {0}) ℕ} {f : F} {ys L : List ℕ} {n : ℕ} → IsFromFnResult g f ys n → (over : F → List ℕ) (value : List ℕ → ℕ → ℕ)
    → ((p q : F) (i y : ℕ) → Called g p (i, tt) y q → (over q ≡ over p) × (y ≡ value (over p) i)) → length L ≡ n → ((i : ℕ) → i < n → get_or L i 0 ≡ value (over f) i) → ys ≡ L
made {g} {f} {ys} {L} {n} r over value call long at =
    ext_get_or 0 ys L (r.long ∙ sym long) (λ k l.
    let h : k < n = omega (arith, r.long) in each-is g over value call (over f) ys f 0 n refl r.each k k (omega arith) h ∙ sym (at k h))
