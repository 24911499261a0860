-- The values of a function from one number up to another, one after the other.
-- Assumes nothing.
use mathlib.Core.Path.{◌≡◌, refl, ap}
use mathlib.Core.Bool.{Bool, cond}
use mathlib.Core.Logic.{◌⊎◌, inl, inr}
use mathlib.Core.List.Memᴰ
use mathlib.Core.List.{List, [], ◌∷◌, Memᴰ}
use Prim.Native.Nat.{ℕ, zero, suc, ◌+◌, ◌-◌, ◌≤◌, ◌<◌}
use native.Mathlib.Omega.{arith}
use Rattle.meaning.specs.Register.{except}
use Rattle.graph.specs.Judged.{values_from, spanned}

module _ (f : ℕ → ℕ) where
  pub spanned-step : (k end : ℕ) → k < end → spanned f k end ≡ f k ∷ spanned f (k + 1) end
  unfolding values_from
  spanned-step k end h = ap (values_from f k) (let e : end - k ≡ suc (end - (k + 1)) = omega arith in e)

  pub spanned-end : (k end : ℕ) → end ≤ k → spanned f k end ≡ []
  unfolding values_from
  spanned-end k end h = ap (values_from f k) (let e : end - k ≡ 0 = omega arith in e)

  -- a member is the value of one of the numbers
  found : (y k n : ℕ) → Memᴰ y (values_from f k n) → (j : ℕ) × (k ≤ j) × (j < k + n) × (y ≡ f j)
  unfolding values_from
  found y k zero m = elim m [ ]
  found y k (suc n) m = go (Memᴰ.cases_cons m) (found y (k + 1) n)
    where
      go : (y ≡ f k) ⊎ Memᴰ y (values_from f (k + 1) n)
          → (Memᴰ y (values_from f (k + 1) n) → (j : ℕ) × (k + 1 ≤ j) × (j < k + 1 + n) × (y ≡ f j))
          → (j : ℕ) × (k ≤ j) × (j < k + suc n) × (y ≡ f j)
      go (inl e) h = (k, omega arith, omega arith, e)
      go (inr d) h = let q = h d in (q.0, omega (arith, q.1), omega (arith, q.2), q.3)

  pub spanned-found : (y first end : ℕ) → Memᴰ y (spanned f first end) → (k : ℕ) × (first ≤ k) × (k < end) × (y ≡ f k)
  spanned-found y first end m =
      let q = found y first (end - first) m in
      let l : first ≤ q.0 = q.1 in
      (q.0, q.1, omega (arith, q.1, q.2), q.3)

  value-member : (k n j : ℕ) → k ≤ j → j < k + n → Memᴰ (f j) (values_from f k n)
  unfolding values_from
  value-member k zero j h l = absurd (omega arith)
  value-member k (suc n) j h l = go (j - k) refl (value-member (k + 1) n j)
    where
      go : (d : ℕ) → j - k ≡ d → (k + 1 ≤ j → j < k + 1 + n → Memᴰ (f j) (values_from f (k + 1) n)) → Memᴰ (f j) (f k ∷ values_from f (k + 1) n)
      go zero e ih = let z : j ≡ k = omega arith in Memᴰ.head (ap f z)
      go (suc d) e ih = Memᴰ.tail (ih (omega arith) (omega arith))

  pub spanned-member : (first end k : ℕ) → first ≤ k → k < end → Memᴰ (f k) (spanned f first end)
  spanned-member first end k h l = value-member first (end - first) k h (omega arith)

-- of these the ones that are not out
module _ (out : ℕ → Bool) (f : ℕ → ℕ) where
  abbrev pub kept : ℕ → ℕ → List ℕ
  kept k end = except out (spanned f k end)

  pub kept_step : (k end : ℕ) → k < end → kept k end ≡ cond (out (f k)) (kept (k + 1) end) (f k ∷ kept (k + 1) end)
  unfolding except
  kept_step k end l = ap (except out) (spanned-step f k end l)

  pub kept-end : (k end : ℕ) → end ≤ k → kept k end ≡ []
  unfolding except
  kept-end k end l = ap (except out) (spanned-end f k end l)
