-- The first of an item's successors that is in a set.
-- Assumes nothing.
use mathlib.Core.Path.{◌≡◌, refl, sym, ap, ◌∙◌}
use mathlib.Core.Bool.{Bool, true, false, ◌||◌, cond}
use mathlib.Core.List.{List, [], ◌∷◌}
use mathlib.Core.Option.{some}
use mathlib.Core.Option.{none as nowhere}
use Prim.Native.Nat.{ℕ, zero, suc, ◌+◌, ◌-◌, ◌≤◌, ◌<◌}
use native.Mathlib.Decide.{dec_lt}
use native.Mathlib.Omega.{arith}
use Rattle.std.specs.Prelude.{is_some}
use Rattle.meaning.specs.Whole.{any}
use Rattle.meaning.specs.Shown.{first}
use Rattle.meaning.specs.Register.{Register, withdrawn}
use Rattle.graph.specs.Walked.{walked}
use Rattle.graph.specs.Judged.{end_no, role_no, Opens, Parted}
use Rattle.graph.proofs.Rising.{one_on}
use Rattle.graph.proofs.Spans.{kept, kept_step, kept-end}
use Rattle.graph.proofs.Walked.{walked-run}
use Rattle.trails.specs.Sought.{found}

-- along the numbers from k up to an end, passing those that are out
module _ (p out : ℕ → Bool) (f : ℕ → ℕ) where
  pub here-first : (k end : ℕ) → k < end → p (f k) ≡ true → out (f k) ≡ false → first p (kept out f k end) ≡ some (f k)
  unfolding first
  here-first k end l t o = rw (kept_step out f k end l, o, t)

  pub passed_first : (k end : ℕ) → k < end → p (f k) ≡ false → first p (kept out f k end) ≡ first p (kept out f (k + 1) end)
  unfolding first
  passed_first k end l t = ap (first p) (kept_step out f k end l) ∙ go (out (f k))
    where
      go : (b : Bool) → first p (cond b (kept out f (k + 1) end) (f k ∷ kept out f (k + 1) end)) ≡ first p (kept out f (k + 1) end)
      go true = refl
      go false = rw t

  pub out_first : (k end : ℕ) → k < end → out (f k) ≡ true → first p (kept out f k end) ≡ first p (kept out f (k + 1) end)
  out_first k end l o = ap (first p) (kept_step out f k end l) ∙ ap (λ (b : Bool). first p (cond b (kept out f (k + 1) end) (f k ∷ kept out f (k + 1) end))) o

  pub none_first : (k end : ℕ) → end ≤ k → first p (kept out f k end) ≡ nowhere
  unfolding first
  none_first k end l = rw (kept-end out f k end l)

-- from a link on that is not of a higher role, there is one where the links of the role end
parted-from : (g : Register) (role from stop n k : ℕ) → k + n ≡ stop → from ≤ k → (from < k → role_no g (k - 1) < role + 1)
    → (e : ℕ) × (k ≤ e) × Parted g (role + 1) from stop e
parted-from g role from stop zero k q l b =
    (k, omega arith, record { behind = l; within = omega arith; before = b; here = λ m. absurd (omega arith) })
parted-from g role from stop (suc n) k q l b =
    go (dec_lt role (role_no g k)) (λ h. parted-from g role from stop n (k + 1) (omega arith) (omega arith) (λ m. one_on g k (role + 1) (omega (arith, h))))
  where
    go : Dec (role < role_no g k) → (role_no g k ≤ role → (e : ℕ) × (k + 1 ≤ e) × Parted g (role + 1) from stop e)
        → (e : ℕ) × (k ≤ e) × Parted g (role + 1) from stop e
    go (yes h) more = (k, omega arith, record { behind = l; within = omega arith; before = b; here = λ m. omega (arith, h) })
    go (no h) more = let r = more (omega (arith, h)) in (r.0, omega (arith, r.1), r.2)

module _ (g : Register) (item role from stop : ℕ) (p : ℕ → Bool) where
  -- of the links of the role from the first on, those before the k-th lead to none that says yes
  pub record Seeking (k : ℕ) : Type 0 where
    pub before : from < k → role_no g (k - 1) < role + 1
    pub so_far : (e : ℕ) → k ≤ e → Parted g (role + 1) from stop e
        → first p (kept (withdrawn g) (end_no g) k e) ≡ first p ((walked g).next item role)

  pub seeking-start : Opens g item role from stop → Seeking from
  seeking-start o = record {
    before = λ l. absurd (omega arith);
    so_far = λ e l q. ap (first p) (sym (walked-run g item role from e (o.run e q)));
  }

  module _ (k : ℕ) (w : Seeking k) where
    pub seeking-pass : role_no g k ≤ role → p (end_no g k) ≡ false → Seeking (k + 1)
    seeking-pass h t = record {
      before = λ l. one_on g k (role + 1) (omega (arith, h));
      so_far = λ e l q. sym (passed_first p (withdrawn g) (end_no g) k e (omega arith) t) ∙ w.so_far e (omega arith) q;
    }

    pub seeking-out : role_no g k ≤ role → withdrawn g (end_no g k) ≡ true → Seeking (k + 1)
    seeking-out h t = record {
      before = λ l. one_on g k (role + 1) (omega (arith, h));
      so_far = λ e l q. sym (out_first p (withdrawn g) (end_no g) k e (omega arith) t) ∙ w.so_far e (omega arith) q;
    }

    pub seeking-found : from ≤ k → k < stop → role_no g k ≤ role → p (end_no g k) ≡ true → withdrawn g (end_no g k) ≡ false
        → first p ((walked g).next item role) ≡ some (end_no g k)
    seeking-found l m h t o =
        let r = parted-from g role from stop (stop - (k + 1)) (k + 1) (omega arith) (omega arith) (λ z. one_on g k (role + 1) (omega (arith, h))) in
        sym (w.so_far r.0 (omega (arith, r.1)) r.2) ∙ here-first p (withdrawn g) (end_no g) k r.0 (omega (arith, r.1)) t o

    pub seeking-none : Parted g (role + 1) from stop k → first p ((walked g).next item role) ≡ nowhere
    seeking-none q = sym (w.so_far k (omega arith) q) ∙ none_first p (withdrawn g) (end_no g) k k (omega arith)

-- something is found exactly where some member says yes
pub found_any : (p : ℕ → Bool) (ys : List ℕ) → is_some (found (first p ys)) ≡ any p ys
unfolding first any
found_any p [] = refl
found_any p (x ∷ ys) = go (p x) (found_any p ys)
  where
    go : (b : Bool) → is_some (found (first p ys)) ≡ any p ys → is_some (found (cond b (some x) (first p ys))) ≡ (b || any p ys)
    go true e = refl
    go false e = e
