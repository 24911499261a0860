-- A loop over nodes that stores one number for each, and the array that it leaves.
-- Assumes nothing.
use mathlib.Core.Path.{◌≡◌, ◌∙◌}
use mathlib.Core.List.{List}
use Prim.Native.Nat.{ℕ, ◌+◌, ◌<◌}
use native.Mathlib.Omega.{arith}
use lib.ListN.{length, get_or, set, replicate, length-set, length-replicate}
use lib.Seq.{get_or-set_same, get_or-set_other}
use borrow.Author.Count.{below_more}

-- the numbers of the first k nodes stand in an array of n
pub record Filled (f : ℕ → ℕ) (n : ℕ) (out : List ℕ) (k : ℕ) : Type 0 where
  pub long : length out ≡ n
  pub done : (i : ℕ) → i < k → get_or out i 0 ≡ f i

pub filled_none : {f : ℕ → ℕ} {n : ℕ} → Filled f n (replicate n 0) 0
filled_none {n = n} = record { long = length-replicate {A = ℕ} n 0; done = λ i l. absurd (omega arith) }

pub filled_more : {f : ℕ → ℕ} {n : ℕ} {out : List ℕ} {k v : ℕ} → Filled f n out k → k < n → v ≡ f k → Filled f n (set out k v) (k + 1)
filled_more {f} {n} {out} {k} {v} w b e = record {
  long = length-set out k v ∙ w.long;
  done = below_more (λ (z : ℕ). get_or (set out k v) z 0 ≡ f z) k (λ z g. get_or-set_other out k z v 0 (λ q. let y : z ≡ k = q in omega arith) ∙ w.done z g)
      (get_or-set_same out k v 0 (omega (arith, w.long)) ∙ e);
}
