-- Zeros: an index that is not filled yet, and a set that is empty.
-- Assumes nothing.
use mathlib.Core.Path.{◌≡◌, ap, ◌∙◌}
use mathlib.Core.Bool.{false}
use mathlib.Core.List.{List}
use Prim.Native.Nat.{ℕ, ◌/◌, ◌%◌, ◌<◌}
use native.Mathlib.Omega.{arith}
use native.Mathlib.Decide.{dec_lt}
use lib.ListN.{get_or, replicate, length-replicate, get_or-replicate, get_or-eq_default}
use Rattle.meaning.specs.Names.{has}
use Rattle.meaning.proofs.SessionNames.{has-none}
use Rattle.graph.specs.Sets.{in_set}

abbrev pub zeros : ℕ → List ℕ
zeros n = replicate n 0

pub zero-at : (n k : ℕ) → get_or (zeros n) k 0 ≡ 0
zero-at n k = go (dec_lt k n)
  where
    go : Dec (k < n) → get_or (zeros n) k 0 ≡ 0
    go (yes l) = get_or-replicate n k 0 0 l
    go (no l) = get_or-eq_default (zeros n) 0 {n = k} (omega (arith, l, length-replicate {A = ℕ} n 0))

pub none_in : (n x : ℕ) → in_set (zeros n) x ≡ false
none_in n x = ap (λ (z : ℕ). has z (x % 64)) (zero-at n (x / 64)) ∙ has-none (x % 64)
