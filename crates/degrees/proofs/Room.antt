-- Six rows of numbers behind the one of ones are enough: a further row is taken for trees of less than half of the nodes alone.
-- Assumes nothing.
use mathlib.Core.Path.{◌≡◌, refl, sym, ap, ◌∙◌}
use mathlib.Core.List.{List}
use Prim.Native.Nat.{ℕ, zero, suc, ◌+◌, ◌-◌, ◌*◌, ◌≤◌, ◌<◌}
use native.Mathlib.Nat.{mul-le-mul_right, zero-add}
use native.Mathlib.Decide.{dec_lt}
use native.Mathlib.Omega.{arith}
use lib.ListN.{get_or}
use Rattle.degrees.specs.Room.{doubled, Room, Ones}
use Rattle.folds.specs.Folded.{row_at}

doubled-pos : (t : ℕ) → 0 < doubled t
unfolding doubled
doubled-pos zero = omega arith
doubled-pos (suc t) = omega (arith, doubled-pos t)

doubled-rises : (n t : ℕ) → doubled n ≤ doubled (n + t)
unfolding doubled
doubled-rises zero t = rw (zero-add t) (doubled-pos t)
  where
    zero-add : (n : ℕ) → 0 + n ≡ n
    zero-add n = omega arith
doubled-rises (suc n) t = rw (suc-add n t) (omega (arith, doubled-rises n t))
  where
    suc-add : (a b : ℕ) → suc a + b ≡ suc (a + b)
    suc-add a b = omega arith

-- so few rows are in use
few : (n t : ℕ) → doubled t < doubled n → t < n
few n t h = go (dec_lt t n)
  where
    go : Dec (t < n) → t < n
    go (yes l) = l
    go (no l) = absurd (let e : n + (t - n) ≡ t = omega (arith, l) in let q : doubled n ≤ doubled t = rw e at (doubled-rises n (t - n)) in omega arith)

module _ {size at nodes : ℕ} (w : Room size at nodes) where
  pub room-one : 1 ≤ nodes → at + 512 ≤ size
  unfolding doubled
  room-one l =
      let q : 2 * doubled w.used ≤ (nodes + 1) * doubled w.used = mul-le-mul_right (doubled w.used) (let z : 2 ≤ nodes + 1 = omega arith in z) in
      let f : w.used < 6 = few 6 w.used (omega (arith, w.enough)) in
      omega (arith, w.at-is, w.size_is)

  pub room-two : 2 ≤ nodes → at + 512 + 512 ≤ size
  unfolding doubled
  room-two l =
      let q : 3 * doubled w.used ≤ (nodes + 1) * doubled w.used = mul-le-mul_right (doubled w.used) (let z : 3 ≤ nodes + 1 = omega arith in z) in
      let f : w.used < 5 = few 5 w.used (omega (arith, w.enough)) in
      omega (arith, w.at-is, w.size_is)

  -- row 0 is not in use
  pub room-low : 512 ≤ at
  room-low = omega (arith, w.at-is)

  -- for a tree of fewer nodes
  pub room-fewer : (n : ℕ) → n ≤ nodes → Room size at n
  room-fewer n l = record {
    used = w.used;
    at-is = w.at-is;
    enough = omega (arith, w.enough, mul-le-mul_right (doubled w.used) l);
    size_is = w.size_is;
  }

  -- from the next row on
  pub room_next : (n : ℕ) → 2 * n + 1 ≤ nodes → Room size (at + 512) n
  unfolding doubled
  room_next n l = record {
    used = suc w.used;
    at-is = omega (arith, w.at-is);
    enough = omega (arith, w.enough, mul-le-mul_right (doubled w.used) l);
    size_is = w.size_is;
  }

pub room-start : (size nodes : ℕ) → size ≡ 3584 → nodes ≤ 64 → Room size 512 nodes
unfolding doubled
room-start size nodes e l = record { used = 0; at-is = refl; enough = omega arith; size_is = e }

-- ones that were filled in from place 0 on
pub ones_low : (numbers : List ℕ) → ((x : ℕ) → x < 512 → row_at numbers 0 x ≡ 1) → Ones numbers
ones_low numbers w x l = ap (λ (z : ℕ). get_or numbers z 0) (sym (zero-add x)) ∙ w x l
