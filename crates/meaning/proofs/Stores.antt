-- Stores one after the other in a list.
-- Assumes nothing.
use mathlib.Core.Path.{◌≡◌, refl, ap, ◌∙◌}
use mathlib.Core.Logic.{◌⊎◌, inl, inr}
use mathlib.Core.List.{List, [], ◌∷◌, ◌++◌}
use Prim.Native.Nat.{ℕ, zero, suc, ◌+◌, ◌≤◌, ◌<◌}
use native.Mathlib.Omega.{arith}
use lib.ListN.{length, get_or, set, length-set}
use lib.Seq.{sets, get_or-set_same, get_or-set_other, set-set, set_comm}

pub sets-append : (m : List ℕ) (i j : ℕ) (xs ys : List ℕ) → j ≡ i + length xs → sets m i (xs ++ ys) ≡ sets (sets m i xs) j ys
sets-append m i j [] ys e = let q : i ≡ j = omega arith in ap (λ (z : ℕ). sets m z ys) q
sets-append m i j (x ∷ xs) ys e = sets-append (set m i x) (suc i) j xs ys (omega arith)

-- ---- what stands where

pub sets-beyond : (m : List ℕ) (i : ℕ) (xs : List ℕ) (p : ℕ) → (p < i) ⊎ (i + length xs ≤ p) → get_or (sets m i xs) p 0 ≡ get_or m p 0
sets-beyond m i [] p o = refl
sets-beyond m i (x ∷ xs) p o = sets-beyond (set m i x) (suc i) xs p (next o) ∙ get_or-set_other m i p x 0 (apart o)
  where
    next : (p < i) ⊎ (i + suc (length xs) ≤ p) → (p < suc i) ⊎ (suc i + length xs ≤ p)
    next (inl l) = inl (omega arith)
    next (inr l) = inr (omega arith)

    apart : (p < i) ⊎ (i + suc (length xs) ≤ p) → p ≡ i → ⊥
    apart (inl l) z = let y : p ≡ i = z in omega arith
    apart (inr l) z = let y : p ≡ i = z in omega arith

pub sets-at : (m : List ℕ) (i : ℕ) (xs : List ℕ) (k : ℕ) → k < length xs → i + length xs ≤ length m → get_or (sets m i xs) (i + k) 0 ≡ get_or xs k 0
sets-at m i [] k l r = absurd (omega arith)
sets-at m i (x ∷ xs) zero l r =
    let here : i + 0 ≡ i = omega arith in
    ap (λ (z : ℕ). get_or (sets (set m i x) (suc i) xs) z 0) here ∙ sets-beyond (set m i x) (suc i) xs i (inl (omega arith))
    ∙ get_or-set_same m i x 0 (omega arith)
sets-at m i (x ∷ xs) (suc k) l r =
    let here : i + suc k ≡ suc i + k = omega arith in
    ap (λ (z : ℕ). get_or (sets (set m i x) (suc i) xs) z 0) here ∙ sets-at (set m i x) (suc i) xs k (omega arith) (omega (arith, length-set m i x))

-- ---- what is stored over

before-sets : (m : List ℕ) (i j : ℕ) (xs : List ℕ) (y : ℕ) → i < j → set (sets m j xs) i y ≡ sets (set m i y) j xs
before-sets m i j [] y l = refl
before-sets m i j (x ∷ xs) y l = before-sets (set m j x) i (suc j) xs y (omega arith) ∙ ap (λ (z : List ℕ). sets z (suc j) xs) (set_comm m j i x y (λ e. let z : j ≡ i = e in omega arith))

-- a front that is stored over by one as long
pub sets_over : (m : List ℕ) (i : ℕ) (xs ys rest : List ℕ) → length xs ≡ length ys → sets (sets m i (xs ++ rest)) i ys ≡ sets m i (ys ++ rest)
sets_over m i [] [] rest e = refl
sets_over m i [] (y ∷ ys) rest e = absurd (omega arith)
sets_over m i (x ∷ xs) [] rest e = absurd (omega arith)
sets_over m i (x ∷ xs) (y ∷ ys) rest e =
    ap (λ (z : List ℕ). sets z (suc i) ys) (before-sets (set m i x) i (suc i) (xs ++ rest) y (omega arith) ∙ ap (λ (z : List ℕ). sets z (suc i) (xs ++ rest)) (set-set m i x y))
    ∙ sets_over (set m i y) (suc i) xs ys rest (omega arith)
