-- What stands in the rows at a place, and how many places there are.
-- Assumes nothing.
use mathlib.Core.Path.{◌≡◌, refl, ap, ◌∙◌, subst}
use mathlib.Core.List.{List, map}
use Prim.Native.Nat.{ℕ, ◌+◌, ◌≤◌, ◌<◌}
use native.Mathlib.Omega.{arith}
use lib.ListN.{length, get_or, take, drop, length-map, length-drop}
use lib.ListN.{get_or-map}
use lib.Seq.{length-take-le, get_or-take, get_or-drop}
use Rattle.rows.specs.Packed.{low, high, high_pair, names_in, roles_in, ends_in, owners_in, firsts_in}

span-at : (f : ℕ → ℕ) → f 0 ≡ 0 → (base size : ℕ) (A : List ℕ) (i : ℕ) → i < size → get_or (map f (take size (drop base A))) i 0 ≡ f (get_or A (base + i) 0)
span-at f z base size A i h =
    subst (λ (d : ℕ). get_or (map f (take size (drop base A))) i d ≡ f (get_or A (base + i) 0)) z
    (get_or-map f (take size (drop base A)) i 0 ∙ ap f (get_or-take size (drop base A) i 0 h ∙ get_or-drop base A i 0))

module _ (A : List ℕ) (i : ℕ) where
  pub name-at : i < 64 → get_or (names_in A) i 0 ≡ get_or A i 0
  unfolding names_in
  name-at h = get_or-take 64 A i 0 h

  pub role-at : i < 64 → get_or (roles_in A) i 0 ≡ low (get_or A (64 + i) 0)
  unfolding roles_in
  role-at h = span-at low refl 64 64 A i h

  pub end-at : i < 64 → get_or (ends_in A) i 0 ≡ high (get_or A (64 + i) 0)
  unfolding ends_in
  end-at h = span-at high refl 64 64 A i h

  pub owner_at : i < 16 → get_or (owners_in A) i 0 ≡ low (get_or A (128 + i) 0)
  unfolding owners_in
  owner_at h = span-at low refl 128 16 A i h

  pub first-at : i < 16 → get_or (firsts_in A) i 0 ≡ high_pair (get_or A (128 + i) 0)
  unfolding firsts_in
  first-at h = span-at high_pair refl 128 16 A i h

-- ---- how many

span-long : (f : ℕ → ℕ) (base size : ℕ) (A : List ℕ) → base + size ≤ length A → length (map f (take size (drop base A))) ≡ size
span-long f base size A h = length-map (take size (drop base A)) f ∙ length-take-le size (drop base A) (omega (arith, length-drop base A))

module _ (A : List ℕ) (long : 144 ≤ length A) where
  pub names-long : length (names_in A) ≡ 64
  unfolding names_in
  names-long = length-take-le 64 A (omega arith)

  pub roles-long : length (roles_in A) ≡ 64
  unfolding roles_in
  roles-long = span-long low 64 64 A (omega arith)

  pub ends-long : length (ends_in A) ≡ 64
  unfolding ends_in
  ends-long = span-long high 64 64 A (omega arith)

  pub owners-long : length (owners_in A) ≡ 16
  unfolding owners_in
  owners-long = span-long low 128 16 A (omega arith)

  pub firsts-long : length (firsts_in A) ≡ 16
  unfolding firsts_in
  firsts-long = span-long high_pair 128 16 A (omega arith)
