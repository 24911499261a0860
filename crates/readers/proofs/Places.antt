-- Rows that are alike in part, and the thresholds that they hold.
-- Assumes nothing.
use mathlib.Core.Path.{◌≡◌, refl, sym, ap, ◌∙◌, subst}
use mathlib.Core.List.{List, [], ◌∷◌, ◌++◌}
use Prim.Native.Nat.{ℕ, zero, suc, ◌+◌, ◌*◌, ◌/◌, ◌%◌, ◌≤◌, ◌<◌}
use native.Mathlib.Decide.{dec_lt}
use native.Mathlib.Omega.{arith}
use lib.ListN.{length, get_or, set, length-append}
use lib.ListN.{get_or-append}
use lib.Seq.{get_or-set_same, get_or-set_other, get_or-append_seam}
use Rattle.meaning.specs.Message.{Part}
use Rattle.rows.specs.Packed.{low, high, high_pair, names_in, roles_in, ends_in, owners_in, firsts_in}
use Rattle.rows.proofs.At.{name-at, role-at, end-at, owner_at, first-at}
use Rattle.readers.specs.Reading.{no_part, PartsHeld, RowsKept}
use Rattle.readers.proofs.Same.{Alike}

-- a store elsewhere
pub set-above : (L : List ℕ) (i j a : ℕ) → j < i → get_or (set L i a) j 0 ≡ get_or L j 0
set-above L i j a h = get_or-set_other L i j a 0 (λ e. let z : j ≡ i = e in omega arith)

pub set_below : (L : List ℕ) (i j a : ℕ) → i < j → get_or (set L i a) j 0 ≡ get_or L j 0
set_below L i j a h = get_or-set_other L i j a 0 (λ e. let z : j ≡ i = e in omega arith)

-- ---- rows that are alike

module _ (A B : List ℕ) (i n : ℕ) (few : n ≤ 64) where
  pub names-alike : ((k : ℕ) → i ≤ k → k < n → get_or B k 0 ≡ get_or A k 0) → Alike i n (names_in A) (names_in B)
  names-alike h k l u = name-at B k (omega arith) ∙ h k l u ∙ sym (name-at A k (omega arith))

  module _ (h : (k : ℕ) → i ≤ k → k < n → get_or B (64 + k) 0 ≡ get_or A (64 + k) 0) where
    pub roles-alike : Alike i n (roles_in A) (roles_in B)
    roles-alike k l u = role-at B k (omega arith) ∙ ap low (h k l u) ∙ sym (role-at A k (omega arith))

    pub ends-alike : Alike i n (ends_in A) (ends_in B)
    ends-alike k l u = end-at B k (omega arith) ∙ ap high (h k l u) ∙ sym (end-at A k (omega arith))

-- rows kept in two steps
pub kept_trans : (n m : ℕ) (A B C : List ℕ) → n ≤ m → RowsKept n A B → RowsKept m B C → RowsKept n A C
kept_trans n m A B C l h k = record {
  names = λ i b. k.names i (omega arith) ∙ h.names i b;
  edges = λ i b. k.edges i (omega arith) ∙ h.edges i b;
}

-- ---- the thresholds' rows

pub no-parts : (A : List ℕ) → PartsHeld A []
no-parts A = record { owner = λ k l. absurd (omega arith); first = λ k l. absurd (omega arith) }

-- the rows hold the same thresholds after a store below them
pub parts_below : (A : List ℕ) (i a : ℕ) (ps : List Part) → i < 128 → length ps ≤ 16 → PartsHeld A ps → PartsHeld (set A i a) ps
parts_below A i a ps l few h = record {
  owner = λ k b.
      owner_at (set A i a) k (omega arith) ∙ ap low (set_below A i (128 + k) a (omega arith)) ∙ sym (owner_at A k (omega arith)) ∙ h.owner k b;
  first = λ k b.
      first-at (set A i a) k (omega arith) ∙ ap high_pair (set_below A i (128 + k) a (omega arith)) ∙ sym (first-at A k (omega arith)) ∙ h.first k b;
}

-- one threshold more, in either array
one_more : (g : Part → ℕ) (L : List ℕ) (ps : List Part) (x : Part) → ((k : ℕ) → k < length ps → get_or L k 0 ≡ g (get_or ps k no_part)) → get_or L (length ps) 0 ≡ g x
    → (k : ℕ) → k < length (ps ++ (x ∷ [])) → get_or L k 0 ≡ g (get_or (ps ++ (x ∷ [])) k no_part)
one_more g L ps x h e k l = go (dec_lt k (length ps))
  where
    go : Dec (k < length ps) → get_or L k 0 ≡ g (get_or (ps ++ (x ∷ [])) k no_part)
    go (yes m) = h k m ∙ ap g (sym (get_or-append ps (x ∷ []) no_part k m))
    go (no m) =
        let z : k ≡ length ps = omega (arith, length-append ps (x ∷ [])) in
        rw z (e ∙ ap g (sym (get_or-append_seam ps x [] no_part)))

module _ (A : List ℕ) (ps : List Part) (x : Part) where
  pub parts_more : length ps < 16 → 144 ≤ length A → x.owner < 256 → x.first < 65536 → PartsHeld A ps
      → PartsHeld (set A (128 + length ps) (x.owner + 256 * x.first)) (ps ++ (x ∷ []))
  parts_more few long small near h =
      let i = 128 + length ps in
      let v = x.owner + 256 * x.first in
      let B = set A i v in
      let stored : get_or B i 0 ≡ v = get_or-set_same A i v 0 (omega arith) in
      let owned : low v ≡ x.owner = omega arith in
      let whole : v / 256 ≡ x.first = omega arith in
      let put : high_pair v ≡ x.first = ap (λ (z : ℕ). z % 65536) whole ∙ omega arith in
      let o : (k : ℕ) → k < length ps → get_or (owners_in B) k 0 ≡ (get_or ps k no_part).owner =
      λ k b. owner_at B k (omega arith) ∙ ap low (set-above A i (128 + k) v (omega arith)) ∙ sym (owner_at A k (omega arith)) ∙ h.owner k b in
      let f : (k : ℕ) → k < length ps → get_or (firsts_in B) k 0 ≡ (get_or ps k no_part).first =
      λ k b. first-at B k (omega arith) ∙ ap high_pair (set-above A i (128 + k) v (omega arith)) ∙ sym (first-at A k (omega arith)) ∙ h.first k b in record {
        owner = one_more (λ y. y.owner) (owners_in B) ps x o (owner_at B (length ps) (omega arith) ∙ ap low stored ∙ owned);
        first = one_more (λ y. y.first) (firsts_in B) ps x f (first-at B (length ps) (omega arith) ∙ ap high_pair stored ∙ put);
      }

-- the rows always hold some thresholds
pub some-parts : (A : List ℕ) (k : ℕ) → (ps : List Part) × (length ps ≡ k) × PartsHeld A ps
some-parts A zero = ([], refl, no-parts A)
some-parts A (suc k) =
    let q = some-parts A k in
    let n = length q.0 in
    let x : Part = record { owner = get_or (owners_in A) n 0; first = get_or (firsts_in A) n 0; len = 0 } in (
      q.0 ++ (x ∷ []),
      length-append q.0 (x ∷ []) ∙ omega (arith, q.1),
      record {
        owner = one_more (λ y. y.owner) (owners_in A) q.0 x q.2.owner refl;
        first = one_more (λ y. y.first) (firsts_in A) q.0 x q.2.first refl;
      },
    )

-- ---- what is said of three arrays, of three that are the same

pub same_rows : (P : List ℕ → List ℕ → List ℕ → Type 0) {N R E N' R' E' : List ℕ} → N ≡ N' → R ≡ R' → E ≡ E' → P N R E → P N' R' E'
same_rows P {N} {R} {E} {N'} {R'} {E'} a b c h =
    subst (λ (e : List ℕ). P N' R' e) c (subst (λ (r : List ℕ). P N' r E) b (subst (λ (n : List ℕ). P n R E) a h))
