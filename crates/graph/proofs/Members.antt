-- Sets of items: one with another item, one without an item, and the least item from a place on.
-- Assumes nothing.
use mathlib.Core.Path.{◌≡◌, refl, sym, ap, ap₂, ◌∙◌, subst}
use mathlib.Core.Bool.{Bool, true, false, ◌||◌, cond}
use mathlib.Core.List.{List}
use Prim.Native.Nat.{ℕ, ◌+◌, ◌*◌, ◌-◌, ◌/◌, ◌%◌, ◌^◌, ◌≤◌, ◌<◌}
use native.Mathlib.Decide.{dec_lt}
use native.Mathlib.Omega.{arith}
use lib.Bits.{bit_or}
use lib.Count.{count_trailing_zeros, trailing_le}
use lib.Dec.{eqb}
use lib.Pow.{shr_le}
use lib.ListN.{length, get_or, set, get_or-eq_default}
use lib.Seq.{get_or-set_same, get_or-set_other}
use borrow.Author.Tests.{eq-eqb, ne_eqb, eqb-true, eqb-false}
use Rattle.meaning.specs.Names.{has}
use Rattle.meaning.specs.Register.{Register, withdrawn, targets}
use Rattle.meaning.specs.Session.{with_name}
use Rattle.meaning.proofs.SessionNames.{with-has, has-none}
use Rattle.meaning.proofs.Tests.{true-false}
use Rattle.meaning.proofs.Links.{except-in}
use Rattle.graph.specs.Walked.{walked}
use Rattle.std.specs.Prelude.{Option, Some, None}
use Rattle.graph.specs.Sets.{in_set, Among, Next, Found, With, Without, Gathered}
use Rattle.graph.proofs.Digits.{has-shift, has-high, has-or, has-bit, trailing_below, trailing_at, trailing-some, ones_below}
use Rattle.graph.specs.Judged.{spanned, end_no, Opens, Parted}
use Rattle.graph.proofs.Spans.{spanned-found, spanned-member}

-- an item is known by its number and its bit
same_item : (x y : ℕ) → x / 64 ≡ y / 64 → eqb (x % 64) (y % 64) ≡ eqb x y
same_item x y e = go (eqb (x % 64) (y % 64)) refl
  where
    go : (b : Bool) → eqb (x % 64) (y % 64) ≡ b → b ≡ eqb x y
    go true q = let z = eqb-true (x % 64) (y % 64) q in sym (eq-eqb x y (omega arith))
    go false q = sym (ne_eqb x y (λ z. eqb-false (x % 64) (y % 64) q (ap (λ (n : ℕ). n % 64) z)))

module _ (old : List ℕ) (x v : ℕ) (h : x / 64 < length old) where
  here : (y : ℕ) → y / 64 ≡ x / 64 → in_set (set old (x / 64) v) y ≡ has v (y % 64)
  here y e = ap (λ (z : ℕ). has z (y % 64)) (ap (λ (w : ℕ). get_or (set old (x / 64) v) w 0) e ∙ get_or-set_same old (x / 64) v 0 h)

  there : (y : ℕ) → (y / 64 ≡ x / 64 → ⊥) → in_set (set old (x / 64) v) y ≡ in_set old y
  there y d = ap (λ (z : ℕ). has z (y % 64)) (get_or-set_other old (x / 64) (y / 64) v 0 d)

  pub with_item : v ≡ bit_or (get_or old (x / 64) 0) (2 ^ (x % 64)) → With old x (set old (x / 64) v)
  with_item e y = go (eqb (y / 64) (x / 64)) refl
    where
      turned : (a b : Bool) → (a || b) ≡ (b || a)
      turned true true = refl
      turned true false = refl
      turned false true = refl
      turned false false = refl

      go : (b : Bool) → eqb (y / 64) (x / 64) ≡ b → in_set (set old (x / 64) v) y ≡ (eqb x y || in_set old y)
      go true q =
          let p = eqb-true (y / 64) (x / 64) q in
          here y p ∙ ap (λ (z : ℕ). has z (y % 64)) e ∙ has-or (get_or old (x / 64) 0) (2 ^ (x % 64)) (y % 64)
          ∙ turned (has (get_or old (x / 64) 0) (y % 64)) (has (2 ^ (x % 64)) (y % 64))
          ∙ ap₂ ◌||◌ (has-bit (x % 64) (y % 64) ∙ same_item x y (sym p)) (ap (λ (w : ℕ). has (get_or old w 0) (y % 64)) (sym p))
      go false q =
          let p = eqb-false (y / 64) (x / 64) q in
          there y p ∙ ap (λ (b : Bool). b || in_set old y) (sym (ne_eqb x y (λ z. p (ap (λ (n : ℕ). n / 64) (sym z)))))

  pub without-item : v ≡ with_name false (x % 64) (get_or old (x / 64) 0) → Without old x (set old (x / 64) v)
  without-item e = record {
    gone = here x refl ∙ ap (λ (z : ℕ). has z (x % 64)) e ∙ with-has false (x % 64) (get_or old (x / 64) 0) (x % 64) ∙ rw (eq-eqb (x % 64) (x % 64) refl);
    others = λ y d. go y d (eqb (y / 64) (x / 64)) refl;
  }
    where
      go : (y : ℕ) → (y ≡ x → ⊥) → (b : Bool) → eqb (y / 64) (x / 64) ≡ b → in_set (set old (x / 64) v) y ≡ in_set old y
      go y d true q =
          let p = eqb-true (y / 64) (x / 64) q in
          here y p ∙ ap (λ (z : ℕ). has z (y % 64)) e ∙ with-has false (x % 64) (get_or old (x / 64) 0) (y % 64)
          ∙ ap (λ (b : Bool). cond b false (has (get_or old (x / 64) 0) (y % 64))) (same_item x y (sym p) ∙ ne_eqb x y (λ z. d (sym z)))
          ∙ ap (λ (w : ℕ). has (get_or old w 0) (y % 64)) (sym p)
      go y d false q = there y (eqb-false (y / 64) (x / 64) q)

-- ---- the least member

at_place : (w k : ℕ) → k < 64 → ((w * 64 + k) / 64 ≡ w) × ((w * 64 + k) % 64 ≡ k)
at_place w k h = (omega arith, omega arith)

member-at : (set : List ℕ) (w k : ℕ) → k < 64 → in_set set (w * 64 + k) ≡ has (get_or set w 0) k
member-at set w k h = let p = at_place w k h in rw (p.0, p.1)

-- a set of eight numbers has no item above 511
pub member-few : (set : List ℕ) → length set ≡ 8 → Among 512 set
member-few set e x h = go (dec_lt x 512)
  where
    go : Dec (x < 512) → x < 512
    go (yes l) = l
    go (no l) =
        let out : get_or set (x / 64) 0 ≡ 0 = get_or-eq_default set 0 {n = x / 64} (omega (arith, l)) in
        absurd (true-false h (ap (λ (z : ℕ). has z (x % 64)) out ∙ has-none (x % 64)))

-- what is left of the w-th number, from its m-th bit on
module _ (set : List ℕ) (w m rest : ℕ) (h : m < 64) (e : rest ≡ get_or set w 0 / 2 ^ m) where
  left_at : (j : ℕ) → m + j < 64 → in_set set (w * 64 + m + j) ≡ has rest j
  left_at j l =
      ap (in_set set) (let z : w * 64 + m + j ≡ w * 64 + (m + j) = omega arith in z) ∙ member-at set w (m + j) l
      ∙ sym (ap (λ (z : ℕ). has z j) e ∙ has-shift (get_or set w 0) m j)

  -- nothing is left
  pub none_left : rest ≡ 0 → (x : ℕ) → w * 64 + m ≤ x → x < (w + 1) * 64 → in_set set x ≡ false
  none_left z x a b =
      let j = x - (w * 64 + m) in
      ap (in_set set) (let y : x ≡ w * 64 + m + j = omega arith in y) ∙ left_at j (omega arith) ∙ ap (λ (n : ℕ). has n j) z ∙ has-none j

  -- something is
  module _ (fits : get_or set w 0 < 18446744073709551616) (inside : w < 8) (some : rest ≡ 0 → ⊥) where
    abbrev t : ℕ
    t = count_trailing_zeros 64 rest

    less : rest ≤ get_or set w 0
    less = rw e (shr_le (get_or set w 0) m)

    found : t < 64
    found = trailing-some 64 rest (omega (arith, less)) (omega (arith, some))

    -- the bit that is found is one of the number
    low : m + t < 64
    low = go (dec_lt (m + t) 64)
      where
        go : Dec (m + t < 64) → m + t < 64
        go (yes l) = l
        go (no l) =
            let off = has-high 64 (get_or set w 0) (m + t) fits (omega (arith, l)) in
            absurd (true-false (trailing_at 64 rest found) (ap (λ (z : ℕ). has z t) e ∙ has-shift (get_or set w 0) m t ∙ off))

    next-left : Next set (w * 64 + m) (w * 64 + m + count_trailing_zeros 64 rest)
    next-left = record {
      behind = omega arith;
      within = omega (arith, low);
      passed = λ x a b. let j = x - (w * 64 + m) in
          ap (in_set set) (let y : x ≡ w * 64 + m + j = omega arith in y) ∙ left_at j (omega (arith, low)) ∙ trailing_below 64 rest j (omega arith);
      member = λ l. left_at t low ∙ trailing_at 64 rest found;
    }

    pub found_left : Found set (w * 64 + m) (Some (w * 64 + m + count_trailing_zeros 64 rest))
    found_left = (next-left, omega (arith, low))

pub next-from : (set : List ℕ) (a b r : ℕ) → a ≤ b → ((x : ℕ) → a ≤ x → x < b → in_set set x ≡ false) → Next set b r → Next set a r
next-from set a b r l h w = record {
  behind = let z = w.behind in omega arith;
  within = w.within;
  passed = λ x p q. go x p q (dec_lt x b);
  member = w.member;
}
  where
    go : (x : ℕ) → a ≤ x → x < r → Dec (x < b) → in_set set x ≡ false
    go x p q (yes d) = h x p d
    go x p q (no d) = w.passed x (omega (arith, d)) q

pub next-end : (set : List ℕ) (from : ℕ) → from ≡ 512 → Next set from 512
next-end set from e = record {
  behind = omega arith;
  within = omega arith;
  passed = λ x p q. absurd (omega arith);
  member = λ l. absurd (omega arith);
}

pub found_from : (set : List ℕ) (a b : ℕ) (r : Option ℕ) → a ≤ b → ((x : ℕ) → a ≤ x → x < b → in_set set x ≡ false) → Found set b r → Found set a r
found_from set a b None l h w = next-from set a b 512 l h w
found_from set a b (Some x) l h w = (next-from set a b x l h w.0, w.1)

pub next-bound : (n : ℕ) → count_trailing_zeros 64 n ≤ 64
next-bound n = trailing_le 64 n

-- ---- growing

pub gathered_none : (f : ℕ → ℕ) (first items : ℕ) (old : List ℕ) → Among items old → Gathered (spanned f first first) items old old
gathered_none f first items old a = record {
  kept = λ y h. h;
  got = λ y m. let k = spanned-found f y first first m in absurd (omega (arith, k.1, k.2));
  among = a;
}

pub gathered-more : (f : ℕ → ℕ) (first k items x : ℕ) (old new later : List ℕ) → Gathered (spanned f first k) items old new → With new x later → x ≡ f k → x < items
    → Gathered (spanned f first (k + 1)) items old later
gathered-more f first k items x old new later w v e l = record {
  kept = λ y h. stays y (w.kept y h);
  got = λ y m. let q = spanned-found f y first (k + 1) m in ap (in_set later) q.3 ∙ go q.0 q.1 q.2 (dec_lt q.0 k);
  among = λ y h. mine y h (eqb x y) refl;
}
  where
    or-true : (b : Bool) → (b || true) ≡ true
    or-true true = refl
    or-true false = refl

    stays : (y : ℕ) → in_set new y ≡ true → in_set later y ≡ true
    stays y h = v y ∙ ap (λ (b : Bool). eqb x y || b) h ∙ or-true (eqb x y)

    go : (j : ℕ) → first ≤ j → j < k + 1 → Dec (j < k) → in_set later (f j) ≡ true
    go j a b (yes d) = stays (f j) (w.got (f j) (spanned-member f first k j a d))
    go j a b (no d) =
        let same : j ≡ k = omega (arith, d) in
        v (f j) ∙ ap (λ (b : Bool). b || in_set new (f j)) (eq-eqb x (f j) (e ∙ ap f (sym same)))

    mine : (y : ℕ) → in_set later y ≡ true → (b : Bool) → eqb x y ≡ b → y < items
    mine y h true q = let z = eqb-true x y q in omega arith
    mine y h false q = w.among y (sym (v y ∙ ap (λ (b : Bool). b || in_set new y) q) ∙ h)

-- the run's ends are the successors
pub gathered-run : (g : Register) (item role first stop k items : ℕ) (old new : List ℕ) → Opens g item role first stop → Parted g (role + 1) first stop k
    → Gathered (spanned (end_no g) first k) items old new → Gathered ((walked g).next item role) items old new
gathered-run g item role first stop k items old new o p w =
    let all : Gathered (targets g.links item role) items old new = subst (λ (ys : List ℕ). Gathered ys items old new) (sym (o.run k p).ends) w in
    record { kept = all.kept; got = λ y m. all.got y ((except-in (withdrawn g) (targets g.links item role) y).0 m).0; among = all.among }

-- ---- the same from an item on, and from a whole number on

abbrev word : ℕ
word = 18446744073709551616

pub found_at : (set : List ℕ) (from rest : ℕ) → rest ≡ get_or set (from / 64) 0 / 2 ^ (from % 64) → get_or set (from / 64) 0 < word → from < 512
    → (rest ≡ 0 → ⊥) → Found set from (Some (from + count_trailing_zeros 64 rest))
found_at set from rest e f l d =
    let z : from / 64 * 64 + from % 64 ≡ from = omega arith in
    subst (λ (y : ℕ). Found set y (Some (y + count_trailing_zeros 64 rest))) z (found_left set (from / 64) (from % 64) rest (omega arith) e f (omega arith) d)

pub none-at : (set : List ℕ) (from rest : ℕ) → rest ≡ get_or set (from / 64) 0 / 2 ^ (from % 64) → rest ≡ 0
    → (x : ℕ) → from ≤ x → x < (from / 64 + 1) * 64 → in_set set x ≡ false
none-at set from rest e d x l = none_left set (from / 64) (from % 64) rest (omega arith) e d x (omega arith)

-- all are there as far as the number's digits are set
pub full_at : (set : List ℕ) (from rest : ℕ) → rest ≡ get_or set (from / 64) 0 / 2 ^ (from % 64) → get_or set (from / 64) 0 < word
    → (x : ℕ) → from ≤ x → x < from + count_trailing_zeros 64 (18446744073709551615 - rest) → in_set set x ≡ true
full_at set from rest e f x l h = go (dec_lt (from % 64 + j) 64)
  where
    j : ℕ
    j = x - from

    on : has rest j ≡ true
    on = let z : rest ≤ get_or set (from / 64) 0 = rw e (shr_le (get_or set (from / 64) 0) (from % 64)) in ones_below 64 rest j (omega arith) (omega arith)

    go : Dec (from % 64 + j < 64) → in_set set x ≡ true
    go (yes d) =
        ap (in_set set) (let z : x ≡ from / 64 * 64 + from % 64 + j = omega arith in z)
        ∙ left_at set (from / 64) (from % 64) rest (omega arith) e j d ∙ on
    go (no d) =
        absurd (true-false on (ap (λ (z : ℕ). has z j) e ∙ has-shift (get_or set (from / 64) 0) (from % 64) j ∙ has-high 64 (get_or set (from / 64) 0) (from % 64 + j) f (omega (arith, d))))

pub found_word : (set : List ℕ) (w n : ℕ) → n ≡ get_or set w 0 → n < word → w < 8 → (n ≡ 0 → ⊥) → Found set (w * 64) (Some (w * 64 + count_trailing_zeros 64 n))
found_word set w n e f l d =
    let z : w * 64 + 0 ≡ w * 64 = omega arith in
    subst (λ (y : ℕ). Found set y (Some (y + count_trailing_zeros 64 n))) z (found_left set w 0 n (omega arith) (e ∙ omega arith) (omega arith) l d)
