-- The end of each test under the head, as the code comes to it. The items are passed over at once: any eight bytes are a set of names.
-- Assumes nothing.
use mathlib.Core.Path.{◌≡◌, refl, sym, ap, ap₂, ◌∙◌, subst}
use mathlib.Core.Bool.{Bool, true, false, ◌||◌}
use mathlib.Core.List.{List, [], ◌∷◌}
use mathlib.Core.Option.{none as nowhere}
use Prim.Native.Nat.{ℕ, zero, suc, ◌+◌, ◌*◌, ◌-◌, ◌/◌, ◌≤◌, ◌<◌}
use native.Mathlib.Decide.{dec_lt}
use native.Mathlib.Omega.{arith}
use lib.Dec.{ltb}
use lib.ListN.{length}
use Rattle.meaning.specs.declared.Side.TheVariants.{Register as register}
use Rattle.meaning.specs.declared.Refusal.{Refusal}
use Rattle.meaning.specs.Refusal.{Answer, good, refused, at, refuse_if, ◌>>=◌, ◌>>◌}
use Rattle.meaning.specs.Bytes.{number, fields}
use Rattle.meaning.specs.Register.{Link, read_items, read_links, read_body}
use Rattle.meaning.specs.Bounds.{most_items, most_links}
use Rattle.meaning.proofs.Tests.{neither}
use Rattle.meaning.proofs.Reading.{pass, stop, stopped, halted, took, below, not-below, fitted}
use Rattle.register.specs.Layout.{count_at, link_place, cut_names}
use Rattle.register.specs.declared.Size.{Size}
use Rattle.register.specs.Reading.{counted, links_answer}

-- one field that does not fit
cut_field : (end w : ℕ) (p : ℕ) → end < p + w → fields register end (w ∷ []) p ≡ refused (at register 1 p)
unfolding fields
cut_field end w p h = stop (ltb end (p + w)) _ _ (below end (p + w) h)

fit-field : {B : Type 0} (end w p : ℕ) (k : Answer B) → p + w ≤ end → (fields register end (w ∷ []) p >> k) ≡ k
fit-field end w p k h = fitted register end (w ∷ []) p k (omega arith)

items-cut : (s : List ℕ) (end k p : ℕ) → p ≤ end → end < p + 8 * k → read_items s end k p ≡ refused (at register 1 (p + (end - p) / 8 * 8))
unfolding read_items
items-cut s end zero p l h = absurd (omega arith)
items-cut s end (suc k) p l h = go (dec_lt end (p + 8)) (λ b c. items-cut s end k (p + 8) b c)
  where
    go : Dec (end < p + 8) → (p + 8 ≤ end → end < p + 8 + 8 * k → read_items s end k (p + 8) ≡ refused (at register 1 (p + 8 + (end - (p + 8)) / 8 * 8)))
        → read_items s end (suc k) p ≡ refused (at register 1 (p + (end - p) / 8 * 8))
    go (yes a) ih = halted (fields register end (8 ∷ []) p) _ _ (cut_field end 8 p a) ∙ ap (λ (z : ℕ). refused (at register 1 z)) (omega arith)
    go (no a) ih =
        fit-field end 8 p _ (omega arith) ∙ stopped (read_items s end k (p + 8)) _ _ (ih (omega arith) (omega arith))
        ∙ ap (λ (z : ℕ). refused (at register 1 z)) (omega arith)

items-all : (s : List ℕ) (end k p : ℕ) → p + 8 * k ≤ end → (as' : List ℕ) × (read_items s end k p ≡ good as') × (length as' ≡ k)
unfolding read_items
items-all s end zero p h = ([], refl, refl)
items-all s end (suc k) p h =
    let q = items-all s end k (p + 8) (omega arith) in
    (number s p 8 ∷ q.0, fit-field end 8 p _ (omega arith) ∙ took (read_items s end k (p + 8)) _ q.0 q.1, ap suc q.2)

-- the counts of a register are those of its items and links
count-links : (as' : List ℕ) (n : ℕ) → length as' ≡ n → (a : Answer (List Link)) (b : Bool) (r : Refusal)
    → counted (a >>= λ links. (refuse_if b r >> good (record { names = as'; links = links }))) ≡ (a >>= λ links. (refuse_if b r >> good (record { items = n; links = length links })))
unfolding counted ◌>>=◌ ◌>>◌ refuse_if
count-links as' n e (refused q) b r = refl
count-links as' n e (good ls) true r = refl
count-links as' n e (good ls) false r = ap (λ (z : ℕ). good (record { items = z; links = length ls })) e

module _ (s : List ℕ) (end : ℕ) where
  abbrev answer : Answer Size
  answer = counted (read_body s end)

  counted-refused : (r : Refusal) → read_body s end ≡ refused r → answer ≡ refused r
  unfolding counted
  counted-refused r e = stopped (read_body s end) _ r e

  pub body-items-cut : 3 ≤ end → end < 5 → answer ≡ refused (at register 1 3)
  unfolding read_body
  body-items-cut l h = counted-refused _ (halted (fields register end (2 ∷ []) 3) _ _ (cut_field end 2 3 h))

  module _ (long : 5 ≤ end) where
    abbrev n : ℕ
    n = number s 3 2

    pub body-items-few : n < 1 → answer ≡ refused (at register 4 3)
    unfolding read_body
    body-items-few h = counted-refused _ (fit-field end 2 3 _ long ∙ stop (ltb n 1 || ltb most_items n) _ _ (ap (λ b. b || ltb most_items n) (below n 1 h)))

    pub body-items-many : 1 ≤ n → most_items < n → answer ≡ refused (at register 4 3)
    unfolding read_body
    body-items-many l h =
        counted-refused _ (fit-field end 2 3 _ long
        ∙ stop (ltb n 1 || ltb most_items n) _ _ (ap (λ b. b || ltb most_items n) (not-below n 1 l) ∙ below most_items n h))

    module _ (some' : 1 ≤ n) (few : n ≤ most_items) where
      in-range : (ltb n 1 || ltb most_items n) ≡ false
      in-range = neither (ltb n 1) (ltb most_items n) (not-below n 1 some') (not-below most_items n few)

      pub body-names-cut : {place : ℕ} → end < count_at n → place ≡ cut_names end → answer ≡ refused (at register 1 place)
      unfolding read_body
      body-names-cut h e =
          counted-refused _ (fit-field end 2 3 _ long ∙ pass (ltb n 1 || ltb most_items n) _ _ in-range
          ∙ stopped (read_items s end n 5) _ _ (items-cut s end n 5 long h))
          ∙ ap (λ (z : ℕ). refused (at register 1 z)) (sym e)

      module _ (items : count_at n ≤ end) where
        abbrev p : ℕ
        p = count_at n

        abbrev m : ℕ
        m = number s p 2

        pub body-links-cut : {place : ℕ} → place ≡ p → end < place + 2 → answer ≡ refused (at register 1 place)
        unfolding read_body
        body-links-cut e h =
            let q = items-all s end n 5 items in
            counted-refused _ (fit-field end 2 3 _ long ∙ pass (ltb n 1 || ltb most_items n) _ _ in-range ∙ took (read_items s end n 5) _ q.0 q.1
            ∙ halted (fields register end (2 ∷ []) p) _ _ (cut_field end 2 p (omega arith)))
            ∙ ap (λ (z : ℕ). refused (at register 1 z)) (sym e)

        module _ (place : ℕ) (stands : place ≡ p) (counts : place + 2 ≤ end) where
          pub body-links-many : most_links < number s place 2 → answer ≡ refused (at register 4 place)
          unfolding read_body
          body-links-many h =
              let q = items-all s end n 5 items in
              let many : most_links < m = subst (λ (z : ℕ). most_links < number s z 2) stands h in
              counted-refused _ (fit-field end 2 3 _ long ∙ pass (ltb n 1 || ltb most_items n) _ _ in-range ∙ took (read_items s end n 5) _ q.0 q.1
              ∙ fit-field end 2 p _ (omega arith) ∙ stop (ltb most_links m) _ _ (below most_links m many))
              ∙ ap (λ (z : ℕ). refused (at register 4 z)) (sym stands)

          -- the counts as the code has them
          pub body-links : (i l start : ℕ) → i ≡ n → l ≡ number s place 2 → start ≡ link_place i 0 → l ≤ most_links → answer ≡ links_answer s end i l start
          unfolding read_body counted links_answer
          body-links i l start ei el es h =
              let q = items-all s end n 5 items in
              let em : l ≡ m = el ∙ ap (λ (z : ℕ). number s z 2) stands in
              let ep : p + 2 ≡ start = omega arith in
              ap counted (fit-field end 2 3 _ long ∙ pass (ltb n 1 || ltb most_items n) _ _ in-range ∙ took (read_items s end n 5) _ q.0 q.1
              ∙ fit-field end 2 p _ (omega arith) ∙ pass (ltb most_links m) _ _ (not-below most_links m (omega arith)))
              ∙ count-links q.0 n q.2 (read_links s end n m nowhere (p + 2)) (ltb (p + 2 + 5 * m) end) (at register 8 (p + 2 + 5 * m))
              ∙ ap (links_answer s end n m) ep ∙ ap₂ (λ (x y : ℕ). links_answer s end x y start) (sym ei) (sym em)
