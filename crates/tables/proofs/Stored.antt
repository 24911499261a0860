-- A loop that stores f of 0, of 1 .. one after the other, from a place on; where f is a child folded in, and where it is what stands there.
-- Assumes nothing.
use mathlib.Core.Path.{◌≡◌, refl, sym, ap, ap₂, ◌∙◌}
use mathlib.Core.Logic.{inr}
use mathlib.Core.Bool.{Bool, cond}
use mathlib.Core.List.{List, [], ◌∷◌, ◌++◌, append-nil}
use Prim.Native.Nat.{ℕ, zero, suc, ◌+◌, ◌-◌, ◌*◌, ◌≤◌, ◌<◌}
use native.Mathlib.Decide.{ℕ_discrete}
use native.Mathlib.Omega.{arith}
use lib.Count.{ones}
use lib.ListN.{length, get_or, set, replicate, take, drop, take-append-drop}
use lib.Seq.{sets, length-take-le, set-get_or, get_or-set_same, get_or-set_other, get_or-take}
use Rattle.std.proofs.lemmas.List.{replicate_more}
use Rattle.meaning.specs.Names.{common}
use Rattle.graph.specs.Walked.{walked}
use Rattle.meaning.specs.Degree.{or_one}
use Rattle.meaning.specs.Table.{up_to}
use Rattle.meaning.proofs.Stores.{sets-append, sets-beyond, sets_over}
use Rattle.meaning.proofs.Table.{up_to-long, up_to-same}
use Rattle.register.specs.Image.{Image}
use Rattle.sorted.specs.Order.{Sorted}
use Rattle.degrees.proofs.Filled.{part-filled}
use Rattle.tables.specs.Rows.{Names, row_at, row_tops, folded, Folding}

-- so many are stored
abbrev pub Stored : (ℕ → ℕ) → ℕ → List ℕ → List ℕ → ℕ → Type 0
Stored f at old new i = new ≡ sets old at (up_to i f)

pub stored-start : (f : ℕ → ℕ) (at : ℕ) (old : List ℕ) (i : ℕ) → i ≡ 0 → Stored f at old old i
unfolding up_to
stored-start f at old i e = rw e refl

pub stored_more : (f : ℕ → ℕ) (at : ℕ) (old new : List ℕ) (i p v : ℕ) → Stored f at old new i → p ≡ at + i → v ≡ f i → Stored f at old (set new p v) (i + 1)
unfolding up_to
stored_more f at old new i p v w here is =
    let one : suc i ≡ i + 1 = omega arith in
    let place : p ≡ at + length (up_to i f) = omega (arith, up_to-long i f) in
    ap₂ (λ (z : List ℕ) (y : ℕ). set z p y) w is ∙ sym (sets-append old at p (up_to i f) (f i ∷ []) place) ∙ ap (λ (k : ℕ). sets old at (up_to k f)) one

-- the next place is as it was
pub stored-ahead : (f : ℕ → ℕ) (at : ℕ) (old new : List ℕ) (i : ℕ) → Stored f at old new i → get_or new (at + i) 0 ≡ get_or old (at + i) 0
stored-ahead f at old new i w = ap (λ (z : List ℕ). get_or z (at + i) 0) w ∙ sets-beyond old at (up_to i f) (at + i) (inr (omega (arith, up_to-long i f)))

-- a node without names shares none
pub stored-none : (names : ℕ) (held : ℕ → ℕ) (at n k : ℕ) (old new : List ℕ) → names ≡ 0 → k ≡ n → Stored (λ x. 0) at old new k
    → Stored (λ x. common names (held x)) at old new n
unfolding ones
stored-none names held at n k old new z e w = rw e at w ∙ ap (sets old at) (up_to-same n (λ x. 0) (λ x. common names (held x)) (λ x l. rw z refl))

-- ---- a part of the row that is filled with one number

all-one : (n v : ℕ) → replicate n v ≡ up_to n (λ x. v)
unfolding up_to
all-one zero v = refl
all-one (suc n) v =
    let one : n + 1 ≡ suc n = omega arith in
    ap (λ (k : ℕ). replicate k v) (sym one) ∙ sym (replicate_more n v) ∙ ap (λ (z : List ℕ). z ++ (v ∷ [])) (all-one n v)

pub row-filled : (a b v : ℕ) (old part : List ℕ) → a ≤ b → b ≤ length old → part ≡ replicate (length (take (b - a) (drop a old))) v
    → take a old ++ (part ++ drop (b - a) (drop a old)) ≡ sets old a (up_to (b - a) (λ x. v))
row-filled a b v old part l m e = part-filled a b v old part l m e ∙ ap (sets old a) (all-one (b - a) v)

-- ---- sums of equal parts

pub fits-here : (a b s t p n : ℕ) → a ≡ b → b * s + t * p < n → a * s + t * p < n
fits-here a b s t p n e h = rw e h

pub sum-here : (r a b s t p : ℕ) → r ≡ a * s + t * p → a ≡ b → r ≡ b * s + t * p
sum-here r a b s t p q e = rw (← e) q

-- ---- tops that are a child's: of all that are gathered the first, one for each item

module _ {s : List ℕ} {items : ℕ} {begins order : List ℕ} (role from at scale product : ℕ) (table all : List ℕ) (long : length all ≡ 512)
    (is : (c : Sorted s items begins order) (x : ℕ) → x < items → get_or all x 0 ≡ row_tops c role from table x) where
  abbrev pub tops : List ℕ
  tops = take items all

  pub tops-long : items ≤ 512 → length tops ≡ items
  tops-long l = length-take-le items all (omega arith)

  same_sum : (c : Sorted s items begins order) (x : ℕ) → x < items
      → folded table at scale product (λ y. get_or tops y 0) x ≡ folded table at scale product (row_tops c role from table) x
  same_sum c x l = ap (λ (z : ℕ). row_at table at x * scale + z * product) (get_or-take items all x 0 l ∙ is c x l)

  pub tops_fit : Folding s items begins order role from at scale product table → (x : ℕ) → x < length tops
      → folded table at scale product (λ y. get_or tops y 0) x < 4294967296
  tops_fit w x l =
      let m : x < items = omega (arith, tops-long w.in_order.most) in
      rw (same_sum w.in_order x m) (w.sums-fit x m)

  pub tops-folded : (new : List ℕ) → new ≡ sets table at (up_to (length tops) (folded table at scale product (λ y. get_or tops y 0)))
      → (c : Sorted s items begins order) → new ≡ sets table at (up_to items (folded table at scale product (row_tops c role from table)))
  tops-folded new e c =
      e ∙ ap (λ (n : ℕ). sets table at (up_to n (folded table at scale product (λ y. get_or tops y 0)))) (tops-long c.most)
      ∙ ap (sets table at) (up_to-same items _ _ (same_sum c))

-- ---- what is stored over by at least as much

pub sets-again : (m : List ℕ) (i : ℕ) (xs ys : List ℕ) → length xs ≤ length ys → sets (sets m i xs) i ys ≡ sets m i ys
sets-again m i xs ys l =
    let a : List ℕ = take (length xs) ys in
    let b : List ℕ = drop (length xs) ys in
    let whole : a ++ b ≡ ys = take-append-drop (length xs) ys in
    let long : length a ≡ length xs = length-take-le (length xs) ys l in
    ap (sets (sets m i xs) i) (sym whole) ∙ sets-append (sets m i xs) i (i + length a) a b refl
    ∙ ap (λ (z : List ℕ). sets z (i + length a) b)
    (ap (λ (z : List ℕ). sets (sets m i z) i a) (sym (append-nil xs)) ∙ sets_over m i xs a [] (sym long) ∙ ap (sets m i) (append-nil a))
    ∙ sym (sets-append m i (i + length a) a b refl) ∙ ap (sets m i) whole

-- ---- what stands there is stored again

pub stored-kept : (f : ℕ → ℕ) (at n : ℕ) (m : List ℕ) → ((x : ℕ) → x < n → f x ≡ get_or m (at + x) 0) → Stored f at m m n
unfolding up_to
stored-kept f at zero m h = refl
stored-kept f at (suc n) m h =
    let place : at + n ≡ at + length (up_to n f) = omega (arith, up_to-long n f) in
    let so : m ≡ sets m at (up_to n f) = stored-kept f at n m (λ x l. h x (omega arith)) in
    sym (sets-append m at (at + n) (up_to n f) (f n ∷ []) place ∙ ap₂ (λ (z : List ℕ) (y : ℕ). set z (at + n) y) (sym so) (h n (omega arith)) ∙ set-get_or m (at + n) 0)

-- where something is counted, the number stands
some-counted : (n v : ℕ) → (n ≡ 0 → ⊥) → v ≡ or_one n v
some-counted zero v z = absurd (z refl)
some-counted (suc n) v z = refl

-- and so does the row
pub counted-kept : (n at k : ℕ) (table : List ℕ) → (n ≡ 0 → ⊥) → Stored (λ x. or_one n (row_at table at x)) at table table k
counted-kept n at k table z = stored-kept (λ x. or_one n (row_at table at x)) at k table (λ x l. sym (some-counted n (row_at table at x) z))

-- where nothing is, it becomes a row of ones
pub counted_none : (n at k : ℕ) (table new : List ℕ) → n ≡ 0 → Stored (λ x. 1) at table new k → Stored (λ x. or_one n (row_at table at x)) at table new k
counted_none n at k table new z w = w ∙ ap (sets table at) (up_to-same k (λ x. 1) (λ x. or_one n (row_at table at x)) (λ x l. rw z refl))

-- what is stored next
pub closed-here : (r n v u : ℕ) (b c : Bool) → r ≡ cond b 0 (or_one n v) → b ≡ c → v ≡ u → r ≡ cond c 0 (or_one n u)
closed-here r n v u b c e o h = e ∙ ap₂ (λ (d : Bool) (z : ℕ). cond d 0 (or_one n z)) o h

-- ---- names that are read once

pub own-names : {s : List ℕ} {items : ℕ} {held : List ℕ} → Names s items held → (names at : ℕ) (old new : List ℕ) → Stored (λ x. common names (get_or held x 0)) at old new items
    → Image s (λ g. Stored (λ x. common names ((walked g).names x)) at old new items)
own-names {items = items} w names at old new is g h = is ∙ ap (sets old at) (up_to-same items _ _ (λ x l. ap (common names) (w.each g h x l)))

pub noted_more : (f : ℕ → ℕ) (held : List ℕ) (x v : ℕ) → x < length held → ((y : ℕ) → y < x → get_or held y 0 ≡ f y) → v ≡ f x
    → (y : ℕ) → y < x + 1 → get_or (set held x v) y 0 ≡ f y
noted_more f held x v room w e y l = go (ℕ_discrete y x)
  where
    go : Dec (y ≡ x) → get_or (set held x v) y 0 ≡ f y
    go (yes d) = rw d (get_or-set_same held x v 0 room ∙ e)
    go (no d) = get_or-set_other held x y v 0 d ∙ w y (omega (arith, d))
