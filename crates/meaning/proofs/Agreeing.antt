-- Two graphs that agree on some places, which no link of theirs leaves: there they have the same degrees, the same members and the same maps.
-- Assumes nothing.
use mathlib.Core.Path.{◌≡◌, refl, sym, ap, ap₂, subst, ◌∙◌}
use mathlib.Core.Bool.{Bool, true, false, ◌&&◌, cond}
use mathlib.Core.List.{List, [], ◌∷◌, ◌++◌, map, Memᴰ}
use mathlib.Core.Option.{Option, some}
use mathlib.Core.Option.{none as nowhere}
use Prim.Native.Nat.{ℕ, ◌+◌, ◌*◌}
use lib.ListN.{replicate}
use Rattle.meaning.specs.Names.{names, common, within}
use Rattle.meaning.specs.Tree.{node, Forest, none, more, Concept, count, under, nodes}
use Rattle.meaning.specs.Graph.{Graph}
use Rattle.meaning.specs.Fraction.{Frac, ◌÷◌, lowest, compares}
use Rattle.meaning.specs.Whole.{any, meets_by, meets_by_f}
use Rattle.meaning.specs.Reduce.{dropped, reduce, reduce_f, scale, scale_f}
use Rattle.meaning.specs.Degree.{or_one, best, degree, degree_f, degree_of, answered}
use Rattle.meaning.specs.Requirement.{Threshold, Label, Requirement, every, passes, fulfils, member}
use Rattle.meaning.specs.Shown.{pick, Mark, out, goes, goes_to, shown, shown_f, mark_number, degree_map, first, from, yes_by, yes_by_f, yes_map}
use Rattle.meaning.proofs.Tests.{some_inj, not_some}
use Rattle.meaning.proofs.Best.{pick_some}
use Rattle.meaning.proofs.Same.{best-same, pick_same, any_same, first-same}

module _ {A : Type 0} where
  every-same : (p q : A → Bool) (xs : List A) → ((y : A) → p y ≡ q y) → every p xs ≡ every q xs
  unfolding every
  every-same p q [] h = refl
  every-same p q (x ∷ xs) h = ap₂ ◌&&◌ (h x) (every-same p q xs h)

  -- what is found first is a member
  first-in : (p : A → Bool) (xs : List A) (y : A) → first p xs ≡ some y → Memᴰ y xs
  unfolding first
  first-in p [] y e = absurd (not_some y e)
  first-in p (x ∷ xs) y e = go (p x) e (first-in p xs y)
    where
      go : (b : Bool) → cond b (some x) (first p xs) ≡ some y → (first p xs ≡ some y → Memᴰ y xs) → Memᴰ y (x ∷ xs)
      go true d k = Memᴰ.head (sym (some_inj d))
      go false d k = Memᴰ.tail (k d)

-- ---- two graphs

pub record Agree {N : Type 0} (G H : Graph N) (P : N → Type 0) : Type 0 where
  pub names : (x : N) → P x → G.names x ≡ H.names x
  pub next : (x : N) (r : ℕ) → P x → G.next x r ≡ H.next x r
  pub stays : (x y : N) (r : ℕ) → P x → Memᴰ y (G.next x r) → P y

module _ {N : Type 0} {G H : Graph N} {P : N → Type 0} (same : Agree G H P) where
  -- ---- the degree

  mutual
    unfolding degree

    pub degree-agrees : (t : Concept) (x : N) → P x → degree G t x ≡ degree H t x
    degree-agrees (node a f) x p =
        ap₂ (λ (m n : ℕ). or_one (names a + count f) (common a m * scale_f f + n)) (same.names x p) (degree_f-agrees f x p)

    degree_f-agrees : (f : Forest ℕ) (x : N) → P x → degree_f G f x ≡ degree_f H f x
    degree_f-agrees none x p = refl
    degree_f-agrees (more r t f) x p =
        let child : best (λ y. degree G t y) (G.next x r) ≡ best (λ y. degree H t y) (H.next x r) =
        best-same (λ y. degree G t y) (λ y. degree H t y) (G.next x r) (λ y m. degree-agrees t y (same.stays x y r p m))
        ∙ ap (best (λ y. degree H t y)) (same.next x r p) in
        ap₂ (λ (m n : ℕ). m * scale_f f + scale t * n) child (degree_f-agrees f x p)

  pub degree_of-agrees : (t : Concept) (x : N) → P x → degree_of G t x ≡ degree_of H t x
  degree_of-agrees t x p = ap (λ (n : ℕ). n ÷ scale (reduce t)) (degree-agrees (reduce t) x p)

  pub answered-agrees : (t : Concept) (x : N) → P x → answered G t x ≡ answered H t x
  answered-agrees t x p = ap lowest (degree_of-agrees t x p)

  -- ---- the map of a degree

  abbrev At : Option N → Type 0
  At o = (x : N) → o ≡ some x → P x

  goes-agrees : (o : Option N) (r : ℕ) (t : Concept) → At o → (goes_to G o r t ≡ goes_to H o r t) × At (goes_to G o r t)
  unfolding goes_to
  goes-agrees nowhere r t p = (refl, λ x e. absurd (not_some x e))
  goes-agrees (some x) r t p =
      let v : N → ℕ = λ y. degree G (reduce t) y in (
        pick_same v (λ y. degree H (reduce t) y) (G.next x r) (λ y m. degree-agrees (reduce t) y (same.stays x y r (p x refl) m))
            ∙ ap (pick (λ y. degree H (reduce t) y)) (same.next x r (p x refl)),
        (λ y e. same.stays x y r (p x refl) (pick_some v (G.next x r) y e).0),
      )

  mutual
    unfolding shown

    pub shown-agrees : (t : Concept) (o : Option N) → At o → shown G t o ≡ shown H t o
    shown-agrees (node a f) o p = ap (λ (l : List (Mark N)). goes o ∷ l) (shown_f-agrees f none o p)

    shown_f-agrees : (f b : Forest ℕ) (o : Option N) → At o → shown_f G f b o ≡ shown_f H f b o
    shown_f-agrees none b o p = refl
    shown_f-agrees (more r t f) b o p =
        let q = goes-agrees o r t p in
        ap₂ (λ (k l : List (Mark N)). cond (dropped (under r (reduce_f b)) (reduce t) (under r (reduce_f f))) (replicate (nodes t) out) k ++ l)
        (shown-agrees t (goes_to G o r t) q.1 ∙ ap (shown H t) q.0) (shown_f-agrees f (more r t b) o p)

  -- ---- members, and the map of a yes

  passes-agrees : (h : Threshold) (x : N) → P x → passes G h x ≡ passes H h x
  passes-agrees h x p = ap (λ (d : Frac). compares h.how d h.limit) (degree_of-agrees h.inner x p)

  fulfils-agrees : (a : Label) (x : N) → P x → fulfils G a x ≡ fulfils H a x
  fulfils-agrees a x p =
      ap₂ (λ (n : ℕ) (b : Bool). within a.names n && b) (same.names x p) (every-same _ _ a.thresholds (λ h. passes-agrees h x p))

  mutual
    unfolding meets_by

    pub member-agrees : (t : Requirement) (x : N) → P x → member G t x ≡ member H t x
    member-agrees (node a f) x p = ap₂ ◌&&◌ (fulfils-agrees a x p) (member_f-agrees f x p)

    member_f-agrees : (f : Forest Label) (x : N) → P x → meets_by_f (fulfils G) G f x ≡ meets_by_f (fulfils H) H f x
    member_f-agrees none x p = refl
    member_f-agrees (more r t f) x p = ap₂ ◌&&◌
        (any_same (λ y. member G t y) (λ y. member H t y) (G.next x r) (λ y m. member-agrees t y (same.stays x y r p m))
        ∙ ap (any (λ y. member H t y)) (same.next x r p))
        (member_f-agrees f x p)

  mutual
    unfolding yes_by

    pub yes-agrees : (t : Requirement) (x : N) → P x → yes_by (fulfils G) G t x ≡ yes_by (fulfils H) H t x
    yes-agrees (node a f) x p = ap (λ (l : List N). x ∷ l) (yes_f-agrees f x p)

    yes_f-agrees : (f : Forest Label) (x : N) → P x → yes_by_f (fulfils G) G f x ≡ yes_by_f (fulfils H) H f x
    yes_f-agrees none x p = refl
    yes_f-agrees (more r t f) x p =
        let o = first (λ y. member G t y) (G.next x r) in
        let e : o ≡ first (λ y. member H t y) (H.next x r) =
        first-same (λ y. member G t y) (λ y. member H t y) (G.next x r) (λ y m. member-agrees t y (same.stays x y r p m))
        ∙ ap (first (λ y. member H t y)) (same.next x r p) in
        ap₂ (λ (k l : List N). k ++ l)
        (below o (λ y d. yes-agrees t y (same.stays x y r p (first-in (λ z. member G t z) (G.next x r) y d))) ∙ ap (λ (z : Option N). from z (λ y. yes_by (fulfils H) H t y)) e)
        (yes_f-agrees f x p)
      where
        below : (o : Option N) → ((y : N) → o ≡ some y → yes_by (fulfils G) G t y ≡ yes_by (fulfils H) H t y)
            → from o (λ y. yes_by (fulfils G) G t y) ≡ from o (λ y. yes_by (fulfils H) H t y)
        below nowhere k = refl
        below (some y) k = k y refl

-- ---- the maps as they are answered

module _ {G H : Graph ℕ} {P : ℕ → Type 0} (same : Agree G H P) where
  pub degree_map-agrees : (t : Concept) (x : ℕ) → P x → degree_map G t x ≡ degree_map H t x
  degree_map-agrees t x p = ap (map mark_number) (shown-agrees same t (some x) (λ y e. subst P (some_inj e) p))

  pub yes_map-agrees : (t : Requirement) (x : ℕ) → P x → yes_map G t x ≡ yes_map H t x
  yes_map-agrees t x p = yes-agrees same t x p
