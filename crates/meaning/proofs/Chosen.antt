-- The map that sends each child to the first successor of greatest degree is a partial map, and its value is the degree.
-- Assumes nothing.
use mathlib.Core.Path.{◌≡◌, refl, sym, ◌∙◌}
use mathlib.Core.List.{List, [], ◌∷◌, ◌++◌, Memᴰ}
use mathlib.Core.Option.{Option, some}
use mathlib.Core.Option.{none as nowhere}
use Prim.Native.Nat.{ℕ, zero, suc, ◌+◌, ◌*◌}
use Rattle.meaning.specs.Tree.{node, Forest, none, more, Concept, role_of, role_at, role_at_f}
use Rattle.meaning.specs.Graph.{Graph}
use Rattle.meaning.specs.Reduce.{scale, scale_f}
use Rattle.meaning.specs.Partial.{PartialMap}
use Rattle.meaning.specs.Degree.{best, degree, degree_f}
use Rattle.meaning.specs.Shown.{pick}
use Rattle.meaning.proofs.Tests.{some_inj, not_some}
use Rattle.meaning.proofs.Best.{pick-none, pick_some}
use Rattle.meaning.proofs.Value.{or_zero, number, number_f}

module _ {N : Type 0} (G : Graph N) where
  abbrev pub onward : Option N → (N → Option N) → Option N
  onward nowhere k = nowhere
  onward (some y) k = k y

  unfoldable mutual
    unfolding pick degree

    pub chosen : Concept → N → List ℕ → Option N
    chosen (node a f) x [] = some x
    chosen (node a f) x (k ∷ p) = chosen_f f x k p

    pub chosen_f : Forest ℕ → N → ℕ → List ℕ → Option N
    chosen_f none x k p = nowhere
    chosen_f (more r t f) x zero p = onward (pick (λ y. degree G t y) (G.next x r)) (λ y. chosen t y p)
    chosen_f (more r t f) x (suc k) p = chosen_f f x k p

  pub chosen-root : (t : Concept) (x : N) → chosen t x [] ≡ some x
  unfolding chosen
  chosen-root (node a f) x = refl

  chosen-tops : (f : Forest ℕ) (x : N) (k r : ℕ) (y : N) → role_of f k ≡ some r → chosen_f f x k [] ≡ some y → Memᴰ y (G.next x r)
  unfolding chosen role_of
  chosen-tops none x k r y e m = absurd (not_some y m)
  chosen-tops (more s t f) x zero r y e m = rw (← some_inj e) (go (pick (λ z. degree G t z) (G.next x s)) refl m)
    where
      go : (o : Option N) → pick (λ z. degree G t z) (G.next x s) ≡ o → onward o (λ z. chosen t z []) ≡ some y → Memᴰ y (G.next x s)
      go nowhere d m = absurd (not_some y m)
      go (some z) d m = rw (← some_inj (sym (chosen-root t z) ∙ m)) (pick_some (λ w. degree G t w) (G.next x s) z d).0
  chosen-tops (more s t f) x (suc k) r y e m = chosen-tops f x k r y e m

  mutual
    unfolding chosen role_at

    pub chosen-edges : (t : Concept) (x : N) (p : List ℕ) (k r : ℕ) (y : N) → role_at t p k ≡ some r → chosen t x (p ++ k ∷ []) ≡ some y
        → (z : N) × (chosen t x p ≡ some z) × Memᴰ y (G.next z r)
    chosen-edges (node a f) x [] k r y e m = (x, refl, chosen-tops f x k r y e m)
    chosen-edges (node a f) x (j ∷ p) k r y e m = chosen-edges_f f x j p k r y e m

    chosen-edges_f : (f : Forest ℕ) (x : N) (j : ℕ) (p : List ℕ) (k r : ℕ) (y : N) → role_at_f f j p k ≡ some r → chosen_f f x j (p ++ k ∷ []) ≡ some y
        → (z : N) × (chosen_f f x j p ≡ some z) × Memᴰ y (G.next z r)
    chosen-edges_f none x j p k r y e m = absurd (not_some y m)
    chosen-edges_f (more s t f) x zero p k r y e m = go (pick (λ w. degree G t w) (G.next x s)) (λ w n. chosen-edges t w p k r y e n) m
      where
        go : (o : Option N) → ((w : N) → chosen t w (p ++ k ∷ []) ≡ some y → (z : N) × (chosen t w p ≡ some z) × Memᴰ y (G.next z r))
            → onward o (λ w. chosen t w (p ++ k ∷ [])) ≡ some y → (z : N) × (onward o (λ w. chosen t w p) ≡ some z) × Memᴰ y (G.next z r)
        go nowhere h m = absurd (not_some y m)
        go (some w) h m = h w m
    chosen-edges_f (more s t f) x (suc j) p k r y e m = chosen-edges_f f x j p k r y e m

  abbrev pub chosen-map : (t : Concept) (x : N) → PartialMap G t x
  chosen-map t x = record { map = chosen t x; rooted = chosen-root t x; edges = chosen-edges t x }

  mutual
    unfolding chosen number degree

    pub chosen-number : (t : Concept) (x : N) → number G t x (chosen t x) ≡ degree G t x
    chosen-number (node a f) x = rw (chosen_f-number f x)

    chosen_f-number : (f : Forest ℕ) (x : N) → number_f G f (chosen_f f x) ≡ degree_f G f x
    chosen_f-number none x = refl
    chosen_f-number (more r t f) x = rw (chosen_f-number f x) (go (pick (λ y. degree G t y) (G.next x r)) refl (λ y. chosen-number t y))
      where
        go : (o : Option N) → pick (λ y. degree G t y) (G.next x r) ≡ o → ((y : N) → number G t y (chosen t y) ≡ degree G t y)
            → or_zero G (onward o (λ y. chosen t y [])) (λ y. number G t y (λ p. onward o (λ z. chosen t z p))) * scale_f f + scale t * degree_f G f x
            ≡ best (λ y. degree G t y) (G.next x r) * scale_f f + scale t * degree_f G f x
        go nowhere d k = rw (pick-none (λ y. degree G t y) (G.next x r) d)
        go (some y) d k = rw (chosen-root t y, k y, (pick_some (λ z. degree G t z) (G.next x r) y d).1)
