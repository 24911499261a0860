-- The value of a partial map is a whole number over the tree's scale, and no partial map's number is above the degree's.
-- Assumes nothing.
use mathlib.Core.Path.{◌≡◌, refl, sym, ap, ◌∙◌}
use mathlib.Core.List.{List, [], ◌∷◌, ◌++◌, Memᴰ}
use mathlib.Core.Option.{Option, some}
use mathlib.Core.Option.{none as nowhere}
use Prim.Native.Nat.{ℕ, zero, suc, ◌+◌, ◌*◌, ◌≤◌, ◌<◌, zero-le, max}
use native.Mathlib.Nat.{le_refl, le_trans, mul-pos, mul-le-mul_left, mul-le-mul_right, add-le-add, zero-lt-suc}
use native.Mathlib.Omega.{arith}
use Rattle.meaning.specs.Names.{names, common}
use Rattle.meaning.specs.Tree.{node, Forest, none, more, Concept, count, role_of, role_at, role_at_f}
use Rattle.meaning.specs.Graph.{Graph}
use Rattle.meaning.specs.Fraction.{Frac, ◌÷◌, ◌⊕◌, Same}
use Rattle.meaning.specs.Reduce.{scale, scale_f}
use Rattle.meaning.specs.Partial.{share, PartialMap, add_if, value_of, values_of}
use Rattle.meaning.specs.Degree.{or_one, best, degree, degree_f}
use Rattle.meaning.proofs.Tests.{some_inj}
use Rattle.meaning.proofs.Best.{best-above}
use Rattle.meaning.proofs.Scale.{max-one, bare-scale}

add_same : (p q p' q' v s v' s' : ℕ) → p * s ≡ v * q → p' * s' ≡ v' * q' → (p * q' + p' * q) * (s * s') ≡ (v * s' + s * v') * (q * q')
add_same p q p' q' v s v' s' e e' = omega (arith, ap (λ (z : ℕ). z * (q' * s')) e, ap (λ (z : ℕ). z * (q * s)) e')

share-same : (n c S D : ℕ) (w : Frac) → Same w (D ÷ S) → (n ≡ 0 → S ≡ 1) → Same (share n (c ÷ 1 ⊕ w)) (or_one n (c * S + D) ÷ (max 1 n * S))
share-same zero c S D w e b = omega (arith, b refl)
share-same (suc n) c S D w e b = rw (max-one n) (omega (arith, ap (λ (z : ℕ). z * suc n) e))

share-pos : (n : ℕ) (w : Frac) → 0 < w.den → 0 < (share n w).den
share-pos zero w h = le_refl 1
share-pos (suc n) w h = mul-pos h (zero-lt-suc n)

or_one-mono : (n : ℕ) {a b : ℕ} → a ≤ b → or_one n a ≤ or_one n b
or_one-mono zero h = le_refl 1
or_one-mono (suc n) h = h

module _ {N : Type 0} (G : Graph N) where
  -- ---- the value as a whole number

  abbrev pub or_zero : Option N → (N → ℕ) → ℕ
  or_zero nowhere v = 0
  or_zero (some y) v = v y

  -- the value of a map times the tree's scale: the degree with the map's successor in the place of the best
  unfoldable mutual
    unfolding count scale

    pub number : Concept → N → (List ℕ → Option N) → ℕ
    number (node a f) x h = or_one (names a + count f) (common a (G.names x) * scale_f f + number_f f (λ k p. h (k ∷ p)))

    pub number_f : Forest ℕ → (ℕ → List ℕ → Option N) → ℕ
    number_f none h = 0
    number_f (more r t f) h = or_zero (h 0 []) (λ y. number t y (h 0)) * scale_f f + scale t * number_f f (λ k. h (suc k))

  mutual
    unfolding value_of number scale

    pub value-number : (t : Concept) (x : N) (h : List ℕ → Option N) → Same (value_of G t x h) (number t x h ÷ scale t)
    value-number (node a f) x h =
        share-same (names a + count f) (common a (G.names x)) (scale_f f) (number_f f (λ k p. h (k ∷ p))) (values_of G f (λ k p. h (k ∷ p)))
        (values-number f (λ k p. h (k ∷ p))) (λ z. bare-scale f (omega arith))

    values-number : (f : Forest ℕ) (h : ℕ → List ℕ → Option N) → Same (values_of G f h) (number_f f h ÷ scale_f f)
    values-number none h = refl
    values-number (more r t f) h = go (h 0 []) (λ y. value-number t y (h 0)) (values-number f (λ k. h (suc k)))
      where
        w : Frac
        w = values_of G f (λ k. h (suc k))

        d : ℕ
        d = number_f f (λ k. h (suc k))

        go : (o : Option N) → ((y : N) → Same (value_of G t y (h 0)) (number t y (h 0) ÷ scale t)) → Same w (d ÷ scale_f f)
            → Same (add_if G o (λ y. value_of G t y (h 0)) w) ((or_zero o (λ y. number t y (h 0)) * scale_f f + scale t * d) ÷ (scale t * scale_f f))
        go nowhere k e = omega (arith, ap (λ (z : ℕ). z * scale t) e)
        go (some y) k e =
            let u = value_of G t y (h 0) in
            add_same u.num u.den w.num w.den (number t y (h 0)) (scale t) d (scale_f f) (k y) e

  mutual
    unfolding value_of

    pub value_pos : (t : Concept) (x : N) (h : List ℕ → Option N) → 0 < (value_of G t x h).den
    value_pos (node a f) x h = share-pos (names a + count f) _ (mul-pos (le_refl 1) (values-pos f (λ k p. h (k ∷ p))))

    values-pos : (f : Forest ℕ) (h : ℕ → List ℕ → Option N) → 0 < (values_of G f h).den
    values-pos none h = le_refl 1
    values-pos (more r t f) h = go (h 0 []) (λ y. value_pos t y (h 0)) (values-pos f (λ k. h (suc k)))
      where
        go : (o : Option N) → ((y : N) → 0 < (value_of G t y (h 0)).den) → 0 < (values_of G f (λ k. h (suc k))).den
            → 0 < (add_if G o (λ y. value_of G t y (h 0)) (values_of G f (λ k. h (suc k)))).den
        go nowhere k p = p
        go (some y) k p = mul-pos (k y) p

  -- ---- no more than the degree

  -- what a partial map says of the children of a node that goes to x
  record ChildMaps (f : Forest ℕ) (x : N) (map : ℕ → List ℕ → Option N) : Type 0 where
    tops : (k r : ℕ) (y : N) → role_of f k ≡ some r → map k [] ≡ some y → Memᴰ y (G.next x r)
    edges : (j : ℕ) (p : List ℕ) (k r : ℕ) (y : N) → role_at_f f j p k ≡ some r → map j (p ++ k ∷ []) ≡ some y
        → (z : N) × (map j p ≡ some z) × Memᴰ y (G.next z r)

  below : (a : ℕ) (f : Forest ℕ) (x : N) (h : PartialMap G (node a f) x) → ChildMaps f x (λ k p. h.map (k ∷ p))
  unfolding role_at
  below a f x h = record {
    tops = λ k r y e m. let q = h.edges [] k r y e m in rw (some_inj (sym q.1 ∙ h.rooted)) at q.2;
    edges = λ j p. h.edges (j ∷ p);
  }

  mutual
    unfolding number degree role_at

    pub number-le : (t : Concept) (x : N) (h : PartialMap G t x) → number t x h.map ≤ degree G t x
    number-le (node a f) x h = or_one-mono (names a + count f) (add-le-add (le_refl _) (number_f-le f x (λ k p. h.map (k ∷ p)) (below a f x h)))

    number_f-le : (f : Forest ℕ) (x : N) (map : ℕ → List ℕ → Option N) → ChildMaps f x map → number_f f map ≤ degree_f G f x
    number_f-le none x map h = zero-le
    number_f-le (more r t f) x map h =
        add-le-add (mul-le-mul_right (scale_f f) (go (map 0 []) refl (λ y c. number-le t y c)))
        (mul-le-mul_left (scale t) (number_f-le f x (λ k. map (suc k)) (record { tops = λ k. h.tops (suc k); edges = λ j. h.edges (suc j) })))
      where
        go : (o : Option N) → map 0 [] ≡ o → ((y : N) (c : PartialMap G t y) → number t y c.map ≤ degree G t y)
            → or_zero o (λ y. number t y (map 0)) ≤ best (λ y. degree G t y) (G.next x r)
        go nowhere e k = zero-le
        go (some y) e k =
            le_trans (k y (record { map = map 0; rooted = e; edges = h.edges 0 })) (best-above (λ z. degree G t z) (h.tops 0 r y refl e))
