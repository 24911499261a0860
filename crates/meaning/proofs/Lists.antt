-- A list that forms a tree is the list of one tree, and that tree grows out of it.
-- Assumes nothing.
use mathlib.Core.Path.{◌≡◌, refl, sym, ap, ap₂, ◌∙◌, subst}
use mathlib.Core.Bool.{true, false, ◌&&◌}
use mathlib.Core.List.{List, [], ◌∷◌, ◌++◌, append_assoc, append-nil}
use Prim.Native.Nat.{ℕ, suc, ◌≤◌}
use native.Mathlib.Decide.{ℕ_discrete}
use native.Mathlib.Omega.{arith}
use lib.Dec.{T, leb, eqb, leb→le, le→leb, eqb→eq, eqb_refl}
use Rattle.meaning.specs.Tree.{Tree, node, Forest, none, more}
use Rattle.meaning.specs.Lists.{Listed, Grown, go_on, form_tree, gathered, others, grown, first_tree, listed, listed_f}
use Rattle.meaning.proofs.Tests.{is_true, is_false, is-eqb, and_both, both-and}

pub same : (d e : ℕ) → d ≡ e → eqb d e ≡ true
same d e p = is_true (eqb d e) (is-eqb p)

pub other : (d e : ℕ) → (d ≡ e → ⊥) → eqb d e ≡ false
other d e n = is_false (eqb d e) (λ t. n (eqb→eq d e t))

module _ {L : Type 0} where
  abbrev pub at : L → ℕ → ℕ → Listed L
  at a d r = record { label = a; depth = d; role = r }

  abbrev tree-at : Tree L → ℕ → ℕ → Grown L
  tree-at t d r = record { tree = t; depth = d; role = r }

  -- ---- depths that go on

  pub go_on-open : (b : ℕ) (x : Listed L) (xs : List (Listed L)) → T (go_on b (x ∷ xs)) → (1 ≤ x.depth) × (x.depth ≤ suc b) × T (go_on x.depth xs)
  unfolding go_on
  go_on-open b x xs w =
      let p = and_both (leb 1 x.depth && leb x.depth (suc b)) (go_on x.depth xs) w in
      let q = and_both (leb 1 x.depth) (leb x.depth (suc b)) p.0 in
      (leb→le _ _ q.0, leb→le _ _ q.1, p.1)

  go_on-close : (b : ℕ) (x : Listed L) (xs : List (Listed L)) → 1 ≤ x.depth → x.depth ≤ suc b → T (go_on x.depth xs) → T (go_on b (x ∷ xs))
  unfolding go_on
  go_on-close b x xs l m w =
      both-and (leb 1 x.depth && leb x.depth (suc b)) (go_on x.depth xs)
      (both-and (leb 1 x.depth) (leb x.depth (suc b)) (le→leb _ _ l) (le→leb _ _ m)) w

  -- ---- gathering

  -- the first of some trees does not stand at this depth
  abbrev Apart : ℕ → List (Grown L) → Type 0
  Apart d [] = Unit {0}
  Apart d (g ∷ gs) = g.depth ≡ d → ⊥

  -- children at a depth, one after the other
  unfoldable trees : ℕ → Forest L → List (Grown L)
  trees d none = []
  trees d (more r t f) = tree-at t d r ∷ trees d f

  gathered-trees : (d : ℕ) (f : Forest L) (gs : List (Grown L)) → Apart d gs → gathered d (trees d f ++ gs) ≡ f
  unfolding gathered trees
  gathered-trees d none [] w = refl
  gathered-trees d none (g ∷ gs) w = rw (other g.depth d w) refl
  gathered-trees d (more r t f) gs w = rw (same d d refl) (ap (λ (z : Forest L). more r t z) (gathered-trees d f gs w))

  others-trees : (d : ℕ) (f : Forest L) (gs : List (Grown L)) → Apart d gs → others d (trees d f ++ gs) ≡ gs
  unfolding others trees
  others-trees d none [] w = refl
  others-trees d none (g ∷ gs) w = rw (other g.depth d w) refl
  others-trees d (more r t f) gs w = rw (same d d refl) (others-trees d f gs w)

  -- ---- the tree of a list grows out of it

  -- the first of a list stands at most this deep
  abbrev pub Shallow : ℕ → List (Listed L) → Type 0
  Shallow d [] = Unit {0}
  Shallow d (x ∷ xs) = x.depth ≤ d

  pub shallow-more : (d : ℕ) (xs : List (Listed L)) → Shallow d xs → Shallow (suc d) xs
  shallow-more d [] w = tt
  shallow-more d (x ∷ xs) w = omega (arith, w)

  pub shallow-listed : (d : ℕ) (f : Forest L) (xs : List (Listed L)) → Shallow d xs → Shallow d (listed_f d f ++ xs)
  unfolding listed
  shallow-listed d none xs w = w
  shallow-listed d (more r (node a g) f) xs w = omega arith

  apart-grown : (d : ℕ) (xs : List (Listed L)) → Shallow d xs → Apart (suc d) (grown xs)
  unfolding grown
  apart-grown d [] w = tt
  apart-grown d (x ∷ xs) w = λ e. omega (arith, w, e)

  mutual
    unfolding listed grown trees

    grown-listed : (t : Tree L) (d r : ℕ) (xs : List (Listed L)) → Shallow d xs → grown (listed d r t ++ xs) ≡ tree-at t d r ∷ grown xs
    grown-listed (node a f) d r xs w =
        ap (λ (z : List (Grown L)). tree-at (node a (gathered (suc d) z)) d r ∷ others (suc d) z) (grown-listed_f f (suc d) xs (shallow-more d xs w))
        ∙ ap₂ (λ (f' : Forest L) (z : List (Grown L)). tree-at (node a f') d r ∷ z)
        (gathered-trees (suc d) f (grown xs) (apart-grown d xs w)) (others-trees (suc d) f (grown xs) (apart-grown d xs w))

    grown-listed_f : (f : Forest L) (d : ℕ) (xs : List (Listed L)) → Shallow d xs → grown (listed_f d f ++ xs) ≡ trees d f ++ grown xs
    grown-listed_f none d xs w = refl
    grown-listed_f (more r t f) d xs w =
        ap grown (append_assoc (listed d r t) (listed_f d f) xs) ∙ grown-listed t d r (listed_f d f ++ xs) (shallow-listed d f xs w)
        ∙ ap (λ (z : List (Grown L)). tree-at t d r ∷ z) (grown-listed_f f d xs w)

  pub first-listed : (a : L) (t : Tree L) (d r : ℕ) → first_tree a (grown (listed d r t)) ≡ t
  unfolding first_tree
  first-listed a t d r = ap (λ (z : List (Listed L)). first_tree a (grown z)) (sym (append-nil (listed d r t))) ∙ ap (first_tree a) (grown-listed t d r [] tt)

  -- ---- a list that forms a tree is that of a tree

  -- the lists of some trees, one after the other
  unfoldable flat : List (Grown L) → List (Listed L)
  flat [] = []
  flat (g ∷ gs) = listed g.depth g.role g.tree ++ flat gs

  flat-gathered : (d : ℕ) (gs : List (Grown L)) → listed_f d (gathered d gs) ++ flat (others d gs) ≡ flat gs
  unfolding gathered others listed flat
  flat-gathered d [] = refl
  flat-gathered d (g ∷ gs) = go (ℕ_discrete g.depth d) (flat-gathered d gs)
    where
      go : Dec (g.depth ≡ d) → listed_f d (gathered d gs) ++ flat (others d gs) ≡ flat gs
          → listed_f d (gathered d (g ∷ gs)) ++ flat (others d (g ∷ gs)) ≡ flat (g ∷ gs)
      go (yes e) h =
          rw (same g.depth d e)
          (append_assoc (listed d g.role g.tree) (listed_f d (gathered d gs)) (flat (others d gs))
          ∙ ap₂ {C = List (Listed L)} ◌++◌ (ap (λ (z : ℕ). listed z g.role g.tree) (sym e)) h)
      go (no n) h = rw (other g.depth d n) refl

  flat-grown : (xs : List (Listed L)) → flat (grown xs) ≡ xs
  unfolding grown listed flat
  flat-grown [] = refl
  flat-grown (x ∷ xs) = ap (λ (z : List (Listed L)). x ∷ z) (flat-gathered (suc x.depth) (grown xs) ∙ flat-grown xs)

  -- trees that stand from 1 on, none deeper than the one before
  unfoldable Down : ℕ → List (Grown L) → Type 0
  Down b [] = Unit {0}
  Down b (g ∷ gs) = (1 ≤ g.depth) × (g.depth ≤ b) × Down g.depth gs

  down-others : (d : ℕ) (gs : List (Grown L)) → Down (suc d) gs → Down d (others (suc d) gs)
  unfolding others Down
  down-others d [] w = tt
  down-others d (g ∷ gs) w = go (ℕ_discrete g.depth (suc d)) (down-others d gs)
    where
      go : Dec (g.depth ≡ suc d) → (Down (suc d) gs → Down d (others (suc d) gs)) → Down d (others (suc d) (g ∷ gs))
      go (yes e) h = rw (same g.depth (suc d) e) (h (rw e at w.2))
      go (no n) h = rw (other g.depth (suc d) n) (w.0, omega (arith, w.1, n), w.2)

  down-grown : (b : ℕ) (xs : List (Listed L)) → T (go_on b xs) → Down (suc b) (grown xs)
  unfolding grown Down
  down-grown b [] w = tt
  down-grown b (x ∷ xs) w =
      let p = go_on-open b x xs w in
      (p.0, p.1, down-others x.depth (grown xs) (down-grown x.depth xs p.2))

  -- trees at depth 1 alone
  others-none : (gs : List (Grown L)) → Down 1 gs → others 1 gs ≡ []
  unfolding others Down
  others-none [] w = refl
  others-none (g ∷ gs) w =
      let e : g.depth ≡ 1 = omega (arith, w.0, w.1) in
      rw (same g.depth 1 e) (others-none gs (rw e at w.2))

  -- the role of the first
  abbrev pub root_role : List (Listed L) → ℕ
  root_role [] = 0
  root_role (x ∷ xs) = x.role

  pub listed-first : (a : L) (xs : List (Listed L)) → T (form_tree xs) → listed 0 (root_role xs) (first_tree a (grown xs)) ≡ xs
  unfolding form_tree first_tree grown listed flat
  listed-first a [] w = absurd w
  listed-first a (x ∷ xs) w =
      let p = and_both (eqb x.depth 0) (go_on 0 xs) w in
      let e : x.depth ≡ 0 = eqb→eq _ _ p.0 in
      let n = others-none (grown xs) (down-grown 0 xs p.1) in
      let all = flat-gathered 1 (grown xs) ∙ flat-grown xs in
      let short : listed_f 1 (gathered 1 (grown xs)) ≡ xs = sym (append-nil _) ∙ ap (λ (z : List (Grown L)). listed_f 1 (gathered 1 (grown xs)) ++ flat z) (sym n) ∙ all in
      rw e (ap (λ (z : List (Listed L)). at x.label 0 x.role ∷ z) short)

  -- ---- and a tree's list forms a tree

  go_on-more : (b c : ℕ) (xs : List (Listed L)) → b ≤ c → T (go_on b xs) → T (go_on c xs)
  unfolding go_on
  go_on-more b c [] l w = tt
  go_on-more b c (x ∷ xs) l w =
      let p = go_on-open b x xs w in
      go_on-close c x xs p.0 (omega (arith, l, p.1)) p.2

  mutual
    unfolding go_on listed

    go_on-listed : (t : Tree L) (d r b : ℕ) (xs : List (Listed L)) → 1 ≤ d → d ≤ suc b → T (go_on d xs) → T (go_on b (listed d r t ++ xs))
    go_on-listed (node a f) d r b xs l m w =
        go_on-close b (at a d r) (listed_f (suc d) f ++ xs) l m (go_on-listed_f f (suc d) d xs (omega arith) (omega arith) (omega arith) w)

    go_on-listed_f : (f : Forest L) (d b : ℕ) (xs : List (Listed L)) → 1 ≤ d → d ≤ suc b → b ≤ d → T (go_on b xs) → T (go_on b (listed_f d f ++ xs))
    go_on-listed_f none d b xs l m k w = w
    go_on-listed_f (more r t f) d b xs l m k w =
        subst (λ (z : List (Listed L)). T (go_on b z)) (sym (append_assoc (listed d r t) (listed_f d f) xs))
        (go_on-listed t d r b (listed_f d f ++ xs) l m (go_on-listed_f f d d xs l (omega arith) (omega arith) (go_on-more b d xs k w)))

  pub forms-listed : (t : Tree L) (r : ℕ) → T (form_tree (listed 0 r t))
  unfolding form_tree listed go_on
  forms-listed (node a f) r =
      both-and (eqb 0 0) (go_on 0 (listed_f 1 f)) (eqb_refl 0)
      (subst (λ (z : List (Listed L)). T (go_on 0 z)) (append-nil (listed_f 1 f)) (go_on-listed_f f 1 0 [] (omega arith) (omega arith) (omega arith) tt))
