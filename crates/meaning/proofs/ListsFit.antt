-- A list passes every test of its nodes exactly when its tree keeps to the bounds.
-- Assumes nothing.
use mathlib.Core.Path.{◌≡◌, refl, sym, ap, ◌∙◌, subst}
use mathlib.Core.Bool.{Bool, true, false, ◌&&◌}
use mathlib.Core.List.{List, [], ◌∷◌, ◌++◌}
use Prim.Native.Nat.{ℕ, suc, ◌+◌, ◌≤◌, ◌<◌}
use native.Mathlib.Omega.{arith}
use native.Mathlib.Decide.{dec_lt}
use lib.Dec.{T, ltb, leb, leb→le, le→leb}
use lib.ListN.{length, length-append}
use Rattle.meaning.specs.Refusal.{good, on_call, refuse_if}
use Rattle.meaning.specs.Bounds.{most_role, most_levels, most_nodes}
use Rattle.meaning.specs.Tree.{Tree, node, Forest, none, more, nodes, nodes_f, levels, levels_f, each, each_f}
use Rattle.meaning.specs.Lists.{Listed, listed, listed_f}
use Rattle.meaning.specs.Writing.{node_fits, nodes_fit}
use Rattle.meaning.proofs.Tests.{and_both, both-and}
use Rattle.meaning.proofs.Reading.{not_good, pass, passed, went, gone, not-below, le-of-not-below, not-le, lt_of_not_le}

-- ---- a tree's list is as long as it has nodes

module _ {L : Type 0} where
  mutual
    unfolding listed nodes

    pub listed-length : (t : Tree L) (d r : ℕ) → length (listed d r t) ≡ nodes t
    listed-length (node a f) d r = ap suc (listed_f-length f (suc d))

    pub listed_f-length : (f : Forest L) (d : ℕ) → length (listed_f d f) ≡ nodes_f f
    listed_f-length none d = refl
    listed_f-length (more r t f) d = length-append (listed d r t) (listed_f d f) ∙ omega (arith, listed-length t d r, listed_f-length f d)

  -- ---- nodes that pass, from the i-th on

  abbrev pub Fits : ℕ → Listed L → Type 0
  Fits i x = (0 < i → x.role ≤ most_role) × (x.depth < most_levels) × (i < most_nodes)

  unfoldable pub Fit : ℕ → List (Listed L) → Type 0
  Fit i [] = Unit {0}
  Fit i (x ∷ xs) = Fits i x × Fit (suc i) xs

  pub fit_append : (i : ℕ) (xs ys : List (Listed L)) → Fit i (xs ++ ys) → Fit i xs × Fit (i + length xs) ys
  unfolding Fit
  fit_append i [] ys w = let e : i ≡ i + 0 = omega arith in (tt, subst (λ (z : ℕ). Fit z ys) e w)
  fit_append i (x ∷ xs) ys w =
      let r = fit_append (suc i) xs ys w.1 in
      let e : suc i + length xs ≡ i + suc (length xs) = omega arith in
      ((w.0, r.0), subst (λ (z : ℕ). Fit z ys) e r.1)

  pub append-fit : (i : ℕ) (xs ys : List (Listed L)) → Fit i xs → Fit (i + length xs) ys → Fit i (xs ++ ys)
  unfolding Fit
  append-fit i [] ys v w = let e : i + 0 ≡ i = omega arith in subst (λ (z : ℕ). Fit z ys) e w
  append-fit i (x ∷ xs) ys v w =
      let e : i + suc (length xs) ≡ suc i + length xs = omega arith in
      (v.0, append-fit (suc i) xs ys v.1 (subst (λ (z : ℕ). Fit z ys) e w))

  fit-first : (t : Tree L) (d r i : ℕ) → Fit i (listed d r t) → 0 < i → r ≤ most_role
  unfolding listed Fit
  fit-first (node a f) d r i w = w.0.0

  module _ (ok : L → Bool) where
    unfoldable pub Ok : List (Listed L) → Type 0
    Ok [] = Unit {0}
    Ok (x ∷ xs) = T (ok x.label) × Ok xs

    pub ok-append : (xs ys : List (Listed L)) → Ok (xs ++ ys) → Ok xs × Ok ys
    unfolding Ok
    ok-append [] ys w = (tt, w)
    ok-append (x ∷ xs) ys w = let r = ok-append xs ys w.1 in ((w.0, r.0), r.1)

    pub append-ok : (xs ys : List (Listed L)) → Ok xs → Ok ys → Ok (xs ++ ys)
    unfolding Ok
    append-ok [] ys v w = w
    append-ok (x ∷ xs) ys v w = (v.0, append-ok xs ys v.1 w)

    -- ---- the tree of a list that passes

    mutual
      unfolding listed Fit Ok each levels nodes

      pub tree-fits : (t : Tree L) (d r i : ℕ) → Fit i (listed d r t) → Ok (listed d r t) → T (each ok t) × (d + levels t ≤ most_levels) × (i + nodes t ≤ most_nodes)
      tree-fits (node a f) d r i w v =
          let g = forest-fits f (suc d) (suc i) (omega arith) (omega (arith, w.0.1)) (omega (arith, w.0.2)) w.1 v.1 in
          (both-and (ok a) (each_f ok f) v.0 g.0, omega (arith, g.1), omega (arith, g.2))

      forest-fits : (f : Forest L) (d i : ℕ) → 0 < i → d ≤ most_levels → i ≤ most_nodes → Fit i (listed_f d f) → Ok (listed_f d f)
          → T (each_f ok f) × (d + levels_f f ≤ most_levels) × (i + nodes_f f ≤ most_nodes)
      forest-fits none d i l m k w v = (tt, omega arith, omega arith)
      forest-fits (more r t f) d i l m k w v =
          let fw = fit_append i (listed d r t) (listed_f d f) w in
          let ov = ok-append (listed d r t) (listed_f d f) v in
          let one = tree-fits t d r i fw.0 ov.0 in
          let e : i + length (listed d r t) ≡ i + nodes t = ap (λ (z : ℕ). i + z) (listed-length t d r) in
          let rest = forest-fits f d (i + nodes t) (omega arith) m one.2 (subst (λ (z : ℕ). Fit z (listed_f d f)) e fw.1) ov.1 in (
            both-and (leb r most_role && each ok t) (each_f ok f) (both-and (leb r most_role) (each ok t) (le→leb _ _ (fit-first t d r i fw.0 l)) one.0) rest.0,
            omega (arith, one.1, rest.1),
            omega (arith, rest.2),
          )

    -- ---- the list of a tree that keeps to the bounds

    mutual
      unfolding listed Fit Ok each levels nodes

      pub fits-tree : (t : Tree L) (d r i : ℕ) → (0 < i → r ≤ most_role) → T (each ok t) → d + levels t ≤ most_levels → i + nodes t ≤ most_nodes
          → Fit i (listed d r t) × Ok (listed d r t)
      fits-tree (node a f) d r i role w l m =
          let p = and_both (ok a) (each_f ok f) w in
          let g = fits-forest f (suc d) (suc i) p.1 (omega (arith, l)) (omega (arith, m)) in
          (((role, omega (arith, l), omega (arith, m)), g.0), (p.0, g.1))

      fits-forest : (f : Forest L) (d i : ℕ) → T (each_f ok f) → d + levels_f f ≤ most_levels → i + nodes_f f ≤ most_nodes → Fit i (listed_f d f) × Ok (listed_f d f)
      fits-forest none d i w l m = (tt, tt)
      fits-forest (more r t f) d i w l m =
          let p = and_both (leb r most_role && each ok t) (each_f ok f) w in
          let q = and_both (leb r most_role) (each ok t) p.0 in
          let one = fits-tree t d r i (λ z. leb→le _ _ q.0) q.1 (omega (arith, l)) (omega (arith, m)) in
          let e : i + nodes t ≡ i + length (listed d r t) = ap (λ (z : ℕ). i + z) (sym (listed-length t d r)) in
          let rest = fits-forest f d (i + nodes t) p.1 (omega (arith, l)) (omega (arith, m)) in
          (append-fit i (listed d r t) (listed_f d f) one.0 (subst (λ (z : ℕ). Fit z (listed_f d f)) e rest.0), append-ok (listed d r t) (listed_f d f) one.1 rest.1)

-- ---- what the tests say

-- at a node that is not the root the role is tested
role-test : (i r : ℕ) → (ltb 0 i && ltb most_role r) ≡ false → 0 < i → r ≤ most_role
role-test i r e l = go (ltb 0 i) (ltb most_role r) refl refl e
  where
    go : (a b : Bool) → ltb 0 i ≡ a → ltb most_role r ≡ b → (a && b) ≡ false → r ≤ most_role
    go true false p q h = le-of-not-below most_role r q
    go true true p q h = absurd (let z : ◌≡◌ {A = ℕ} 0 1 = cc in omega arith)
    go false b p q h = absurd (let z = le-of-not-below 0 i p in omega (arith, l, z))

pub test-role : (i r : ℕ) → (0 < i → r ≤ most_role) → (ltb 0 i && ltb most_role r) ≡ false
test-role i r h = go (dec_lt 0 i)
  where
    go : Dec (0 < i) → (ltb 0 i && ltb most_role r) ≡ false
    go (yes l) = rw (not-below most_role r (h l)) (and-false (ltb 0 i))
      where
        and-false : (b : Bool) → (b && false) ≡ false
        and-false true = refl
        and-false false = refl
    go (no n) = rw (not-below 0 i (omega (arith, n))) refl

pub node-fits : (i : ℕ) (x : Listed ℕ) → node_fits i x ≡ good tt → Fits i x
unfolding node_fits refuse_if
node-fits i x e =
    let a = passed _ _ _ e in
    let b = passed _ _ _ a.1 in
    (role-test i x.role a.0, lt_of_not_le _ _ b.0, lt_of_not_le _ _ (opened (leb most_nodes i) b.1))
  where
    opened : (b : Bool) → refuse_if b (on_call 10) ≡ good tt → b ≡ false
    opened true h = absurd (not_good h)
    opened false h = refl

pub fits-node : (i : ℕ) (x : Listed ℕ) → Fits i x → node_fits i x ≡ good tt
unfolding node_fits refuse_if
fits-node i x w = pass _ _ _ (test-role i x.role w.0) ∙ pass _ _ _ (not-le _ _ w.1) ∙ rw (not-le most_nodes i w.2) refl

pub nodes-fit : (i : ℕ) (xs : List (Listed ℕ)) → nodes_fit i xs ≡ good tt → Fit i xs
unfolding nodes_fit Fit
nodes-fit i [] e = tt
nodes-fit i (x ∷ xs) e = let a = gone (node_fits i x) _ e in (node-fits i x a.0, nodes-fit (suc i) xs a.1)

pub fit-nodes : (i : ℕ) (xs : List (Listed ℕ)) → Fit i xs → nodes_fit i xs ≡ good tt
unfolding nodes_fit Fit
fit-nodes i [] w = refl
fit-nodes i (x ∷ xs) w = went (node_fits i x) _ (fits-node i x w.0) ∙ fit-nodes (suc i) xs w.1
