-- Rows that are the same in a range hold the same trees there.
-- Assumes nothing.
use mathlib.Core.Path.{◌≡◌, sym, ◌∙◌, subst}
use mathlib.Core.List.{List}
use Prim.Native.Nat.{ℕ, ◌+◌, ◌-◌, ◌≤◌, ◌<◌}
use native.Mathlib.Omega.{arith}
use lib.ListN.{get_or}
use Rattle.meaning.specs.Tree.{node, Forest, none, more, Concept}
use Rattle.meaning.specs.Rows.{Holds, HoldsF}

-- from i up to e two arrays are the same
abbrev pub Alike : ℕ → ℕ → List ℕ → List ℕ → Type 0
Alike i e old new = (k : ℕ) → i ≤ k → k < e → get_or new k 0 ≡ get_or old k 0

module _ (N R E : List ℕ) where
  -- a tree takes a row
  pub tree-some : (t : Concept) (left i e : ℕ) → Holds N R E t left i e → i < e
  unfolding Holds
  tree-some (node a f) left i e h = h.1

module _ (N R E N' R' E' : List ℕ) where
  mutual
    unfolding Holds

    pub tree-same : (t : Concept) (left i e : ℕ) → Alike i e N N' → Alike i e R R' → Alike i e E E' → Holds N R E t left i e → Holds N' R' E' t left i e
    tree-same (node a f) left i e n r d h = (
      h.0,
      h.1,
      n i (omega arith) h.1 ∙ h.2,
      d i (omega arith) h.1 ∙ h.3,
      forest-same f (left - 1) (i + 1) e (λ k x y. n k (omega arith) y) (λ k x y. r k (omega arith) y) (λ k x y. d k (omega arith) y) h.4,
    )

    pub forest-same : (f : Forest ℕ) (left i e : ℕ) → Alike i e N N' → Alike i e R R' → Alike i e E E' → HoldsF N R E f left i e → HoldsF N' R' E' f left i e
    forest-same none left i e n r d h = h
    forest-same (more s t f) left i e n r d h =
        let m = get_or E i 0 in
        let b : i < m = tree-some N R E t left i m h.2 in
        let same : get_or E' i 0 ≡ m = d i (omega arith) (omega (arith, h.1)) in
        let here = tree-same t left i m (λ k x y. n k x (omega (arith, h.1))) (λ k x y. r k x (omega (arith, h.1))) (λ k x y. d k x (omega (arith, h.1))) h.2 in
        let rest = forest-same f left m e (λ k x y. n k (omega arith) y) (λ k x y. r k (omega arith) y) (λ k x y. d k (omega arith) y) h.3 in (
          r i (omega arith) (omega (arith, h.1)) ∙ h.0,
          omega (arith, h.1),
          subst (λ (z : ℕ). Holds N' R' E' t left i z) (sym same) here,
          subst (λ (z : ℕ). HoldsF N' R' E' f left z e) (sym same) rest,
        )
