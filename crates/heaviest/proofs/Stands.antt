-- A node's children by their rows: they stand one behind the other, and each holds its own tree.
-- Assumes nothing.
use mathlib.Core.Path.{◌≡◌, refl, sym, subst}
use mathlib.Core.Logic.{◌⊎◌, inl, inr}
use mathlib.Core.List.{List}
use Prim.Native.Nat.{ℕ, ◌+◌, ◌-◌, ◌≤◌, ◌<◌}
use native.Mathlib.Omega.{arith}
use lib.ListN.{get_or}
use Rattle.meaning.specs.Tree.{node, Forest, none, more, Concept, children}
use Rattle.meaning.specs.Rows.{Holds, HoldsF}
use Rattle.meaning.proofs.Rows.{opened}
use Rattle.heaviest.specs.Heavy.{Stands}

module _ (names roles ends : List ℕ) where
  -- the tree at row c, one of those from row i up to e
  pub record Place (left i e c : ℕ) (u : Concept) : Type 0 where
    pub behind : i ≤ c
    pub inside : c < get_or ends c 0
    pub within : get_or ends c 0 ≤ e
    pub held : Holds names roles ends u left c (get_or ends c 0)

  pub stands-place : (f : Forest ℕ) (left i e c : ℕ) (u : Concept) → HoldsF names roles ends f left i e → Stands ends f i c u → Place left i e c u
  unfolding Holds Stands
  stands-place none left i e c u h s = absurd s
  stands-place (more r t f) left i e c u h s = go s (λ q. stands-place f left (get_or ends i 0) e c u h.3 q)
    where
      go : ((i ≡ c) × (t ≡ u)) ⊎ Stands ends f (get_or ends i 0) c u → (Stands ends f (get_or ends i 0) c u → Place left (get_or ends i 0) e c u) → Place left i e c u
      go (inl q) k =
          let here : i < get_or ends i 0 = (opened names roles ends t left i (get_or ends i 0) h.2).inside in
          let within : get_or ends i 0 ≤ e = h.1 in
          subst (λ (z : ℕ). Place left i e z u) q.0 (subst (λ (z : Concept). Place left i e i z) q.1
          (record { behind = omega arith; inside = here; within = within; held = h.2 }))
      go (inr q) k =
          let p = k q in
          let here : i < get_or ends i 0 = (opened names roles ends t left i (get_or ends i 0) h.2).inside in
          record { behind = omega (arith, p.behind); inside = p.inside; within = p.within; held = p.held }

  -- of two of them the one ends where the other begins, or before
  pub stands-apart : (f : Forest ℕ) (left i e a b : ℕ) (t u : Concept) → HoldsF names roles ends f left i e → Stands ends f i a t → Stands ends f i b u → a < b
      → get_or ends a 0 ≤ b
  unfolding Holds Stands
  stands-apart none left i e a b t u h p q l = absurd p
  stands-apart (more r v f) left i e a b t u h p q l = go p q (λ x y. stands-apart f left (get_or ends i 0) e a b t u h.3 x y l)
    where
      go : ((i ≡ a) × (v ≡ t)) ⊎ Stands ends f (get_or ends i 0) a t → ((i ≡ b) × (v ≡ u)) ⊎ Stands ends f (get_or ends i 0) b u
          → (Stands ends f (get_or ends i 0) a t → Stands ends f (get_or ends i 0) b u → get_or ends a 0 ≤ b) → get_or ends a 0 ≤ b
      go (inl x) (inl y) k = absurd (omega (arith, x.0, y.0))
      go (inl x) (inr y) k = subst (λ (z : ℕ). get_or ends z 0 ≤ b) x.0 (stands-place f left (get_or ends i 0) e b u h.3 y).behind
      go (inr x) (inl y) k =
          absurd (let z = (stands-place f left (get_or ends i 0) e a t h.3 x).behind in
          let here : i < get_or ends i 0 = (opened names roles ends v left i (get_or ends i 0) h.2).inside in omega (arith, y.0))
      go (inr x) (inr y) k = k x y

  -- where there are some, one stands at the first row
  pub stands-first : (f : Forest ℕ) (left i e : ℕ) → HoldsF names roles ends f left i e → i < e → (u : Concept) × Stands ends f i i u
  unfolding Holds Stands
  stands-first none left i e h l = absurd (let z : i ≡ e = h in omega arith)
  stands-first (more r t f) left i e h l = (t, inl (refl, refl))

  -- the next
  pub stands-next : (f : Forest ℕ) (left i e c : ℕ) (u : Concept) → HoldsF names roles ends f left i e → Stands ends f i c u → get_or ends c 0 < e
      → (t : Concept) × Stands ends f i (get_or ends c 0) t
  unfolding Holds Stands
  stands-next none left i e c u h s l = absurd s
  stands-next (more r v f) left i e c u h s l = go s (λ q. stands-next f left (get_or ends i 0) e c u h.3 q l)
    where
      go : ((i ≡ c) × (v ≡ u)) ⊎ Stands ends f (get_or ends i 0) c u
          → (Stands ends f (get_or ends i 0) c u → (t : Concept) × Stands ends f (get_or ends i 0) (get_or ends c 0) t)
          → (t : Concept) × (((i ≡ get_or ends c 0) × (v ≡ t)) ⊎ Stands ends f (get_or ends i 0) (get_or ends c 0) t)
      go (inl q) k =
          let m : get_or ends i 0 < e = subst (λ (z : ℕ). get_or ends z 0 < e) (sym q.0) l in
          let n = stands-first f left (get_or ends i 0) e h.3 m in
          (n.0, inr (subst (λ (z : ℕ). Stands ends f (get_or ends i 0) (get_or ends z 0) n.0) q.0 n.1))
      go (inr q) k = let n = k q in (n.0, inr n.1)

  -- the children of the tree at a row
  pub below : (t : Concept) (left i e : ℕ) → Holds names roles ends t left i e → HoldsF names roles ends (children t) (left - 1) (i + 1) e
  unfolding Holds
  below (node a f) left i e h = h.4
