-- All kept children of a node but the one at a row: what they count, their scale, their part of the sum. With the one they make up all.
-- Assumes nothing.
use mathlib.Core.Path.{◌≡◌, refl, sym, ap, subst, ◌∙◌}
use mathlib.Core.Bool.{Bool, true, false, ◌||◌, cond, or-false, or-true}
use mathlib.Core.Logic.{◌⊎◌, inl, inr}
use mathlib.Core.List.{List}
use Prim.Native.Nat.{ℕ, ◌+◌, ◌*◌, ◌≤◌, ◌<◌}
use native.Mathlib.Nat.{mul-le-mul_left}
use native.Mathlib.Omega.{arith}
use lib.Dec.{eqb}
use lib.ListN.{get_or}
use borrow.Author.Tests.{eq-eqb, ne_eqb}
use Rattle.meaning.specs.Tree.{Forest, none, more, Concept, under}
use Rattle.meaning.specs.Graph.{Graph}
use Rattle.meaning.specs.Reduce.{dropped, reduce}
use Rattle.meaning.specs.Degree.{best}
use Rattle.meaning.specs.InPlace.{count_in, scale_in, scale_in_f, degree_in, degree_in_f}
use Rattle.meaning.specs.Rows.{Holds, HoldsF, mark, Marked, MarkedF}
use Rattle.meaning.proofs.Scale.{scale-pos}
use Rattle.meaning.proofs.InPlace.{scale_in_lem}
use Rattle.meaning.proofs.Rows.{opened}
use Rattle.heaviest.specs.Heavy.{Stands}
use Rattle.heaviest.proofs.Stands.{stands-place}

-- a mark says whether the node is dropped
pub mark-zero : (d : Bool) → mark d ≡ 0 → d ≡ true
mark-zero true e = refl
mark-zero false e = absurd (let z : ◌≡◌ {A = ℕ} 1 0 = e in omega arith)

pub mark-other : (d : Bool) → (mark d ≡ 0 → ⊥) → d ≡ false
mark-other true e = absurd (e refl)
mark-other false e = refl

-- a kept child is marked
pub stands-marked : (ends marks : List ℕ) (f b : Forest ℕ) (i c : ℕ) (u : Concept) → MarkedF ends marks f b i → Stands ends f i c u → (get_or marks c 0 ≡ 0 → ⊥)
    → Marked ends marks u c
unfolding Marked Stands
stands-marked ends marks none b i c u m s k = absurd s
stands-marked ends marks (more r t f) b i c u m s k = go s (λ q. stands-marked ends marks f (more r t b) (get_or ends i 0) c u m.2 q k)
  where
    go : ((i ≡ c) × (t ≡ u)) ⊎ Stands ends f (get_or ends i 0) c u → (Stands ends f (get_or ends i 0) c u → Marked ends marks u c) → Marked ends marks u c
    go (inl q) next =
        let kept : dropped (under r b) t (under r f) ≡ false = mark-other _ (λ z. k (ap (λ (y : ℕ). get_or marks y 0) (sym q.0) ∙ m.0 ∙ z)) in
        subst (λ (z : ℕ). Marked ends marks u z) q.0 (subst (λ (z : Concept). Marked ends marks z i) q.1 (m.1 (m.0 ∙ ap mark kept)))
    go (inr q) next = next q

pub scale-in-pos : (t : Concept) → 0 < scale_in t
scale-in-pos t = rw (← scale_in_lem t) (scale-pos (reduce t))

-- a child that is left out is turned past one that is dropped or not
count-turned : (d : Bool) (a : ℕ) → cond d (1 + a) (1 + (1 + a)) ≡ 1 + cond d a (1 + a)
count-turned true a = refl
count-turned false a = refl

scale-turned : (d : Bool) (a c k : ℕ) → cond d (c * k) (a * (c * k)) ≡ c * cond d k (a * k)
scale-turned true a c k = refl
scale-turned false a c k = omega arith

sum-turned : (d : Bool) (v a w c k s : ℕ) → cond d (w * k + c * s) (v * (c * k) + a * (w * k + c * s)) ≡ w * cond d k (a * k) + c * cond d s (v * k + a * s)
sum-turned true v a w c k s = refl
sum-turned false v a w c k s = omega arith

-- The children f stand from row i on, and before them the children b are written; the one at row h is left out.
module _ (ends : List ℕ) (h : ℕ) where
  unfoldable pub count_but : Forest ℕ → Forest ℕ → ℕ → ℕ
  unfolding dropped under
  count_but none b i = 0
  count_but (more r t f) b i =
      cond (dropped (under r b) t (under r f) || eqb i h) (count_but f (more r t b) (get_or ends i 0)) (1 + count_but f (more r t b) (get_or ends i 0))

  unfoldable pub scale_but : Forest ℕ → Forest ℕ → ℕ → ℕ
  unfolding dropped under
  scale_but none b i = 1
  scale_but (more r t f) b i =
      cond (dropped (under r b) t (under r f) || eqb i h) (scale_but f (more r t b) (get_or ends i 0)) (scale_in t * scale_but f (more r t b) (get_or ends i 0))

  module _ (G : Graph ℕ) where
    unfoldable pub degree_but : Forest ℕ → Forest ℕ → ℕ → ℕ → ℕ
    unfolding dropped under scale_but
    degree_but none b i x = 0
    degree_but (more r t f) b i x =
        cond (dropped (under r b) t (under r f) || eqb i h) (degree_but f (more r t b) (get_or ends i 0) x)
        (best (λ y. degree_in G t y) (G.next x r) * scale_but f (more r t b) (get_or ends i 0) + scale_in t * degree_but f (more r t b) (get_or ends i 0) x)

  pub but-pos : (f b : Forest ℕ) (i : ℕ) → 0 < scale_but f b i
  unfolding scale_but
  but-pos none b i = omega arith
  but-pos (more r t f) b i = go (dropped (under r b) t (under r f) || eqb i h) (but-pos f (more r t b) (get_or ends i 0))
    where
      go : (d : Bool) → 0 < scale_but f (more r t b) (get_or ends i 0)
          → 0 < cond d (scale_but f (more r t b) (get_or ends i 0)) (scale_in t * scale_but f (more r t b) (get_or ends i 0))
      go true p = p
      go false p = omega (arith, mul-le-mul_left (scale_in t) p, scale-in-pos t)

  module _ (names roles marks : List ℕ) (G : Graph ℕ) where
    -- of some children: none of them is left out
    pub record All (f b : Forest ℕ) (i : ℕ) : Type 0 where
      pub count : count_in f b ≡ count_but f b i
      pub scale : scale_in_f f b ≡ scale_but f b i
      pub sum : (x : ℕ) → degree_in_f G f b x ≡ degree_but G f b i x

    -- the one that is left out is u
    pub record One (f b : Forest ℕ) (i : ℕ) (u : Concept) : Type 0 where
      pub count : count_in f b ≡ 1 + count_but f b i
      pub scale : scale_in_f f b ≡ scale_in u * scale_but f b i
      pub sum : (x : ℕ) → degree_in_f G f b x ≡ best (λ y. degree_in G u y) (G.next x (get_or roles h 0)) * scale_but f b i + scale_in u * degree_but G f b i x

    -- no child stands at the row
    pub but-all : (f b : Forest ℕ) (left i e : ℕ) → HoldsF names roles ends f left i e → ((j : ℕ) → i ≤ j → j < e → j ≡ h → ⊥) → All f b i
    unfolding Holds count_but degree_but count_in scale_in degree_in
    but-all none b left i e w n = record { count = refl; scale = refl; sum = λ x. refl }
    but-all (more r t f) b left i e w n =
        let o : i < get_or ends i 0 = (opened names roles ends t left i (get_or ends i 0) w.2).inside in
        let l : get_or ends i 0 ≤ e = w.1 in
        let q = but-all f (more r t b) left (get_or ends i 0) e w.3 (λ j p m. n j (omega arith) m) in
        let same : (dropped (under r b) t (under r f) || eqb i h) ≡ dropped (under r b) t (under r f) =
        rw (ne_eqb i h (n i (omega arith) (omega arith))) (or-false (dropped (under r b) t (under r f))) in
        record { count = rw (same, q.count); scale = rw (same, q.scale); sum = λ x. rw (same, q.scale, q.sum x) }

    -- the child at the row is kept
    pub but-one : (f b : Forest ℕ) (left i e : ℕ) (u : Concept) → HoldsF names roles ends f left i e → MarkedF ends marks f b i → Stands ends f i h u
        → (get_or marks h 0 ≡ 0 → ⊥) → One f b i u
    unfolding Holds Marked Stands count_but degree_but count_in scale_in degree_in
    but-one none b left i e u w m s k = absurd s
    but-one (more r t f) b left i e u w m s k =
        go s (λ q. but-one f (more r t b) left (get_or ends i 0) e u w.3 m.2 q k)
      where
        ends-behind : i < get_or ends i 0
        ends-behind = (opened names roles ends t left i (get_or ends i 0) w.2).inside

        go : ((i ≡ h) × (t ≡ u)) ⊎ Stands ends f (get_or ends i 0) h u → (Stands ends f (get_or ends i 0) h u → One f (more r t b) (get_or ends i 0) u) → One (more r t f) b i u
        go (inl q) next =
            let kept : dropped (under r b) t (under r f) ≡ false = mark-other _ (λ z. k (ap (λ (y : ℕ). get_or marks y 0) (sym q.0) ∙ m.0 ∙ z)) in
            let over : (dropped (under r b) t (under r f) || eqb i h) ≡ true = rw (eq-eqb i h q.0) (or-true (dropped (under r b) t (under r f))) in
            let role : get_or roles h 0 ≡ r = ap (λ (z : ℕ). get_or roles z 0) (sym q.0) ∙ w.0 in
            let rest = but-all f (more r t b) left (get_or ends i 0) e w.3 (λ j p l z. let y : j ≡ h = z in let x : i ≡ h = q.0 in omega (arith, ends-behind)) in
            record {
              count = rw (over, kept, rest.count);
              scale = rw (over, kept, ← q.1, rest.scale);
              sum = λ x. rw (over, kept, role, ← q.1, rest.scale, rest.sum x);
            }
        go (inr q) next =
            let p = stands-place names roles ends f left (get_or ends i 0) e h u w.3 q in
            let same : (dropped (under r b) t (under r f) || eqb i h) ≡ dropped (under r b) t (under r f) =
            rw (ne_eqb i h (λ z. let y : i ≡ h = z in omega (arith, ends-behind, p.behind))) (or-false (dropped (under r b) t (under r f))) in
            let rest = next q in
            record {
              count = rw (same, rest.count) (count-turned (dropped (under r b) t (under r f)) _);
              scale = rw (same, rest.scale) (scale-turned (dropped (under r b) t (under r f)) _ _ _);
              sum = λ x. rw (same, rest.scale, rest.sum x) (sum-turned (dropped (under r b) t (under r f)) _ _ _ _ _ _);
            }
