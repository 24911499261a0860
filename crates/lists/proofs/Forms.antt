-- Number 22, node after node and threshold after threshold.
-- Assumes nothing.
use mathlib.Core.Path.{◌≡◌, refl, sym, ap, ap₂, ◌∙◌}
use mathlib.Core.Bool.{Bool, true, false, ◌&&◌}
use mathlib.Core.List.{List, ◌∷◌}
use Prim.Native.Nat.{ℕ, suc, ◌+◌, ◌*◌, ◌-◌, ◌/◌, ◌≤◌, ◌<◌}
use native.Mathlib.Omega.{arith}
use lib.Dec.{T, eqb, eqb→eq}
use lib.ListN.{length, get_or}
use Rattle.meaning.specs.Lists.{Listed, go_on, form_tree, stand_at}
use Rattle.meaning.specs.Writing.{nodes_from, nodes_in, inners_at, limit_at, limits_from, shared_out}
use Rattle.meaning.proofs.Tests.{bool_eq, is-eqb}
use Rattle.meaning.proofs.Reading.{not-below, below, at_most, not-le}
use Rattle.meaning.proofs.Lists.{same, other}
use Rattle.lists.specs.Handed.{nodes_to}
use Rattle.lists.proofs.Peeled.{node-first, node-none, nodes-many, limit-first, limit-none, shared-first, shared-none}

-- ---- a tree

module _ (list : List ℕ) (k end : ℕ) where
  pub form-none : end ≤ k → false ≡ form_tree (nodes_to list k end)
  unfolding form_tree
  form-none h = sym (ap form_tree (node-none list k end h))

  pub form-deep : (d : ℕ) → k < end → d ≡ get_or list (3 * k + 1) 0 → (d ≡ 0 → ⊥) → false ≡ form_tree (nodes_to list k end)
  unfolding form_tree
  form-deep d h e n = sym (ap form_tree (node-first list k end h) ∙ rw (other (get_or list (3 * k + 1) 0) 0 (λ z. n (e ∙ z))) refl)

  pub form-first : (d : ℕ) → k < end → d ≡ get_or list (3 * k + 1) 0 → d ≡ 0 → form_tree (nodes_to list k end) ≡ go_on 0 (nodes_to list (k + 1) end)
  unfolding form_tree
  form-first d h e z = ap form_tree (node-first list k end h) ∙ rw (same (get_or list (3 * k + 1) 0) 0 (sym e ∙ z)) refl

  pub on_none : (b : ℕ) → end ≤ k → true ≡ go_on b (nodes_to list k end)
  unfolding go_on
  on_none b h = sym (ap (go_on b) (node-none list k end h))

  pub on-low : (b d : ℕ) → k < end → d ≡ get_or list (3 * k + 1) 0 → d < 1 → false ≡ go_on b (nodes_to list k end)
  unfolding go_on
  on-low b d h e l = sym (ap (go_on b) (node-first list k end h) ∙ rw (not-le 1 (get_or list (3 * k + 1) 0) (omega (arith, e, l))) refl)

  pub on-jump : (b d : ℕ) → k < end → d ≡ get_or list (3 * k + 1) 0 → 1 ≤ d → b < d - 1 → false ≡ go_on b (nodes_to list k end)
  unfolding go_on
  on-jump b d h e l m =
      let x = get_or list (3 * k + 1) 0 in
      sym (ap (go_on b) (node-first list k end h) ∙ rw (at_most 1 x (omega (arith, e, l)), not-le x (suc b) (omega (arith, e, m))) refl)

  pub on-next : (b d : ℕ) → k < end → d ≡ get_or list (3 * k + 1) 0 → 1 ≤ d → d - 1 ≤ b → go_on b (nodes_to list k end) ≡ go_on d (nodes_to list (k + 1) end)
  unfolding go_on
  on-next b d h e l m =
      let x = get_or list (3 * k + 1) 0 in
      ap (go_on b) (node-first list k end h) ∙ rw (at_most 1 x (omega (arith, e, l)), at_most x (suc b) (omega (arith, e, l, m))) refl
      ∙ ap (λ (z : ℕ). go_on z (nodes_to list (k + 1) end)) (sym e)

-- ---- thresholds

and-off : (a b : Bool) → b ≡ false → (a && b) ≡ false
and-off true b e = e
and-off false b e = refl

off-and : (a b : Bool) → a ≡ false → (a && b) ≡ false
off-and a b e = rw e refl

-- the thresholds from the j-th on stand, of m, with the inner nodes from `used` on, of all
abbrev Standing : List ℕ → List ℕ → ℕ → ℕ → ℕ → ℕ → ℕ → ℕ → Bool
Standing hs inner n m all before used j = shared_out hs j (m - j) (all - used) && stand_at n before (limits_from hs inner j used (m - j))

module _ (hs inner : List ℕ) (n m all before used j : ℕ) where
  standing-none : m ≤ j → used ≤ all → eqb used all ≡ Standing hs inner n m all before used j
  unfolding stand_at
  standing-none h l =
      sym (ap₂ ◌&&◌ (shared-none hs j m (all - used) h) (ap (stand_at n before) (limit-none hs inner j used m h))
      ∙ bool_eq (eqb (all - used) 0 && true) (eqb used all) (there (eqb (all - used) 0) refl) (back (eqb used all) refl))
    where
      there : (b : Bool) → eqb (all - used) 0 ≡ b → T (b && true) → T (eqb used all)
      there true e t = let z = eqb→eq (all - used) 0 (rw e tt) in let y : used ≡ all = omega (arith, z, l) in is-eqb y
      there false e t = absurd t

      back : (b : Bool) → eqb used all ≡ b → T b → T (eqb (all - used) 0 && true)
      back true e t = let z = eqb→eq used all (rw e tt) in rw (same (all - used) 0 (omega (arith, z))) tt
      back false e t = absurd t

  module _ (h : j < m) where
    -- the node of the j-th
    abbrev owner : ℕ
    owner = get_or hs (5 * j) 0

    -- thresholds that do not stand
    fallen : stand_at n before (limit_at hs inner j used ∷ limits_from hs inner (j + 1) (used + inners_at hs j) (m - (j + 1))) ≡ false
        → false ≡ Standing hs inner n m all before used j
    fallen e = sym (and-off (shared_out hs j (m - j) (all - used)) _ (ap (stand_at n before) (limit-first hs inner j used m h) ∙ e))

    standing-outside : n ≤ owner → false ≡ Standing hs inner n m all before used j
    unfolding stand_at
    standing-outside l = fallen (rw (not-below owner n l) refl)

    standing-lower : owner < n → owner < before → false ≡ Standing hs inner n m all before used j
    unfolding stand_at
    standing-lower l b = fallen (rw (below owner n l, not-le before owner b) refl)

    standing-short : all - used < inners_at hs j → false ≡ Standing hs inner n m all before used j
    standing-short l = sym (off-and _ _ (shared-first hs j m (all - used) h ∙ rw (not-le (inners_at hs j) (all - used) l) refl))

    standing-unformed : owner < n → before ≤ owner → form_tree (nodes_from inner used (inners_at hs j)) ≡ false
        → false ≡ Standing hs inner n m all before used j
    unfolding stand_at
    standing-unformed l b e = fallen (rw (below owner n l, at_most before owner b, e) refl)

    standing-next : owner < n → before ≤ owner → inners_at hs j ≤ all - used → form_tree (nodes_from inner used (inners_at hs j)) ≡ true
        → Standing hs inner n m all before used j ≡ Standing hs inner n m all owner (used + inners_at hs j) (j + 1)
    unfolding stand_at
    standing-next l b s e =
        let d : all - used - inners_at hs j ≡ all - (used + inners_at hs j) = omega arith in
        let shares : shared_out hs j (m - j) (all - used) ≡ shared_out hs (j + 1) (m - (j + 1)) (all - (used + inners_at hs j)) =
        shared-first hs j m (all - used) h ∙ rw (at_most (inners_at hs j) (all - used) s) (ap (shared_out hs (j + 1) (m - (j + 1))) d) in
        let stands : stand_at n before (limits_from hs inner j used (m - j))
        ≡ stand_at n owner (limits_from hs inner (j + 1) (used + inners_at hs j) (m - (j + 1))) =
        ap (stand_at n before) (limit-first hs inner j used m h) ∙ rw (below owner n l, at_most before owner b, e) refl in
        ap₂ ◌&&◌ shares stands

-- all of them
abbrev pub StandingAll : List ℕ → List ℕ → ℕ → Bool
StandingAll hs inner n = shared_out hs 0 (length hs / 5) (length inner / 3) && stand_at n 0 (limits_from hs inner 0 0 (length hs / 5))

-- the thresholds before the j-th stand
pub record Stood (hs inner : List ℕ) (n before used j : ℕ) : Type 0 where
  pub here : j ≤ length hs / 5
  pub few : used ≤ length inner / 3
  pub rest : StandingAll hs inner n ≡ Standing hs inner n (length hs / 5) (length inner / 3) before used j

pub stood-none : (hs inner : List ℕ) (n : ℕ) → Stood hs inner n 0 0 0
stood-none hs inner n =
    let m : length hs / 5 ≡ length hs / 5 - 0 = omega arith in
    let k : length inner / 3 ≡ length inner / 3 - 0 = omega arith in
    record { here = omega arith; few = omega arith; rest = ap₂ (λ (y z : ℕ). shared_out hs 0 y z && stand_at n 0 (limits_from hs inner 0 0 y)) m k }

-- what the tests of the j-th say: its node is `owner`, and it has `count` inner nodes
module _ {hs inner : List ℕ} {n before used j : ℕ} (w : Stood hs inner n before used j) where
  pub stood-all : {all : ℕ} → length hs / 5 ≤ j → all ≡ length inner / 3 → eqb used all ≡ StandingAll hs inner n
  stood-all l e = ap (eqb used) e ∙ standing-none hs inner n (length hs / 5) (length inner / 3) before used j l w.few ∙ sym w.rest

  module _ {owner : ℕ} (l : j < length hs / 5) (its : owner ≡ get_or hs (5 * j) 0) where
    pub stood-outside : n ≤ owner → false ≡ StandingAll hs inner n
    stood-outside h = standing-outside hs inner n (length hs / 5) (length inner / 3) before used j l (omega (arith, its, h)) ∙ sym w.rest

    pub stood-lower : owner < n → owner < before → false ≡ StandingAll hs inner n
    stood-lower h b =
        standing-lower hs inner n (length hs / 5) (length inner / 3) before used j l (omega (arith, its, h)) (omega (arith, its, b)) ∙ sym w.rest

    module _ {count : ℕ} (c : count ≡ inners_at hs j) where
      pub stood-short : length inner / 3 - used < count → false ≡ StandingAll hs inner n
      stood-short h = standing-short hs inner n (length hs / 5) (length inner / 3) before used j l (omega (arith, c, h)) ∙ sym w.rest

      formed : {t : Bool} {xs : List (Listed ℕ)} → xs ≡ nodes_from inner used count → t ≡ form_tree xs → form_tree (nodes_from inner used (inners_at hs j)) ≡ t
      formed p e = ap (λ (z : ℕ). form_tree (nodes_from inner used z)) (sym c) ∙ ap form_tree (sym p) ∙ sym e

      pub stood-unformed : {t : Bool} {xs : List (Listed ℕ)} → owner < n → before ≤ owner → xs ≡ nodes_from inner used count → t ≡ form_tree xs → t ≡ false
          → false ≡ StandingAll hs inner n
      stood-unformed h b p e f =
          standing-unformed hs inner n (length hs / 5) (length inner / 3) before used j l (omega (arith, its, h)) (omega (arith, its, b)) (formed p e ∙ f)
          ∙ sym w.rest

      pub stood-more : {t : Bool} {xs : List (Listed ℕ)} → owner < n → before ≤ owner → count ≤ length inner / 3 - used → xs ≡ nodes_from inner used count
          → t ≡ form_tree xs → t ≡ true → Stood hs inner n owner (used + count) (j + 1)
      stood-more h b s p e f = record {
        here = omega arith;
        few = omega (arith, s, w.few);
        rest = w.rest
            ∙ standing-next hs inner n (length hs / 5) (length inner / 3) before used j l (omega (arith, its, h)) (omega (arith, its, b)) (omega (arith, c, s))
            (formed p e ∙ f)
            ∙ ap₂ (λ (y z : ℕ). Standing hs inner n (length hs / 5) (length inner / 3) y (used + z) (j + 1)) (sym its) (sym c);
      }

-- ---- the whole

pub nodes_whole : (nodes : List ℕ) → nodes_to nodes 0 (length nodes / 3) ≡ nodes_in nodes
nodes_whole nodes = let z : length nodes / 3 - 0 ≡ length nodes / 3 = omega arith in ap (nodes_from nodes 0) z

pub nodes_count : (nodes : List ℕ) → length (nodes_in nodes) ≡ length nodes / 3
nodes_count nodes = nodes-many nodes 0 (length nodes / 3)
