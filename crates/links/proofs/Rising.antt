-- Links rise by (from, role, to) exactly when the numbers of their five bytes do.
-- Assumes nothing.
use mathlib.Core.Path.{◌≡◌, refl, sym, ◌∙◌, subst}
use mathlib.Core.Logic.{◌⊎◌, inl, inr}
use mathlib.Core.Bool.{Bool, ◌&&◌, ◌||◌}
use mathlib.Core.Option.{Option, some}
use mathlib.Core.Option.{none as nowhere}
use Prim.Native.Nat.{ℕ, ◌+◌, ◌≤◌, ◌<◌}
use native.Mathlib.Decide.{dec_lt}
use native.Mathlib.Omega.{arith}
use lib.Dec.{T, ltb, leb, eqb, ltb→lt, lt→ltb, leb→le, le→leb, eqb→eq, eqb_refl}
use Rattle.meaning.specs.Register.{Link, rises, above}
use Rattle.meaning.proofs.Tests.{bool_eq, and_both, both-and, or_cases, or_left, or_right}
use Rattle.meaning.proofs.Reading.{at_most}
use Rattle.links.specs.Links.{key, Small, Floor}

module _ (l m : Link) (a : Small l) (b : Small m) where
  abbrev later : Bool
  later = ltb l.role m.role || eqb l.role m.role && ltb l.to m.to

  up : T (rises l m) → key l + 1 ≤ key m
  up t = go (or_cases (ltb l.from m.from) (eqb l.from m.from && later) t)
    where
      inner : l.from ≡ m.from → T (ltb l.role m.role) ⊎ T (eqb l.role m.role && ltb l.to m.to) → key l + 1 ≤ key m
      inner e (inl u) = omega (arith, ltb→lt l.role m.role u, a.0, a.1, b.0, b.1)
      inner e (inr u) =
          let q = and_both (eqb l.role m.role) (ltb l.to m.to) u in
          omega (arith, eqb→eq l.role m.role q.0, ltb→lt l.to m.to q.1, a.0, a.1, b.0, b.1)

      go : T (ltb l.from m.from) ⊎ T (eqb l.from m.from && later) → key l + 1 ≤ key m
      go (inl u) = omega (arith, ltb→lt l.from m.from u, a.0, a.1, b.0, b.1)
      go (inr u) =
          let q = and_both (eqb l.from m.from) later u in
          inner (eqb→eq _ _ q.0) (or_cases (ltb l.role m.role) (eqb l.role m.role && ltb l.to m.to) q.1)

  same : {x y : ℕ} → x ≡ y → T (eqb x y)
  same {x} {y} e = subst (λ (z : ℕ). T (eqb x z)) e (eqb_refl x)

  down : key l + 1 ≤ key m → T (rises l m)
  down h = go (dec_lt l.from m.from)
    where
      last : (l.from < m.from → ⊥) → Dec (l.role < m.role) → T later
      last f (yes r) = or_left (ltb l.role m.role) _ (lt→ltb _ _ r)
      last f (no r) =
          let e : l.role ≡ m.role = omega (arith, a.0, a.1, b.0, b.1) in
          let t : l.to < m.to = omega (arith, a.0, a.1, b.0, b.1) in
          or_right (ltb l.role m.role) _ (both-and (eqb l.role m.role) _ (same e) (lt→ltb _ _ t))

      go : Dec (l.from < m.from) → T (rises l m)
      go (yes f) = or_left (ltb l.from m.from) _ (lt→ltb _ _ f)
      go (no f) =
          let e : l.from ≡ m.from = omega (arith, a.0, a.1, b.0, b.1) in
          or_right (ltb l.from m.from) _ (both-and (eqb l.from m.from) later (same e) (last f (dec_lt l.role m.role)))

  pub rises-key : rises l m ≡ leb (key l + 1) (key m)
  rises-key = bool_eq (rises l m) (leb (key l + 1) (key m)) (λ t. le→leb _ _ (up t)) (λ t. down (leb→le _ _ t))

pub above_floor : (before : Option Link) (f : ℕ) (m : Link) → Floor before f → Small m → above before m ≡ leb f (key m)
above_floor nowhere f m e b = sym (at_most f (key m) (omega arith))
above_floor (some l) f m e b = rises-key l m (e.1, e.2) b ∙ rw e.0 refl
