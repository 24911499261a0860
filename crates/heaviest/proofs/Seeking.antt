-- Looking for the child that is folded in first: it is a kept one of the most rows, and there is one where any is kept.
-- Assumes nothing.
use mathlib.Core.Path.{◌≡◌, refl, sym, ap, subst, ◌∙◌}
use mathlib.Core.Bool.{Bool, true, false, ◌||◌, not}
use mathlib.Core.List.{List}
use Prim.Native.Nat.{ℕ, ◌+◌, ◌-◌, ◌≤◌, ◌<◌}
use native.Mathlib.Nat.{le_of_eq}
use native.Mathlib.Decide.{ℕ_discrete}
use native.Mathlib.Omega.{arith}
use lib.Dec.{eqb, ltb}
use lib.ListN.{get_or}
use Rattle.std.specs.Prelude.{Option, Some, None}
use Rattle.std.proofs.lemmas.Option.{none-some, same_Some}
use borrow.Author.Tests.{eqb-true, lt-ltb, ltb-true, ltb-false}
use Rattle.meaning.specs.Tree.{Concept, children}
use Rattle.meaning.specs.Rows.{HoldsF}
use Rattle.meaning.proofs.Tests.{true-false}
use Rattle.meaning.proofs.Rows.{opened}
use Rattle.rows.specs.Rising.{Rising}
use Rattle.rows.proofs.Rising.{rising}
use Rattle.heaviest.specs.Heavy.{Stands, Written, Heavy}
use Rattle.heaviest.proofs.Stands.{Place, stands-place, stands-apart, stands-first, stands-next, below}

module _ {ends : List ℕ} {node : ℕ} (k : Written ends node) (marks : List ℕ) where
  abbrev pub e : ℕ
  e = get_or ends node 0

  abbrev Child : ℕ → Concept → Type 0
  Child c u = Stands ends (children k.tree) (node + 1) c u

  rows : HoldsF k.names k.roles ends (children k.tree) (k.left - 1) (node + 1) e
  rows = below k.names k.roles ends k.tree k.left node e k.held

  pub start-inside : node < 64
  start-inside = let few = k.few in let l = (opened k.names k.roles ends k.tree k.left node e k.held).inside in omega arith

  -- the children may be gone over
  pub start-rises : Rising ends (node + 1) e
  start-rises = rising k.names k.roles ends (children k.tree) (k.left - 1) (node + 1) e rows k.few

  -- the children before row c are looked at; o is the one of most rows so far, or none where all are dropped
  pub record Sought (o : Option ℕ) (most c : ℕ) : Type 0 where
    pub at : c < e → (u : Concept) × Stands ends (children k.tree) (node + 1) c u
    pub empty : o ≡ None → most ≡ 0
    pub none : o ≡ None → (d : ℕ) (u : Concept) → Stands ends (children k.tree) (node + 1) d u → d < c → get_or marks d 0 ≡ 0
    pub some : (h : ℕ) → o ≡ Some h → (get_or marks h 0 ≡ 0 → ⊥) × ((u : Concept) × Stands ends (children k.tree) (node + 1) h u)
    pub size : (h : ℕ) → o ≡ Some h → most ≡ get_or ends h 0 - h
    pub above : (d : ℕ) (u : Concept) → Stands ends (children k.tree) (node + 1) d u → d < c → (get_or marks d 0 ≡ 0 → ⊥) → get_or ends d 0 - d ≤ most

  place : (c : ℕ) (u : Concept) → Child c u → Place k.names k.roles ends (k.left - 1) (node + 1) e c u
  place c u s = stands-place k.names k.roles ends (children k.tree) (k.left - 1) (node + 1) e c u rows s

  pub sought-start : Sought None 0 (node + 1)
  sought-start = record {
    at = λ l. stands-first k.names k.roles ends (children k.tree) (k.left - 1) (node + 1) e rows l;
    empty = λ z. refl;
    none = λ z d u s l. absurd (let q = (place d u s).behind in omega arith);
    some = λ h z. absurd (none-some h z);
    size = λ h z. absurd (none-some h z);
    above = λ d u s l. absurd (let q = (place d u s).behind in omega arith);
  }

  module _ {o : Option ℕ} {most c : ℕ} (w : Sought o most c) (l : c < e) where
    sought-inside : (c < get_or ends c 0) × (get_or ends c 0 ≤ e)
    sought-inside = let q = w.at l in let p = place c q.0 q.1 in (p.inside, p.within)

    next : get_or ends c 0 < e → (u : Concept) × Child (get_or ends c 0) u
    next m = let q = w.at l in stands-next k.names k.roles ends (children k.tree) (k.left - 1) (node + 1) e c q.0 rows q.1 m

    dropped-here : (m : ℕ) (b c' : Bool) → b ≡ eqb m 0 → c' ≡ ltb 0 (get_or ends c 0 - c) → (b || not c') ≡ true → m ≡ 0
    dropped-here m true c' eb ec t = eqb-true m 0 (sym eb)
    dropped-here m false true eb ec t = absurd (true-false t refl)
    dropped-here m false false eb ec t = absurd (let z = lt-ltb 0 (get_or ends c 0 - c) (omega (arith, sought-inside.0)) in true-false z (sym ec))

    -- a child before the next one is before this one
    earlier : (d : ℕ) (u : Concept) → Child d u → d < get_or ends c 0 → (d ≡ c → ⊥) → d < c
    earlier d u s m q = which (ltb c d) refl
      where
        which : (b : Bool) → ltb c d ≡ b → d < c
        which true t =
            absurd (let p = w.at l in
            let y = stands-apart k.names k.roles ends (children k.tree) (k.left - 1) (node + 1) (get_or ends node 0) c d p.0 u rows p.1 s (ltb-true c d t) in
            omega arith)
        which false t = let y = ltb-false c d t in omega (arith, q)

    pub sought-pass : (r : Bool) → r ≡ (eqb (get_or marks c 0) 0 || not (ltb most (get_or ends c 0 - c))) → r ≡ true → Sought o most (get_or ends c 0)
    sought-pass r er t = record {
      at = next;
      empty = w.empty;
      none = λ z d u s m. go z d u s m (ℕ_discrete d c);
      some = w.some;
      size = w.size;
      above = λ d u s m n. higher d u s m n (ℕ_discrete d c);
    }
      where
        go : o ≡ None → (d : ℕ) (u : Concept) → Child d u → d < get_or ends c 0 → Dec (d ≡ c) → get_or marks d 0 ≡ 0
        go z d u s m (yes q) =
            let here : get_or marks c 0 ≡ 0 =
            dropped-here (get_or marks c 0) (eqb (get_or marks c 0) 0) (ltb 0 (get_or ends c 0 - c)) refl refl
            (subst (λ (y : ℕ). (eqb (get_or marks c 0) 0 || not (ltb y (get_or ends c 0 - c))) ≡ true) (w.empty z) (sym er ∙ t)) in
            ap (λ (y : ℕ). get_or marks y 0) q ∙ here
        go z d u s m (no q) = w.none z d u s (earlier d u s m q)

        small : (m most' : ℕ) (b c' : Bool) → b ≡ eqb m 0 → c' ≡ ltb most' (get_or ends c 0 - c) → (b || not c') ≡ true → (m ≡ 0 → ⊥) → get_or ends c 0 - c ≤ most'
        small m most' true c' eb ec t n = absurd (n (eqb-true m 0 (sym eb)))
        small m most' false true eb ec t n = absurd (true-false t refl)
        small m most' false false eb ec t n = let z = ltb-false most' (get_or ends c 0 - c) (sym ec) in omega arith

        higher : (d : ℕ) (u : Concept) → Child d u → d < get_or ends c 0 → (get_or marks d 0 ≡ 0 → ⊥) → Dec (d ≡ c) → get_or ends d 0 - d ≤ most
        higher d u s m n (yes q) =
            subst (λ (y : ℕ). get_or ends y 0 - y ≤ most) (sym q)
            (small (get_or marks c 0) most (eqb (get_or marks c 0) 0) (ltb most (get_or ends c 0 - c)) refl refl (sym er ∙ t) (λ z. n (ap (λ (y : ℕ). get_or marks y 0) q ∙ z)))
        higher d u s m n (no q) = w.above d u s (earlier d u s m q) n

    pub sought-take : (r : Bool) → r ≡ (eqb (get_or marks c 0) 0 || not (ltb most (get_or ends c 0 - c))) → r ≡ false → Sought (Some c) (get_or ends c 0 - c) (get_or ends c 0)
    sought-take r q t = record {
      at = next;
      empty = λ z. absurd (none-some c (sym z));
      none = λ z. absurd (none-some c (sym z));
      some = λ h z.
          subst (λ (y : ℕ). (get_or marks y 0 ≡ 0 → ⊥) × ((u : Concept) × Child y u)) (same_Some c h z) (kept (get_or marks c 0) (sym q ∙ t), w.at l);
      size = λ h z. ap (λ (y : ℕ). get_or ends y 0 - y) (same_Some c h z);
      above = λ d u s m n. higher d u s m n (ℕ_discrete d c);
    }
      where
        greater : (b c' : Bool) → c' ≡ ltb most (get_or ends c 0 - c) → (b || not c') ≡ false → most < get_or ends c 0 - c
        greater true c' ec f = absurd (true-false refl f)
        greater false true ec f = ltb-true most (get_or ends c 0 - c) (sym ec)
        greater false false ec f = absurd (true-false refl f)

        higher : (d : ℕ) (u : Concept) → Child d u → d < get_or ends c 0 → (get_or marks d 0 ≡ 0 → ⊥) → Dec (d ≡ c) → get_or ends d 0 - d ≤ get_or ends c 0 - c
        higher d u s m n (yes q) = le_of_eq (ap (λ (y : ℕ). get_or ends y 0 - y) q)
        higher d u s m n (no z) =
            let y = w.above d u s (earlier d u s m z) n in
            let x = greater (eqb (get_or marks c 0) 0) (ltb most (get_or ends c 0 - c)) refl (sym q ∙ t) in
            omega arith

        kept : (m : ℕ) → (eqb m 0 || not (ltb most (get_or ends c 0 - c))) ≡ false → m ≡ 0 → ⊥
        kept m f z = let y : m ≡ 0 = z in true-false refl (rw y at f)

  pub sought-end : {o : Option ℕ} {most c : ℕ} → Sought o most c → e ≤ c → Heavy ends marks k.tree node o
  sought-end {o} {most} {c} w l = record {
    none = λ z d u s. w.none z d u s (let p = place d u s in omega (arith, p.inside, p.within));
    some = w.some;
    most = λ h z d u s n. rw (← w.size h z) (w.above d u s (let p = place d u s in omega (arith, p.inside, p.within)) n);
  }
