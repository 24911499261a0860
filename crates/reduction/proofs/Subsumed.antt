-- The tests of the drop rule as the code comes to them: one law for each way out of a function and each turn of a loop.
-- Assumes nothing.
use mathlib.Core.Path.{◌≡◌, refl, sym, ap, ◌∙◌, subst, fun_ext}
use mathlib.Core.Bool.{Bool, true, false, ◌&&◌, not, cond}
use mathlib.Core.List.{List, ◌∷◌}
use Prim.Native.Nat.{ℕ, ◌+◌, ◌-◌, ◌≤◌, ◌<◌}
use native.Mathlib.Omega.{arith}
use borrow.Author.Tests.{eq-eqb, ne_eqb, eqb-true}
use lib.Dec.{eqb}
use lib.ListN.{get_or}
use Rattle.meaning.specs.Names.{within}
use Rattle.meaning.specs.Tree.{node, Forest, none, more, Concept, under}
use Rattle.meaning.specs.Graph.{tree_graph}
use Rattle.meaning.specs.Whole.{any, meets_by, meets_f}
use Rattle.meaning.specs.Reduce.{subsumes, dropped}
use Rattle.meaning.specs.Rows.{Holds, HoldsF}
use Rattle.meaning.proofs.Rows.{opened, ran_out}
use Rattle.reduction.specs.Held.{HeldF, ForTree, ForTrees}
use Rattle.reduction.specs.Subsumed.{yields, Two, Tests, TestsLike, Among, TestsOne, TestsDropped}

module _ (names roles ends : List ℕ) (left : ℕ) where
  abbrev H : Concept → ℕ → Type 0
  H t i = Holds names roles ends t left i (get_or ends i 0)

  -- ---- one tree and another: c's children one after the other

  module _ (c d : ℕ) where
    -- of c's children those from k on are still to be served
    pub record Unserved (k : ℕ) (t u : Concept) : Type 0 where
      pub rest : Forest ℕ
      pub holds : HoldsF names roles ends rest (left - 1) k (get_or ends c 0)
      pub same : subsumes t u ≡ meets_f tree_graph rest u

    abbrev pub Serving : ℕ → Type 0
    Serving k = ForTree names roles ends left c (λ t. ForTree names roles ends left d (λ u. Unserved k t u))

    module _ {b : Bool} (test : b ≡ within (get_or names c 0) (get_or names d 0)) where
      pub names-differ : b ≡ false → Tests names roles ends left subsumes c d false
      unfolding Holds meets_by
      names-differ e (node a f) h (node z g) h' = let q : within a z ≡ false = rw (h.2, h'.2) at (sym test ∙ e) in rw q

      pub serve-start : b ≡ true → Serving (c + 1)
      unfolding Holds meets_by
      serve-start e (node a f) h (node z g) h' =
          let q : within a z ≡ true = rw (h.2, h'.2) at (sym test ∙ e) in
          record { rest = f; holds = h.4; same = rw q }

    module _ (k : ℕ) (s : Serving k) where
      -- the children that are left, on both sides
      pub left_over : Two names roles ends left c d → HeldF names roles ends (left - 1) k (get_or ends c 0)
      left_over w = let u = s w.one.tree w.one.holds w.other.tree w.other.holds in
          record { trees = u.rest; holds = u.holds; fits = w.one.fits }

      pub serve-all : get_or ends c 0 ≤ k → Tests names roles ends left subsumes c d true
      unfolding Holds meets_by
      serve-all le t h u h' = let w = s t h u h' in go w.rest w.holds w.same
        where
          go : (f : Forest ℕ) → HoldsF names roles ends f (left - 1) k (get_or ends c 0) → subsumes t u ≡ meets_f tree_graph f u → true ≡ subsumes t u
          go none g q = sym q
          go (more r v f) g q =
              absurd (let o = opened names roles ends v (left - 1) k (get_or ends k 0) g.2 in let z : get_or ends k 0 ≤ get_or ends c 0 = g.1 in omega arith)

      module _ (lt : k < get_or ends c 0) {m : ℕ} (to : m ≡ get_or ends d 0) {b : Bool} (test : TestsOne names roles ends (left - 1) subsumes k (d + 1) m b) where
        pub serve-next : b ≡ true → {n : ℕ} → n ≡ get_or ends k 0 → Serving n
        unfolding Holds meets_by
        serve-next e {n} on t h (node a g) h' = let w = s t h (node a g) h' in go w.rest w.holds w.same
          where
            go : (f : Forest ℕ) → HoldsF names roles ends f (left - 1) k (get_or ends c 0) → subsumes t (node a g) ≡ meets_f tree_graph f (node a g)
                → Unserved n t (node a g)
            go none x q = absurd (let z : k ≡ get_or ends c 0 = x in omega arith)
            go (more r v f) x q =
                let p : any (λ y. subsumes v y) (under r g) ≡ true = rw x.0 at (sym (test v x.2 g (rw to h'.4)) ∙ e) in
                record { rest = f; holds = rw on x.3; same = q ∙ rw p }

        pub serve-not : b ≡ false → Tests names roles ends left subsumes c d false
        unfolding Holds meets_by
        serve-not e t h (node a g) h' = let w = s t h (node a g) h' in go w.rest w.holds w.same
          where
            go : (f : Forest ℕ) → HoldsF names roles ends f (left - 1) k (get_or ends c 0) → subsumes t (node a g) ≡ meets_f tree_graph f (node a g)
                → false ≡ subsumes t (node a g)
            go none x q = absurd (let z : k ≡ get_or ends c 0 = x in omega arith)
            go (more r v f) x q =
                let p : any (λ y. subsumes v y) (under r g) ≡ false = rw x.0 at (sym (test v x.2 g (rw to h'.4)) ∙ e) in
                sym (q ∙ rw p)

  -- ---- one tree and others one after the other, for any test

  module _ (p : Concept → Concept → Bool) (c : ℕ) where
    module _ (d : ℕ) where
      pub role-differs : (get_or roles c 0 ≡ get_or roles d 0 → ⊥) → TestsLike names roles ends left p c d false
      role-differs n t h u h' = rw (ne_eqb (get_or roles c 0) (get_or roles d 0) n)

      -- i and j: the trees that were tested, which are to be those at c and d
      pub role_same : {b : Bool} {i j : ℕ} → Tests names roles ends left p i j b → i ≡ c → j ≡ d → get_or roles c 0 ≡ get_or roles d 0 → TestsLike names roles ends left p c d b
      role_same {b} {i} test x y e t h u h' =
          rw (eq-eqb (get_or roles c 0) (get_or roles d 0) e) (subst (λ (z : ℕ). Tests names roles ends left p z d b) x (subst (λ (z : ℕ). Tests names roles ends left p i z b) y test) t h u h')

    module _ (i e : ℕ) where
      -- of those from i up to e the ones before d do not pass
      pub record Unfound (d : ℕ) (t : Concept) (f : Forest ℕ) : Type 0 where
        pub rest : Forest ℕ
        pub holds : HoldsF names roles ends rest left d e
        pub same : any (λ u. p t u) (under (get_or roles c 0) f) ≡ any (λ u. p t u) (under (get_or roles c 0) rest)

      abbrev pub Seeking : ℕ → Type 0
      Seeking d = ForTree names roles ends left c (λ t. ForTrees names roles ends left i e (λ f. Unfound d t f))

      pub seek-start : Seeking i
      seek-start t h f h' = record { rest = f; holds = h'; same = refl }

      module _ (d : ℕ) (s : Seeking d) where
        pub unseen : Among names roles ends left c i e → HeldF names roles ends left d e
        unseen w = let u = s w.one.tree w.one.holds w.others.trees w.others.holds in
            record { trees = u.rest; holds = u.holds; fits = w.others.fits }

        pub seek-none : e ≤ d → TestsOne names roles ends left p c i e false
        unfolding any under
        seek-none le t h f h' = let w = s t h f h' in sym (w.same ∙ rw (ran_out names roles ends w.rest left d e w.holds le))

        module _ (lt : d < e) {b : Bool} (test : TestsLike names roles ends left p c d b) where
          pub seek-next : b ≡ false → {n : ℕ} → n ≡ get_or ends d 0 → Seeking n
          unfolding Holds any under
          seek-next q {n} on t h f h' = let w = s t h f h' in go w.rest w.holds w.same
            where
              r : ℕ
              r = get_or roles c 0

              skip : (x : Bool) (u : Concept) (g : Forest ℕ) → (x && p t u) ≡ false
                  → any (λ v. p t v) (cond x (u ∷ under r g) (under r g)) ≡ any (λ v. p t v) (under r g)
              skip true u g z = rw z
              skip false u g z = refl

              go : (g : Forest ℕ) → HoldsF names roles ends g left d e → any (λ u. p t u) (under r f) ≡ any (λ u. p t u) (under r g) → Unfound n t f
              go none m z = absurd (let y : d ≡ e = m in omega arith)
              go (more k u g) m z =
                  let y : (eqb r k && p t u) ≡ false = rw m.0 at (sym (test t h u m.2) ∙ q) in
                  record { rest = g; holds = rw on m.3; same = z ∙ skip (eqb r k) u g y }

          pub seek_found : b ≡ true → TestsOne names roles ends left p c i e true
          unfolding Holds any under
          seek_found q t h f h' = let w = s t h f h' in go w.rest w.holds w.same
            where
              r : ℕ
              r = get_or roles c 0

              hit : (x : Bool) (u : Concept) (g : Forest ℕ) → (x && p t u) ≡ true → any (λ v. p t v) (cond x (u ∷ under r g) (under r g)) ≡ true
              hit true u g z = rw z
              hit false u g z = absurd (let n : ◌≡◌ {A = ℕ} 0 1 = cc in omega arith)

              go : (g : Forest ℕ) → HoldsF names roles ends g left d e → any (λ u. p t u) (under r f) ≡ any (λ u. p t u) (under r g)
                  → true ≡ any (λ u. p t u) (under r f)
              go none m z = absurd (let y : d ≡ e = m in omega arith)
              go (more k u g) m z =
                  let y : (eqb r k && p t u) ≡ true = rw m.0 at (sym (test t h u m.2) ∙ q) in
                  sym (z ∙ hit (eqb r k) u g y)

  -- ---- the drop rule

  and-true : (x : Bool) → (x && true) ≡ x
  and-true true = refl
  and-true false = refl

  module _ (c d : ℕ) (earlier : Bool) where
    pub yields-earlier : earlier ≡ true → {b : Bool} → TestsLike names roles ends left subsumes c d b → TestsLike names roles ends left (yields earlier) c d b
    unfolding yields
    yields-earlier e test t h u h' = test t h u h' ∙ rw (e, and-true (subsumes t u))

    module _ (e : earlier ≡ false) {v : Bool} (back : TestsLike names roles ends left subsumes d c v) where
      pub yields-not : v ≡ true → TestsLike names roles ends left (yields earlier) c d false
      unfolding yields
      yields-not q t h u h' = rw e (go (eqb (get_or roles c 0) (get_or roles d 0)) (subsumes t u) (eqb (get_or roles d 0) (get_or roles c 0)) (subsumes u t) (sym (back u h' t h) ∙ q))
        where
          go : (x y z w : Bool) → (z && w) ≡ true → false ≡ (x && (y && not w))
          go x y false w p = absurd (let n : ◌≡◌ {A = ℕ} 0 1 = cc in omega arith)
          go false y true w p = refl
          go true false true w p = refl
          go true true true w p = rw p

      pub yields-later : v ≡ false → {b : Bool} → TestsLike names roles ends left subsumes c d b → TestsLike names roles ends left (yields earlier) c d b
      unfolding yields
      yields-later q test t h u h' = test t h u h' ∙ rw e (go (eqb (get_or roles c 0) (get_or roles d 0)) refl)
        where
          go : (x : Bool) → eqb (get_or roles c 0) (get_or roles d 0) ≡ x → (x && subsumes t u) ≡ (x && (subsumes t u && not (subsumes u t)))
          go false p = refl
          go true p =
              let z : eqb (get_or roles d 0) (get_or roles c 0) ≡ true = eq-eqb (get_or roles d 0) (get_or roles c 0) (sym (eqb-true (get_or roles c 0) (get_or roles d 0) p)) in
              let w : subsumes u t ≡ false = rw z at (sym (back u h' t h) ∙ q) in
              rw (w, and-true (subsumes t u))

  module _ (i c e : ℕ) {b x : Bool} (test : TestsOne names roles ends left (yields x) c i c b) (first : x ≡ true) where
    before : (g : Forest ℕ) → HoldsF names roles ends g left i c → (t : Concept) → Holds names roles ends t left c (get_or ends c 0)
        → any (λ u. subsumes t u) (under (get_or roles c 0) g) ≡ b
    unfolding yields
    before g k t h =
        ap (λ (p : Concept → Bool). any p (under (get_or roles c 0) g)) (fun_ext (λ u. sym (and-true (subsumes t u))))
        ∙ sym (subst (λ (z : Bool). TestsOne names roles ends left (yields z) c i c b) first test t h g k)

    pub drop-before : b ≡ true → TestsDropped names roles ends left i c e true
    unfolding dropped
    drop-before q g k t h f m = rw (before g k t h ∙ q)

    pub drop-after : (v : Bool) {y : Bool} → b ≡ false → TestsOne names roles ends left (yields y) c (get_or ends c 0) e v → y ≡ false → TestsDropped names roles ends left i c e v
    unfolding dropped yields
    drop-after v q later second g k t h f m =
        rw (before g k t h ∙ q) (subst (λ (z : Bool). TestsOne names roles ends left (yields z) c (get_or ends c 0) e v) second later t h f m)
