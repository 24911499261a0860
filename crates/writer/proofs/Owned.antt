-- The thresholds of one node are a run of those that follow, and the others are of later nodes.
-- Assumes nothing.
use mathlib.Core.Path.{◌≡◌, refl, ap, subst}
use mathlib.Core.Bool.{cond, ◌&&◌}
use mathlib.Core.List.{List, [], ◌∷◌}
use Prim.Native.Nat.{ℕ, zero, suc, ◌+◌, ◌*◌, ◌≤◌, ◌<◌}
use native.Mathlib.Omega.{arith}
use native.Mathlib.Decide.{ℕ_discrete}
use lib.Dec.{T, eqb, leb, ltb, le→leb, lt→ltb}
use lib.ListN.{get_or}
use Rattle.meaning.specs.Requirement.{Threshold}
use Rattle.meaning.specs.Lists.{Limit, form_tree, stand_at, threshold, owned}
use Rattle.meaning.specs.Writing.{inners_at, limit_at, limits_from}
use Rattle.meaning.proofs.Tests.{both-and}
use Rattle.meaning.proofs.Lists.{same, other}
use Rattle.meaning.proofs.ListsSound.{stand-open}
use Rattle.limits.specs.Flat.{run, after, Each, thresholds}

-- a node before all of them has none
pub owned-none : (n b i : ℕ) (hs : List Limit) → i < b → T (stand_at n b hs) → owned i hs ≡ []
unfolding owned
owned-none n b i [] l w = refl
owned-none n b i (h ∷ hs) l w =
    let s = stand-open n b h hs w in
    rw (other h.owner i (λ e. let z : h.owner ≡ i = e in omega (arith, l, s.1))) (owned-none n h.owner i hs (omega (arith, l, s.1)) s.3)

-- a bound that the first of them keeps to, too
stand-above : (n b c : ℕ) (h : Limit) (hs : List Limit) → T (stand_at n b (h ∷ hs)) → c ≤ h.owner → T (stand_at n c (h ∷ hs))
unfolding stand_at
stand-above n b c h hs w l =
    let s = stand-open n b h hs w in
    both-and (ltb h.owner n && leb c h.owner && form_tree h.inner) (stand_at n h.owner hs)
    (both-and (ltb h.owner n && leb c h.owner) (form_tree h.inner)
    (both-and (ltb h.owner n) (leb c h.owner) (lt→ltb _ _ s.0) (le→leb _ _ l)) s.2) s.3

-- none can be of a node behind all
pub stand-none : (n : ℕ) (hs : List Limit) → T (stand_at n n hs) → hs ≡ []
stand-none n [] w = refl
stand-none n (h ∷ hs) w = let s = stand-open n n h hs w in absurd (omega (arith, s.0, s.1))

-- the first r of m thresholds are those of the i-th node; `rest` others follow
pub record Ran (hs inner : List ℕ) (n i j k m r : ℕ) : Type 0 where
  pub next : ℕ
  pub first : ℕ
  pub rest : ℕ
  pub place : next ≡ j + r
  pub begins : first ≡ after hs j k r
  pub all : m ≡ r + rest
  pub own : owned i (limits_from hs inner j k m) ≡ thresholds (limits_from hs inner j k r)
  pub stands : T (stand_at n (suc i) (limits_from hs inner next first rest))
  pub later : (h : ℕ) → i < h → owned h (limits_from hs inner j k m) ≡ owned h (limits_from hs inner next first rest)
  pub each : Each hs inner j k m → Each hs inner j k r × Each hs inner next first rest
  pub whole : after hs j k m ≡ after hs next first rest

ran-none : (hs inner : List ℕ) (n i j k : ℕ) → Ran hs inner n i j k 0 0
unfolding owned limits_from stand_at Each after
ran-none hs inner n i j k = record {
  next = j;
  first = k;
  rest = 0;
  place = omega arith;
  begins = refl;
  all = omega arith;
  own = refl;
  stands = tt;
  later = λ h l. refl;
  each = λ w. (tt, tt);
  whole = refl;
}

-- the first is not the node's, so no other is
ran-stop : (hs inner : List ℕ) (n i j k m : ℕ) → T (stand_at n i (limits_from hs inner j k (suc m))) → (get_or hs (5 * j) 0 ≡ i → ⊥)
    → Ran hs inner n i j k (suc m) 0
unfolding owned limits_from Each after
ran-stop hs inner n i j k m w d =
    let h = limit_at hs inner j k in
    let hs' = limits_from hs inner (suc j) (k + inners_at hs j) m in
    let s = stand-open n i h hs' w in
    let l : i < h.owner = omega (arith, s.1, d) in
    record {
      next = j;
      first = k;
      rest = suc m;
      place = omega arith;
      begins = refl;
      all = omega arith;
      own = rw (other (get_or hs (5 * j) 0) i d) (owned-none n h.owner i hs' l s.3);
      stands = stand-above n i (suc i) h hs' w l;
      later = λ h l. refl;
      each = λ v. (tt, v);
      whole = refl;
    }

-- the first is the node's
ran-more : (hs inner : List ℕ) (n i j k m r : ℕ) → get_or hs (5 * j) 0 ≡ i → Ran hs inner n i (suc j) (k + inners_at hs j) m r
    → Ran hs inner n i j k (suc m) (suc r)
unfolding owned limits_from Each after
ran-more hs inner n i j k m r e w =
    let h = limit_at hs inner j k in
    let hs' = limits_from hs inner (suc j) (k + inners_at hs j) m in
    record {
      next = w.next;
      first = w.first;
      rest = w.rest;
      place = omega (arith, w.place);
      begins = w.begins;
      all = omega (arith, w.all);
      own = rw (same (get_or hs (5 * j) 0) i e) (ap (λ (z : List Threshold). threshold h ∷ z) w.own);
      stands = w.stands;
      later = λ g l. passed g l (w.later g l);
      each = λ v. let p = w.each v.2 in ((v.0, v.1, p.0), p.1);
      whole = w.whole;
    }
  where
    passed : (g : ℕ) → i < g → owned g (limits_from hs inner (suc j) (k + inners_at hs j) m) ≡ owned g (limits_from hs inner w.next w.first w.rest)
        → owned g (limits_from hs inner j k (suc m)) ≡ owned g (limits_from hs inner w.next w.first w.rest)
    passed g l q = rw (other (get_or hs (5 * j) 0) g (λ y. let z : get_or hs (5 * j) 0 ≡ g = y in omega (arith, l, e))) q

pub ran : (hs inner : List ℕ) (n i j k m : ℕ) → T (stand_at n i (limits_from hs inner j k m)) → Ran hs inner n i j k m (run hs i j m)
unfolding run limits_from
ran hs inner n i j k zero w = ran-none hs inner n i j k
ran hs inner n i j k (suc m) w = go (ℕ_discrete (get_or hs (5 * j) 0) i) (ran hs inner n i (suc j) (k + inners_at hs j) m)
  where
    go : Dec (get_or hs (5 * j) 0 ≡ i)
        → (T (stand_at n i (limits_from hs inner (suc j) (k + inners_at hs j) m)) → Ran hs inner n i (suc j) (k + inners_at hs j) m (run hs i (suc j) m))
        → Ran hs inner n i j k (suc m) (cond (eqb (get_or hs (5 * j) 0) i) (suc (run hs i (suc j) m)) 0)
    go (yes e) f =
        let s = stand-open n i (limit_at hs inner j k) (limits_from hs inner (suc j) (k + inners_at hs j) m) w in
        rw (same (get_or hs (5 * j) 0) i e)
        (ran-more hs inner n i j k m (run hs i (suc j) m) e
        (f (subst (λ (z : ℕ). T (stand_at n z (limits_from hs inner (suc j) (k + inners_at hs j) m))) e s.3)))
    go (no d) f = rw (other (get_or hs (5 * j) 0) i d) (ran-stop hs inner n i j k m w d)
