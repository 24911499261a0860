-- The drop rule over the children under one role: what it keeps are children, and each child subsumes a kept one.
-- Assumes nothing.
use mathlib.Core.Path.{◌≡◌, refl, sym, ap, ap₂, subst, ◌∙◌}
use mathlib.Core.Logic.{◌⊎◌, inl, inr}
use mathlib.Core.Bool.{Bool, true, false, ◌&&◌, ◌||◌, not, cond}
use mathlib.Core.List.{List, [], ◌∷◌, Memᴰ}
use Prim.Native.Nat.{ℕ}
use lib.Dec.{T, T_not, eqb, eqb→eq}
use Rattle.meaning.specs.Tree.{Forest, none, more, Concept, under}
use Rattle.meaning.specs.Whole.{any}
use Rattle.meaning.specs.Reduce.{subsumes, dropped, kept_of}
use Rattle.meaning.proofs.Tests.{holds, and_both, or_cases, or_left, or_right, any_found, found-any}
use Rattle.meaning.proofs.Subsumes.{subsumes-refl, subsumes-trans}

-- `kept_of` over the children under one role
unfoldable pub keep_l : List Concept → List Concept → List Concept
unfolding dropped
keep_l b [] = []
keep_l b (c ∷ l) = cond (dropped b c l) (keep_l (c ∷ b) l) (c ∷ keep_l (c ∷ b) l)

under-keep : (r : ℕ) (b f : Forest ℕ) → under r (kept_of b f) ≡ keep_l (under r b) (under r f)
unfolding under kept_of keep_l
under-keep r b none = refl
under-keep r b (more s c f) = go (eqb r s) refl (under-keep r (more s c b) f)
  where
    K : Forest ℕ
    K = kept_of (more s c b) f

    same : (d : Bool) → eqb r s ≡ true → under r (cond d K (more s c K)) ≡ cond d (under r K) (c ∷ under r K)
    same true e = refl
    same false e = rw e

    other : (d : Bool) → eqb r s ≡ false → under r (cond d K (more s c K)) ≡ under r K
    other true e = refl
    other false e = rw e

    go : (t : Bool) → eqb r s ≡ t → under r K ≡ keep_l (cond (eqb r s) (c ∷ under r b) (under r b)) (under r f)
        → under r (kept_of b (more s c f)) ≡ keep_l (under r b) (cond t (c ∷ under r f) (under r f))
    go true e h =
        let p : s ≡ r = sym (eqb→eq r s (holds e)) in
        same (dropped (under s b) c (under s f)) e
        ∙ ap₂ (λ (d : Bool) (l : List Concept). cond d l (c ∷ l)) (ap (λ (z : ℕ). dropped (under z b) c (under z f)) p) (rw e at h)
    go false e h = other (dropped (under s b) c (under s f)) e ∙ (rw e at h)

pub under-kept : (r : ℕ) (f : Forest ℕ) → under r (kept_of none f) ≡ keep_l [] (under r f)
unfolding under
under-kept r f = under-keep r none f

-- a kept one is one of the children
pub kept-child : {d : Concept} (b l : List Concept) → Memᴰ d (keep_l b l) → Memᴰ d l
unfolding keep_l
kept-child b [] m = m
kept-child {d} b (c ∷ l) m = go (dropped b c l) m (λ n. kept-child (c ∷ b) l n)
  where
    go : (t : Bool) → Memᴰ d (cond t (keep_l (c ∷ b) l) (c ∷ keep_l (c ∷ b) l)) → (Memᴰ d (keep_l (c ∷ b) l) → Memᴰ d l) → Memᴰ d (c ∷ l)
    go true n k = Memᴰ.tail (k n)
    go false (Memᴰ.head e) k = Memᴰ.head e
    go false (Memᴰ.tail n) k = Memᴰ.tail (k n)

-- ---- each child has a kept one below it

-- c subsumes one of the list
abbrev pub above : Concept → List Concept → Bool
above c l = any (λ d. subsumes c d) l

above-trans : (c e : Concept) (l : List Concept) → T (subsumes c e) → T (above e l) → T (above c l)
above-trans c e l h t = let q = any_found (λ d. subsumes e d) l t in found-any (λ d. subsumes c d) q.1 (subsumes-trans c e q.0 h q.2)

-- the two reasons to drop
drop-cases : (b : List Concept) (c : Concept) (l : List Concept) → T (dropped b c l)
    → T (above c b) ⊎ ((d : Concept) × Memᴰ d l × T (subsumes c d) × (T (subsumes d c) → ⊥))
unfolding dropped
drop-cases b c l t = go (or_cases (above c b) (any (λ d. subsumes c d && not (subsumes d c)) l) t)
  where
    go : T (above c b) ⊎ T (any (λ d. subsumes c d && not (subsumes d c)) l)
        → T (above c b) ⊎ ((d : Concept) × Memᴰ d l × T (subsumes c d) × (T (subsumes d c) → ⊥))
    go (inl u) = inl u
    go (inr u) =
        let q = any_found (λ d. subsumes c d && not (subsumes d c)) l u in
        let p = and_both (subsumes c q.0) (not (subsumes q.0 c)) q.2 in
        inr (q.0, q.1, p.0, T_not (subsumes q.0 c) p.1)

-- what subsumes one of the children, and none of those before, subsumes a kept one
kept-below-after : (b l : List Concept) (c : Concept) → (T (above c b) → ⊥) → T (above c l) → T (above c (keep_l b l))
unfolding any keep_l
kept-below-after b [] c h t = t
kept-below-after b (x ∷ l) c h t = go (subsumes c x) refl (dropped b x l) refl t (λ e. kept-below-after (x ∷ b) l e)
  where
    K : List Concept
    K = keep_l (x ∷ b) l

    none_before : (e : Concept) → (T (subsumes e x) → ⊥) → (T (above e b) → ⊥) → T (above e (x ∷ b)) → ⊥
    none_before e n m t = either (or_cases (subsumes e x) (above e b) t)
      where
        either : T (subsumes e x) ⊎ T (above e b) → ⊥
        either (inl u) = n u
        either (inr u) = m u

    widen : (d : Bool) → T (above c K) → T (above c (cond d K (x ∷ K)))
    widen true t = t
    widen false t = or_right (subsumes c x) (above c K) t

    -- x is below c and is dropped: so is what it is dropped for
    next : T (subsumes c x) → ((e : Concept) → (T (above e (x ∷ b)) → ⊥) → T (above e l) → T (above e K))
        → T (above x b) ⊎ ((d : Concept) × Memᴰ d l × T (subsumes x d) × (T (subsumes d x) → ⊥)) → T (above c K)
    next s k (inl u) = absurd (h (above-trans c x b s u))
    next s k (inr q) =
        let e = q.0 in
        let ce = subsumes-trans c x e s q.2 in
        above-trans c e K ce (k e (none_before e q.3 (λ u. h (above-trans c e b ce u))) (found-any (λ d. subsumes e d) q.1 (subsumes-refl e)))

    go : (s : Bool) → subsumes c x ≡ s → (d : Bool) → dropped b x l ≡ d → T (s || above c l)
        → ((e : Concept) → (T (above e (x ∷ b)) → ⊥) → T (above e l) → T (above e K)) → T (above c (cond d K (x ∷ K)))
    go true p true q t k = next (holds p) k (drop-cases b x l (holds q))
    go true p false q t k = or_left (subsumes c x) (above c K) (holds p)
    go false p d q t k = widen d (k c (none_before c (λ u. subst T p u) h) t)

pub kept-below : {c : Concept} {l : List Concept} → Memᴰ c l → T (any (λ d. subsumes c d) (keep_l [] l))
unfolding any
kept-below {c} {l} m = kept-below-after [] l c (λ t. t) (found-any (λ d. subsumes c d) m (subsumes-refl c))
