-- The reduced form is reduced: of the children under one role of any of its nodes, none subsumes another.
-- Assumes nothing.
use mathlib.Core.Path.{◌≡◌, refl, sym, ap, subst}
use mathlib.Core.Bool.{Bool, true, false, ◌&&◌, not, cond}
use mathlib.Core.List.{List, [], ◌∷◌, Memᴰ}
use mathlib.Core.Option.{some}
use Prim.Native.Nat.{ℕ, zero, suc}
use lib.Dec.{T, not_T}
use lib.ListN.{get_elem?}
use Rattle.meaning.specs.Tree.{node, Forest, none, more, Concept, children, under, subtree, subtree_f}
use Rattle.meaning.specs.Whole.{any}
use Rattle.meaning.specs.Reduce.{subsumes, dropped, kept_of, reduce, reduce_f}
use Rattle.meaning.proofs.Tests.{both-and, or_left, or_right, found-any, some_inj, not_some}
use Rattle.meaning.proofs.Keep.{above, keep_l, under-kept, kept-child}

-- ---- the kept ones of a list

drop-earlier : (b : List Concept) (c : Concept) (l : List Concept) → T (above c b) → T (dropped b c l)
unfolding dropped
drop-earlier b c l t = or_left (above c b) _ t

drop-later : (b : List Concept) (c : Concept) (l : List Concept) {d : Concept} → Memᴰ d l → T (subsumes c d) → (T (subsumes d c) → ⊥) → T (dropped b c l)
unfolding dropped
drop-later b c l {d} m s n =
    or_right (above c b) _ (found-any (λ e. subsumes c e && not (subsumes e c)) m (both-and (subsumes c d) _ s (not_T (subsumes d c) n)))

-- a kept one subsumes none that stands before
kept-before : {d : Concept} (b l : List Concept) → Memᴰ d (keep_l b l) → T (above d b) → ⊥
unfolding any keep_l
kept-before b [] m t = elim m [ ]
kept-before {d} b (x ∷ l) m t = go (dropped b x l) refl m (λ n. kept-before (x ∷ b) l n (or_right (subsumes d x) (above d b) t))
  where
    go : (s : Bool) → dropped b x l ≡ s → Memᴰ d (cond s (keep_l (x ∷ b) l) (x ∷ keep_l (x ∷ b) l)) → (Memᴰ d (keep_l (x ∷ b) l) → ⊥) → ⊥
    go true e n k = k n
    go false e (Memᴰ.tail n) k = k n
    go false e (Memᴰ.head p) k = subst T e (drop-earlier b x l (subst (λ (z : Concept). T (above z b)) p t))

element-in : {A : Type 0} (l : List A) (i : ℕ) (x : A) → get_elem? l i ≡ some x → Memᴰ x l
element-in [] i x e = absurd (not_some x e)
element-in (y ∷ l) zero x e = Memᴰ.head (sym (some_inj e))
element-in (y ∷ l) (suc i) x e = Memᴰ.tail (element-in l i x e)

kept-apart : (b l : List Concept) (i j : ℕ) (c d : Concept) → get_elem? (keep_l b l) i ≡ some c → get_elem? (keep_l b l) j ≡ some d → T (subsumes c d) → i ≡ j
unfolding any keep_l
kept-apart b [] i j c d p q s = absurd (not_some c p)
kept-apart b (x ∷ l) i j c d p q s = go (dropped b x l) refl i j p q (λ i j p q. kept-apart (x ∷ b) l i j c d p q s)
  where
    K : List Concept
    K = keep_l (x ∷ b) l

    no_return : {e : Concept} → Memᴰ e K → T (subsumes e x) → ⊥
    no_return {e} m s = kept-before (x ∷ b) l m (or_left (subsumes e x) (above e b) s)

    go : (t : Bool) → dropped b x l ≡ t → (i j : ℕ) → get_elem? (cond t K (x ∷ K)) i ≡ some c → get_elem? (cond t K (x ∷ K)) j ≡ some d
        → ((i j : ℕ) → get_elem? K i ≡ some c → get_elem? K j ≡ some d → i ≡ j) → i ≡ j
    go true e i j p q k = k i j p q
    go false e zero zero p q k = refl
    go false e zero (suc j) p q k =
        let m = element-in K j d q in
        absurd (subst T e (drop-later b x l (kept-child (x ∷ b) l m) (rw (some_inj p) s) (no_return m)))
    go false e (suc i) zero p q k = absurd (no_return (element-in K i c p) (rw (some_inj q) s))
    go false e (suc i) (suc j) p q k = ap suc (k i j p q)

-- ---- the nodes of a reduced tree

-- each is the reduced form of a concept
mutual
  unfolding subtree reduce kept_of

  reduced-node : (t : Concept) (p : List ℕ) (s : Concept) → subtree (reduce t) p ≡ some s → (u : Concept) × (s ≡ reduce u)
  reduced-node (node a f) [] s e = (node a f, sym (some_inj e))
  reduced-node (node a f) (k ∷ p) s e = reduced-node_f f none k p s e

  reduced-node_f : (f b : Forest ℕ) (k : ℕ) (p : List ℕ) (s : Concept) → subtree_f (kept_of b (reduce_f f)) k p ≡ some s → (u : Concept) × (s ≡ reduce u)
  reduced-node_f none b k p s e = absurd (not_some s e)
  reduced-node_f (more r t f) b k p s e =
      go (dropped (under r b) (reduce t) (under r (reduce_f f))) k (λ e. reduced-node t p s e) (λ i e. reduced-node_f f (more r (reduce t) b) i p s e) e
    where
      K : Forest ℕ
      K = kept_of (more r (reduce t) b) (reduce_f f)

      R : Type 0
      R = (u : Concept) × (s ≡ reduce u)

      go : (d : Bool) (k : ℕ) → (subtree (reduce t) p ≡ some s → R) → ((i : ℕ) → subtree_f K i p ≡ some s → R)
          → subtree_f (cond d K (more r (reduce t) K)) k p ≡ some s → R
      go true k h rest e = rest k e
      go false zero h rest e = h e
      go false (suc k) h rest e = rest k e

-- The children under a role are numbered in their order: one subsumes another only if it is the same child.
root-apart : (t : Concept) (r i j : ℕ) (c d : Concept) → get_elem? (under r (children (reduce t))) i ≡ some c
    → get_elem? (under r (children (reduce t))) j ≡ some d → T (subsumes c d) → i ≡ j
unfolding reduce
root-apart (node a f) r i j c d p q s =
    kept-apart [] (under r (reduce_f f)) i j c d (rw (under-kept r (reduce_f f)) at p) (rw (under-kept r (reduce_f f)) at q) s

pub apart : (t : Concept) (p : List ℕ) (s : Concept) → subtree (reduce t) p ≡ some s
    → (r i j : ℕ) (c d : Concept) → get_elem? (under r (children s)) i ≡ some c → get_elem? (under r (children s)) j ≡ some d → T (subsumes c d) → i ≡ j
apart t p s e r i j c d ci dj h =
    let u = reduced-node t p s e in
    root-apart u.0 r i j c d (rw u.1 at ci) (rw u.1 at dj) h
