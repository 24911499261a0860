-- The drop rule may be asked of the children as they are written: the test on their reduced forms says the same.
-- Assumes nothing.
use mathlib.Core.Path.{◌≡◌, refl, ap₂}
use mathlib.Core.Bool.{Bool, true, false, ◌&&◌, ◌||◌, not, cond}
use mathlib.Core.List.{List, [], ◌∷◌, ◌++◌, map}
use Prim.Native.Nat.{ℕ}
use lib.Dec.{eqb}
use lib.ListN.{replicate}
use Rattle.meaning.specs.Tree.{Forest, none, more, Concept, under, nodes}
use Rattle.meaning.specs.Whole.{any}
use Rattle.meaning.specs.Reduce.{subsumes, dropped, kept_of, reduce, reduce_f, kept, kept_f}
use Rattle.meaning.proofs.Reduced.{subsumes-reduce}

under-reduce : (r : ℕ) (f : Forest ℕ) → under r (reduce_f f) ≡ map reduce (under r f)
unfolding under reduce
under-reduce r none = refl
under-reduce r (more s t f) = rw (under-reduce r f) (go (eqb r s))
  where
    go : (b : Bool) → cond b (reduce t ∷ map reduce (under r f)) (map reduce (under r f)) ≡ map reduce (cond b (t ∷ under r f) (under r f))
    go true = refl
    go false = refl

any-map : {A B : Type 0} (g : A → B) (p : B → Bool) (q : A → Bool) → ((x : A) → p (g x) ≡ q x) → (l : List A) → any p (map g l) ≡ any q l
unfolding any
any-map g p q h [] = refl
any-map g p q h (x ∷ l) = ap₂ ◌||◌ (h x) (any-map g p q h l)

dropped-reduce : (b : List Concept) (t : Concept) (f : List Concept) → dropped (map reduce b) (reduce t) (map reduce f) ≡ dropped b t f
unfolding dropped
dropped-reduce b t f =
    ap₂ ◌||◌ (any-map reduce (λ d. subsumes (reduce t) d) (λ d. subsumes t d) (λ d. subsumes-reduce t d) b)
    (any-map reduce (λ d. subsumes (reduce t) d && not (subsumes d (reduce t))) (λ d. subsumes t d && not (subsumes d t))
    (λ d. rw (subsumes-reduce t d, subsumes-reduce d t)) f)

-- the child t under r, written between the children b and f
pub dropped-written : (r : ℕ) (b : Forest ℕ) (t : Concept) (f : Forest ℕ)
    → dropped (under r (reduce_f b)) (reduce t) (under r (reduce_f f)) ≡ dropped (under r b) t (under r f)
dropped-written r b t f = rw (under-reduce r b, under-reduce r f) (dropped-reduce (under r b) t (under r f))

-- so for the nodes that are kept
pub kept-written : (r : ℕ) (t : Concept) (f b : Forest ℕ)
    → kept_f (more r t f) b ≡ cond (dropped (under r b) t (under r f)) (replicate (nodes t) false) (kept t) ++ kept_f f (more r t b)
unfolding kept
kept-written r t f b = rw (dropped-written r b t f)

-- and for whatever is asked of the kept children: those of f, before which the children b are written
pub over-kept : {A : Type 0} (m : Forest ℕ → A) (r : ℕ) (t : Concept) (f b : Forest ℕ)
    → m (kept_of (reduce_f b) (reduce_f (more r t f)))
    ≡ cond (dropped (under r b) t (under r f)) (m (kept_of (reduce_f (more r t b)) (reduce_f f))) (m (more r (reduce t) (kept_of (reduce_f (more r t b)) (reduce_f f))))
unfolding kept_of reduce
over-kept {A} m r t f b = rw (dropped-written r b t f) (go (dropped (under r b) t (under r f)))
  where
    K : Forest ℕ
    K = kept_of (more r (reduce t) (reduce_f b)) (reduce_f f)

    go : (d : Bool) → m (cond d K (more r (reduce t) K)) ≡ cond d (m K) (m (more r (reduce t) K))
    go true = refl
    go false = refl
