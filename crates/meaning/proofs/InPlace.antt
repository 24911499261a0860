-- What is worked out over the tree as it is written is what the definitions say of the reduced tree: how many children are kept, size, scale, degree.
-- Assumes nothing.
use mathlib.Core.Path.{◌≡◌, refl, ◌∙◌, fun_ext}
use Prim.Native.Nat.{ℕ}
use Rattle.meaning.specs.Tree.{node, Forest, none, more, Concept, count}
use Rattle.meaning.specs.Graph.{Graph}
use Rattle.meaning.specs.Reduce.{kept_of, reduce, reduce_f, size, size_f, scale, scale_f}
use Rattle.meaning.specs.Degree.{degree, degree_f}
use Rattle.meaning.specs.InPlace.{count_in, size_in, size_in_f, scale_in, scale_in_f, degree_in, degree_in_f}
use Rattle.meaning.proofs.Written.{over-kept}

pub count-in : (f b : Forest ℕ) → count (kept_of (reduce_f b) (reduce_f f)) ≡ count_in f b
unfolding count kept_of reduce count_in
count-in none b = refl
count-in (more r t f) b = over-kept count r t f b ∙ rw (count-in f (more r t b))

mutual
  unfolding size kept_of reduce size_in

  pub size_in_lem : (t : Concept) → size (reduce t) ≡ size_in t
  size_in_lem (node a f) = rw (count-in f none, size_f-in f none)

  pub size_f-in : (f b : Forest ℕ) → size_f (kept_of (reduce_f b) (reduce_f f)) ≡ size_in_f f b
  size_f-in none b = refl
  size_f-in (more r t f) b = over-kept size_f r t f b ∙ rw (size_f-in f (more r t b), size_in_lem t)

mutual
  unfolding scale kept_of reduce scale_in

  pub scale_in_lem : (t : Concept) → scale (reduce t) ≡ scale_in t
  scale_in_lem (node a f) = rw (count-in f none, scale_f-in f none)

  pub scale_f-in : (f b : Forest ℕ) → scale_f (kept_of (reduce_f b) (reduce_f f)) ≡ scale_in_f f b
  scale_f-in none b = refl
  scale_f-in (more r t f) b = over-kept scale_f r t f b ∙ rw (scale_f-in f (more r t b), scale_in_lem t)

module _ {N : Type 0} (G : Graph N) where
  mutual
    unfolding degree kept_of reduce degree_in

    pub degree-in : (t : Concept) (x : N) → degree G (reduce t) x ≡ degree_in G t x
    degree-in (node a f) x = rw (count-in f none, scale_f-in f none, degree_f-in f none x)

    pub degree_f-in : (f b : Forest ℕ) (x : N) → degree_f G (kept_of (reduce_f b) (reduce_f f)) x ≡ degree_in_f G f b x
    degree_f-in none b x = refl
    degree_f-in (more r t f) b x =
        over-kept (λ k. degree_f G k x) r t f b
        ∙ rw (degree_f-in f (more r t b) x, scale_f-in f (more r t b), scale_in_lem t, fun_ext (λ y. degree-in t y))
