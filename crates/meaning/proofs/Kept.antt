-- The map shown for a degree has one mark for each written node, and those of the nodes that are not kept are `out`.
-- Assumes nothing.
use mathlib.Core.Path.{◌≡◌, refl, sym, ap, ap₂, ◌∙◌}
use mathlib.Core.Bool.{Bool, true, false, not, cond}
use mathlib.Core.List.{List, ◌∷◌, ◌++◌, map, map-append}
use mathlib.Core.Option.{Option}
use Prim.Native.Nat.{ℕ, zero, suc, ◌+◌}
use lib.ListN.{length, length-append, length-map, replicate, length-replicate}
use Rattle.meaning.specs.Tree.{node, Forest, none, more, Concept, under, nodes, nodes_f}
use Rattle.meaning.specs.Graph.{Graph}
use Rattle.meaning.specs.Reduce.{dropped, reduce, reduce_f, kept, kept_f}
use Rattle.meaning.specs.Shown.{Mark, out, goes, goes_to, shown, shown_f}

mutual
  unfolding kept nodes

  pub kept-length : (t : Concept) → length (kept t) ≡ nodes t
  kept-length (node a f) = ap suc (kept_f-length f none)

  kept_f-length : (f b : Forest ℕ) → length (kept_f f b) ≡ nodes_f f
  kept_f-length none b = refl
  kept_f-length (more r t f) b = go (dropped (under r (reduce_f b)) (reduce t) (under r (reduce_f f))) (kept-length t) (kept_f-length f (more r t b))
    where
      go : (d : Bool) → length (kept t) ≡ nodes t → length (kept_f f (more r t b)) ≡ nodes_f f
          → length (cond d (replicate (nodes t) false) (kept t) ++ kept_f f (more r t b)) ≡ nodes t + nodes_f f
      go true h e = length-append (replicate (nodes t) false) _ ∙ ap₂ ◌+◌ (length-replicate (nodes t) false) e
      go false h e = length-append (kept t) _ ∙ ap₂ ◌+◌ h e

abbrev pub is_out : {N : Type 0} → Mark N → Bool
is_out out = true
is_out (goes o) = false

all-out : (N : Type 0) (n : ℕ) → map (is_out {N = N}) (replicate n out) ≡ map not (replicate n false)
all-out N zero = refl
all-out N (suc n) = ap {B = List Bool} (λ z. true ∷ z) (all-out N n)

module _ {N : Type 0} (G : Graph N) where
  mutual
    unfolding shown kept

    pub shown-out : (t : Concept) (o : Option N) → map is_out (shown G t o) ≡ map not (kept t)
    shown-out (node a f) o = ap {B = List Bool} (λ z. false ∷ z) (shown_f-out f none o)

    shown_f-out : (f b : Forest ℕ) (o : Option N) → map is_out (shown_f G f b o) ≡ map not (kept_f f b)
    shown_f-out none b o = refl
    shown_f-out (more r t f) b o =
        go (dropped (under r (reduce_f b)) (reduce t) (under r (reduce_f f))) (shown-out t (goes_to G o r t)) (shown_f-out f (more r t b) o)
      where
        go : (d : Bool) → map is_out (shown G t (goes_to G o r t)) ≡ map not (kept t)
            → map is_out (shown_f G f (more r t b) o) ≡ map not (kept_f f (more r t b))
            → map is_out (cond d (replicate (nodes t) out) (shown G t (goes_to G o r t)) ++ shown_f G f (more r t b) o)
            ≡ map not (cond d (replicate (nodes t) false) (kept t) ++ kept_f f (more r t b))
        go true h e =
            map-append is_out (replicate (nodes t) out) _ ∙ ap₂ {C = List Bool} ◌++◌ (all-out N (nodes t)) e
            ∙ sym (map-append not (replicate (nodes t) false) _)
        go false h e = map-append is_out (shown G t (goes_to G o r t)) _ ∙ ap₂ {C = List Bool} ◌++◌ h e ∙ sym (map-append not (kept t) _)

  pub shown-length : (t : Concept) (o : Option N) → length (shown G t o) ≡ nodes t
  shown-length t o = sym (length-map (shown G t o) is_out) ∙ ap length (shown-out t o) ∙ length-map (kept t) not ∙ kept-length t
