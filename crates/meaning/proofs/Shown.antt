-- The map shown for a degree, dropped nodes aside, is the chosen map of the reduced tree in reading order: it reaches the degree,
-- and each child goes to the first of the successors of greatest degree.
-- Assumes nothing.
use mathlib.Core.Path.{◌≡◌, refl, sym, ap, ap₂, ◌∙◌}
use mathlib.Core.Bool.{Bool, true, false, not, cond}
use mathlib.Core.List.{List, [], ◌∷◌, ◌++◌, map}
use mathlib.Core.Option.{Option, some}
use mathlib.Core.Option.{none as nowhere}
use Prim.Native.Nat.{ℕ, zero, suc}
use lib.Dec.{T}
use lib.ListN.{length, replicate}
use Rattle.meaning.specs.Tree.{node, Forest, none, more, Concept, under, nodes, subtree, subtree_f, role_of, role_at, role_at_f, places}
use Rattle.meaning.specs.Graph.{Graph}
use Rattle.meaning.specs.Register.{Register, judged, well_formed}
use Rattle.meaning.specs.Fraction.{Same}
use Rattle.meaning.specs.Reduce.{dropped, kept_of, reduce, reduce_f, kept}
use Rattle.meaning.specs.Partial.{PartialMap, value_of}
use Rattle.meaning.specs.Degree.{degree, degree_of}
use Rattle.meaning.specs.Shown.{pick, Mark, out, goes, goes_to, shown, shown_f}
use Rattle.meaning.proofs.Tests.{not_some, some_inj}
use Rattle.meaning.proofs.Chosen.{onward, chosen, chosen_f, chosen-root, chosen-map}
use Rattle.meaning.proofs.Degree.{chosen-value}
use Rattle.meaning.proofs.Picked.{Greatest, Picked, picked_first, pick_first}
use Rattle.meaning.proofs.Rising.{LowestOf, earliest-lowest}
use Rattle.meaning.proofs.Links.{next-rises}
use Rattle.meaning.proofs.Kept.{is_out, shown-out, shown-length}
use Rattle.meaning.proofs.Places.{subtree-root, along, along_f, along-places}

-- where the nodes go that are not dropped
unfoldable pub kept_marks : {N : Type 0} → List (Mark N) → List (Option N)
kept_marks [] = []
kept_marks (out ∷ l) = kept_marks l
kept_marks (goes o ∷ l) = o ∷ kept_marks l

kept_out : {N : Type 0} (n : ℕ) (l : List (Mark N)) → kept_marks (replicate n out ++ l) ≡ kept_marks l
unfolding kept_marks
kept_out zero l = refl
kept_out (suc n) l = kept_out n l

kept_append : {N : Type 0} (k l : List (Mark N)) → kept_marks (k ++ l) ≡ kept_marks k ++ kept_marks l
unfolding kept_marks
kept_append [] l = refl
kept_append (out ∷ k) l = kept_append k l
kept_append {N} (goes o ∷ k) l = ap {B = List (Option N)} (λ z. o ∷ z) (kept_append k l)

module _ {N : Type 0} (G : Graph N) where
  -- ---- in reading order

  -- the chosen map of a tree whose root goes to o, and of the children of a node that does
  abbrev from : Concept → Option N → List ℕ → Option N
  from t o p = onward G o (λ x. chosen G t x p)

  abbrev from_f : Forest ℕ → Option N → ℕ → List ℕ → Option N
  from_f f o k p = onward G o (λ x. chosen_f G f x k p)

  root-first : (a : ℕ) (f : Forest ℕ) (o : Option N) → along (node a f) (from (node a f) o) ≡ o ∷ along_f f (from_f f o)
  unfolding along chosen
  root-first a f nowhere = refl
  root-first a f (some x) = refl

  -- a kept child, then the others
  child-first : (r : ℕ) (t : Concept) (f : Forest ℕ) (o : Option N)
      → along_f (more r (reduce t) f) (from_f (more r (reduce t) f) o) ≡ along (reduce t) (from (reduce t) (goes_to G o r t)) ++ along_f f (from_f f o)
  unfolding along chosen goes_to
  child-first r t f nowhere = refl
  child-first r t f (some x) = refl

  mutual
    unfolding shown kept_marks reduce kept_of along

    shown-along : (t : Concept) (o : Option N) → kept_marks (shown G t o) ≡ along (reduce t) (from (reduce t) o)
    shown-along (node a f) o = ap {B = List (Option N)} (λ z. o ∷ z) (shown_f-along f none o) ∙ sym (root-first a (kept_of none (reduce_f f)) o)

    shown_f-along : (f b : Forest ℕ) (o : Option N)
        → kept_marks (shown_f G f b o) ≡ along_f (kept_of (reduce_f b) (reduce_f f)) (from_f (kept_of (reduce_f b) (reduce_f f)) o)
    shown_f-along none b o = refl
    shown_f-along (more r t f) b o =
        go (dropped (under r (reduce_f b)) (reduce t) (under r (reduce_f f))) (shown-along t (goes_to G o r t)) (shown_f-along f (more r t b) o)
      where
        K : Forest ℕ
        K = kept_of (more r (reduce t) (reduce_f b)) (reduce_f f)

        go : (d : Bool) → kept_marks (shown G t (goes_to G o r t)) ≡ along (reduce t) (from (reduce t) (goes_to G o r t))
            → kept_marks (shown_f G f (more r t b) o) ≡ along_f K (from_f K o)
            → kept_marks (cond d (replicate (nodes t) out) (shown G t (goes_to G o r t)) ++ shown_f G f (more r t b) o)
            ≡ along_f (cond d K (more r (reduce t) K)) (from_f (cond d K (more r (reduce t) K)) o)
        go true h e = kept_out (nodes t) _ ∙ e
        go false h e = kept_append (shown G t (goes_to G o r t)) _ ∙ ap₂ {C = List (Option N)} ◌++◌ h e ∙ sym (child-first r t K o)

  -- ---- where a child goes

  onward-root : (t : Concept) (o : Option N) → onward G o (λ x. chosen G t x []) ≡ o
  onward-root t nowhere = refl
  onward-root t (some x) = chosen-root G t x

  abbrev Best : Concept → N → ℕ → Option N → Type 0
  Best s z r o = Picked (λ y. degree G s y) (G.next z r) o

  top : (f : Forest ℕ) (x : N) (k r : ℕ) (s : Concept) → role_of f k ≡ some r → subtree_f f k [] ≡ some s → Best s x r (chosen_f G f x k [])
  unfolding role_of subtree chosen
  top none x k r s e d = absurd (not_some r e)
  top (more q t f) x zero r s e d =
      let same : t ≡ s = some_inj (sym (subtree-root t) ∙ d) in
      rw (onward-root t (pick (λ y. degree G t y) (G.next x q)), ← some_inj e, ← same) (pick_first (λ y. degree G t y) (G.next x q))
  top (more q t f) x (suc k) r s e d = top f x k r s e d

  mutual
    unfolding role_at subtree chosen

    child : (t : Concept) (x : N) (p : List ℕ) (k r : ℕ) (s : Concept) (z : N) → role_at t p k ≡ some r → subtree t (p ++ k ∷ []) ≡ some s
        → chosen G t x p ≡ some z → Best s z r (chosen G t x (p ++ k ∷ []))
    child (node a f) x [] k r s z e d m = rw (← some_inj m) (top f x k r s e d)
    child (node a f) x (j ∷ p) k r s z e d m = child_f f x j p k r s z e d m

    child_f : (f : Forest ℕ) (x : N) (j : ℕ) (p : List ℕ) (k r : ℕ) (s : Concept) (z : N) → role_at_f f j p k ≡ some r
        → subtree_f f j (p ++ k ∷ []) ≡ some s → chosen_f G f x j p ≡ some z → Best s z r (chosen_f G f x j (p ++ k ∷ []))
    child_f none x j p k r s z e d m = absurd (not_some r e)
    child_f (more q t f) x zero p k r s z e d m = go (pick (λ y. degree G t y) (G.next x q)) (λ y n. child t y p k r s z e d n) m
      where
        go : (o : Option N) → ((y : N) → chosen G t y p ≡ some z → Best s z r (chosen G t y (p ++ k ∷ [])))
            → onward G o (λ y. chosen G t y p) ≡ some z → Best s z r (onward G o (λ y. chosen G t y (p ++ k ∷ [])))
        go nowhere h m = absurd (not_some z m)
        go (some y) h m = h y m
    child_f (more q t f) x (suc j) p k r s z e d m = child_f f x j p k r s z e d m

  -- ---- what the map shown for a degree says
  pub record Shows (t : Concept) (x : N) : Type 0 where
    pub long : length (shown G t (some x)) ≡ nodes t
    pub left : map is_out (shown G t (some x)) ≡ map not (kept t)
    pub partial : PartialMap G (reduce t) x
    pub listed : kept_marks (shown G t (some x)) ≡ map partial.map (places (reduce t))
    pub reaches : Same (value_of G (reduce t) x partial.map) (degree_of G t x)
    pub picked : (p : List ℕ) (k r : ℕ) (s : Concept) (z : N) → role_at (reduce t) p k ≡ some r → subtree (reduce t) (p ++ k ∷ []) ≡ some s
        → partial.map p ≡ some z → Picked (λ y. degree G s y) (G.next z r) (partial.map (p ++ k ∷ []))

  pub degree-shows : (t : Concept) (x : N) → Shows t x
  degree-shows t x = record {
    long = shown-length G t (some x);
    left = shown-out G t (some x);
    partial = chosen-map G (reduce t) x;
    listed = shown-along t (some x) ∙ sym (along-places (reduce t) (chosen G (reduce t) x));
    reaches = chosen-value G t x;
    picked = child (reduce t) x;
  }

-- in a well-formed register that is the lowest-numbered of the successors of greatest degree
pub degree-lowest : (g : Register) → T (well_formed g) → (t : Concept) (x : ℕ) (h : Shows (judged g) t x)
    (p : List ℕ) (k r : ℕ) (s : Concept) (z y : ℕ) → role_at (reduce t) p k ≡ some r → subtree (reduce t) (p ++ k ∷ []) ≡ some s
    → h.partial.map p ≡ some z → h.partial.map (p ++ k ∷ []) ≡ some y
    → LowestOf (Greatest (λ w. degree (judged g) s w) ((judged g).next z r)) ((judged g).next z r) y
degree-lowest g w t x h p k r s z y e d m n = earliest-lowest (next-rises g z r w) (picked_first (rw n at (h.picked p k r s z e d m)))
