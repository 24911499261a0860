-- The map shown for a yes is a whole map, in which each child goes to the first successor that meets it.
-- Assumes nothing.
use mathlib.Core.Path.{◌≡◌, refl, sym, ap, ap₂, ◌∙◌, subst, fun_ext}
use mathlib.Core.Bool.{Bool, true, false, cond}
use mathlib.Core.List.{List, [], ◌∷◌, ◌++◌, map}
use mathlib.Core.Option.{some}
use Prim.Native.Nat.{ℕ, zero, suc}
use lib.Dec.{T}
use lib.ListN.{length}
use Rattle.meaning.specs.Tree.{Tree, node, Forest, none, more, nodes, subtree, subtree_f, role_of, role_at, role_at_f, places}
use Rattle.meaning.specs.Graph.{Graph}
use Rattle.meaning.specs.Register.{Register, judged, well_formed}
use Rattle.meaning.specs.Whole.{meets_by, meets_by_f, WholeMap}
use Rattle.meaning.specs.Shown.{first, yes_by, yes_by_f}
use Rattle.meaning.proofs.Tests.{holds, first_found, not_some, some_inj}
use Rattle.meaning.proofs.Whole.{at-node, at_more, first_map, first_map_f, first-root, meets-map}
use Rattle.meaning.proofs.Rising.{Earliest, here, later, earliest-holds, LowestOf, earliest-lowest}
use Rattle.meaning.proofs.Links.{next-rises}
use Rattle.meaning.proofs.Places.{subtree-root, along, along_f, along-places, along-length}

pub first-earliest : {A : Type 0} (p : A → Bool) (l : List A) (y : A) → first p l ≡ some y → Earliest (λ z. T (p z)) l y
unfolding first
first-earliest p [] y e = absurd (not_some y e)
first-earliest {A} p (x ∷ l) y e = go (p x) refl e (λ d. first-earliest p l y d)
  where
    go : (b : Bool) → p x ≡ b → cond b (some x) (first p l) ≡ some y → (first p l ≡ some y → Earliest (λ z. T (p z)) l y)
        → Earliest (λ z. T (p z)) (x ∷ l) y
    go true d e k = rw (← some_inj e) (here (holds d))
    go false d e k = later (λ t. subst T d t) (k e)

module _ {L N : Type 0} (fits : L → N → Bool) (G : Graph N) where
  -- the first successor that meets the child
  abbrev FirstMet : Tree L → List N → N → Type 0
  FirstMet s l y = Earliest (λ z. T (meets_by fits G s z)) l y

  first-met : (r : ℕ) (t : Tree L) (f : Forest L) (x : N) → T (meets_by_f fits G (more r t f) x)
      → (y : N) × (first (λ z. meets_by fits G t z) (G.next x r) ≡ some y) × FirstMet t (G.next x r) y
  first-met r t f x m =
      let q = first_found (λ z. meets_by fits G t z) (G.next x r) ((at_more fits G r t f x).0 m).0 in
      (q.0, q.1, first-earliest (λ z. meets_by fits G t z) (G.next x r) q.0 q.1)

  -- ---- it is the map that the test finds, in reading order

  turns : (r : ℕ) (t : Tree L) (f : Forest L) (x y : N) → first (λ z. meets_by fits G t z) (G.next x r) ≡ some y
      → first_map_f fits G (more r t f) x 0 ≡ first_map fits G t y
  unfolding first_map
  turns r t f x y e = fun_ext (λ p. rw e)

  mutual
    unfolding yes_by first_map along

    yes-along : (t : Tree L) (x : N) → T (meets_by fits G t x) → yes_by fits G t x ≡ along t (first_map fits G t x)
    yes-along (node a f) x m = ap {B = List N} (λ z. x ∷ z) (yes-along_f f x ((at-node fits G a f x).0 m).1)

    yes-along_f : (f : Forest L) (x : N) → T (meets_by_f fits G f x) → yes_by_f fits G f x ≡ along_f f (first_map_f fits G f x)
    yes-along_f none x m = refl
    yes-along_f (more r t f) x m =
        let q = first-met r t f x m in
        let sub = yes-along t q.0 (earliest-holds q.2) ∙ ap (λ (h : List ℕ → N). along t h) (sym (turns r t f x q.0 q.1)) in
        rw q.1 (ap₂ {C = List N} ◌++◌ sub (yes-along_f f x ((at_more fits G r t f x).0 m).1))

  -- ---- where a child goes

  top : (f : Forest L) (x : N) → T (meets_by_f fits G f x) → (k r : ℕ) (s : Tree L) → role_of f k ≡ some r → subtree_f f k [] ≡ some s
      → FirstMet s (G.next x r) (first_map_f fits G f x k [])
  unfolding role_of subtree first_map
  top none x m k r s e d = absurd (not_some r e)
  top (more q t f) x m zero r s e d =
      let c = first-met q t f x m in
      let same : t ≡ s = some_inj (sym (subtree-root t) ∙ d) in
      rw (c.1, first-root fits G t c.0, ← some_inj e, ← same) c.2
  top (more q t f) x m (suc k) r s e d = top f x ((at_more fits G q t f x).0 m).1 k r s e d

  mutual
    unfolding role_at subtree first_map

    child : (t : Tree L) (x : N) → T (meets_by fits G t x) → (p : List ℕ) (k r : ℕ) (s : Tree L) → role_at t p k ≡ some r
        → subtree t (p ++ k ∷ []) ≡ some s → FirstMet s (G.next (first_map fits G t x p) r) (first_map fits G t x (p ++ k ∷ []))
    child (node a f) x m [] k r s e d = top f x ((at-node fits G a f x).0 m).1 k r s e d
    child (node a f) x m (j ∷ p) k r s e d = child_f f x ((at-node fits G a f x).0 m).1 j p k r s e d

    child_f : (f : Forest L) (x : N) → T (meets_by_f fits G f x) → (j : ℕ) (p : List ℕ) (k r : ℕ) (s : Tree L) → role_at_f f j p k ≡ some r
        → subtree_f f j (p ++ k ∷ []) ≡ some s → FirstMet s (G.next (first_map_f fits G f x j p) r) (first_map_f fits G f x j (p ++ k ∷ []))
    child_f none x m j p k r s e d = absurd (not_some r e)
    child_f (more q t f) x m zero p k r s e d = let c = first-met q t f x m in rw c.1 (child t c.0 (earliest-holds c.2) p k r s e d)
    child_f (more q t f) x m (suc j) p k r s e d = child_f f x ((at_more fits G q t f x).0 m).1 j p k r s e d

  -- what the map shown for a yes says
  pub record YesShows (t : Tree L) (x : N) : Type 0 where
    pub whole : WholeMap fits G t x
    pub listed : yes_by fits G t x ≡ map whole.map (places t)
    pub long : length (yes_by fits G t x) ≡ nodes t
    pub earliest : (p : List ℕ) (k r : ℕ) (s : Tree L) → role_at t p k ≡ some r → subtree t (p ++ k ∷ []) ≡ some s
        → Earliest (λ y. T (meets_by fits G s y)) (G.next (whole.map p) r) (whole.map (p ++ k ∷ []))

  pub yes-shows : (t : Tree L) (x : N) → T (meets_by fits G t x) → YesShows t x
  yes-shows t x m = record {
    whole = meets-map fits G t x m;
    listed = yes-along t x m ∙ sym (along-places t (first_map fits G t x));
    long = ap length (yes-along t x m) ∙ along-length t (first_map fits G t x);
    earliest = child t x m;
  }

-- in a well-formed register that is the lowest-numbered successor that meets the child
pub yes-lowest : {L : Type 0} (fits : L → ℕ → Bool) (g : Register) → T (well_formed g) → (t : Tree L) (x : ℕ) (h : YesShows fits (judged g) t x)
    (p : List ℕ) (k r : ℕ) (s : Tree L) → role_at t p k ≡ some r → subtree t (p ++ k ∷ []) ≡ some s
    → LowestOf (λ y. T (meets_by fits (judged g) s y)) ((judged g).next (h.whole.map p) r) (h.whole.map (p ++ k ∷ []))
yes-lowest fits g w t x h p k r s e d = earliest-lowest (next-rises g (h.whole.map p) r w) (h.earliest p k r s e d)
