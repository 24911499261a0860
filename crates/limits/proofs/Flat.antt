-- The bytes of a tree, node after node as it is listed: nothing but the list itself has to be looked at to write them.
-- Assumes nothing.
use mathlib.Core.Path.{◌≡◌, refl, sym, ap, ap₂, ◌∙◌}
use mathlib.Core.Bool.{Bool, true, false, cond}
use mathlib.Core.List.{List, [], ◌∷◌, ◌++◌, append_assoc, append-nil}
use Prim.Native.Nat.{ℕ, suc, ◌≤◌, ◌<◌}
use native.Mathlib.Omega.{arith}
use lib.Dec.{T, leb, eqb}
use lib.ListN.{length}
use Rattle.meaning.specs.Bytes.{bytes}
use Rattle.meaning.specs.Tree.{Tree, node, Forest, none, more, count}
use Rattle.meaning.specs.Lists.{Listed, form_tree, grown, first_tree, listed, listed_f}
use Rattle.meaning.specs.Message.{node_bytes, children_bytes}
use Rattle.meaning.proofs.Reading.{at_most, not-le}
use Rattle.meaning.proofs.Lists.{same, other, at, Shallow, shallow-more, shallow-listed, root_role, listed-first}
use Rattle.limits.specs.Flat.{ahead}

module _ {L : Type 0} where
  -- ---- one node more

  pub ahead-end : (d : ℕ) (x : Listed L) (xs : List (Listed L)) → x.depth ≤ d → ahead d (x ∷ xs) ≡ 0
  unfolding ahead
  ahead-end d x xs l = rw (at_most x.depth d l) refl

  pub ahead-next : (d : ℕ) (x : Listed L) (xs : List (Listed L)) → x.depth ≡ suc d → ahead d (x ∷ xs) ≡ suc (ahead d xs)
  unfolding ahead
  ahead-next d x xs e = rw (not-le x.depth d (omega (arith, e)), same x.depth (suc d) e) refl

  pub ahead-deep : (d : ℕ) (x : Listed L) (xs : List (Listed L)) → suc d < x.depth → ahead d (x ∷ xs) ≡ ahead d xs
  unfolding ahead
  ahead-deep d x xs l =
      rw (not-le x.depth d (omega (arith, l)), other x.depth (suc d) (λ e. let z : x.depth ≡ suc d = e in omega (arith, l))) refl

  pub ahead-most : (d : ℕ) (xs : List (Listed L)) → ahead d xs ≤ length xs
  unfolding ahead
  ahead-most d [] = omega arith
  ahead-most d (x ∷ xs) = go (leb x.depth d) (eqb x.depth (suc d)) (ahead-most d xs)
    where
      go : (a b : Bool) → ahead d xs ≤ length xs → cond a 0 (cond b (suc (ahead d xs)) (ahead d xs)) ≤ suc (length xs)
      go true b h = omega arith
      go false true h = omega (arith, h)
      go false false h = omega (arith, h)

  -- ---- the children of a node, counted in the list

  mutual
    unfolding listed

    -- what stands two deeper or more is not counted
    below-tree : (t : Tree L) (d e r : ℕ) (xs : List (Listed L)) → suc d < e → ahead d (listed e r t ++ xs) ≡ ahead d xs
    below-tree (node a f) d e r xs l = ahead-deep d (at a e r) (listed_f (suc e) f ++ xs) l ∙ below-forest f d (suc e) xs (omega (arith, l))

    below-forest : (f : Forest L) (d e : ℕ) (xs : List (Listed L)) → suc d < e → ahead d (listed_f e f ++ xs) ≡ ahead d xs
    below-forest none d e xs l = refl
    below-forest (more r t f) d e xs l =
        ap (ahead d) (append_assoc (listed e r t) (listed_f e f) xs) ∙ below-tree t d e r (listed_f e f ++ xs) l ∙ below-forest f d e xs l

  ahead-shallow : (d : ℕ) (xs : List (Listed L)) → Shallow d xs → ahead d xs ≡ 0
  unfolding ahead
  ahead-shallow d [] w = refl
  ahead-shallow d (x ∷ xs) w = ahead-end d x xs w

  ahead-tree : (t : Tree L) (d r : ℕ) (xs : List (Listed L)) → ahead d (listed (suc d) r t ++ xs) ≡ suc (ahead d xs)
  unfolding listed
  ahead-tree (node a f) d r xs =
      ahead-next d (at a (suc d) r) (listed_f (suc (suc d)) f ++ xs) refl ∙ ap suc (below-forest f d (suc (suc d)) xs (omega arith))

  pub ahead-count : (f : Forest L) (d : ℕ) (xs : List (Listed L)) → Shallow d xs → ahead d (listed_f (suc d) f ++ xs) ≡ count f
  unfolding listed count
  ahead-count none d xs w = ahead-shallow d xs w
  ahead-count (more r t f) d xs w =
      ap (ahead d) (append_assoc (listed (suc d) r t) (listed_f (suc d) f) xs) ∙ ahead-tree t d r (listed_f (suc d) f ++ xs)
      ∙ omega (arith, ahead-count f d xs w)

  -- ---- the bytes

  module _ (names_of : L → ℕ) (how_many : L → ℕ) (own : L → List ℕ) where
    -- a node's ten bytes of fixed fields, where it has n children
    abbrev pub fixed : L → ℕ → List ℕ
    fixed a n = bytes 8 (names_of a) ++ (how_many a ∷ n ∷ [])

    unfoldable pub list_bytes : List (Listed L) → List ℕ
    list_bytes [] = []
    list_bytes (x ∷ xs) = x.role ∷ (fixed x.label (ahead x.depth xs) ++ (own x.label ++ list_bytes xs))

    abbrev tree_bytes : Tree L → List ℕ
    tree_bytes = node_bytes names_of how_many own

    abbrev forest_bytes : Forest L → List ℕ
    forest_bytes = children_bytes names_of how_many own

    mutual
      unfolding listed list_bytes node_bytes

      list-tree : (t : Tree L) (d r : ℕ) (xs : List (Listed L)) → Shallow d xs → list_bytes (listed d r t ++ xs) ≡ r ∷ (tree_bytes t ++ list_bytes xs)
      list-tree (node a f) d r xs w =
          ap₂ (λ (n : ℕ) (z : List ℕ). r ∷ (fixed a n ++ (own a ++ z))) (ahead-count f d xs w) (list-forest f (suc d) xs (shallow-more d xs w))
          ∙ ap (λ (z : List ℕ). r ∷ z) (sym (append_assoc (fixed a (count f)) (own a) (forest_bytes f ++ list_bytes xs))
          ∙ sym (append_assoc (fixed a (count f) ++ own a) (forest_bytes f) (list_bytes xs)))

      list-forest : (f : Forest L) (d : ℕ) (xs : List (Listed L)) → Shallow d xs → list_bytes (listed_f d f ++ xs) ≡ forest_bytes f ++ list_bytes xs
      list-forest none d xs w = refl
      list-forest (more r t f) d xs w =
          ap list_bytes (append_assoc (listed d r t) (listed_f d f) xs) ∙ list-tree t d r (listed_f d f ++ xs) (shallow-listed d f xs w)
          ∙ ap (λ (z : List ℕ). r ∷ (tree_bytes t ++ z)) (list-forest f d xs w)
          ∙ ap (λ (z : List ℕ). r ∷ z) (sym (append_assoc (tree_bytes t) (forest_bytes f) (list_bytes xs)))

    -- the list of a tree: the role of its root, which no message has, and the bytes of the tree
    pub flat-bytes : (a : L) (xs : List (Listed L)) → T (form_tree xs) → list_bytes xs ≡ root_role xs ∷ tree_bytes (first_tree a (grown xs))
    unfolding list_bytes
    flat-bytes a xs w =
        let t = first_tree a (grown xs) in
        let e = listed-first a xs w in
        ap list_bytes (sym e ∙ sym (append-nil _)) ∙ list-tree t 0 (root_role xs) [] tt ∙ ap (λ (z : List ℕ). root_role xs ∷ z) (append-nil (tree_bytes t))
