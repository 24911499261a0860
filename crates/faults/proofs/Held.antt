-- The rows of an inner list hold the tree that it says.
-- Assumes nothing.
use mathlib.Core.Path.{◌≡◌, refl, sym, ap, ◌∙◌, subst}
use mathlib.Core.Bool.{true}
use mathlib.Core.List.{List, [], ◌∷◌, ◌++◌, append_assoc, append-nil}
use Prim.Native.Nat.{ℕ, zero, suc, ◌+◌, ◌*◌, ◌-◌, ◌/◌, ◌%◌, ◌≤◌, ◌<◌}
use native.Mathlib.Omega.{arith}
use lib.ListN.{length, get_or}
use Rattle.meaning.specs.Bounds.{most_levels, most_nodes}
use Rattle.meaning.specs.Tree.{node, Forest, none, more, Concept, nodes, nodes_f, levels, levels_f}
use Rattle.meaning.specs.Rows.{Holds, HoldsF}
use Rattle.meaning.specs.Lists.{Listed, concept, listed, listed_f}
use Rattle.meaning.specs.Writing.{nodes_from, nodes_in}
use Rattle.meaning.proofs.Reading.{at_most, not-le}
use Rattle.meaning.proofs.Lists.{Shallow, shallow-more, shallow-listed, root_role}
use Rattle.meaning.proofs.ListsFit.{listed-length, Fit, Ok, tree-fits, nodes-fit}
use Rattle.meaning.proofs.ListsSound.{inner-listed}
use Rattle.reduction.specs.Held.{Held}
use Rattle.lists.specs.Handed.{nodes_to, Inner}
use Rattle.faults.specs.Faulty.{deeper}
use Rattle.lists.proofs.Peeled.{nodes-many}

-- ---- what is deeper than a node that a tree's list follows

deeper-shallow : (d : ℕ) (xs : List (Listed ℕ)) → Shallow d xs → deeper d xs ≡ 0
unfolding deeper
deeper-shallow d [] w = refl
deeper-shallow d (x ∷ xs) w = rw (at_most x.depth d w) refl

mutual
  unfolding deeper listed nodes

  deeper-listed : (t : Concept) (d e r : ℕ) (xs : List (Listed ℕ)) → d < e → deeper d (listed e r t ++ xs) ≡ nodes t + deeper d xs
  deeper-listed (node a f) d e r xs l = rw (not-le e d l) (omega (arith, deeper-listed_f f d (suc e) xs (omega (arith, l))))

  deeper-listed_f : (f : Forest ℕ) (d e : ℕ) (xs : List (Listed ℕ)) → d < e → deeper d (listed_f e f ++ xs) ≡ nodes_f f + deeper d xs
  deeper-listed_f none d e xs l = omega arith
  deeper-listed_f (more r t f) d e xs l =
      ap (deeper d) (append_assoc (listed e r t) (listed_f e f) xs)
      ∙ omega (arith, deeper-listed t d e r (listed_f e f ++ xs) l, deeper-listed_f f d e xs l)

-- ---- rows that say a list

module _ (names roles ends : List ℕ) where
  -- the rows from the i-th on say the nodes of a list; the role of the 0-th is not looked at
  unfoldable pub Say : ℕ → List (Listed ℕ) → Type 0
  Say i [] = Unit {0}
  Say i (x ∷ xs) =
      (get_or names i 0 ≡ x.label) × (0 < i → get_or roles i 0 ≡ x.role) × (get_or ends i 0 ≡ i + 1 + deeper x.depth xs) × Say (suc i) xs

  say-behind : (i : ℕ) (xs ys : List (Listed ℕ)) → Say i (xs ++ ys) → Say (i + length xs) ys
  unfolding Say
  say-behind i [] ys w = let e : i ≡ i + 0 = omega arith in subst (λ (z : ℕ). Say z ys) e w
  say-behind i (x ∷ xs) ys w =
      let e : suc i + length xs ≡ i + suc (length xs) = omega arith in
      subst (λ (z : ℕ). Say z ys) e (say-behind (suc i) xs ys w.3)

  -- what the first row says of its tree
  say-first : (t : Concept) (d r i : ℕ) (xs : List (Listed ℕ)) → Shallow d xs → Say i (listed d r t ++ xs)
      → (0 < i → get_or roles i 0 ≡ r) × (get_or ends i 0 ≡ i + nodes t)
  unfolding Say listed nodes
  say-first (node a f) d r i xs s w =
      (w.1, omega (arith, w.2, deeper-listed_f f d (suc d) xs (omega arith), deeper-shallow d xs s))

  mutual
    unfolding Say listed nodes levels Holds

    say-holds : (t : Concept) (d r i left : ℕ) (xs : List (Listed ℕ)) → Shallow d xs → levels t ≤ left → Say i (listed d r t ++ xs)
        → Holds names roles ends t left i (i + nodes t)
    say-holds (node a f) d r i left xs s l w =
        let first = say-first (node a f) d r i xs s w in
        let e : suc i + nodes_f f ≡ i + suc (nodes_f f) = omega arith in
        let g : suc i ≡ i + 1 = omega arith in
        let kids = say-holds_f f (suc d) (suc i) (left - 1) xs (omega arith) (shallow-more d xs s) (omega (arith, l)) w.3 in (
          omega (arith, l),
          omega arith,
          w.0,
          first.1,
          subst (λ (z : ℕ). HoldsF names roles ends f (left - 1) z (i + suc (nodes_f f))) g
              (subst (λ (z : ℕ). HoldsF names roles ends f (left - 1) (suc i) z) e kids),
        )

    say-holds_f : (f : Forest ℕ) (d i left : ℕ) (xs : List (Listed ℕ)) → 0 < i → Shallow d xs → levels_f f ≤ left → Say i (listed_f d f ++ xs)
        → HoldsF names roles ends f left i (i + nodes_f f)
    say-holds_f none d i left xs b s l w = omega arith
    say-holds_f (more r t f) d i left xs b s l w =
        let w2 = subst (Say i) (append_assoc (listed d r t) (listed_f d f) xs) w in
        let s2 = shallow-listed d f xs s in
        let first = say-first t d r i (listed_f d f ++ xs) s2 w2 in
        let one = say-holds t d r i left (listed_f d f ++ xs) s2 (omega (arith, l)) w2 in
        let e : i + length (listed d r t) ≡ i + nodes t = ap (λ (z : ℕ). i + z) (listed-length t d r) in
        let w3 = subst (λ (z : ℕ). Say z (listed_f d f ++ xs)) e (say-behind i (listed d r t) (listed_f d f ++ xs) w2) in
        let rest = say-holds_f f d (i + nodes t) left xs (omega (arith, b)) s (omega (arith, l)) w3 in
        let g : i + nodes t + nodes_f f ≡ i + (nodes t + nodes_f f) = omega arith in (
          first.0 b,
          omega (arith, first.1),
          subst (Holds names roles ends t left i) (sym first.1) one,
          subst (λ (z : ℕ). HoldsF names roles ends f left z (i + (nodes t + nodes_f f))) (sym first.1)
              (subst (HoldsF names roles ends f left (i + nodes t)) g rest),
        )

-- ---- the rows of an inner list

all-ok : (xs : List (Listed ℕ)) → Ok (λ a. true) xs
unfolding Ok
all-ok [] = tt
all-ok (x ∷ xs) = (tt, all-ok xs)

module _ (list : List ℕ) (w : Inner list) where
  abbrev end : ℕ
  end = length list / 3

  abbrev tree : Concept
  tree = concept (nodes_in list)

  back : listed 0 (root_role (nodes_in list)) tree ≡ nodes_in list
  back = inner-listed (nodes_in list) w.forms

  bounds : (levels tree ≤ most_levels) × (nodes tree ≤ most_nodes)
  bounds =
      let r = root_role (nodes_in list) in
      let f = tree-fits (λ a. true) tree 0 r 0 (subst (Fit 0) (sym back) (nodes-fit 0 (nodes_in list) w.fits)) (all-ok (listed 0 r tree)) in
      (omega (arith, f.1), omega (arith, f.2))

  many : nodes tree ≡ end
  many = sym (listed-length tree 0 (root_role (nodes_in list))) ∙ ap length back ∙ nodes-many list 0 end

  pub inner-few : end ≤ 64
  inner-few = omega (arith, many, bounds.1)

  module _ (names roles ends : List ℕ)
      (n : (i : ℕ) → i < end → get_or names i 0 ≡ get_or list (3 * i) 0)
      (r : (i : ℕ) → i < end → get_or roles i 0 ≡ get_or list (3 * i + 2) 0 % 256)
      (e : (i : ℕ) → i < end → get_or ends i 0 ≡ i + 1 + deeper (get_or list (3 * i + 1) 0) (nodes_to list (i + 1) end)) where
    says : (m i : ℕ) → i + m ≡ end → Fit i (nodes_from list i m) → Say names roles ends i (nodes_from list i m)
    unfolding Say nodes_from Fit
    says zero i q f = tt
    says (suc m) i q f =
        let l : i < end = omega (arith, q) in
        let g : end - (i + 1) ≡ m = omega (arith, q) in
        let h : i + 1 ≡ suc i = omega arith in
        let d = get_or list (3 * i + 1) 0 in
        let xs : nodes_to list (i + 1) end ≡ nodes_from list (suc i) m = ap (nodes_from list (i + 1)) g ∙ ap (λ (z : ℕ). nodes_from list z m) h in (
          n i l,
          λ b. r i l ∙ (let y = f.0.0 b in omega (arith, y)),
          e i l ∙ ap (λ (z : List (Listed ℕ)). i + 1 + deeper d z) xs,
          says m (suc i) (omega (arith, q)) f.1,
        )

    said : Say names roles ends 0 (listed 0 (root_role (nodes_in list)) tree ++ [])
    said =
        subst (Say names roles ends 0) (sym (append-nil (listed 0 (root_role (nodes_in list)) tree) ∙ back))
        (says end 0 (omega arith) (nodes-fit 0 (nodes_in list) w.fits))

    -- they hold the tree up to the end of the first
    pub inner-holds : Holds names roles ends tree 17 0 (get_or ends 0 0)
    inner-holds =
        let f = say-first names roles ends tree 0 (root_role (nodes_in list)) 0 [] tt said in
        let h = say-holds names roles ends tree 0 (root_role (nodes_in list)) 0 17 [] tt bounds.0 said in
        subst (Holds names roles ends tree 17 0) (sym f.1) h

    pub inner-held : Held names roles ends 17 0
    inner-held =
        let f = say-first names roles ends tree 0 (root_role (nodes_in list)) 0 [] tt said in
        record { tree = tree; holds = inner-holds; fits = omega (arith, f.1, bounds.1) }
