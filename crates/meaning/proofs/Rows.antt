-- Rows that hold a tree. What stands at a row; that rows hold one tree only; that a tree and its marks depend on its own rows alone;
-- and children one after the other.
-- Assumes nothing.
use mathlib.Core.Path.{◌≡◌, refl, sym, ap, ap₂, subst, ◌∙◌}
use mathlib.Core.Bool.{Bool, true, false, ◌||◌, cond}
use mathlib.Core.List.{List, ◌∷◌}
use Prim.Native.Nat.{ℕ, ◌+◌, ◌-◌, ◌≤◌, ◌<◌}
use native.Mathlib.Nat.{max-le}
use native.Mathlib.Omega.{arith}
use lib.Dec.{eqb}
use lib.ListN.{get_or}
use Rattle.meaning.specs.Tree.{node, Forest, none, more, Concept, under, nodes, nodes_f, levels, levels_f}
use Rattle.meaning.specs.Whole.{any}
use Rattle.meaning.specs.Reduce.{subsumes, dropped}
use Rattle.meaning.specs.InPlace.{count_in, size_in, size_in_f}
use Rattle.meaning.specs.Rows.{Holds, HoldsF, mark, Marked, MarkedF}

-- ---- one level at a time

module _ (names roles ends : List ℕ) where
  -- a tree at the rows from i up to e
  pub record Opened (t : Concept) (left i e : ℕ) : Type 0 where
    pub kids : Forest ℕ
    pub same : t ≡ node (get_or names i 0) kids
    pub deep : 0 < left
    pub inside : i < e
    pub ended : get_or ends i 0 ≡ e
    pub below : HoldsF names roles ends kids (left - 1) (i + 1) e

  pub opened : (t : Concept) (left i e : ℕ) → Holds names roles ends t left i e → Opened t left i e
  unfolding Holds
  opened (node a f) left i e h =
      record { kids = f; same = ap (λ (z : ℕ). node z f) (sym h.2); deep = h.0; inside = h.1; ended = h.3; below = h.4 }

  -- trees one after the other, where there are some
  pub record First (f : Forest ℕ) (left i e : ℕ) : Type 0 where
    pub tree : Concept
    pub rest : Forest ℕ
    pub same : f ≡ more (get_or roles i 0) tree rest
    pub deep : 0 < left
    pub inside : i < get_or ends i 0
    pub within : get_or ends i 0 ≤ e
    pub here : Holds names roles ends tree left i (get_or ends i 0)
    pub after : HoldsF names roles ends rest left (get_or ends i 0) e

  pub first : (f : Forest ℕ) (left i e : ℕ) → HoldsF names roles ends f left i e → i < e → First f left i e
  unfolding Holds
  first none left i e h lt = absurd (let z : i ≡ e = h in omega arith)
  first (more r t f) left i e h lt =
      let o = opened t left i (get_or ends i 0) h.2 in
      record {
        tree = t;
        rest = f;
        same = ap (λ (z : ℕ). more z t f) (sym h.0);
        deep = o.deep;
        inside = o.inside;
        within = h.1;
        here = h.2;
        after = h.3;
      }

  pub holds_f-le : (f : Forest ℕ) (left i e : ℕ) → HoldsF names roles ends f left i e → i ≤ e
  unfolding Holds
  holds_f-le none left i e h = let z : i ≡ e = h in omega arith
  holds_f-le (more r t f) left i e h = let o = opened t left i (get_or ends i 0) h.2 in let z : get_or ends i 0 ≤ e = h.1 in omega arith

  -- where none are left
  pub ran_out : (f : Forest ℕ) (left i e : ℕ) → HoldsF names roles ends f left i e → e ≤ i → f ≡ none
  unfolding Holds
  ran_out none left i e h le = refl
  ran_out (more r t f) left i e h le =
      absurd (let o = opened t left i (get_or ends i 0) h.2 in let z : get_or ends i 0 ≤ e = h.1 in omega arith)

  -- ---- the other way: a tree from its rows

  pub holds-node : (f : Forest ℕ) (left i e : ℕ) → 0 < left → i < e → get_or ends i 0 ≡ e → HoldsF names roles ends f (left - 1) (i + 1) e
      → Holds names roles ends (node (get_or names i 0) f) left i e
  unfolding Holds
  holds-node f left i e d l q h = (d, l, refl, q, h)

  pub holds_more : (t : Concept) (f : Forest ℕ) (left i e : ℕ) → get_or ends i 0 ≤ e → Holds names roles ends t left i (get_or ends i 0)
      → HoldsF names roles ends f left (get_or ends i 0) e → HoldsF names roles ends (more (get_or roles i 0) t f) left i e
  unfolding Holds
  holds_more t f left i e l h k = (refl, l, h, k)

  pub holds-none : (left i : ℕ) → HoldsF names roles ends none left i i
  unfolding Holds
  holds-none left i = refl

  pub holds-ended : (t : Concept) (left i e : ℕ) → Holds names roles ends t left i e → Holds names roles ends t left i (get_or ends i 0)
  holds-ended t left i e h = subst (λ z. Holds names roles ends t left i z) (sym (opened t left i e h).ended) h

  -- ---- levels and nodes

  mutual
    unfolding Holds

    pub holds-deeper : (t : Concept) (left left' i e : ℕ) → left ≤ left' → Holds names roles ends t left i e → Holds names roles ends t left' i e
    holds-deeper (node a f) left left' i e l h =
        let d : 0 < left = h.0 in
        (omega arith, h.1, h.2, h.3, holds_f-deeper f (left - 1) (left' - 1) (i + 1) e (omega arith) h.4)

    pub holds_f-deeper : (f : Forest ℕ) (left left' i e : ℕ) → left ≤ left' → HoldsF names roles ends f left i e → HoldsF names roles ends f left' i e
    holds_f-deeper none left left' i e l h = h
    holds_f-deeper (more r t f) left left' i e l h =
        (h.0, h.1, holds-deeper t left left' i (get_or ends i 0) l h.2, holds_f-deeper f left left' (get_or ends i 0) e l h.3)

  mutual
    unfolding Holds levels

    pub holds-levels : (t : Concept) (left i e : ℕ) → Holds names roles ends t left i e → levels t ≤ left
    holds-levels (node a f) left i e h = let d : 0 < left = h.0 in omega (arith, holds_f-levels f (left - 1) (i + 1) e h.4)

    pub holds_f-levels : (f : Forest ℕ) (left i e : ℕ) → HoldsF names roles ends f left i e → levels_f f ≤ left
    holds_f-levels none left i e h = omega arith
    holds_f-levels (more r t f) left i e h =
        max-le (holds-levels t left i (get_or ends i 0) h.2) (holds_f-levels f left (get_or ends i 0) e h.3)

  -- a row for each written node
  mutual
    unfolding Holds nodes

    pub holds-nodes : (t : Concept) (left i e : ℕ) → Holds names roles ends t left i e → i + nodes t ≡ e
    holds-nodes (node a f) left i e h = omega (arith, holds_f-nodes f (left - 1) (i + 1) e h.4)

    pub holds_f-nodes : (f : Forest ℕ) (left i e : ℕ) → HoldsF names roles ends f left i e → i + nodes_f f ≡ e
    holds_f-nodes none left i e h = let z : i ≡ e = h in omega arith
    holds_f-nodes (more r t f) left i e h =
        omega (arith, holds-nodes t left i (get_or ends i 0) h.2, holds_f-nodes f left (get_or ends i 0) e h.3)

  -- ---- one tree only

  mutual
    unfolding Holds

    pub holds-one : (t u : Concept) (left left' i e e' : ℕ) → Holds names roles ends t left i e → Holds names roles ends u left' i e' → t ≡ u
    holds-one (node a f) (node b g) left left' i e e' h k =
        let q : e' ≡ e = sym k.3 ∙ h.3 in
        ap₂ node (sym h.2 ∙ k.2) (holds_f-one f g (left - 1) (left' - 1) (i + 1) e h.4 (subst (λ z. HoldsF names roles ends g (left' - 1) (i + 1) z) q k.4))

    pub holds_f-one : (f g : Forest ℕ) (left left' i e : ℕ) → HoldsF names roles ends f left i e → HoldsF names roles ends g left' i e → f ≡ g
    holds_f-one none g left left' i e h k = sym (ran_out g left' i e k (let z : i ≡ e = h in omega arith))
    holds_f-one (more r t f) none left left' i e h k = ran_out (more r t f) left i e h (let z : i ≡ e = k in omega arith)
    holds_f-one (more r t f) (more s u g) left left' i e h k =
        cc (h.0, k.0, holds-one t u left left' i (get_or ends i 0) (get_or ends i 0) h.2 k.2, holds_f-one f g left left' (get_or ends i 0) e h.3 k.3)

-- ---- a tree depends on its own rows alone

module _ (names roles ends names' roles' ends' : List ℕ) where
  -- the rows from i up to e are the same in both
  pub record SameRows (i e : ℕ) : Type 0 where
    pub names_at : (k : ℕ) → i ≤ k → k < e → get_or names' k 0 ≡ get_or names k 0
    pub roles-at : (k : ℕ) → i ≤ k → k < e → get_or roles' k 0 ≡ get_or roles k 0
    pub ends_at : (k : ℕ) → i ≤ k → k < e → get_or ends' k 0 ≡ get_or ends k 0

  part : {i e : ℕ} (j m : ℕ) → SameRows i e → i ≤ j → m ≤ e → SameRows j m
  part j m s l h = record {
    names_at = λ k a b. s.names_at k (omega arith) (omega arith);
    roles-at = λ k a b. s.roles-at k (omega arith) (omega arith);
    ends_at = λ k a b. s.ends_at k (omega arith) (omega arith);
  }

  mutual
    unfolding Holds

    pub holds_kept : (t : Concept) (left i e : ℕ) → SameRows i e → Holds names roles ends t left i e → Holds names' roles' ends' t left i e
    holds_kept (node a f) left i e s h =
        let l : i < e = h.1 in
        let z : i ≤ i = omega arith in
        (h.0, l, s.names_at i z l ∙ h.2, s.ends_at i z l ∙ h.3, holds_f-kept f (left - 1) (i + 1) e (part (i + 1) e s (omega arith) (omega arith)) h.4)

    pub holds_f-kept : (f : Forest ℕ) (left i e : ℕ) → SameRows i e → HoldsF names roles ends f left i e → HoldsF names' roles' ends' f left i e
    holds_f-kept none left i e s h = h
    holds_f-kept (more r t f) left i e s h =
        let o = opened names roles ends t left i (get_or ends i 0) h.2 in
        let q : get_or ends i 0 ≤ e = h.1 in
        let z : i ≤ i = omega arith in
        let l : i < e = omega arith in
        let m : get_or ends' i 0 ≡ get_or ends i 0 = s.ends_at i z l in
        rw m (
          s.roles-at i z l ∙ h.0,
          q,
          holds_kept t left i (get_or ends i 0) (part i (get_or ends i 0) s (omega arith) q) h.2,
          holds_f-kept f left (get_or ends i 0) e (part (get_or ends i 0) e s (omega arith) (omega arith)) h.3,
        )

-- ---- and so do its marks

pub mark-dropped : (d : Bool) {m : ℕ} → m ≡ mark d → (m ≡ 1 → ⊥) → d ≡ true
mark-dropped true e z = refl
mark-dropped false e z = absurd (z e)

pub mark-kept : (d : Bool) {m : ℕ} → m ≡ mark d → m ≡ 1 → d ≡ false
mark-kept true e z = absurd (let q : ◌≡◌ {A = ℕ} 0 1 = sym e ∙ z in omega arith)
mark-kept false e z = refl

module _ (names roles ends old new : List ℕ) where
  -- the marks from i up to e are the same in both
  abbrev pub SameMarks : ℕ → ℕ → Type 0
  SameMarks i e = (k : ℕ) → i ≤ k → k < e → get_or new k 0 ≡ get_or old k 0

  mutual
    unfolding Holds Marked

    pub marked-kept : (t : Concept) (left i e : ℕ) → SameMarks (i + 1) e → Holds names roles ends t left i e → Marked ends old t i → Marked ends new t i
    marked-kept (node a f) left i e s h m = marked_f-kept f none (left - 1) (i + 1) e s h.4 m

    pub marked_f-kept : (f b : Forest ℕ) (left i e : ℕ) → SameMarks i e → HoldsF names roles ends f left i e → MarkedF ends old f b i → MarkedF ends new f b i
    marked_f-kept none b left i e s h m = tt
    marked_f-kept (more r t f) b left i e s h m =
        let o = opened names roles ends t left i (get_or ends i 0) h.2 in
        let q : get_or ends i 0 ≤ e = h.1 in
        let z : get_or new i 0 ≡ get_or old i 0 = s i (omega arith) (omega arith) in (
          z ∙ m.0,
          (λ g. marked-kept t left i (get_or ends i 0) (λ k x y. s k (omega arith) (omega arith)) h.2 (m.1 (sym z ∙ g))),
          marked_f-kept f (more r t b) left (get_or ends i 0) e (λ k x y. s k (omega arith) y) h.3 m.2,
        )

-- ---- children one after the other

-- the children f behind the children b, which stand with the last one first
unfoldable pub onto : Forest ℕ → Forest ℕ → Forest ℕ
onto none f = f
onto (more r t b) f = onto b (more r t f)

unfoldable join : Forest ℕ → Forest ℕ → Forest ℕ
join none g = g
join (more r t f) g = more r t (join f g)

join-assoc : (f g h : Forest ℕ) → join (join f g) h ≡ join f (join g h)
unfolding join
join-assoc none g h = refl
join-assoc (more r t f) g h = rw (join-assoc f g h)

onto-join : (b f : Forest ℕ) → onto b f ≡ join (onto b none) f
unfolding onto join
onto-join none f = refl
onto-join (more r t b) f =
    onto-join b (more r t f) ∙ sym (ap (λ (z : Forest ℕ). join z f) (onto-join b (more r t none)) ∙ join-assoc (onto b none) (more r t none) f)

module _ (names roles ends : List ℕ) where
  holds-join : (f g : Forest ℕ) (left i m e : ℕ) → HoldsF names roles ends f left i m → HoldsF names roles ends g left m e
      → HoldsF names roles ends (join f g) left i e
  unfolding Holds join
  holds-join none g left i m e h k = subst (λ z. HoldsF names roles ends g left z e) (sym h) k
  holds-join (more r t f) g left i m e h k =
      let l : m ≤ e = holds_f-le names roles ends g left m e k in
      let q : get_or ends i 0 ≤ m = h.1 in
      (h.0, omega arith, h.2, holds-join f g left (get_or ends i 0) m e h.3 k)

  -- the children b stand from i up to m, and those of f from m up to e
  pub holds-onto : (b f : Forest ℕ) (left i m e : ℕ) → HoldsF names roles ends (onto b none) left i m → HoldsF names roles ends f left m e
      → HoldsF names roles ends (onto b f) left i e
  holds-onto b f left i m e h k = rw (onto-join b f) (holds-join (onto b none) f left i m e h k)

-- for a test of some child their order does not matter
or_turn : (x y z : Bool) → (x || (y || z)) ≡ ((y || x) || z)
or_turn true true z = refl
or_turn true false z = refl
or_turn false true z = refl
or_turn false false z = refl

pub any-onto : (p : Concept → Bool) (r : ℕ) (b f : Forest ℕ) → any p (under r (onto b f)) ≡ (any p (under r b) || any p (under r f))
unfolding onto under any
any-onto p r none f = refl
any-onto p r (more s t b) f = any-onto p r b (more s t f) ∙ go (eqb r s)
  where
    go : (q : Bool) → (any p (under r b) || any p (cond q (t ∷ under r f) (under r f))) ≡ (any p (cond q (t ∷ under r b) (under r b)) || any p (under r f))
    go true = or_turn (any p (under r b)) (p t) (any p (under r f))
    go false = refl

or-none : (x : Bool) → (x || false) ≡ x
or-none true = refl
or-none false = refl

pub dropped-onto : (r : ℕ) (b : Forest ℕ) (t : Concept) (l : List Concept) → dropped (under r (onto b none)) t l ≡ dropped (under r b) t l
unfolding dropped under any
dropped-onto r b t l = rw (any-onto (λ d. subsumes t d) r b none ∙ or-none (any (λ d. subsumes t d) (under r b)))

-- ---- a walk over the children of the node n, for what is worked out from a marked tree

module _ (names roles ends marks : List ℕ) (left n : ℕ) where
  -- The walk has come to row c of the tree t. The children in `before` are passed, the last one first, and those in `rest` are to come.
  -- Of a marked tree P holds, which says what was worked out so far.
  pub record Walked (P : Concept → Forest ℕ → Forest ℕ → Type 0) (c : ℕ) (t : Concept) : Type 0 where
    pub before : Forest ℕ
    pub rest : Forest ℕ
    pub back : HoldsF names roles ends rest (left - 1) c (get_or ends n 0)
    pub marked : Marked ends marks t n → MarkedF ends marks rest before c
    pub so_far : Marked ends marks t n → P t rest before

  -- for whatever tree stands at n
  abbrev pub Walk : (Concept → Forest ℕ → Forest ℕ → Type 0) → ℕ → Type 0
  Walk P c = (t : Concept) → Holds names roles ends t left n (get_or ends n 0) → Walked P c t

  pub walk_start : (P : Concept → Forest ℕ → Forest ℕ → Type 0) → ((f : Forest ℕ) → P (node (get_or names n 0) f) f none) → Walk P (n + 1)
  unfolding Holds Marked
  walk_start P start (node a f) h = record {
    before = none;
    rest = f;
    back = h.4;
    marked = λ m. m;
    so_far = λ m. subst (λ z. P (node z f) f none) h.2 (start f);
  }

  module _ (P : Concept → Forest ℕ → Forest ℕ → Type 0) (c : ℕ) (w : Walk P c) where
    -- the child at c: whether it is dropped, what is marked below it, and what was worked out before it
    pub record Met (t v : Concept) (f b : Forest ℕ) : Type 0 where
      pub holds : Holds names roles ends v (left - 1) c (get_or ends c 0)
      pub marked : get_or marks c 0 ≡ mark (dropped (under (get_or roles c 0) b) v (under (get_or roles c 0) f))
      pub below : get_or marks c 0 ≡ 1 → Marked ends marks v c
      pub so_far : P t (more (get_or roles c 0) v f) b

    module _ (t : Concept) where
      met : (r : ℕ) (v : Concept) (f b : Forest ℕ) → HoldsF names roles ends (more r v f) (left - 1) c (get_or ends n 0) → MarkedF ends marks (more r v f) b c
          → P t (more r v f) b → Met t v f b
      unfolding Holds Marked
      met r v f b h x p =
          let e = sym h.0 in
          record {
            holds = h.2;
            marked = x.0 ∙ ap (λ (z : ℕ). mark (dropped (under z b) v (under z f))) e;
            below = x.1;
            so_far = subst (λ z. P t (more z v f) b) e p;
          }

    pub walk-next : (Q : Concept → Forest ℕ → Forest ℕ → Type 0) → c < get_or ends n 0 → {m : ℕ} → m ≡ get_or ends c 0
        → ((t v : Concept) (f b : Forest ℕ) → Met t v f b → Q t f (more (get_or roles c 0) v b)) → Walk Q m
    unfolding Holds Marked
    walk-next Q lt {m} on step t h = let u = w t h in go u.rest u.before u.back u.marked u.so_far
      where
        go : (f b : Forest ℕ) → HoldsF names roles ends f (left - 1) c (get_or ends n 0) → (Marked ends marks t n → MarkedF ends marks f b c)
            → (Marked ends marks t n → P t f b) → Walked Q m t
        go none b h x p = absurd (let z : c ≡ get_or ends n 0 = h in omega arith)
        go (more r v f) b h x p = record {
          before = more r v b;
          rest = f;
          back = rw on h.3;
          marked = λ k. rw on (x k).2;
          so_far = λ k. subst (λ z. Q t f (more z v b)) h.0 (step t v f b (met t r v f b h (x k) (p k)));
        }

    pub walk_end : get_or ends n 0 ≤ c → (t : Concept) → Holds names roles ends t left n (get_or ends n 0) → Marked ends marks t n → (b : Forest ℕ) × P t none b
    walk_end le t h m =
        let u = w t h in
        (u.before, subst (λ z. P t z u.before) (ran_out names roles ends u.rest (left - 1) c (get_or ends n 0) u.back le) (u.so_far m))

-- ---- what one child gives: u under r, before which the children b are written, and behind it those of f

module _ (r : ℕ) (u : Concept) (f b : Forest ℕ) where
  -- whether it is dropped
  abbrev pub drops : Bool
  drops = dropped (under r b) u (under r f)

  pub size-more : (x : ℕ) → x ≡ cond drops 0 (1 + size_in u) → count_in (more r u f) b + size_in_f (more r u f) b ≡ x + (count_in f (more r u b) + size_in_f f (more r u b))
  unfolding size_in
  size-more x e = go drops e
    where
      c : ℕ
      c = count_in f (more r u b)

      s : ℕ
      s = size_in_f f (more r u b)

      go : (d : Bool) → x ≡ cond d 0 (1 + size_in u) → cond d c (1 + c) + cond d s (size_in u + s) ≡ x + (c + s)
      go true e = omega arith
      go false e = omega arith
