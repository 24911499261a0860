-- What is noted of a node's children, while they are worked out one after the other: the rows of one child are not those of another.
-- Assumes nothing.
use mathlib.Core.Path.{◌≡◌, refl, sym, ap, subst, ◌∙◌}
use mathlib.Core.Bool.{Bool, true, false}
use mathlib.Core.Logic.{◌⊎◌, inl, inr}
use mathlib.Core.List.{List}
use mathlib.Core.Option.{Option}
use Prim.Native.Nat.{ℕ, ◌+◌, ◌-◌, ◌≤◌, ◌<◌}
use native.Mathlib.Decide.{ℕ_discrete}
use native.Mathlib.Omega.{arith}
use lib.Dec.{ltb}
use lib.ListN.{length, get_or}
use borrow.Author.Tests.{ltb-true, ltb-false}
use Rattle.meaning.specs.Tree.{node, Forest, none, more, Concept, children}
use Rattle.meaning.specs.Register.{Register}
use Rattle.graph.specs.Walked.{walked}
use Rattle.meaning.specs.InPlace.{degree_in}
use Rattle.meaning.specs.Shown.{pick}
use Rattle.meaning.specs.Rows.{Holds, HoldsF}
use Rattle.meaning.proofs.Rows.{opened, holds-one}
use Rattle.degrees.specs.Notes.{flag, Note, Noted, NotedF, Outside}
use Rattle.heaviest.specs.Heavy.{Stands}
use Rattle.degrees.specs.Headed.{One}
use Rattle.heaviest.proofs.Stands.{Place, stands-place, stands-apart, stands-first, stands-next}

-- ---- rows that stay

-- a row that is the same in both
abbrev Same : ℕ → List ℕ → List ℕ → Type 0
Same n old new = (k : ℕ) → flag new n k ≡ flag old n k

note-same : (g : Register) (n x : ℕ) (o : Option ℕ) (old new : List ℕ) → length new ≡ length old → Same n old new → Note g old n x o → Note g new n x o
note-same g n x o old new size same w = record {
  only = λ k b f t. w.only k b f (sym (same k) ∙ t);
  one = λ y e. let p = w.one y e in (p.0, p.1, p.2, λ l. same p.0 ∙ p.3 (rw size at l));
}

-- two changes, one after the other
pub outside-then : (a b c d n e : ℕ) (old mid new : List ℕ) → n ≤ a → b ≤ e → n ≤ c → d ≤ e → Outside a b old mid → Outside c d mid new → Outside n e old new
outside-then a b c d n e old mid new ha hb hc hd p q j k (inl l) = q j k (inl (omega arith)) ∙ p j k (inl (omega arith))
outside-then a b c d n e old mid new ha hb hc hd p q j k (inr l) = q j k (inr (omega arith)) ∙ p j k (inr (omega arith))

module _ (names roles ends marks : List ℕ) (g : Register) where
  mutual
    unfolding Holds Noted

    pub noted-same : (old new : List ℕ) (t : Concept) (left i e x : ℕ) → Holds names roles ends t left i e → length new ≡ length old
        → ((j : ℕ) → i < j → j < e → Same j old new) → Noted ends marks g old t i x → Noted ends marks g new t i x
    noted-same old new (node a f) left i e x h size same w = noted-same_f old new f (left - 1) (i + 1) e x h.4 size (λ j p q. same j (omega arith) q) w

    noted-same_f : (old new : List ℕ) (f : Forest ℕ) (left i e x : ℕ) → HoldsF names roles ends f left i e → length new ≡ length old
        → ((j : ℕ) → i ≤ j → j < e → Same j old new) → NotedF ends marks g old f i x → NotedF ends marks g new f i x
    noted-same_f old new none left i e x h size same w = tt
    noted-same_f old new (more r t f) left i e x h size same w =
        let here : i < get_or ends i 0 = (opened names roles ends t left i (get_or ends i 0) h.2).inside in
        let within : get_or ends i 0 ≤ e = h.1 in (
          λ k. (
            note-same g i x (pick (λ y. degree_in (walked g) t y) ((walked g).next x r)) old new size (same i (omega arith) (omega arith)) (w.0 k).0,
            λ y m. noted-same old new t left i (get_or ends i 0) y h.2 size (λ j p q. same j (omega arith) (omega arith)) ((w.0 k).1 y m),
          ),
          noted-same_f old new f left (get_or ends i 0) e x h.3 size (λ j p q. same j (omega arith) q) w.1,
        )

module _ (names roles ends marks : List ℕ) (g : Register) (X : ℕ → Type 0) where
  -- all kept ones among the children f, from row i on
  noted-all : (notes : List ℕ) (f : Forest ℕ) (left i e : ℕ) → HoldsF names roles ends f left i e
      → ((c : ℕ) (u : Concept) → Stands ends f i c u → (get_or marks c 0 ≡ 0 → ⊥) → One roles ends marks g X notes c u) → (x : ℕ) → X x → NotedF ends marks g notes f i x
  unfolding Holds Noted Stands
  noted-all notes none left i e h w x m = tt
  noted-all notes (more r t f) left i e h w x m = (
    λ k. rw h.0 at (w i t (inl (refl, refl)) k x m),
    noted-all notes f left (get_or ends i 0) e h.3 (λ c u s k. w c u (inr s) k) x m,
  )

  pub noted-node : (notes : List ℕ) (t : Concept) (left i e : ℕ) → Holds names roles ends t left i e
      → ((c : ℕ) (u : Concept) → Stands ends (children t) (i + 1) c u → (get_or marks c 0 ≡ 0 → ⊥) → One roles ends marks g X notes c u)
      → (x : ℕ) → X x → Noted ends marks g notes t i x
  unfolding Holds Noted
  noted-node notes (node a f) left i e h w = noted-all notes f (left - 1) (i + 1) e h.4 w

  -- what is noted of a child stays while its rows do
  pub one_same : (old new : List ℕ) (u : Concept) (left c : ℕ) → Holds names roles ends u left c (get_or ends c 0) → c < get_or ends c 0 → length new ≡ length old
      → ((j : ℕ) → c ≤ j → j < get_or ends c 0 → Same j old new) → One roles ends marks g X old c u → One roles ends marks g X new c u
  one_same old new u left c h l size same w x m =
      let q = w x m in (
        note-same g c x (pick (λ y. degree_in (walked g) u y) ((walked g).next x (get_or roles c 0))) old new size (same c (omega arith) l) q.0,
        λ y p. noted-same names roles ends marks g old new u left c (get_or ends c 0) y h size (λ j a b. same j (omega arith) b) (q.1 y p),
      )

  -- The children f stand from row i up to e.
  module _ (f : Forest ℕ) (left i e : ℕ) (held : HoldsF names roles ends f left i e) where
    place : (c : ℕ) (u : Concept) → Stands ends f i c u → Place names roles ends left i e c u
    place c u s = stands-place names roles ends f left i e c u held s

    -- The rows of one child are not those of another.
    apart : (c d : ℕ) (t u : Concept) → Stands ends f i c t → Stands ends f i d u → (c ≡ d → ⊥) → (get_or ends c 0 ≤ d) ⊎ (get_or ends d 0 ≤ c)
    apart c d t u p q n = go (ltb c d) refl
      where
        go : (b : Bool) → ltb c d ≡ b → (get_or ends c 0 ≤ d) ⊎ (get_or ends d 0 ≤ c)
        go true z = inl (stands-apart names roles ends f left i e c d t u held p q (ltb-true c d z))
        go false z = inr (stands-apart names roles ends f left i e d c u t held q p (let y = ltb-false c d z in omega (arith, n)))

    -- a change in the rows of a child leaves what is noted of another
    pub one_kept : (c d : ℕ) (t u : Concept) (old new : List ℕ) → Stands ends f i c t → Stands ends f i d u → (d ≡ c → ⊥) → length new ≡ length old
        → Outside c (get_or ends c 0) old new → One roles ends marks g X old d u → One roles ends marks g X new d u
    one_kept c d t u old new p q n size o w = one_same old new u left d (place d u q).held (place d u q).inside size (λ j a b k. stays j k a b) w
      where
        stays : (j k : ℕ) → d ≤ j → j < get_or ends d 0 → flag new j k ≡ flag old j k
        stays j k a b = go (apart c d t u p q (λ z. n (sym z)))
          where
            go : (get_or ends c 0 ≤ d) ⊎ (get_or ends d 0 ≤ c) → flag new j k ≡ flag old j k
            go (inl z) = o j k (inr (omega arith))
            go (inr z) = o j k (inl (omega arith))

    module _ (h : ℕ) (head : Concept) (stands : Stands ends f i h head) (first : List ℕ) where
      -- the kept children before row c are noted, and the one at row h; the rows of the others are empty
      pub record Entered (notes : List ℕ) (c : ℕ) : Type 0 where
        pub at : c < e → (u : Concept) × Stands ends f i c u
        pub low : i ≤ c
        pub done : (d : ℕ) (u : Concept) → Stands ends f i d u → (d < c) ⊎ (d ≡ h) → (get_or marks d 0 ≡ 0 → ⊥) → One roles ends marks g X notes d u
        pub clear : (j k : ℕ) → c ≤ j → j < e → (j < h) ⊎ (get_or ends h 0 ≤ j) → flag notes j k ≡ false
        pub outside : Outside i e first notes

      pub entered-start : One roles ends marks g X first h head → ((j k : ℕ) → i ≤ j → j < e → (j < h) ⊎ (get_or ends h 0 ≤ j) → flag first j k ≡ false) → Entered first i
      entered-start one clear = record {
        at = λ l. stands-first names roles ends f left i e held l;
        low = omega arith;
        done = λ d u s w k. go d u s w;
        clear = clear;
        outside = λ j k w. refl;
      }
        where
          go : (d : ℕ) (u : Concept) → Stands ends f i d u → (d < i) ⊎ (d ≡ h) → One roles ends marks g X first d u
          go d u s (inl l) = absurd (let z = (place d u s).behind in omega arith)
          go d u s (inr z) =
              let same : head ≡ u = holds-one names roles ends head u left left h (get_or ends h 0) (get_or ends h 0) (place h head stands).held
              (subst (λ (y : ℕ). Holds names roles ends u left y (get_or ends y 0)) z (place d u s).held) in
              subst (λ (y : ℕ). One roles ends marks g X first y u) (sym z) (subst (λ (y : Concept). One roles ends marks g X first h y) same one)

      module _ {notes : List ℕ} {c : ℕ} (w : Entered notes c) (l : c < e) where
        next : (j : ℕ) → j ≡ get_or ends c 0 → j < e → (u : Concept) × Stands ends f i j u
        next j ej m =
            let q = w.at l in
            let n = stands-next names roles ends f left i e c q.0 held q.1 (subst (λ (z : ℕ). z < e) ej m) in
            (n.0, subst (λ (z : ℕ). Stands ends f i z n.0) (sym ej) n.1)

        here : Place names roles ends left i e c (w.at l).0
        here = place c (w.at l).0 (w.at l).1

        -- a child before the next one is before this one, or this one
        before : (d : ℕ) (u : Concept) → Stands ends f i d u → (d ≡ c → ⊥) → (d < get_or ends c 0) ⊎ (d ≡ h) → (d < c) ⊎ (d ≡ h)
        before d u s n (inr z) = inr z
        before d u s n (inl m) = inl (go (ltb d c) refl)
          where
            go : (b : Bool) → ltb d c ≡ b → d < c
            go true z = ltb-true d c z
            go false z =
                absurd (let y = ltb-false d c z in
                let x = stands-apart names roles ends f left i e c d (w.at l).0 u held (w.at l).1 s (omega (arith, n)) in omega arith)

        -- the child at row c is passed over: it is dropped, or the one at row h
        pub entered-pass : (j : ℕ) → j ≡ get_or ends c 0 → (get_or marks c 0 ≡ 0) ⊎ (c ≡ h) → Entered notes j
        entered-pass j ej o = record {
          at = next j ej;
          low = let z = here.inside in let y = w.low in omega arith;
          done = λ d u s p k. go d u s p k (ℕ_discrete d c) o;
          clear = λ a k m n q. w.clear a k (let z = here.inside in omega arith) n q;
          outside = w.outside;
        }
          where
            go : (d : ℕ) (u : Concept) → Stands ends f i d u → (d < j) ⊎ (d ≡ h) → (get_or marks d 0 ≡ 0 → ⊥) → Dec (d ≡ c) → (get_or marks c 0 ≡ 0) ⊎ (c ≡ h) → One roles ends marks g X notes d u
            go d u s p k (yes q) (inl m) = absurd (k (ap (λ (z : ℕ). get_or marks z 0) q ∙ m))
            go d u s p k (yes q) (inr m) = w.done d u s (inr (q ∙ m)) k
            go d u s p k (no q) m = w.done d u s (before d u s q (subst (λ (z : ℕ). (d < z) ⊎ (d ≡ h)) ej p)) k

        module _ (a : c ≡ h → ⊥) where
          -- its rows are empty
          pub entered-clear : (j k : ℕ) → c ≤ j → j < get_or ends c 0 → flag notes j k ≡ false
          entered-clear j k m n = w.clear j k m (let z = here.within in omega arith) (go (apart c h (w.at l).0 head (w.at l).1 stands a))
            where
              go : (get_or ends c 0 ≤ h) ⊎ (get_or ends h 0 ≤ c) → (j < h) ⊎ (get_or ends h 0 ≤ j)
              go (inl z) = inl (omega arith)
              go (inr z) = inr (omega arith)

          -- it is worked out and noted
          pub entered-next : (j : ℕ) → j ≡ get_or ends c 0 → (t : Concept) → Holds names roles ends t left c (get_or ends c 0) → (mid new : List ℕ)
              → length mid ≡ length notes → length new ≡ length mid → Outside (c + 1) (get_or ends c 0) notes mid → Outside c (c + 1) mid new
              → One roles ends marks g X new c t → Entered new j
          entered-next j ej t ht mid new sm sn om on this = record {
            at = next j ej;
            low = let z = here.inside in let y = w.low in omega arith;
            done = λ d u s p k. go d u s p k (ℕ_discrete d c);
            clear = λ b k m n q. change b k (inr (subst (λ (z : ℕ). z ≤ b) ej m)) ∙ w.clear b k (let z = here.inside in omega arith) n q;
            outside = outside-then i e c (get_or ends c 0) i e first notes new (omega arith) (omega arith) w.low here.within w.outside change;
          }
            where
              change : Outside c (get_or ends c 0) notes new
              change = outside-then (c + 1) (get_or ends c 0) c (c + 1) c (get_or ends c 0) notes mid new (omega arith) (omega arith) (omega arith) (let z = here.inside in omega arith) om on

              go : (d : ℕ) (u : Concept) → Stands ends f i d u → (d < j) ⊎ (d ≡ h) → (get_or marks d 0 ≡ 0 → ⊥) → Dec (d ≡ c) → One roles ends marks g X new d u
              go d u s p k (yes q) =
                  let same : t ≡ u = holds-one names roles ends t u left left c (get_or ends c 0) (get_or ends c 0) ht
                  (subst (λ (y : ℕ). Holds names roles ends u left y (get_or ends y 0)) q (place d u s).held) in
                  subst (λ (y : ℕ). One roles ends marks g X new y u) (sym q) (subst (λ (y : Concept). One roles ends marks g X new c y) same this)
              go d u s p k (no q) =
                  one_kept c d (w.at l).0 u notes new (w.at l).1 s q (sn ∙ sm) change
                  (w.done d u s (before d u s q (subst (λ (z : ℕ). (d < z) ⊎ (d ≡ h)) ej p)) k)

      pub entered-end : {notes : List ℕ} {c : ℕ} → Entered notes c → e ≤ c
          → (d : ℕ) (u : Concept) → Stands ends f i d u → (get_or marks d 0 ≡ 0 → ⊥) → One roles ends marks g X notes d u
      entered-end w l d u s k = w.done d u s (inl (let p = place d u s in let y = p.inside in let z = p.within in omega arith)) k
