-- Marks as the code sets them: one law for each way out of a function and each turn of the loop.
-- Assumes nothing.
use mathlib.Core.Path.{◌≡◌, refl, sym, ap, ◌∙◌}
use mathlib.Core.Bool.{Bool, true, false}
use mathlib.Core.List.{List}
use Prim.Native.Nat.{ℕ, ◌+◌, ◌-◌, ◌≤◌, ◌<◌}
use native.Mathlib.Omega.{arith}
use lib.ListN.{get_or, length, set}
use lib.Seq.{get_or-set_same, get_or-set_other}
use Rattle.meaning.specs.Tree.{node, Forest, none, more, Concept, under}
use Rattle.meaning.specs.Reduce.{dropped}
use Rattle.meaning.specs.Rows.{Holds, HoldsF, mark, Marked, MarkedF}
use Rattle.meaning.proofs.Rows.{opened, first, ran_out, holds_f-le, marked-kept, onto, holds-onto, dropped-onto}
use Rattle.reduction.specs.Held.{Held, ForTree}
use Rattle.reduction.specs.Subsumed.{Sibling, TestsDropped}
use Rattle.reduction.specs.Marks.{Put, MarkedBelow, MarkedChild}

pub put_one : (old : List ℕ) (c v : ℕ) → c < length old → Put old (set old c v) c v
put_one old c v lt = record { here = get_or-set_same old c v 0 lt; others = λ k n. get_or-set_other old c k v 0 n }

module _ (names roles ends : List ℕ) (left : ℕ) where
  -- ---- one child

  module _ (old : List ℕ) (i c e : ℕ) (lt : c < get_or ends c 0) {d : Bool} (test : TestsDropped names roles ends left i c e d) where
    pub child-dropped : (new : List ℕ) → d ≡ true → Put old new c 0 → MarkedChild names roles ends left old new i c e
    child-dropped new q p = record {
      marked = λ b hb t h f hf. p.here ∙ sym (ap mark (sym (test b hb t h f hf) ∙ q));
      below = λ t h z. absurd (let n : ◌≡◌ {A = ℕ} 0 1 = sym p.here ∙ z in omega arith);
      earlier = λ k l. p.others k (λ z. let n : k ≡ c = z in omega arith);
      later = λ k l. p.others k (λ z. let n : k ≡ c = z in omega arith);
    }

    pub child-kept : (mid new : List ℕ) → d ≡ false → Put old mid c 1 → MarkedBelow names roles ends left mid new c → MarkedChild names roles ends left old new i c e
    child-kept mid new q p w = record {
      marked = λ b hb t h f hf. w.earlier c (omega arith) ∙ p.here ∙ sym (ap mark (sym (test b hb t h f hf) ∙ q));
      below = λ t h z. w.marked t h;
      earlier = λ k l. w.earlier k (omega arith) ∙ p.others k (λ z. let n : k ≡ c = z in omega arith);
      later = λ k l. w.later k l ∙ p.others k (λ z. let n : k ≡ c = z in omega arith);
    }

  -- ---- the children of a node, one after the other

  module _ (n : ℕ) where
    -- Of the children of the tree those in `before` are marked, the last one first. Once those from c on are, the tree is,
    -- whatever marks stand elsewhere.
    pub record Unmarked (new : List ℕ) (c : ℕ) (t : Concept) : Type 0 where
      pub before : Forest ℕ
      pub rest : Forest ℕ
      pub front : HoldsF names roles ends (onto before none) (left - 1) (n + 1) c
      pub back : HoldsF names roles ends rest (left - 1) c (get_or ends n 0)
      pub done : (marks : List ℕ) → ((k : ℕ) → n < k → k < c → get_or marks k 0 ≡ get_or new k 0) → MarkedF ends marks rest before c → Marked ends marks t n

    pub record Marking (old new : List ℕ) (c : ℕ) : Type 0 where
      pub after : n < c
      pub unmarked : ForTree names roles ends left n (λ t. Unmarked new c t)
      pub earlier : (k : ℕ) → k ≤ n → get_or new k 0 ≡ get_or old k 0
      pub later : (k : ℕ) → get_or ends n 0 ≤ k → get_or new k 0 ≡ get_or old k 0

    pub mark-start : (old : List ℕ) → Marking old old (n + 1)
    unfolding Holds Marked onto
    mark-start old = record { after = omega arith; unmarked = start; earlier = λ k l. refl; later = λ k l. refl }
      where
        start : ForTree names roles ends left n (λ t. Unmarked old (n + 1) t)
        start (node a f) h = record { before = none; rest = f; front = refl; back = h.4; done = λ m s x. x }

    module _ (old new : List ℕ) (c : ℕ) (w : Marking old new c) where
      pub mark-all : get_or ends n 0 ≤ c → MarkedBelow names roles ends left old new n
      unfolding Marked
      mark-all le = record {
        marked = λ t h.
            let u = w.unmarked t h in
            u.done new (λ k a b. refl) (rw (ran_out names roles ends u.rest (left - 1) c (get_or ends n 0) u.back le) tt);
        earlier = w.earlier;
        later = w.later;
      }

      pub next-child : Held names roles ends left n → c < get_or ends n 0 → Sibling names roles ends (left - 1) (n + 1) c (get_or ends n 0)
      next-child h lt =
          let u = w.unmarked h.tree h.holds in
          let o = first names roles ends u.rest (left - 1) c (get_or ends n 0) u.back lt in
          let l : get_or ends n 0 ≤ 64 = h.fits in
          let m : get_or ends c 0 ≤ get_or ends n 0 = o.within in
          record {
            before = record { trees = onto u.before none; holds = u.front; fits = omega arith };
            here = record { tree = o.tree; holds = o.here; fits = omega arith };
            after = record { trees = o.rest; holds = o.after; fits = l };
          }

      module _ (lt : c < get_or ends n 0) (new' : List ℕ) {e : ℕ} (to : e ≡ get_or ends n 0) (s : MarkedChild names roles ends (left - 1) new new' (n + 1) c e) where
        pub mark-next : {m : ℕ} → m ≡ get_or ends c 0 → Held names roles ends left n → Marking old new' m
        unfolding Holds Marked onto
        mark-next {m} on held =
            let p : n < c = w.after in
            let q = next-child held lt in
            let o = opened names roles ends q.here.tree (left - 1) c (get_or ends c 0) q.here.holds in
            let i : c < get_or ends c 0 = o.inside in
            let j : get_or ends c 0 ≤ get_or ends n 0 = holds_f-le names roles ends q.after.trees (left - 1) (get_or ends c 0) (get_or ends n 0) q.after.holds in
            record {
              after = omega arith;
              unmarked = λ t h. let u = w.unmarked t h in go t p i u.before u.rest u.front u.back u.done;
              earlier = λ k l. s.earlier k (omega arith) ∙ w.earlier k l;
              later = λ k l. s.later k (omega arith) ∙ w.later k l;
            }
          where
            go : (t : Concept) → n < c → c < get_or ends c 0 → (b f : Forest ℕ) → HoldsF names roles ends (onto b none) (left - 1) (n + 1) c
                → HoldsF names roles ends f (left - 1) c (get_or ends n 0)
                → ((marks : List ℕ) → ((k : ℕ) → n < k → k < c → get_or marks k 0 ≡ get_or new k 0) → MarkedF ends marks f b c → Marked ends marks t n)
                → Unmarked new' m t
            go t p i b none front back done = absurd (let z : c ≡ get_or ends n 0 = back in omega arith)
            go t p i b (more r v f) front back done = record {
              before = more r v b;
              rest = f;
              front = rw on (holds-onto names roles ends b (more r v none) (left - 1) (n + 1) c (get_or ends c 0) front (back.0, omega arith, back.2, refl));
              back = rw on back.3;
              done = λ marks same x.
                  let here : get_or marks c 0 ≡ get_or new' c 0 = same c p (omega arith) in
                  let d : get_or new' c 0 ≡ mark (dropped (under r b) v (under r f)) =
                  rw (back.0, dropped-onto r b v (under r f)) at (s.marked (onto b none) front v back.2 f (rw to back.3)) in
                  done marks (λ k x y. same k x (omega arith) ∙ s.earlier k y) (
                    here ∙ d,
                    (λ g. marked-kept names roles ends new' marks v (left - 1) c (get_or ends c 0) (λ k x y. same k (omega arith) (omega arith)) back.2
                        (s.below v back.2 (sym here ∙ g))),
                    rw on at x,
                  );
            }
