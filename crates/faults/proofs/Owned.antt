-- Thresholds of one node after those of another: what comes before adds nothing, and what comes behind neither.
-- Assumes nothing.
use mathlib.Core.Path.{◌≡◌, refl, sym, ap, ◌∙◌, subst}
use mathlib.Core.Bool.{◌&&◌, cond}
use mathlib.Core.List.{List, [], ◌∷◌}
use Prim.Native.Nat.{ℕ, suc, ◌+◌, ◌*◌, ◌-◌, ◌/◌, ◌%◌, ◌≤◌, ◌<◌}
use native.Mathlib.Omega.{arith}
use lib.Dec.{T, eqb, leb, leb→le}
use lib.ListN.{length, get_or}
use Rattle.std.specs.Prelude.{Ok, Err}
use Rattle.meaning.specs.declared.Rule.{Rule}
use Rattle.faults.specs.declared.Next.{Next}
use Rattle.meaning.specs.Refusal.{Answer, good, ◌>>◌}
use Rattle.meaning.specs.Lists.{Listed, Limit, form_tree, stand_at, form}
use Rattle.meaning.specs.Writing.{node_at, nodes_from, nodes_in, inners_at, limit_at, limits_from, lists_in, shared_out, whole, node_fits, limit_fits, own_fit, lists_fit}
use Rattle.meaning.proofs.Tests.{and_both}
use Rattle.meaning.proofs.Lists.{same, other}
use Rattle.meaning.proofs.ListsSound.{stand-open, stand-close}
use Rattle.lists.specs.Handed.{nodes_to, One}
use Rattle.faults.specs.Faulty.{limits_on, told, Rest, Found}
use Rattle.lists.proofs.Peeled.{node-first, node-none, nodes-many, limit-first, limit-none, shared-first}
use Rattle.faults.proofs.Faults.{told-stop, told-go}

-- ---- one threshold

module _ (i k : ℕ) (h : Limit) (hs : List Limit) where
  own-other : (h.owner ≡ i → ⊥) → own_fit i k (h ∷ hs) ≡ own_fit i (suc k) hs
  unfolding own_fit ◌>>◌
  own-other n = rw (other h.owner i n) refl

  own-stop : (r : Rule) → h.owner ≡ i → told {A = Unit {0}} (Err r) ≡ limit_fits k h → told {A = Unit {0}} (Err r) ≡ own_fit i k (h ∷ hs)
  unfolding own_fit
  own-stop r o e =
      let w : limit_fits k h ≡ cond (eqb h.owner i) (limit_fits k h) (good tt) = rw (same h.owner i o) refl in
      told-stop r _ (own_fit i (suc k) hs) (e ∙ w)

  own-pass : h.owner ≡ i → good tt ≡ limit_fits k h → own_fit i k (h ∷ hs) ≡ own_fit i (suc k) hs
  unfolding own_fit
  own-pass o e =
      let w : limit_fits k h ≡ cond (eqb h.owner i) (limit_fits k h) (good tt) = rw (same h.owner i o) refl in
      told-go (cond (eqb h.owner i) (limit_fits k h) (good tt)) (own_fit i (suc k) hs) (e ∙ w)

-- thresholds of later nodes
own-later : (n b i k : ℕ) (hs : List Limit) → T (stand_at n b hs) → i < b → own_fit i k hs ≡ good tt
unfolding own_fit
own-later n b i k [] w l = refl
own-later n b i k (h ∷ hs) w l =
    let s = stand-open n b h hs w in
    own-other i k h hs (λ e. let z : h.owner ≡ i = e in omega (arith, s.1, l)) ∙ own-later n h.owner i (suc k) hs s.3 (omega (arith, l, s.1))

-- ---- the thresholds from the j-th on

module _ (hs inner : List ℕ) where
  module _ (n i j k : ℕ) (w : Rest hs inner n i j k) where
    -- the first of them
    module _ (l : j < length hs / 5) where
      opened : (get_or hs (5 * j) 0 < n) × (i ≤ get_or hs (5 * j) 0) × T (form_tree (nodes_from inner k (inners_at hs j)))
          × T (stand_at n (get_or hs (5 * j) 0) (limits_on hs inner (j + 1) (k + inners_at hs j)))
      opened = stand-open n i (limit_at hs inner j k) _ (subst (λ (z : List Limit). T (stand_at n i z)) (limit-first hs inner j k (length hs / 5) l) w.stands)

      shares : (inners_at hs j ≤ length inner / 3 - k) × T (shared_out hs (j + 1) (length hs / 5 - (j + 1)) (length inner / 3 - k - inners_at hs j))
      shares =
          let p = and_both (leb (inners_at hs j) (length inner / 3 - k)) _ (subst T (shared-first hs j (length hs / 5) (length inner / 3 - k) l) w.shared) in
          (leb→le _ _ p.0, p.1)

      pub rest-one : One hs inner j k
      rest-one = record {
        whole = omega arith;
        room = omega (arith, shares.0, w.used);
        forms = opened.2;
      }

      pub rest-next : get_or hs (5 * j) 0 ≡ i → Rest hs inner n i (j + 1) (k + inners_at hs j)
      rest-next e =
          let s = shares in
          let left : length inner / 3 - k - inners_at hs j ≡ length inner / 3 - (k + inners_at hs j) = omega arith in
          record {
            begun = omega arith;
            used = omega (arith, s.0, w.used);
            shared = subst (λ (z : ℕ). T (shared_out hs (j + 1) (length hs / 5 - (j + 1)) z)) left s.1;
            stands = subst (λ (z : ℕ). T (stand_at n z (limits_on hs inner (j + 1) (k + inners_at hs j)))) e opened.3;
          }

      pub rest-later : (get_or hs (5 * j) 0 ≡ i → ⊥) → Rest hs inner n (suc i) j k
      rest-later d =
          let o = opened in
          record {
            begun = w.begun;
            used = w.used;
            shared = w.shared;
            stands = subst (λ (z : List Limit). T (stand_at n (suc i) z)) (sym (limit-first hs inner j k (length hs / 5) l))
                (stand-close n (suc i) (limit_at hs inner j k) (limits_on hs inner (j + 1) (k + inners_at hs j)) o.0 (omega (arith, o.1, d)) o.2 o.3);
          }

    pub rest_end : length hs / 5 ≤ j → Rest hs inner n (suc i) j k
    unfolding stand_at
    rest_end l = record {
      begun = w.begun;
      used = w.used;
      shared = w.shared;
      stands = subst (λ (z : List Limit). T (stand_at n (suc i) z)) (sym (limit-none hs inner j k (length hs / 5) l)) tt;
    }

  -- how the i-th node fares with them
  module _ (i j k : ℕ) where
    abbrev own : Answer (Unit {0})
    own = own_fit i j (limits_on hs inner j k)

    abbrev then : Answer (Unit {0})
    then = own_fit i (j + 1) (limits_on hs inner (j + 1) (k + inners_at hs j))

    on : j < length hs / 5 → own ≡ own_fit i j (limit_at hs inner j k ∷ limits_on hs inner (j + 1) (k + inners_at hs j))
    on l = ap (own_fit i j) (limit-first hs inner j k (length hs / 5) l)

    up : own_fit i (suc j) (limits_on hs inner (j + 1) (k + inners_at hs j)) ≡ then
    up = let e : suc j ≡ j + 1 = omega arith in ap (λ (z : ℕ). own_fit i z (limits_on hs inner (j + 1) (k + inners_at hs j))) e

    pub on-stop : (r : Rule) → j < length hs / 5 → get_or hs (5 * j) 0 ≡ i → told {A = Unit {0}} (Err r) ≡ limit_fits j (limit_at hs inner j k)
        → told {A = Unit {0}} (Err r) ≡ own
    on-stop r l o e = own-stop i j (limit_at hs inner j k) (limits_on hs inner (j + 1) (k + inners_at hs j)) r o e ∙ sym (on l)

    pub on-next : j < length hs / 5 → get_or hs (5 * j) 0 ≡ i → good tt ≡ limit_fits j (limit_at hs inner j k) → own ≡ then
    on-next l o e = on l ∙ own-pass i j (limit_at hs inner j k) (limits_on hs inner (j + 1) (k + inners_at hs j)) o e ∙ up

    pub on-other : j < length hs / 5 → (get_or hs (5 * j) 0 ≡ i → ⊥) → own ≡ then
    on-other l d = on l ∙ own-other i j (limit_at hs inner j k) (limits_on hs inner (j + 1) (k + inners_at hs j)) d ∙ up

    pub on-later : (n : ℕ) → Rest hs inner n (suc i) j k → good tt ≡ own
    on-later n w = sym (own-later n (suc i) i j (limits_on hs inner j k) w.stands (omega arith))

-- ---- from threshold to threshold of a node

-- those of the i-th node from the j-th on pass, up to the next
pub record Passed (hs inner : List ℕ) (n i j k next at : ℕ) : Type 0 where
  pub rest : Rest hs inner n i next at
  pub own : own_fit i j (limits_on hs inner j k) ≡ own_fit i next (limits_on hs inner next at)
  pub later : (h : ℕ) → i < h → own_fit h j (limits_on hs inner j k) ≡ own_fit h next (limits_on hs inner next at)

pub passed_none : {hs inner : List ℕ} {n i j k : ℕ} → Rest hs inner n i j k → Passed hs inner n i j k j k
passed_none w = record { rest = w; own = refl; later = λ h l. refl }

module _ (hs inner : List ℕ) (n i j k next at : ℕ) (w : Passed hs inner n i j k next at) where
  pub passed-more : (count : ℕ) → next < length hs / 5 → get_or hs (5 * next) 0 ≡ i → good tt ≡ limit_fits next (limit_at hs inner next at)
      → count ≡ inners_at hs next → Passed hs inner n i j k (next + 1) (at + count)
  passed-more count l o e c =
      subst (λ (y : ℕ). Passed hs inner n i j k (next + 1) (at + y)) (sym c) (record {
        rest = rest-next hs inner n i next at w.rest l o;
        own = w.own ∙ on-next hs inner i next at l o e;
        later = λ h m. w.later h m ∙ on-other hs inner h next at l (λ q. let y : get_or hs (5 * next) 0 ≡ h = q in omega (arith, o, m));
      })

  abbrev here : Next
  here = record { limit = next; first = at }

  found : Rest hs inner n (suc i) next at → Found hs inner n i j k (Ok here)
  found r = record { answer = on-later hs inner i next at n r ∙ sym w.own; rest = r; later = w.later }

  pub found-other : next < length hs / 5 → (get_or hs (5 * next) 0 ≡ i → ⊥) → Found hs inner n i j k (Ok here)
  found-other l d = found (rest-later hs inner n i next at w.rest l d)

  pub found-end : length hs / 5 ≤ next → Found hs inner n i j k (Ok here)
  found-end l = found (rest_end hs inner n i next at w.rest l)

  pub found-stop : (r : Rule) → next < length hs / 5 → get_or hs (5 * next) 0 ≡ i → told {A = Unit {0}} (Err r) ≡ limit_fits next (limit_at hs inner next at)
      → Found hs inner n i j k (Err r)
  found-stop r l o e = record { answer = on-stop hs inner i next at r l o e ∙ sym w.own; rest = tt; later = tt }

-- ---- from node to node

-- the nodes before the i-th pass with their thresholds, which are those before the j-th
pub record Gone (nodes hs inner : List ℕ) (i j k : ℕ) : Type 0 where
  pub here : i ≤ length nodes / 3
  pub rest : Rest hs inner (length nodes / 3) i j k
  pub all : lists_fit 0 (lists_in nodes hs inner).outer (lists_in nodes hs inner).limits
      ≡ lists_fit i (nodes_to nodes i (length nodes / 3)) (lists_in nodes hs inner).limits
  pub own : (h : ℕ) → i ≤ h → own_fit h 0 (lists_in nodes hs inner).limits ≡ own_fit h j (limits_on hs inner j k)

module _ (nodes hs inner : List ℕ) where
  abbrev fits : ℕ → List (Listed ℕ) → Answer (Unit {0})
  fits i xs = lists_fit i xs (limits_from hs inner 0 0 (length hs / 5))

  pub gone-none : T (whole nodes hs inner) → T (form (lists_in nodes hs inner)) → Gone nodes hs inner 0 0 0
  unfolding whole form
  gone-none u v =
      let n : length nodes / 3 ≡ length nodes / 3 - 0 = omega arith in
      let m : length hs / 5 ≡ length hs / 5 - 0 = omega arith in
      let q : length inner / 3 ≡ length inner / 3 - 0 = omega arith in
      let shared = (and_both (eqb (length nodes % 3) 0 && eqb (length hs % 5) 0 && eqb (length inner % 3) 0) _ u).1 in
      let stands = (and_both (form_tree (nodes_in nodes)) _ v).1 in
      let many = nodes-many nodes 0 (length nodes / 3) in
      record {
        here = omega arith;
        rest = record {
          begun = omega arith;
          used = omega arith;
          shared = subst (λ (z : ℕ). T (shared_out hs 0 (length hs / 5 - 0) z)) q (subst (λ (z : ℕ). T (shared_out hs 0 z (length inner / 3))) m shared);
          stands = subst (λ (z : ℕ). T (stand_at (length nodes / 3) 0 (limits_from hs inner 0 0 z))) m
              (subst (λ (z : ℕ). T (stand_at z 0 (limits_from hs inner 0 0 (length hs / 5)))) many stands);
        };
        all = ap (λ (z : ℕ). fits 0 (nodes_from nodes 0 z)) n;
        own = λ h l. ap (λ (z : ℕ). own_fit h 0 (limits_from hs inner 0 0 z)) m;
      }

  module _ (i j k : ℕ) (w : Gone nodes hs inner i j k) where
    pub gone-end : length nodes / 3 ≤ i → good tt ≡ lists_fit 0 (lists_in nodes hs inner).outer (lists_in nodes hs inner).limits
    unfolding lists_fit
    gone-end l = sym (w.all ∙ ap (fits i) (node-none nodes i (length nodes / 3) l))

    module _ (l : i < length nodes / 3) where
      pub gone-node : (r : Rule) → told {A = Unit {0}} (Err r) ≡ node_fits i (node_at nodes i)
          → told {A = Unit {0}} (Err r) ≡ lists_fit 0 (lists_in nodes hs inner).outer (lists_in nodes hs inner).limits
      unfolding lists_fit
      gone-node r e = told-stop r (node_fits i (node_at nodes i)) _ e ∙ sym (w.all ∙ ap (fits i) (node-first nodes i (length nodes / 3) l))

      -- the node passes
      module _ (e : good tt ≡ node_fits i (node_at nodes i)) where
        behind : fits 0 (nodes_in nodes) ≡ (own_fit i 0 (limits_from hs inner 0 0 (length hs / 5)) >> fits (suc i) (nodes_to nodes (i + 1) (length nodes / 3)))
        unfolding lists_fit
        behind =
            let own = own_fit i 0 (limits_from hs inner 0 0 (length hs / 5)) in
            w.all ∙ ap (fits i) (node-first nodes i (length nodes / 3) l)
            ∙ told-go (node_fits i (node_at nodes i)) (own >> fits (suc i) (nodes_to nodes (i + 1) (length nodes / 3))) e

        pub gone-own : (r : Rule) → Found hs inner (length nodes / 3) i j k (Err r)
            → told {A = Unit {0}} (Err r) ≡ lists_fit 0 (lists_in nodes hs inner).outer (lists_in nodes hs inner).limits
        gone-own r f = told-stop r (own_fit i 0 (limits_from hs inner 0 0 (length hs / 5))) _ (f.answer ∙ sym (w.own i (omega arith))) ∙ sym behind

        pub gone-more : (m : Next) → Found hs inner (length nodes / 3) i j k (Ok m) → Gone nodes hs inner (i + 1) m.limit m.first
        gone-more m f =
            let up : suc i ≡ i + 1 = omega arith in
            record {
              here = omega arith;
              rest = subst (λ (x : ℕ). Rest hs inner (length nodes / 3) x m.limit m.first) up f.rest;
              all = behind
                  ∙ told-go (own_fit i 0 (limits_from hs inner 0 0 (length hs / 5))) (fits (suc i) (nodes_to nodes (i + 1) (length nodes / 3)))
                  (f.answer ∙ sym (w.own i (omega arith)))
                  ∙ ap (λ (x : ℕ). fits x (nodes_to nodes (i + 1) (length nodes / 3))) up;
              own = λ h q. w.own h (omega (arith, q)) ∙ f.later h (omega (arith, q));
            }
