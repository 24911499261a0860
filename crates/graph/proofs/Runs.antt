-- The successors of an item under a role are the ends of one run of links: those of lower roles stand before it, those of higher behind.
-- Assumes nothing.
use mathlib.Core.Path.{◌≡◌, refl, sym, ap, ◌∙◌, subst}
use mathlib.Core.Bool.{Bool, true, false, ◌&&◌, cond}
use mathlib.Core.List.{List, [], ◌∷◌, ◌++◌}
use Prim.Native.Nat.{ℕ, zero, suc, ◌+◌, ◌-◌, ◌≤◌, ◌<◌}
use native.Mathlib.Omega.{arith}
use lib.Dec.{eqb}
use lib.ListN.{length, get_or, drop, length-drop}
use lib.Seq.{get_or-drop}
use borrow.Author.Tests.{eq-eqb, ne_eqb}
use Rattle.meaning.specs.Bytes.{Bytes}
use Rattle.meaning.specs.Register.{Link, targets}
use Rattle.register.specs.Image.{no_link, Begins}
use Rattle.register.proofs.Targets.{targets-before, targets-behind, targets-step}
use Rattle.graph.specs.Judged.{Judged, start_no, role_no, values_from, spanned, Opens, Parted}
use Rattle.graph.proofs.Rising.{roles-rise}

module _ (ls : List Link) (i r : ℕ) where
  abbrev to : ℕ → ℕ
  to k = (get_or ls k no_link).to

  -- the k-th link leads from the item under the role
  abbrev hit : ℕ → Bool
  hit k = eqb (get_or ls k no_link).from i && eqb (get_or ls k no_link).role r

  onward : (k n : ℕ) → targets (drop (k + 1 + n) ls) i r ≡ targets (drop (k + suc n) ls) i r
  onward k n = let e : k + 1 + n ≡ k + suc n = omega arith in ap (λ (z : ℕ). targets (drop z ls) i r) e

  skip : (n k : ℕ) → k + n ≤ length ls → ((j : ℕ) → k ≤ j → j < k + n → hit j ≡ false) → targets (drop k ls) i r ≡ targets (drop (k + n) ls) i r
  skip zero k l h = let e : k ≡ k + 0 = omega arith in ap (λ (z : ℕ). targets (drop z ls) i r) e
  skip (suc n) k l h =
      targets-step ls k i r (omega arith)
      ∙ ap (λ (b : Bool). cond b (to k ∷ targets (drop (k + 1) ls) i r) (targets (drop (k + 1) ls) i r)) (h k (omega arith) (omega arith))
      ∙ skip n (k + 1) (omega arith) (λ j p q. h j (omega arith) (omega arith)) ∙ onward k n

  take : (n k : ℕ) → k + n ≤ length ls → ((j : ℕ) → k ≤ j → j < k + n → hit j ≡ true)
      → targets (drop k ls) i r ≡ values_from to k n ++ targets (drop (k + n) ls) i r
  unfolding values_from
  take zero k l h = let e : k ≡ k + 0 = omega arith in ap (λ (z : ℕ). targets (drop z ls) i r) e
  take (suc n) k l h =
      targets-step ls k i r (omega arith)
      ∙ ap (λ (b : Bool). cond b (to k ∷ targets (drop (k + 1) ls) i r) (targets (drop (k + 1) ls) i r)) (h k (omega arith) (omega arith))
      ∙ ap (λ (l : List ℕ). to k ∷ l)
      (take n (k + 1) (omega arith) (λ j p q. h j (omega arith) (omega arith)) ∙ ap (λ (l : List ℕ). values_from to (k + 1) n ++ l) (onward k n))

  other-role : (a b : ℕ) → (b ≡ r → ⊥) → (eqb a i && eqb b r) ≡ false
  other-role a b d = go (eqb a i)
    where
      go : (c : Bool) → (c && eqb b r) ≡ false
      go true = ne_eqb b r d
      go false = refl

  -- the links from b up to e are the item's: below `first` their roles are others, and from `end` on
  cut : (b first end e : ℕ) → Begins ls i b → Begins ls (i + 1) e → b ≤ first → first ≤ end → end ≤ e
      → ((k : ℕ) → b ≤ k → k < first → (get_or ls k no_link).role ≡ r → ⊥) → ((k : ℕ) → end ≤ k → k < e → (get_or ls k no_link).role ≡ r → ⊥)
      → ((k : ℕ) → first ≤ k → k < end → hit k ≡ true) → targets ls i r ≡ spanned to first end
  cut b first end e v w p q o low high all =
      let n = first - b in
      let m = e - end in
      let in_all = w.within in
      targets-before ls b i r v.before
      ∙ skip n b (omega arith) (λ j x y. other-role (get_or ls j no_link).from (get_or ls j no_link).role (low j x (omega arith)))
      ∙ ap (λ (z : ℕ). targets (drop z ls) i r) (let z : b + n ≡ first = omega arith in z)
      ∙ take (end - first) first (omega arith) (λ j x y. all j x (omega arith))
      ∙ ap (λ (z : ℕ). spanned to first end ++ targets (drop z ls) i r) (let z : first + (end - first) ≡ end = omega arith in z)
      ∙ ap (λ (l : List ℕ). spanned to first end ++ l)
      (skip m end (omega arith) (λ j x y. other-role (get_or ls j no_link).from (get_or ls j no_link).role (high j x (omega arith)))
      ∙ ap (λ (z : ℕ). targets (drop z ls) i r) (let z : end + m ≡ e = omega arith in z)
      ∙ targets-behind (drop e ls) i r (λ j l. rw get_or-drop (let z = w.behind (e + j) (omega arith) (omega (arith, length-drop e ls)) in omega arith)))
      ∙ none (spanned to first end)
    where
      none : (l : List ℕ) → l ++ [] ≡ l
      none [] = refl
      none (x ∷ l) = ap (λ (z : List ℕ). x ∷ z) (none l)

-- the links of the next item begin no earlier
pub index-rises : (ls : List Link) (item b e : ℕ) → Begins ls item b → Begins ls (item + 1) e → b ≤ e
index-rises ls item b e v w = go (b - e) refl
  where
    go : (d : ℕ) → b - e ≡ d → b ≤ e
    go zero q = omega arith
    go (suc d) q =
        let l = v.within in
        absurd (let y = v.before e (omega arith) in let z = w.behind e (omega arith) (omega arith) in omega arith)

pub opens-found : (s : List ℕ) → Bytes s → (items : ℕ) (index : List ℕ) (j : Judged s items index) (item role b e first : ℕ) → item < items
    → b ≡ get_or index item 0 → e ≡ get_or index (item + 1) 0 → Parted j.register role b e first → Opens j.register item role first e
opens-found s bs items index j item role b e first l eb ee lo =
    let g = j.register in
    let ls = g.links in
    let v : Begins ls item b = subst (λ (z : ℕ). Begins ls item z) (sym eb) (j.indexed item (omega arith)) in
    let w : Begins ls (item + 1) e = subst (λ (z : ℕ). Begins ls (item + 1) z) (sym ee) (j.indexed (item + 1) (omega arith)) in
    let t = w.within in
    let own : (k : ℕ) → b ≤ k → k < e → start_no g k ≡ item =
    λ k p q. let y = w.before k q in let z = v.behind k p (omega arith) in omega arith in
    let rise : (x y : ℕ) → b ≤ x → x ≤ y → y < e → role_no g x ≤ role_no g y =
    λ x y p q o. roles-rise s bs g j.read x y q (omega arith) (own x p (omega arith) ∙ sym (own y (omega arith) o)) in
    let p = lo.behind in
    record {
      order = lo.within;
      within = t;
      run = λ end hi.
          let o = hi.behind in
          let u = hi.within in
          let same : (k : ℕ) → first ≤ k → k < end → role_no g k ≡ role =
          λ k x y. let c = lo.here (omega arith) in let d = hi.before (omega arith) in
          let m = rise first k p x (omega arith) in let n = rise k (end - 1) (omega arith) (omega arith) (omega arith) in omega arith in
          record {
            ends = cut ls item role b first end e v w p o u
                (λ k x y z. let c = lo.before (omega arith) in let m = rise k (first - 1) x (omega arith) (omega arith) in omega (arith, z))
                (λ k x y z. let c = hi.here (omega arith) in let m = rise end k (omega arith) x y in omega (arith, z))
                (λ k x y. rw (own k (omega arith) (omega arith), same k x y, eq-eqb item item refl, eq-eqb role role refl));
            own = λ k x y. own k (omega arith) (omega arith);
            order = o;
            within = omega arith;
          };
    }

-- the links of an item lie within all links
pub ends-within : {s : List ℕ} {items : ℕ} {index : List ℕ} (j : Judged s items index) {item b e : ℕ} → item < items
    → b ≡ get_or index item 0 → e ≡ get_or index (item + 1) 0 → (b ≤ e) × (e ≤ length j.register.links)
ends-within j {item} {b} {e} l eb ee =
    let ls = j.register.links in
    let v : Begins ls item b = subst (λ (z : ℕ). Begins ls item z) (sym eb) (j.indexed item (omega arith)) in
    let w : Begins ls (item + 1) e = subst (λ (z : ℕ). Begins ls (item + 1) z) (sym ee) (j.indexed (item + 1) (omega arith)) in
    (index-rises ls item b e v w, w.within)
