-- The index of where each item's links begin: from where its last one ends, and from what stands before; and its last place.
-- Assumes nothing.
use mathlib.Core.Path.{◌≡◌, refl, sym, ap, ◌∙◌, subst}
use mathlib.Core.Bool.{Bool, true, false, not}
use mathlib.Core.List.{List}
use Prim.Native.Nat.{ℕ, zero, suc, ◌+◌, ◌-◌, ◌≤◌, ◌<◌, max}
use native.Mathlib.Decide.{ℕ_discrete}
use native.Mathlib.Omega.{arith}
use mir.Val.{bool_byte}
use lib.ListN.{length, get_or, set, length-set}
use lib.Seq.{get_or-set_same, get_or-set_other}
use Rattle.meaning.specs.Bytes.{Bytes}
use Rattle.meaning.specs.Refusal.{good}
use Rattle.meaning.specs.Register.{Link, Register, read_buffer}
use Rattle.register.specs.Image.{Begins, Image}
use Rattle.register.proofs.Begins.{links-rise, begins-first}
use Rattle.graph.specs.Judged.{start_no, Ends, Noted, Risen}

-- ---- where the last link of each item ends

module _ (s : List ℕ) (items : ℕ) where
  pub noted-none : (index : List ℕ) → ((k : ℕ) → get_or index k 0 ≡ 0) → Noted s items 0 index
  noted-none index z = (
    z 0,
    λ g h x l. record {
      within = omega (arith, z (x + 1));
      all = λ k m e. absurd (let y : k < 0 = m in omega arith);
      last = λ m. absurd (omega (arith, z (x + 1)));
    },
  )

  -- one link more, which leads from `at`
  pub noted_more : (k at : ℕ) (index : List ℕ) → Image s (λ g. at ≡ start_no g k) → at + 1 < length index → Noted s items k index
      → Noted s items (k + 1) (set index (at + 1) (k + 1))
  noted_more k at index from l w = (
    get_or-set_other index (at + 1) 0 (k + 1) 0 (λ e. let z : 0 ≡ at + 1 = e in omega arith) ∙ w.0,
    λ g h x m. go g h x m (ℕ_discrete x at),
  )
    where
      go : (g : Register) (h : read_buffer s ≡ good g) (x : ℕ) → x < items → Dec (x ≡ at) → Ends g (k + 1) x (get_or (set index (at + 1) (k + 1)) (x + 1) 0)
      go g h x m (yes q) = subst (λ (z : ℕ). Ends g (k + 1) x (get_or (set index (at + 1) (k + 1)) (z + 1) 0)) (sym q)
          (subst (λ (z : ℕ). Ends g (k + 1) x z) (sym (get_or-set_same index (at + 1) (k + 1) 0 l))
          (record { within = omega arith; all = λ j i d. i; last = λ i. ap (λ (z : ℕ). start_no g z) (let z : k + 1 - 1 ≡ k = omega arith in z) ∙ sym (from g h) ∙ sym q }))
      go g h x m (no q) =
          let v = w.1 g h x m in
          subst (λ (z : ℕ). Ends g (k + 1) x z) (sym (get_or-set_other index (at + 1) (x + 1) (k + 1) 0 (λ d. q (let z : x + 1 ≡ at + 1 = d in omega arith))))
          (record {
            within = let z = v.within in omega arith;
            all = λ j i d. earlier j i d (ℕ_discrete j k);
            last = v.last;
          })
        where
          earlier : (j : ℕ) → j < k + 1 → start_no g j ≡ x → Dec (j ≡ k) → j < get_or index (x + 1) 0
          earlier j i d (yes p) = absurd (q (sym d ∙ ap (λ (z : ℕ). start_no g z) p ∙ sym (from g h)))
          earlier j i d (no p) = (w.1 g h x m).all j (omega (arith, p)) d

-- ---- each place at least what stands before it

pub risen-none : (old : List ℕ) → Risen 0 old old
risen-none old = record { size = refl; first = refl; done = λ k h. absurd (let z : k < 0 = h in omega arith); rest = λ k h. refl }

pub risen-more : (n v : ℕ) (old new : List ℕ) → Risen n old new → n + 1 < length new → v ≡ max (get_or new n 0) (get_or new (n + 1) 0) → Risen (n + 1) old (set new (n + 1) v)
risen-more n v old new w l e = record {
  size = length-set new (n + 1) v ∙ w.size;
  first = other 0 (omega arith) ∙ w.first;
  done = λ k h. go k h (ℕ_discrete k n);
  rest = λ k h. other k (omega arith) ∙ w.rest k (omega arith);
}
  where
    other : (k : ℕ) → (k ≡ n + 1 → ⊥) → get_or (set new (n + 1) v) k 0 ≡ get_or new k 0
    other k d = get_or-set_other new (n + 1) k v 0 d

    go : (k : ℕ) → k < n + 1 → Dec (k ≡ n) → get_or (set new (n + 1) v) (k + 1) 0 ≡ max (get_or (set new (n + 1) v) k 0) (get_or old (k + 1) 0)
    go k h (yes q) =
        rw (q, other n (λ d. let z : n ≡ n + 1 = d in omega arith), ← w.rest (n + 1) (omega arith), get_or-set_same new (n + 1) v 0 l) e
    go k h (no q) =
        other (k + 1) (λ d. let z : k + 1 ≡ n + 1 = d in omega (arith, q)) ∙ w.done k (omega (arith, q))
        ∙ ap (λ (z : ℕ). max z (get_or old (k + 1) 0)) (sym (other k (λ d. let z : k ≡ n + 1 = d in omega arith)))

-- ---- both together

module _ (s : List ℕ) (b : Bytes s) (g : Register) (h : read_buffer s ≡ good g) where
  next : (k a e : ℕ) → Begins g.links k a → Ends g (length g.links) k e → Begins g.links (k + 1) (max a e)
  next k a e v w = go e refl
    where
      go : (d : ℕ) → e ≡ d → Begins g.links (k + 1) (max a e)
      go zero q = subst (λ (z : ℕ). Begins g.links (k + 1) z) (let z : a ≡ max a e = omega arith in z) (record {
        within = v.within;
        before = λ j l. let z = v.before j l in omega arith;
        behind = λ j l m. let z = v.behind j l m in behind' j m z (ℕ_discrete k (start_no g j));
      })
        where
          behind' : (j : ℕ) → j < length g.links → k ≤ start_no g j → Dec (k ≡ start_no g j) → k + 1 ≤ start_no g j
          behind' j m z (yes p) = absurd (let y = w.all j m (sym p) in omega arith)
          behind' j m z (no p) = omega (arith, p)
      go (suc d) q = subst (λ (z : ℕ). Begins g.links (k + 1) z) (let z : e ≡ max a e = omega (arith, early) in z) (record {
        within = w.within;
        before = λ j l. let z = links-rise s b g h j (e - 1) (omega arith) (let y = w.within in omega arith) in omega (arith, at);
        behind = λ j l m. let z = links-rise s b g h (e - 1) j (omega arith) m in behind' j l m (omega (arith, at)) (ℕ_discrete k (start_no g j));
      })
        where
          at : start_no g (e - 1) ≡ k
          at = w.last (omega arith)

          early : a ≤ e - 1
          early = which (a - (e - 1)) refl
            where
              which : (n : ℕ) → a - (e - 1) ≡ n → a ≤ e - 1
              which zero p = omega arith
              which (suc n) p = absurd (let y = v.before (e - 1) (omega arith) in omega (arith, at))

          behind' : (j : ℕ) → e ≤ j → j < length g.links → k ≤ start_no g j → Dec (k ≡ start_no g j) → k + 1 ≤ start_no g j
          behind' j l m z (yes p) = absurd (let y = w.all j m (sym p) in omega arith)
          behind' j l m z (no p) = omega (arith, p)

  pub begins-all : (items : ℕ) (ends index : List ℕ) → Noted s items (length g.links) ends → Risen items ends index
      → (k : ℕ) → k ≤ items → Begins g.links k (get_or index k 0)
  begins-all items ends index w r zero l = subst (λ (y : ℕ). Begins g.links 0 y) (sym (r.first ∙ w.0)) (begins-first g.links)
  begins-all items ends index w r (suc k) l =
      let p = next k (get_or index k 0) (get_or ends (k + 1) 0) (begins-all items ends index w r k (omega arith)) (w.1 g h k (omega arith)) in
      let q : k + 1 ≡ suc k = omega arith in
      subst (λ (y : ℕ). Begins g.links y (get_or index y 0)) q (subst (λ (y : ℕ). Begins g.links (k + 1) y) (sym (r.done k (omega arith))) p)

-- ---- the last place, which is no item's

module _ (ls : List Link) (items : ℕ) (mid : List ℕ) (v : ℕ) (long : length mid ≡ 514) where
  pub flag-long : length (set mid 513 v) ≡ 514
  flag-long = length-set mid 513 v ∙ long

  pub flag-aside : items ≤ 512 → ((k : ℕ) → k ≤ items → Begins ls k (get_or mid k 0)) → (k : ℕ) → k ≤ items → Begins ls k (get_or (set mid 513 v) k 0)
  flag-aside most w k l =
      subst (λ (z : ℕ). Begins ls k z) (sym (get_or-set_other mid 513 k v 0 (λ e. let z : k ≡ 513 = e in omega (arith, l, most)))) (w k l)

  pub flag-there : get_or (set mid 513 v) 513 0 ≡ 0 → v ≡ 0
  flag-there e = sym (get_or-set_same mid 513 v 0 (omega (arith, long))) ∙ e

-- what is noted of a test: 0 where it says yes
pub noted-yes : (b : Bool) → bool_byte (not b) ≡ 0 → b ≡ true
noted-yes true e = refl
noted-yes false e = absurd (omega (arith, e))
