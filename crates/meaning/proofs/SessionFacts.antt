-- An edit's effect on a register: its items stay, its facts are those of the edit's effect on the facts, it stays well-formed.
-- Two well-formed registers with as many items and the same facts are the same. So a register whose facts are given has one image.
-- Assumes nothing.
use mathlib.Core.Path.{◌≡◌, refl, sym, ap, ap₂, ◌∙◌, subst}
use mathlib.Core.Bool.{Bool, true, false, ◌&&◌, ◌||◌, not, cond}
use mathlib.Core.List.{List, [], ◌∷◌, Memᴰ}
use mathlib.Core.Option.{none as nowhere}
use Prim.Native.Nat.{ℕ, zero, suc, ◌+◌, ◌≤◌, ◌<◌}
use native.Mathlib.Omega.{arith}
use lib.Dec.{T, eqb, ltb, leb, eqb→eq, eqb_refl, ltb→lt, lt→ltb}
use lib.ListN.{length, get_or, set, length-set}
use lib.Seq.{get_or-set_same, get_or-set_other, ext_get_or}
use Rattle.meaning.specs.declared.Fact.{Fact}
use Rattle.meaning.specs.declared.Fact.TheVariants.{Name as name_on, Link as link_of}
use Rattle.meaning.specs.Names.{has, is_set}
use Rattle.meaning.specs.Register.{Link, Register, is_fact, all_sets, links_of, well_formed, encode}
use Rattle.meaning.specs.Bounds.{most_links}
use Rattle.meaning.specs.Session.{Facts, link, same_fact, edited, with_name, with_link, set_fact, out_of_range, role_above, no_place}
use Rattle.meaning.proofs.Tests.{holds, is_true, true-false, is-eqb, and_both, both-and, neither-of}
use Rattle.meaning.proofs.Reading.{le-of-not-below, lt_of_not_le}
use Rattle.meaning.proofs.Image.{fits, well, image-length}
use Rattle.meaning.proofs.Links.{same-link, fact-link}
use Rattle.meaning.proofs.SessionNames.{with-has, with-below, same_names}
use Rattle.meaning.proofs.SessionLinks.{among, Sound, same-links, with-rises, with-among, insert-length, without-length, with-same}

-- ---- facts that are the same

pub same-fact : (f x : Fact) → same_fact f x ≡ true → f ≡ x
same-fact (name_on i k) (name_on j m) e =
    let q = and_both (eqb i j) (eqb k m) (holds e) in
    ap₂ name_on (eqb→eq i j q.0) (eqb→eq k m q.1)
same-fact (name_on i k) (link_of a r b) e = absurd (true-false e refl)
same-fact (link_of a r b) (name_on i k) e = absurd (true-false e refl)
same-fact (link_of a r b) (link_of c s d) e =
    ap (λ (l : Link). link_of l.from l.role l.to) (same-link (link a r b) (link c s d) (holds e))

pub fact-same : (f : Fact) → same_fact f f ≡ true
fact-same (name_on i k) = is_true (eqb i i && eqb k k) (both-and (eqb i i) (eqb k k) (eqb_refl i) (eqb_refl k))
fact-same (link_of a r b) =
    is_true (same_fact (link_of a r b) (link_of a r b))
    (both-and (eqb a a && eqb r r) (eqb b b) (both-and (eqb a a) (eqb r r) (eqb_refl a) (eqb_refl r)) (eqb_refl b))

-- ---- one register has these facts

sets-equal : (as' bs : List ℕ) → length as' ≡ length bs → ((i k : ℕ) → has (get_or as' i 0) k ≡ has (get_or bs i 0) k) → as' ≡ bs
sets-equal as' bs e h = ext_get_or 0 as' bs e (λ i l. same_names (get_or as' i 0) (get_or bs i 0) (h i))

-- nothing but the order of the links is asked of them
pub same-rising : (g h : Register) → T (links_of (length g.names) nowhere g.links) → T (links_of (length h.names) nowhere h.links)
    → length g.names ≡ length h.names → ((f : Fact) → is_fact g f ≡ is_fact h f) → g ≡ h
unfolding is_fact
same-rising g h w v e s =
    let a = sets-equal g.names h.names e (λ i k. s (name_on i k)) in
    let t = subst (λ (z : ℕ). T (links_of z nowhere g.links)) e w in
    let b = same-links (length h.names) nowhere nowhere g.links h.links t v
    (λ x m. carry g h s x m) (λ x m. carry h g (λ f. sym (s f)) x m) in
    λ i. record { names = a i; links = b i }
  where
    carry : (g h : Register) → ((f : Fact) → is_fact g f ≡ is_fact h f) → (x : Link) → Memᴰ x g.links → Memᴰ x h.links
    carry g h s x m =
        let f = link_of x.from x.role x.to in
        (fact-link h x.from x.role x.to).0 (subst T (s f) ((fact-link g x.from x.role x.to).1 m))

pub same-register : (g h : Register) → T (well_formed g) → T (well_formed h) → length g.names ≡ length h.names
    → ((f : Fact) → is_fact g f ≡ is_fact h f) → g ≡ h
same-register g h w v e s = same-rising g h (fits g w).rising (fits h v).rising e s

-- ---- an edit's effect

-- a fact that may be edited among n items
abbrev pub Sounds : ℕ → Fact → Type 0
Sounds n (name_on i k) = (i < n) × (k < 64)
Sounds n (link_of a r b) = Sound n (link a r b)

pub sounds : (n : ℕ) (f : Fact) → out_of_range n f ≡ false → role_above f ≡ false → Sounds n f
sounds n (name_on i k) e d =
    let q = neither-of (leb n i) (ltb 63 k) e in
    (lt_of_not_le n i q.0, omega (arith, le-of-not-below 63 k q.1))
sounds n (link_of a r b) e d =
    let q = neither-of (leb n a) (leb n b) e in
    (lt_of_not_le n a q.0, le-of-not-below 31 r d, lt_of_not_le n b q.1)

pub set-items : (v : Bool) (f : Fact) (g : Register) → length (set_fact v f g).names ≡ length g.names
unfolding set_fact
set-items v (name_on i k) g = length-set g.names i _
set-items v (link_of a r b) g = refl

pub set-facts : (v : Bool) (f : Fact) (g : Register) → T (well_formed g) → Sounds (length g.names) f
    → (x : Fact) → is_fact (set_fact v f g) x ≡ edited (record { fact = f; adds = v }) (is_fact g) x
unfolding set_fact is_fact
set-facts v (name_on i k) g w s (name_on j m) = go (eqb i j) refl
  where
    a : ℕ
    a = get_or g.names i 0

    go : (c : Bool) → eqb i j ≡ c → has (get_or (set g.names i (with_name v k a)) j 0) m ≡ cond (c && eqb k m) v (has (get_or g.names j 0) m)
    go true e =
        let z : i ≡ j = eqb→eq i j (holds e) in
        subst (λ (y : ℕ). has (get_or (set g.names i (with_name v k a)) y 0) m ≡ cond (eqb k m) v (has (get_or g.names y 0) m)) z
        (ap (λ (y : ℕ). has y m) (get_or-set_same g.names i (with_name v k a) 0 s.0) ∙ with-has v k a m)
    go false e =
        ap (λ (y : ℕ). has y m) (get_or-set_other g.names i j (with_name v k a) 0
        (λ d. true-false (is_true (eqb i j) (is-eqb (sym d))) e))
set-facts v (name_on i k) g w s (link_of a r b) = refl
set-facts v (link_of a r b) g w s (name_on i k) = refl
set-facts v (link_of a r b) g w s (link_of c q d) = with-among v (length g.names) (link a r b) (link c q d) g.links (fits g w).rising

-- ---- it stays well-formed

sets-kept : (as' : List ℕ) (i a : ℕ) → T (all_sets as') → a < 18446744073709551616 → T (all_sets (set as' i a))
unfolding all_sets
sets-kept [] i a t h = t
sets-kept (x ∷ xs) zero a t h = both-and (is_set a) (all_sets xs) (lt→ltb _ _ h) (and_both (is_set x) (all_sets xs) t).1
sets-kept (x ∷ xs) (suc i) a t h = let q = and_both (is_set x) (all_sets xs) t in both-and (is_set x) _ q.0 (sets-kept xs i a q.1 h)

set_at : (as' : List ℕ) (i : ℕ) → T (all_sets as') → get_or as' i 0 < 18446744073709551616
unfolding all_sets
set_at [] i t = omega arith
set_at (x ∷ xs) zero t = ltb→lt _ _ (and_both (is_set x) (all_sets xs) t).0
set_at (x ∷ xs) (suc i) t = set_at xs i (and_both (is_set x) (all_sets xs) t).1

-- how many links there are afterwards
abbrev pub Grows : Bool → Bool → ℕ → ℕ → Type 0
Grows true true old new = new ≡ old
Grows true false old new = new ≡ old + 1
Grows false true old new = new + 1 ≡ old
Grows false false old new = new ≡ old

links-grow : (v : Bool) (n : ℕ) (l : Link) (ls : List Link) → Sound n l → T (links_of n nowhere ls) → (b : Bool) → among l ls ≡ b
    → Grows v b (length ls) (length (with_link v l ls))
links-grow true n l ls s t true e = ap length (with-same true n l ls s t e)
links-grow true n l ls s t false e = omega (arith, insert-length l ls e)
links-grow false n l ls s t true e = omega (arith, without-length l ls e)
links-grow false n l ls s t false e = ap length (with-same false n l ls s t e)

-- a fact that changes nothing, or a name: as many links
pub set-grows : (v : Bool) (a r b : ℕ) (g : Register) → T (well_formed g) → Sound (length g.names) (link a r b)
    → Grows v (is_fact g (link_of a r b)) (length g.links) (length (set_fact v (link_of a r b) g).links)
unfolding set_fact is_fact
set-grows v a r b g w s = links-grow v (length g.names) (link a r b) g.links s (fits g w).rising (among (link a r b) g.links) refl

-- there is a place where 20 is not given
module _ (s : List ℕ) (v : Bool) (f : Fact) (g : Register) where
  abbrev pub Placed : Type 0
  Placed = (length (set_fact v f g).links ≤ most_links) × (length (encode (set_fact v f g)) ≤ length s)

  image-grows : length (encode g) ≤ length s → length (set_fact v f g).links ≤ length g.links → length (encode (set_fact v f g)) ≤ length s
  image-grows h l = omega (arith, image-length g, image-length (set_fact v f g), set-items v f g)

pub placed : (s : List ℕ) (v : Bool) (f : Fact) (g : Register) → T (well_formed g) → Sounds (length g.names) f → length (encode g) ≤ length s
    → no_place s g v f ≡ false → Placed s v f g
unfolding no_place set_fact
placed s v (name_on i k) g w o h e =
    ((fits g w).few, omega (arith, image-length g, image-length (set_fact v (name_on i k) g), set-items v (name_on i k) g))
placed s v (link_of a r b) g w o h e = go v (is_fact g (link_of a r b)) e (set-grows v a r b g w o)
  where
    f : Fact
    f = link_of a r b

    few : length g.links ≤ most_links
    few = (fits g w).few

    go : (v there : Bool) → (v && not there && (leb most_links (length g.links) || ltb (length s) (length (encode g) + 5))) ≡ false
        → Grows v there (length g.links) (length (set_fact v f g).links) → Placed s v f g
    go true true e d = (omega (arith, few), image-grows s true f g h (omega arith))
    go false true e d = (omega (arith, few), image-grows s false f g h (omega arith))
    go false false e d = (omega (arith, few), image-grows s false f g h (omega arith))
    go true false e d =
        let q = neither-of (leb most_links (length g.links)) (ltb (length s) (length (encode g) + 5)) e in
        let m = lt_of_not_le most_links (length g.links) q.0 in
        let n = le-of-not-below (length s) (length (encode g) + 5) q.1 in
        (omega arith, omega (arith, image-length g, image-length (set_fact true f g), set-items true f g))

pub set-well : (v : Bool) (f : Fact) (g : Register) → T (well_formed g) → Sounds (length g.names) f → length (set_fact v f g).links ≤ most_links
    → T (well_formed (set_fact v f g))
unfolding set_fact
set-well v (name_on i k) g w o l =
    let q = fits g w in
    let a = get_or g.names i 0 in
    let e = length-set g.names i (with_name v k a) in
    well (set_fact v (name_on i k) g) (record {
      some' = omega (arith, q.some');
      items = omega (arith, q.items);
      sets = sets-kept g.names i (with_name v k a) q.sets (with-below v 64 k a o.1 (set_at g.names i q.sets));
      few = q.few;
      rising = subst (λ (z : ℕ). T (links_of z nowhere g.links)) (sym e) q.rising;
    })
set-well v (link_of a r b) g w o l =
    let q = fits g w in
    well (set_fact v (link_of a r b) g) (record {
      some' = q.some';
      items = q.items;
      sets = q.sets;
      few = l;
      rising = with-rises v (length g.names) (link a r b) g.links o q.rising;
    })

-- its links rise, however many there are
pub set-rises : (v : Bool) (f : Fact) (g : Register) → T (well_formed g) → Sounds (length g.names) f
    → T (links_of (length (set_fact v f g).names) nowhere (set_fact v f g).links)
unfolding set_fact
set-rises v (name_on i k) g w o = subst (λ (z : ℕ). T (links_of z nowhere g.links)) (sym (length-set g.names i _)) (fits g w).rising
set-rises v (link_of a r b) g w o = with-rises v (length g.names) (link a r b) g.links o (fits g w).rising

-- an edit that changes nothing leaves the register as it is
edited-same : (f : Fact) (there : Facts) (x : Fact) → edited (record { fact = f; adds = there f }) there x ≡ there x
edited-same f there x = go (same_fact f x) refl
  where
    go : (c : Bool) → same_fact f x ≡ c → cond c (there f) (there x) ≡ there x
    go true e = ap there (same-fact f x e)
    go false e = refl

as-few : (f : Fact) (g : Register) → T (well_formed g) → Sounds (length g.names) f → length (set_fact (is_fact g f) f g).links ≤ most_links
unfolding set_fact is_fact
as-few (name_on i k) g w o = (fits g w).few
as-few (link_of a r b) g w o =
    let e = with-same (is_fact g (link_of a r b)) (length g.names) (link a r b) g.links o (fits g w).rising refl in
    omega (arith, ap length e, (fits g w).few)

pub set_same : (v : Bool) (f : Fact) (g : Register) → T (well_formed g) → Sounds (length g.names) f → is_fact g f ≡ v → set_fact v f g ≡ g
set_same v f g w o e =
    subst (λ (z : Bool). set_fact z f g ≡ g) e
    (same-register (set_fact (is_fact g f) f g) g (set-well (is_fact g f) f g w o (as-few f g w o)) w (set-items (is_fact g f) f g)
    (λ x. set-facts (is_fact g f) f g w o x ∙ edited-same f (is_fact g) x))
