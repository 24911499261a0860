-- Register images: every well-formed register is read back from its image, and whatever is read is a well-formed register whose image stands there.
-- So one register has one image. Both hold for a whole input and for the front of a session's buffer.
-- Assumes nothing.
use mathlib.Core.Path.{◌≡◌, refl, sym, ap, ◌∙◌, subst}
use mathlib.Core.Bool.{Bool, false, ◌&&◌, ◌||◌, not}
use mathlib.Core.List.{List, [], ◌∷◌, ◌++◌}
use mathlib.Core.Option.{Option, some}
use mathlib.Core.Option.{none as nowhere}
use Prim.Native.Nat.{ℕ, zero, suc, ◌+◌, ◌*◌, ◌-◌, ◌≤◌, ◌<◌}
use native.Mathlib.Nat.{le_refl, le_of_eq}
use native.Mathlib.Omega.{arith}
use lib.Dec.{T, ltb, leb, ltb→lt, leb→le, lt→ltb, le→leb}
use lib.ListN.{length, get_or, length-append}
use Rattle.meaning.specs.declared.Side.TheVariants.{Register as register}
use Rattle.meaning.specs.Refusal.{good, refused, at}
use Rattle.meaning.specs.Bytes.{number, bytes, Bytes, read_head, unequal, more_than}
use Rattle.meaning.specs.Names.{is_set}
use Rattle.meaning.specs.Register.{Link, Register, above, all_sets, links_of, well_formed, link_bytes, items_bytes, links_bytes, encode, link_at}
use Rattle.meaning.specs.Register.{read_items, read_link, read_links, read_body, read_register_by, read_register, read_buffer}
use Rattle.meaning.specs.Bounds.{most_items, most_links}
use Rattle.meaning.proofs.Tests.{is_true, of-not, and_both, both-and, or_right, neither, neither-of}
use Rattle.meaning.proofs.Head.{headed-length, body-stands, head-stands, head_read, read-head, headed-stands, headed-read}
use Rattle.meaning.proofs.Reading.{good-inj, pass, stop, passed, took, taken, below, not-below, le-of-not-below, not-le, lt_of_not_le, not-not}
use Rattle.meaning.proofs.Reading.{not-unequal, eq-of-unequal, total, fitted, fields-fitted, Stands, stands_self, stands-left, stands-right}
use Rattle.meaning.proofs.Reading.{stands-both, stands-whole, bytes-length, number_of, bytes_of, number-below}

-- ---- lengths

pub items-length : (as' : List ℕ) → length (items_bytes as') ≡ 8 * length as'
unfolding items_bytes
items-length [] = refl
items-length (a ∷ as') = length-append (bytes 8 a) (items_bytes as') ∙ omega (arith, bytes-length 8 a, items-length as')

pub link-length : (l : Link) → length (link_bytes l) ≡ 5
link-length l =
    length-append (bytes 2 l.from ++ bytes 1 l.role) (bytes 2 l.to)
    ∙ omega (arith, length-append (bytes 2 l.from) (bytes 1 l.role), bytes-length 2 l.from, bytes-length 1 l.role, bytes-length 2 l.to)

pub links-length : (ls : List Link) → length (links_bytes ls) ≡ 5 * length ls
unfolding links_bytes
links-length [] = refl
links-length (l ∷ ls) = length-append (link_bytes l) (links_bytes ls) ∙ omega (arith, link-length l, links-length ls)

-- ---- items

items-read : (s : List ℕ) (end : ℕ) (as' : List ℕ) (p : ℕ) → T (all_sets as') → Stands s p (items_bytes as') → p + 8 * length as' ≤ end
    → read_items s end (length as') p ≡ good as'
unfolding read_items all_sets items_bytes total
items-read s end [] p w h b = refl
items-read s end (a ∷ as') p w h b =
    let q = and_both (is_set a) (all_sets as') w in
    let later = subst (λ (z : ℕ). Stands s (p + z) (items_bytes as')) (bytes-length 8 a) (stands-right s p (bytes 8 a) (items_bytes as') h) in
    let e = number_of s p 8 a (ltb→lt _ _ q.0) (stands-left s p (bytes 8 a) (items_bytes as') h) in
    fitted register end (8 ∷ []) p _ (omega arith)
    ∙ took (read_items s end (length as') (p + 8)) _ as' (items-read s end as' (p + 8) q.1 later (omega arith))
    ∙ ap (λ (z : ℕ). good (z ∷ as')) e

record ItemsRead (s : List ℕ) (end k p : ℕ) (as' : List ℕ) : Type 0 where
  many : length as' ≡ k
  sets : T (all_sets as')
  stand : Stands s p (items_bytes as')
  fit : p + 8 * k ≤ end

read-items : (s : List ℕ) (end k p : ℕ) (as' : List ℕ) → Bytes s → p ≤ end → read_items s end k p ≡ good as' → ItemsRead s end k p as'
unfolding read_items all_sets items_bytes total Stands
read-items s end zero p as' h l e = subst (λ z. ItemsRead s end zero p z) (good-inj e) (record { many = refl; sets = tt; stand = λ i b. absurd (omega arith); fit = omega arith })
read-items s end (suc k) p as' h l e =
    let q = fields-fitted register end 8 [] p _ e in
    let r = taken (read_items s end k (p + 8)) _ q.1 in
    let f : p + 8 ≤ end = omega (arith, q.0) in
    let m = read-items s end k (p + 8) r.0 h f r.1 in
    subst (λ z. ItemsRead s end (suc k) p z) (good-inj r.2) (record {
      many = ap suc m.many;
      sets = both-and (is_set (number s p 8)) (all_sets r.0) (lt→ltb _ _ (number-below s p 8 h)) m.sets;
      stand =
          let later = subst (λ (z : ℕ). Stands s (p + z) (items_bytes r.0)) (sym (bytes-length 8 (number s p 8))) m.stand in
          stands-both s p (bytes 8 (number s p 8)) (items_bytes r.0) (bytes_of s p 8 h) later;
      fit = omega (arith, m.fit);
    })

-- ---- links

-- the parts of a link's bytes
module _ (s : List ℕ) (p : ℕ) (l : Link) where
  abbrev Parts : Type 0
  Parts = Stands s p (bytes 2 l.from) × Stands s (p + 2) (bytes 1 l.role) × Stands s (p + 3) (bytes 2 l.to)

  parts : Stands s p (link_bytes l) → Parts
  parts h =
      let a = bytes 2 l.from in
      let b = bytes 1 l.role in
      let ab = stands-left s p (a ++ b) (bytes 2 l.to) h in (
        stands-left s p a b ab,
        subst (λ (z : ℕ). Stands s (p + z) b) (bytes-length 2 l.from) (stands-right s p a b ab),
        subst (λ (z : ℕ). Stands s z (bytes 2 l.to)) (omega (arith, length-append a b, bytes-length 2 l.from, bytes-length 1 l.role))
            (stands-right s p (a ++ b) (bytes 2 l.to) h),
      )

  joined : Parts → Stands s p (link_bytes l)
  joined q =
      let a = bytes 2 l.from in
      let b = bytes 1 l.role in
      stands-both s p (a ++ b) (bytes 2 l.to)
      (stands-both s p a b q.0 (subst (λ (z : ℕ). Stands s (p + z) b) (sym (bytes-length 2 l.from)) q.1))
      (subst (λ (z : ℕ). Stands s z (bytes 2 l.to)) (omega (arith, length-append a b, bytes-length 2 l.from, bytes-length 1 l.role)) q.2)

  link-at : l.from < 65536 → l.role < 256 → l.to < 65536 → Stands s p (link_bytes l) → link_at s p ≡ l
  link-at f r t h =
      let q = parts h in
      let a = number_of s p 2 l.from f q.0 in
      let b = number_of s (p + 2) 1 l.role r q.1 in
      let c = number_of s (p + 3) 2 l.to t q.2 in
      λ i. record { from = a i; role = b i; to = c i }

-- what the tests at a link say
module _ (n : ℕ) (before : Option Link) (l : Link) where
  pub record Right : Type 0 where
    pub from : l.from < n
    pub role : l.role ≤ 31
    pub to : l.to < n
    pub rises : T (above before l)

  pub right : (ls : List Link) → T (links_of n before (l ∷ ls)) → Right × T (links_of n (some l) ls)
  unfolding links_of
  right ls w =
      let a = and_both (ltb l.from n && leb l.role 31 && ltb l.to n && above before l) (links_of n (some l) ls) w in
      let b = and_both (ltb l.from n && leb l.role 31 && ltb l.to n) (above before l) a.0 in
      let c = and_both (ltb l.from n && leb l.role 31) (ltb l.to n) b.0 in
      let d = and_both (ltb l.from n) (leb l.role 31) c.0 in
      (record { from = ltb→lt _ _ d.0; role = leb→le _ _ d.1; to = ltb→lt _ _ c.1; rises = b.1 }, a.1)

  pub wrote : (ls : List Link) → Right → T (links_of n (some l) ls) → T (links_of n before (l ∷ ls))
  unfolding links_of
  wrote ls q w =
      both-and (ltb l.from n && leb l.role 31 && ltb l.to n && above before l) _
      (both-and (ltb l.from n && leb l.role 31 && ltb l.to n) _
      (both-and (ltb l.from n && leb l.role 31) _ (both-and (ltb l.from n) _ (lt→ltb _ _ q.from) (le→leb _ _ q.role)) (lt→ltb _ _ q.to))
      q.rises) w

-- one link is read
link-read : (s : List ℕ) (end n : ℕ) (before : Option Link) (p : ℕ) (l : Link) → link_at s p ≡ l → p + 5 ≤ end → Right n before l → read_link s end n before p ≡ good l
unfolding read_link total
link-read s end n before p l e b =
    subst (λ (m : Link). Right n before m → read_link s end n before p ≡ good m) e
    (λ q.
    fitted register end (2 ∷ 1 ∷ 2 ∷ []) p _ (omega arith)
    ∙ pass (leb n (link_at s p).from) _ _ (not-le _ _ q.from)
    ∙ pass (ltb 31 (link_at s p).role) _ _ (not-below _ _ q.role)
    ∙ pass (leb n (link_at s p).to) _ _ (not-le _ _ q.to)
    ∙ pass (not (above before (link_at s p))) _ _ (not-not (above before (link_at s p)) q.rises))

links-read : (s : List ℕ) (end n : ℕ) (ls : List Link) (before : Option Link) (p : ℕ) → n ≤ most_items → T (links_of n before ls) → Stands s p (links_bytes ls)
    → p + 5 * length ls ≤ end → read_links s end n (length ls) before p ≡ good ls
unfolding read_links links_bytes
links-read s end n [] before p c w h b = refl
links-read s end n (l ∷ ls) before p c w h b =
    let q = right n before l ls w in
    let e = link-at s p l (omega (arith, q.0.from)) (omega (arith, q.0.role)) (omega (arith, q.0.to)) (stands-left s p (link_bytes l) (links_bytes ls) h) in
    let later = subst (λ (z : ℕ). Stands s (p + z) (links_bytes ls)) (link-length l) (stands-right s p (link_bytes l) (links_bytes ls) h) in
    took (read_link s end n before p) _ l (link-read s end n before p l e (omega arith) q.0)
    ∙ took (read_links s end n (length ls) (some l) (p + 5)) _ ls (links-read s end n ls (some l) (p + 5) c q.1 later (omega arith))

record LinksRead (s : List ℕ) (end n k : ℕ) (before : Option Link) (p : ℕ) (ls : List Link) : Type 0 where
  many : length ls ≡ k
  rising : T (links_of n before ls)
  stand : Stands s p (links_bytes ls)
  fit : p + 5 * k ≤ end

pub read-link : (s : List ℕ) (end n : ℕ) (before : Option Link) (p : ℕ) (l : Link) → read_link s end n before p ≡ good l
    → (p + 5 ≤ end) × Right n before l × (link_at s p ≡ l)
unfolding read_link total
read-link s end n before p l e =
    let a = fields-fitted register end 2 (1 ∷ 2 ∷ []) p _ e in
    let b = passed (leb n (link_at s p).from) _ _ a.1 in
    let c = passed (ltb 31 (link_at s p).role) _ _ b.1 in
    let d = passed (leb n (link_at s p).to) _ _ c.1 in
    let f = passed (not (above before (link_at s p))) _ _ d.1 in
    let g = good-inj f.1 in
    let q : Right n before (link_at s p) = record {
      from = lt_of_not_le _ _ b.0;
      role = le-of-not-below _ _ c.0;
      to = lt_of_not_le _ _ d.0;
      rises = of-not (above before (link_at s p)) f.0;
    } in
    (omega (arith, a.0), subst (λ (m : Link). Right n before m) g q, g)

read-links : (s : List ℕ) (end n k : ℕ) (before : Option Link) (p : ℕ) (ls : List Link) → Bytes s → p ≤ end → read_links s end n k before p ≡ good ls
    → LinksRead s end n k before p ls
unfolding read_links links_of links_bytes Stands
read-links s end n zero before p ls h c e =
    subst (λ z. LinksRead s end n zero before p z) (good-inj e) (record { many = refl; rising = tt; stand = λ i b. absurd (omega arith); fit = omega arith })
read-links s end n (suc k) before p ls h c e =
    let o = taken (read_link s end n before p) _ e in
    let l = o.0 in
    let a = read-link s end n before p l o.1 in
    let r = taken (read_links s end n k (some l) (p + 5)) _ o.2 in
    let m = read-links s end n k (some l) (p + 5) r.0 h a.0 r.1 in
    subst (λ z. LinksRead s end n (suc k) before p z) (good-inj r.2) (record {
      many = ap suc m.many;
      rising = wrote n before l r.0 a.1 m.rising;
      stand = stands-both s p (link_bytes l) (links_bytes r.0)
          (subst (λ (z : Link). Stands s p (link_bytes z)) a.2 (joined s p (link_at s p) (bytes_of s p 2 h, bytes_of s (p + 2) 1 h, bytes_of s (p + 3) 2 h)))
          (subst (λ (z : ℕ). Stands s (p + z) (links_bytes r.0)) (sym (link-length l)) m.stand);
      fit = omega (arith, m.fit);
    })

-- as many are read as were asked for
pub read-links-many : (s : List ℕ) (end n k : ℕ) (before : Option Link) (p : ℕ) (ls : List Link) → read_links s end n k before p ≡ good ls → length ls ≡ k
unfolding read_links
read-links-many s end n zero before p ls e = sym (ap length (good-inj e))
read-links-many s end n (suc k) before p ls e =
    let o = taken (read_link s end n before p) _ e in
    let r = taken (read_links s end n k (some o.0) (p + 5)) _ o.2 in
    sym (ap length (good-inj r.2)) ∙ ap suc (read-links-many s end n k (some o.0) (p + 5) r.0 r.1)

-- ---- the whole image

abbrev body_of : Register → List ℕ
body_of g = bytes 2 (length g.names) ++ items_bytes g.names ++ bytes 2 (length g.links) ++ links_bytes g.links

body-length : (g : Register) → length (body_of g) ≡ 4 + 8 * length g.names + 5 * length g.links
body-length g =
    let a = bytes 2 (length g.names) in
    let b = items_bytes g.names in
    let c = bytes 2 (length g.links) in
    length-append (a ++ b ++ c) (links_bytes g.links)
    ∙ omega (arith, length-append (a ++ b) c, length-append a b, bytes-length 2 (length g.names), bytes-length 2 (length g.links), items-length g.names, links-length g.links)

pub image-length : (g : Register) → length (encode g) ≡ 7 + 8 * length g.names + 5 * length g.links
unfolding encode
image-length g = headed-length (body_of g) ∙ omega (arith, body-length g)

-- what is well-formed, part by part
pub record Fits (g : Register) : Type 0 where
  pub some' : 1 ≤ length g.names
  pub items : length g.names ≤ most_items
  pub sets : T (all_sets g.names)
  pub few : length g.links ≤ most_links
  pub rising : T (links_of (length g.names) nowhere g.links)

pub fits : (g : Register) → T (well_formed g) → Fits g
unfolding well_formed
fits g w =
    let n = length g.names in
    let a = and_both (leb 1 n && leb n most_items && all_sets g.names && leb (length g.links) most_links) _ w in
    let b = and_both (leb 1 n && leb n most_items && all_sets g.names) _ a.0 in
    let c = and_both (leb 1 n && leb n most_items) _ b.0 in
    let d = and_both (leb 1 n) _ c.0 in
    record { some' = leb→le _ _ d.0; items = leb→le _ _ d.1; sets = c.1; few = leb→le _ _ b.1; rising = a.1 }

pub well : (g : Register) → Fits g → T (well_formed g)
unfolding well_formed
well g f =
    let n = length g.names in
    both-and (leb 1 n && leb n most_items && all_sets g.names && leb (length g.links) most_links) _
    (both-and (leb 1 n && leb n most_items && all_sets g.names) _
    (both-and (leb 1 n && leb n most_items) _ (both-and (leb 1 n) _ (le→leb _ _ f.some') (le→leb _ _ f.items)) f.sets) (le→leb _ _ f.few)) f.rising

-- the four parts of a body
module _ (s : List ℕ) (g : Register) where
  abbrev Body : Type 0
  Body = Stands s 3 (bytes 2 (length g.names)) × Stands s 5 (items_bytes g.names) × Stands s (5 + 8 * length g.names) (bytes 2 (length g.links))
      × Stands s (5 + 8 * length g.names + 2) (links_bytes g.links)

  body-parts : Stands s 3 (body_of g) → Body
  body-parts h =
      let a = bytes 2 (length g.names) in
      let b = items_bytes g.names in
      let c = bytes 2 (length g.links) in
      let d = links_bytes g.links in
      let abc = stands-left s 3 (a ++ b ++ c) d h in
      let ab = stands-left s 3 (a ++ b) c abc in
      let la = bytes-length 2 (length g.names) in
      let lb = items-length g.names in
      let lc = bytes-length 2 (length g.links) in
      let lab = length-append a b in (
        stands-left s 3 a b ab,
        subst (λ (z : ℕ). Stands s z b) (omega arith) (stands-right s 3 a b ab),
        subst (λ (z : ℕ). Stands s z c) (omega arith) (stands-right s 3 (a ++ b) c abc),
        subst (λ (z : ℕ). Stands s z d) (omega (arith, length-append (a ++ b) c)) (stands-right s 3 (a ++ b ++ c) d h),
      )

  body-joined : Body → Stands s 3 (body_of g)
  body-joined q =
      let a = bytes 2 (length g.names) in
      let b = items_bytes g.names in
      let c = bytes 2 (length g.links) in
      let d = links_bytes g.links in
      let la = bytes-length 2 (length g.names) in
      let lb = items-length g.names in
      let lc = bytes-length 2 (length g.links) in
      let lab = length-append a b in
      stands-both s 3 (a ++ b ++ c) d
      (stands-both s 3 (a ++ b) c (stands-both s 3 a b q.0 (subst (λ (z : ℕ). Stands s z b) (omega arith) q.1)) (subst (λ (z : ℕ). Stands s z c) (omega arith) q.2))
      (subst (λ (z : ℕ). Stands s z d) (omega (arith, length-append (a ++ b) c)) q.3)

body-read : (s : List ℕ) (g : Register) (end : ℕ) → Fits g → Stands s 3 (body_of g) → end ≡ 3 + length (body_of g) → read_body s end ≡ good g
unfolding read_body total
body-read s g end f h e =
    let n = length g.names in
    let m = length g.links in
    let q = body-parts s g h in
    let bl = body-length g in
    let en : number s 3 2 ≡ n = number_of s 3 2 n (omega (arith, f.items)) q.0 in
    let em : number s (5 + 8 * n) 2 ≡ m = number_of s (5 + 8 * n) 2 m (omega (arith, f.few)) q.2 in
    fitted register end (2 ∷ []) 3 _ (omega arith)
    ∙ rw (en, em) (
    pass (ltb n 1 || ltb most_items n) _ _ (neither (ltb n 1) (ltb most_items n) (not-below n 1 f.some') (not-below most_items n f.items))
    ∙ took (read_items s end n 5) _ g.names (items-read s end g.names 5 f.sets q.1 (omega arith))
    ∙ fitted register end (2 ∷ []) (5 + 8 * n) _ (omega arith)
    ∙ pass (ltb most_links m) _ _ (not-below most_links m f.few)
    ∙ took (read_links s end n m nowhere (5 + 8 * n + 2)) _ g.links (links-read s end n g.links nowhere (5 + 8 * n + 2) f.items f.rising q.3 (omega arith))
    ∙ pass (ltb (5 + 8 * n + 2 + 5 * m) end) _ _ (not-below (5 + 8 * n + 2 + 5 * m) end (omega arith)))

read-body : (s : List ℕ) (g : Register) (end : ℕ) → Bytes s → read_body s end ≡ good g → Fits g × Stands s 3 (body_of g) × (end ≡ 3 + length (body_of g))
unfolding read_body total
read-body s g end h e =
    let n = number s 3 2 in
    let p = 5 + 8 * n in
    let m = number s p 2 in
    let a = fields-fitted register end 2 [] 3 _ e in
    let b = passed (ltb n 1 || ltb most_items n) _ _ a.1 in
    let c = neither-of (ltb n 1) (ltb most_items n) b.0 in
    let i = taken (read_items s end n 5) _ b.1 in
    let ri = read-items s end n 5 i.0 h (omega (arith, a.0)) i.1 in
    let d = fields-fitted register end 2 [] p _ i.2 in
    let f = passed (ltb most_links m) _ _ d.1 in
    let l = taken (read_links s end n m nowhere (p + 2)) _ f.1 in
    let rl = read-links s end n m nowhere (p + 2) l.0 h (omega (arith, d.0)) l.1 in
    let o = passed (ltb (p + 2 + 5 * m) end) _ _ l.2 in
    let x : Register = record { names = i.0; links = l.0 } in
    let eg : x ≡ g = good-inj o.1 in
    let en : n ≡ length i.0 = sym ri.many in
    let em : m ≡ length l.0 = sym rl.many in
    let ep : p ≡ 5 + 8 * length i.0 = omega arith in
    let le1 = le-of-not-below n 1 c.0 in
    let le2 = le-of-not-below most_items n c.1 in
    let le3 = le-of-not-below most_links m f.0 in
    let le4 = le-of-not-below (p + 2 + 5 * m) end o.0 in
    let fit : Fits x = record {
      some' = omega arith;
      items = omega arith;
      sets = ri.sets;
      few = omega arith;
      rising = subst (λ (z : ℕ). T (links_of z nowhere l.0)) en rl.rising;
    } in
    let standing : Stands s 3 (body_of x) = body-joined s x (
      subst (λ (z : ℕ). Stands s 3 (bytes 2 z)) en (bytes_of s 3 2 h),
      ri.stand,
      subst (λ (z : ℕ). Stands s (5 + 8 * length i.0) (bytes 2 z)) em (subst (λ (z : ℕ). Stands s z (bytes 2 m)) ep (bytes_of s p 2 h)),
      subst (λ (z : ℕ). Stands s (z + 2) (links_bytes l.0)) ep rl.stand,
    ) in
    subst (λ (z : Register). Fits z × Stands s 3 (body_of z) × (end ≡ 3 + length (body_of z))) eg (fit, standing, omega (arith, body-length x, rl.fit))

-- ---- the theorems

register-read : (wrong : ℕ → ℕ → Bool) (s : List ℕ) (g : Register) → T (well_formed g) → Stands s 0 (encode g) → length (encode g) ≤ length s
    → wrong (length (body_of g)) (length s - 3) ≡ false → read_register_by wrong s ≡ good g
unfolding read_register_by encode
register-read wrong s g w h l r =
    let f = fits g w in
    let bl = body-length g in
    let hl = headed-length (body_of g) in
    took (read_head register wrong s) _ (3 + length (body_of g)) (head_read s (body_of g) register wrong (omega (arith, f.items, f.few)) (omega arith) r h)
    ∙ body-read s g (3 + length (body_of g)) f (body-stands s (body_of g) h) refl

-- a register is read back from its image, and from a buffer that begins with it
pub image-read : (g : Register) → T (well_formed g) → read_register (encode g) ≡ good g
image-read g w =
    let e : length (body_of g) ≡ length (encode g) - 3 = omega (arith, image-length g, body-length g) in
    register-read unequal (encode g) g w (stands_self (encode g)) (le_refl _) (not-unequal _ _ e)

pub buffer-read : (s : List ℕ) (g : Register) → T (well_formed g) → Stands s 0 (encode g) → length (encode g) ≤ length s → read_buffer s ≡ good g
buffer-read s g w h l =
    register-read more_than s g w h l (not-below (length s - 3) (length (body_of g)) (omega (arith, image-length g, body-length g)))

read-register : (wrong : ℕ → ℕ → Bool) (s : List ℕ) (g : Register) → Bytes s → read_register_by wrong s ≡ good g
    → T (well_formed g) × Stands s 0 (encode g) × (wrong (length (body_of g)) (length s - 3) ≡ false) × (3 ≤ length s)
unfolding read_register_by encode
read-register wrong s g b e =
    let q = taken (read_head register wrong s) _ e in
    let hd = read-head register wrong s q.0 q.1 in
    let r = read-body s g q.0 b q.2 in
    let n : number s 1 2 ≡ length (body_of g) = omega (arith, hd.ends, r.2) in (
      well g r.0,
      head-stands s (body_of g) hd.version (subst (λ (z : ℕ). Stands s 1 (bytes 2 z)) n (bytes_of s 1 2 b)) r.1,
      subst (λ (z : ℕ). wrong z (length s - 3) ≡ false) n hd.right,
      hd.long,
    )

-- what is accepted is well-formed, and is the image of what was read; in a session's buffer its image stands in front
pub read-image : (s : List ℕ) (g : Register) → Bytes s → read_register s ≡ good g → T (well_formed g) × (s ≡ encode g)
read-image s g b e =
    let q = read-register unequal s g b e in
    let l = eq-of-unequal (length (body_of g)) (length s - 3) q.2 in
    (q.0, stands-whole s (encode g) q.1 (omega (arith, image-length g, body-length g, q.3)))

pub read-buffer : (s : List ℕ) (g : Register) → Bytes s → read_buffer s ≡ good g → T (well_formed g) × Stands s 0 (encode g) × (length (encode g) ≤ length s)
read-buffer s g b e =
    let q = read-register more_than s g b e in
    let l = le-of-not-below (length s - 3) (length (body_of g)) q.2 in
    (q.0, q.1, omega (arith, image-length g, body-length g, q.3))

-- "A register has one image", and an image one register
pub one-register : (g h : Register) → T (well_formed g) → T (well_formed h) → encode g ≡ encode h → g ≡ h
one-register g h w v e = good-inj (sym (image-read g w) ∙ ap read_register e ∙ image-read h v)

-- "Largest image: 24,583 bytes."
pub largest-image : (g : Register) → T (well_formed g) → length (encode g) ≤ 24583
largest-image g w = let f = fits g w in omega (arith, image-length g, f.items, f.few)

-- ---- one fact of an image that was read

items-stand : (s : List ℕ) (as' : List ℕ) (p i : ℕ) → Bytes s → T (all_sets as') → Stands s p (items_bytes as') → i < length as' → number s (p + 8 * i) 8 ≡ get_or as' i 0
unfolding all_sets items_bytes
items-stand s [] p i b w h l = absurd (omega arith)
items-stand s (a ∷ as') p zero b w h l =
    let q = and_both (is_set a) (all_sets as') w in
    ap (λ (z : ℕ). number s z 8) (omega arith) ∙ number_of s p 8 a (ltb→lt _ _ q.0) (stands-left s p (bytes 8 a) (items_bytes as') h)
items-stand s (a ∷ as') p (suc i) b w h l =
    let q = and_both (is_set a) (all_sets as') w in
    let later = subst (λ (z : ℕ). Stands s (p + z) (items_bytes as')) (bytes-length 8 a) (stands-right s p (bytes 8 a) (items_bytes as') h) in
    ap (λ (z : ℕ). number s z 8) (omega arith) ∙ items-stand s as' (p + 8) i b q.1 later (omega arith)

links-stand : (s : List ℕ) (n : ℕ) (before : Option Link) (ls : List Link) (p k : ℕ) (d : Link) → n ≤ most_items → T (links_of n before ls) → Stands s p (links_bytes ls)
    → k < length ls → link_at s (p + 5 * k) ≡ get_or ls k d
unfolding links_bytes
links-stand s n before [] p k d c w h l = absurd (omega arith)
links-stand s n before (x ∷ ls) p zero d c w h l =
    let q = right n before x ls w in
    ap (λ (z : ℕ). link_at s z) (omega arith)
    ∙ link-at s p x (omega (arith, q.0.from)) (omega (arith, q.0.role)) (omega (arith, q.0.to)) (stands-left s p (link_bytes x) (links_bytes ls) h)
links-stand s n before (x ∷ ls) p (suc k) d c w h l =
    let later = subst (λ (z : ℕ). Stands s (p + z) (links_bytes ls)) (link-length x) (stands-right s p (link_bytes x) (links_bytes ls) h) in
    ap (λ (z : ℕ). link_at s z) (omega arith) ∙ links-stand s n (some x) ls (p + 5) k d c (right n before x ls w).1 later (omega arith)

module _ (s : List ℕ) (g : Register) (b : Bytes s) (e : read_buffer s ≡ good g) where
  body-here : Body s g
  unfolding encode
  body-here = body-parts s g (body-stands s (body_of g) (read-buffer s g b e).1)

  pub image-fits : Fits g × (7 + 8 * length g.names + 5 * length g.links ≤ length s)
  image-fits = let q = read-buffer s g b e in (fits g q.0, omega (arith, image-length g, q.2))

  pub image-names : (i : ℕ) → i < length g.names → number s (5 + 8 * i) 8 ≡ get_or g.names i 0
  image-names i l = items-stand s g.names 5 i b image-fits.0.sets body-here.1 l

  pub image-link : (k : ℕ) (d : Link) → k < length g.links → link_at s (7 + 8 * length g.names + 5 * k) ≡ get_or g.links k d
  image-link k d l =
      ap (λ (z : ℕ). link_at s z) (omega arith)
      ∙ links-stand s (length g.names) nowhere g.links (5 + 8 * length g.names + 2) k d image-fits.0.items image-fits.0.rising body-here.3 l

-- a link among links that are right is right
link-of : (n : ℕ) (before : Option Link) (ls : List Link) (k : ℕ) (d : Link) → T (links_of n before ls) → k < length ls
    → ((get_or ls k d).from < n) × ((get_or ls k d).role ≤ 31) × ((get_or ls k d).to < n)
link-of n before [] k d w l = absurd (omega arith)
link-of n before (x ∷ ls) zero d w l = let q = (right n before x ls w).0 in (q.from, q.role, q.to)
link-of n before (x ∷ ls) (suc k) d w l = link-of n (some x) ls k d (right n before x ls w).1 (omega arith)

pub link-right : (s : List ℕ) (g : Register) → Bytes s → read_buffer s ≡ good g → (k : ℕ) (d : Link) → k < length g.links
    → ((get_or g.links k d).from < length g.names) × ((get_or g.links k d).role ≤ 31) × ((get_or g.links k d).to < length g.names)
link-right s g b e k d l = link-of (length g.names) nowhere g.links k d (image-fits s g b e).0.rising l

-- what was read of a whole input is what a buffer that holds it begins with
pub whole-buffer : (s : List ℕ) (g : Register) → Bytes s → read_register s ≡ good g → read_buffer s ≡ good g
whole-buffer s g b e =
    let q = read-image s g b e in
    buffer-read s g q.0 (subst (λ (z : List ℕ). Stands z 0 (encode g)) (sym q.1) (stands_self (encode g))) (le_of_eq (ap length (sym q.1)))

-- ---- too many items or links: 4 at their count

module _ (g : Register) (short : length (encode g) < 65536) where
  abbrev last : ℕ
  last = 3 + length (body_of g)

  to-body : read_register (encode g) ≡ read_body (encode g) last
  unfolding read_register_by encode
  to-body =
      took (read_head register unequal (encode g)) _ last
      (headed-read register (body_of g) (omega (arith, short, image-length g, body-length g)))

  here : Body (encode g) g
  unfolding encode
  here = body-parts (encode g) g (headed-stands (body_of g))

  items-here : number (encode g) 3 2 ≡ length g.names
  items-here = number_of (encode g) 3 2 (length g.names) (omega (arith, short, image-length g)) here.0

  links-here : number (encode g) (5 + 8 * length g.names) 2 ≡ length g.links
  links-here = number_of (encode g) (5 + 8 * length g.names) 2 (length g.links) (omega (arith, short, image-length g)) here.2

  pub items_above : most_items < length g.names → read_register (encode g) ≡ refused (at register 4 3)
  unfolding read_body total
  items_above h =
      let n = length g.names in
      to-body ∙ fitted register last (2 ∷ []) 3 _ (omega (arith, body-length g))
      ∙ rw items-here (stop (ltb n 1 || ltb most_items n) _ _ (is_true _ (or_right (ltb n 1) (ltb most_items n) (lt→ltb most_items n h))))

  pub links-above : 1 ≤ length g.names → length g.names ≤ most_items → T (all_sets g.names) → most_links < length g.links
      → read_register (encode g) ≡ refused (at register 4 (5 + 8 * length g.names))
  unfolding read_body total
  links-above a b c h =
      let n = length g.names in
      let m = length g.links in
      let bl = body-length g in
      to-body ∙ fitted register last (2 ∷ []) 3 _ (omega arith)
      ∙ rw (items-here, links-here) (
      pass (ltb n 1 || ltb most_items n) _ _ (neither (ltb n 1) (ltb most_items n) (not-below n 1 a) (not-below most_items n b))
      ∙ took (read_items (encode g) last n 5) _ g.names (items-read (encode g) last g.names 5 c here.1 (omega arith))
      ∙ fitted register last (2 ∷ []) (5 + 8 * n) _ (omega arith)
      ∙ stop (ltb most_links m) _ _ (below most_links m h))
