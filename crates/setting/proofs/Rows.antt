-- The links of an image as rows of five bytes: what they are, and what a search among them finds.
-- Assumes nothing.
use Rattle.std.proofs.Common.{◌≡◌, ℕ, zero, suc, ◌+◌, ◌*◌, ◌-◌, ◌/◌, ◌<◌, ◌≤◌, List, [], ◌∷◌, ◌++◌, length, get_or, map, take, drop, Result, Ok, Err, refl, sym, ap, ap₂, ◌∙◌, subst, arith, length-append, append_assoc}
use lib.ListN.{length-map, get_or-map}
use Rattle.std.specs.List.Sorted.{IsSearchInRange, IsBinarySearchResult, IsNonDecreasingBy}
use Rattle.std.specs.Ordering.{nat_cmp, ordering_index}
use Rattle.std.proofs.lemmas.Cmp.{ranked}
use Rattle.std.proofs.lemmas.List.Sorted.{IsNonDecreasingBy-from_default}
use Rattle.std.proofs.lemmas.Bool.Decides.{nat_tests}
use mathlib.Core.Option.{Option, some, none as nowhere}
use lib.Dec.{T, leb→le}
use Rattle.std.specs.Simd.{first_chunks}
use lib.Seq.{take_at, drop_at}
use Rattle.meaning.specs.Bytes.{number, bytes}
use Rattle.meaning.specs.Register.{Link, links_of, link_at, link_bytes, links_bytes, encode}
use Rattle.meaning.specs.Bounds.{most_items}
use Rattle.meaning.proofs.Reading.{stands_self, stands-split, number_of, bytes-length}
use Rattle.meaning.proofs.Image.{link-length, links-length, right, image-fits}
use Rattle.links.proofs.Rising.{rises-key}
use Rattle.register.specs.Image.{no_link}
use Rattle.register.specs.Held.{held, IsRead}
use Rattle.register.proofs.Holding.{good-is}
use Rattle.register.specs.Layout.{link_place, image_length, body_length}
use Rattle.register.specs.Reading.{key, Small}
use Rattle.setting.specs.Setting.{Placed}
use Rattle.setting.proofs.Parts.{version, items as items_part, items-long}
use Rattle.setting.proofs.Changes.{in_parts}

-- as many rows as links
rows-are : (ls : List Link) → first_chunks 5 (length ls) (links_bytes ls) ≡ map link_bytes ls
unfolding links_bytes
rows-are [] = refl
rows-are (l ∷ ls) =
    ap₂ (λ (x : List ℕ) (xs : List ℕ). x ∷ first_chunks 5 (length ls) xs) (take_at (link_bytes l) (links_bytes ls) 5 (link-length l))
    (drop_at (link_bytes l) (links_bytes ls) 5 (link-length l)) ∙ ap (λ (rs : List (List ℕ)). link_bytes l ∷ rs) (rows-are ls)

-- a row's number is that of its link
row-key : (l : Link) → Small l → l.from < 65536 → key (link_at (link_bytes l) 0) ≡ key l
unfolding bytes
row-key l small few =
    let w = bytes 2 l.from ++ bytes 1 l.role in
    let n : length w ≡ 3 = length-append (bytes 2 l.from) (bytes 1 l.role) ∙ omega (arith, bytes-length 2 l.from, bytes-length 1 l.role) in
    let a = stands-split (link_bytes l) 0 3 w (bytes 2 l.to) (stands_self (link_bytes l)) n in
    let b = stands-split (link_bytes l) 0 2 (bytes 2 l.from) (bytes 1 l.role) a.0 (bytes-length 2 l.from) in
    let f : number (link_bytes l) 0 2 ≡ l.from = number_of (link_bytes l) 0 2 l.from few b.0 in
    let r : number (link_bytes l) 2 1 ≡ l.role = number_of (link_bytes l) 2 1 l.role (omega (arith, small.0)) b.1 in
    let t : number (link_bytes l) 3 2 ≡ l.to = number_of (link_bytes l) 3 2 l.to small.1 a.1 in
    ap₂ (λ (x y : ℕ). (x * 256 + y) * 65536 + number (link_bytes l) 3 2) f r ∙ ap (λ (z : ℕ). (l.from * 256 + l.role) * 65536 + z) t

-- ---- the links of a register that was read rise strictly in their numbers

module _ (n : ℕ) (few : n ≤ most_items) where
  -- what the tests at a link say of it
  sound : (before : Option Link) (l : Link) (ls : List Link) → T (links_of n before (l ∷ ls)) → Small l × (l.from < 65536)
  sound before l ls w = let q = (right n before l ls w).0 in ((q.role, omega (arith, q.to)), omega (arith, q.from))

  next_less : (l m : Link) (ls : List Link) → Small l → T (links_of n (some l) (m ∷ ls)) → key l < key m
  next_less l m ls small w =
      let q = leb→le (key l + 1) (key m) (subst T (rises-key l m small (sound (some l) m ls w).0) (right n (some l) m ls w).0.rises) in omega arith

  first_less : (l : Link) (ls : List Link) (k : ℕ) → Small l → T (links_of n (some l) ls) → k < length ls → key l < key (get_or ls k no_link)
  first_less l [] k small w h = absurd (omega arith)
  first_less l (m ∷ ls) zero small w h = next_less l m ls small w
  first_less l (m ∷ ls) (suc k) small w h =
      let q = first_less m ls k (sound (some l) m ls w).0 (right n (some l) m ls w).1 (omega arith) in
      omega (arith, next_less l m ls small w)

  less : (before : Option Link) (ls : List Link) (j k : ℕ) → T (links_of n before ls) → j < k → k < length ls → key (get_or ls j no_link) < key (get_or ls k no_link)
  less before [] j k w h l = absurd (omega arith)
  less before (x ∷ ls) j zero w h l = absurd (omega arith)
  less before (x ∷ ls) zero (suc k) w h l = first_less x ls k (sound before x ls w).0 (right n before x ls w).1 (omega arith)
  less before (x ∷ ls) (suc j) (suc k) w h l = less (some x) ls j k (right n before x ls w).1 (omega arith) (omega arith)

  each_sound : (before : Option Link) (ls : List Link) (k : ℕ) → T (links_of n before ls) → k < length ls → Small (get_or ls k no_link) × ((get_or ls k no_link).from < 65536)
  each_sound before [] k w h = absurd (omega arith)
  each_sound before (x ∷ ls) zero w h = sound before x ls w
  each_sound before (x ∷ ls) (suc k) w h = each_sound (some x) ls k (right n before x ls w).1 (omega arith)

-- ---- what a search finds among them

module _ (ls : List Link) (rise : (j k : ℕ) → j < k → k < length ls → key (get_or ls j no_link) < key (get_or ls k no_link))
    (small : (k : ℕ) → k < length ls → Small (get_or ls k no_link) × ((get_or ls k no_link).from < 65536)) (wanted : ℕ) where
  abbrev rows : List (List ℕ)
  rows = map link_bytes ls

  abbrev row_at : ℕ → List ℕ
  row_at k = get_or rows k (link_bytes no_link)

  row-at : (k : ℕ) → k < length ls → key (link_at (row_at k) 0) ≡ key (get_or ls k no_link)
  row-at k h =
      let q = small k h in
      ap (λ (row : List ℕ). key (link_at row 0)) (get_or-map link_bytes ls k no_link) ∙ row-key (get_or ls k no_link) q.0 q.1

  -- the comparisons with what is wanted rise along the rows, as a binary search asks
  numbers_rise : IsNonDecreasingBy (λ row. ordering_index (nat_cmp (key (link_at row 0)) wanted)) rows
  numbers_rise = IsNonDecreasingBy-from_default (λ row. ordering_index (nat_cmp (key (link_at row 0)) wanted)) rows (link_bytes no_link) (λ i j le in_range.
      let h : j < length ls = omega (arith, length-map ls link_bytes) in
      let up : key (link_at (row_at i) 0) ≤ key (link_at (row_at j) 0) =
      grind (arith, rise i j, row-at i (omega arith), row-at j h, λ (same : i ≡ j). ap (λ (k : ℕ). key (link_at (row_at k) 0)) same) in
      grind (arith, nat_tests))

  pub searched : (r : Result ℕ ℕ) → IsSearchInRange r (length rows) → IsBinarySearchResult (λ row. nat_cmp (key (link_at row 0)) wanted) rows r → Placed ls wanted r
  searched (Ok at) in_range equal =
      let h : at < length ls = omega (arith, length-map ls link_bytes) in
      let e : key (get_or ls at no_link) ≡ wanted = sym (row-at at h) ∙ ranked _ wanted _ (sym (equal (link_bytes no_link))) in
      (record { within = omega arith; below = λ j lt. omega (arith, rise j at lt h); next = λ lt. omega arith }, h, e)
  searched (Err at) in_range parted = (
    record {
      within = omega (arith, length-map ls link_bytes);
      below = λ j lt.
          let s : key (link_at (row_at j) 0) < wanted = ranked _ wanted _ (sym ((parted numbers_rise).0 j (link_bytes no_link) (omega arith) lt)) in
          omega (arith, row-at j (omega (arith, length-map ls link_bytes)));
      next = λ lt. omega (arith, above lt);
    },
    λ lt e. omega (arith, above lt),
  )
    where
      above : at < length ls → wanted < key (get_or ls at no_link)
      above lt =
          let s : wanted < key (link_at (row_at at) 0) = ranked _ wanted _ (sym ((parted numbers_rise).1 at (link_bytes no_link) (omega arith) (omega (arith, length-map ls link_bytes)))) in
          omega (arith, row-at at lt)

-- the same among the links of an image
pub found-in : (s : List ℕ) (items links : ℕ) → IsRead s items links → (found : List (List ℕ)) → found ≡ map link_bytes (held s).links → (wanted : ℕ) (r : Result ℕ ℕ)
    → IsSearchInRange r (length found) → IsBinarySearchResult (λ row. nat_cmp (key (link_at row 0)) wanted) found r → Placed (held s).links wanted r
found-in s items links read found is wanted r =
    let g = held s in
    let q = (image-fits s g read.3 (good-is s read.0)).0 in
    subst (λ (z : List (List ℕ)). IsSearchInRange r (length z) → IsBinarySearchResult (λ row. nat_cmp (key (link_at row 0)) wanted) z r → Placed g.links wanted r) (sym is)
    (searched g.links (λ j k. less (length g.names) q.items nowhere g.links j k q.rising) (λ k. each_sound (length g.names) q.items nowhere g.links k q.rising) wanted r)

-- the part of an image where its links stand, as rows
pub rows-in : (s : List ℕ) (items links start end : ℕ) (rows : List (List ℕ)) (t : List ℕ) → IsRead s items links
    → start ≡ link_place items 0 → end ≡ image_length items links → t ≡ take (end - start) (drop start s)
    → rows ≡ first_chunks 5 (length t / 5) t → rows ≡ map link_bytes (held s).links
rows-in s items links start end rows t read es ee et er =
    let g = held s in
    let n = length g.names in
    let m = length g.links in
    let len = bytes 2 (body_length n m) in
    let front = version ++ len ++ items_part g.names ++ bytes 2 m in
    let behind = drop (length (encode g)) s in
    let long : length front ≡ start =
    length-append (version ++ len ++ items_part g.names) (bytes 2 m)
    ∙ omega (arith, read.1, length-append (version ++ len) (items_part g.names), length-append version len, bytes-length 2 (body_length n m), bytes-length 2 m, items-long g.names) in
    let whole : s ≡ front ++ (links_bytes g.links ++ behind) = in_parts s g read.3 (good-is s read.0) ∙ simp append_assoc in
    let many : end - start ≡ length (links_bytes g.links) = omega (arith, read.1, read.2, links-length g.links) in
    let w : t ≡ links_bytes g.links =
    et ∙ ap₂ (λ (k : ℕ) (z : List ℕ). take k (drop start z)) many whole
    ∙ ap (take (length (links_bytes g.links))) (drop_at front (links_bytes g.links ++ behind) start long)
    ∙ take_at (links_bytes g.links) behind (length (links_bytes g.links)) refl in
    let n : length t / 5 ≡ length g.links = omega (arith, ap length w, links-length g.links) in
    er ∙ ap₂ (λ (k : ℕ) (z : List ℕ). first_chunks 5 k z) n w ∙ rows-are g.links
