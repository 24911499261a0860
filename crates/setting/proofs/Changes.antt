-- What the stores of the code make of a buffer that begins with an image: the image of the changed register.
-- Assumes nothing.
use mathlib.Core.Path.{◌≡◌, refl, sym, ap, ap₂, ◌∙◌}
use mathlib.Core.List.{List, ◌∷◌, ◌++◌, append_assoc, append-nil}
use Prim.Native.Nat.{ℕ, suc, ◌+◌, ◌*◌, ◌-◌, ◌≤◌, ◌<◌, max}
use native.Mathlib.Omega.{arith}
use lib.ListN.{length, get_or, set, take, drop, length-append, length-drop, length-set, length-replicate, take-append-drop}
use lib.Seq.{sets, drop-drop, length-take-le, set_split, split_at}
use Rattle.meaning.specs.Refusal.{good}
use Rattle.meaning.specs.Bytes.{number, bytes, Bytes}
use Rattle.meaning.specs.Register.{Link, Register, link_bytes, items_bytes, links_bytes, encode, read_buffer}
use Rattle.meaning.specs.Session.{zeros, rewritten}
use Rattle.meaning.proofs.Reading.{bytes-length, stands-taken}
use Rattle.meaning.proofs.Image.{items-length, links-length, link-length, image-length, read-buffer}
use Rattle.register.specs.Image.{no_link}
use Rattle.register.specs.Layout.{names_at, count_at, link_place, image_length, body_length}
use Rattle.register.specs.Reading.{key, Small}
use Rattle.setting.specs.Moved.{moved_up, moved_down}
use Rattle.setting.specs.Setting.{inserted_at, removed_at, buffer_inserted, buffer_removed}
use Rattle.setting.proofs.Parts.{version, items, parts, splice, image-parts, items-append, links-append, items-long, number-bytes, inserted, removed}

-- one list of zeros
zero-bytes : bytes 5 0 ≡ zeros 5
unfolding bytes
zero-bytes = refl

module _ (s : List ℕ) (g : Register) (b : Bytes s) (e : read_buffer s ≡ good g) where
  abbrev n : ℕ
  n = length g.names

  abbrev m : ℕ
  m = length g.links

  abbrev L : ℕ
  L = length (encode g)

  abbrev behind : List ℕ
  behind = drop L s

  pub image-first : s ≡ encode g ++ behind
  image-first =
      let q = read-buffer s g b e in
      let t : take L s ≡ encode g = stands-taken s 0 (encode g) q.1 (omega (arith, q.2)) in
      sym (take-append-drop L s) ∙ ap (λ (z : List ℕ). z ++ behind) t

  pub in_parts : s ≡ parts (body_length n m) g.names m (links_bytes g.links) behind
  in_parts = image-first ∙ image-parts g behind

  -- nothing changes
  pub unchanged : rewritten s g g ≡ s
  unfolding rewritten
  unchanged =
      let d : 0 ≡ L - L = omega arith in
      let f : L ≡ max L L = omega arith in
      sym (image-first ∙ ap (λ (z : List ℕ). z ++ behind) (sym (append-nil (encode g)))
      ∙ ap₂ (λ (i j : ℕ). encode g ++ zeros i ++ drop j s) d f)

  -- ---- a link more

  module _ (k : ℕ) (l : Link) (within : k ≤ m) where
    abbrev X : List ℕ
    X = links_bytes (take k g.links)

    abbrev Y : List ℕ
    Y = links_bytes (drop k g.links)

    x-long : length X ≡ 5 * k
    x-long = links-length (take k g.links) ∙ omega (arith, length-take-le k g.links within)

    y-long : length Y ≡ 5 * (m - k)
    y-long = links-length (drop k g.links) ∙ omega (arith, length-drop k g.links)

    x-y : links_bytes g.links ≡ X ++ Y
    x-y = ap links_bytes (sym (take-append-drop k g.links)) ∙ links-append (take k g.links) (drop k g.links)

    more-links : length (inserted_at k l g).links ≡ m + 1
    more-links =
        length-append (take k g.links) (l ∷ drop k g.links)
        ∙ omega (arith, length-take-le k g.links within, length-drop k g.links)

    link-between : links_bytes (inserted_at k l g).links ≡ X ++ (link_bytes l ++ Y)
    unfolding links_bytes
    link-between = links-append (take k g.links) (l ∷ drop k g.links)

    pub insert-law : (number : ℕ) → number ≡ key l → Small l → image_length n (m + 1) ≤ length s
        → sets (sets (sets (moved_up s (link_place n k) (image_length n m)) (link_place n k) (bytes 5 number)) (count_at n) (bytes 2 (m + 1))) 1 (bytes 2 (body_length n (m + 1)))
        ≡ buffer_inserted s k l g
    insert-law number en small room =
        let c = m + 1 in
        let len = body_length n (m + 1) in
        let d : c ≡ length (inserted_at k l g).links = sym more-links in
        let i = image-length g in
        let w : bytes 5 number ≡ link_bytes l = ap (bytes 5) en ∙ number-bytes l small in
        let start : s ≡ version ++ (bytes 2 (body_length n m) ++ (items g.names ++ (bytes 2 m ++ ((X ++ Y) ++ behind)))) =
        in_parts ∙ ap (λ (z : List ℕ). parts (body_length n m) g.names m z behind) x-y in
        let stored = inserted n m k version (bytes 2 (body_length n m)) (items g.names) (bytes 2 m) (bytes 2 c) (bytes 2 len)
        refl (bytes-length 2 (body_length n m)) (bytes-length 2 len) (items-long g.names) (bytes-length 2 m) (bytes-length 2 c)
        X Y behind x-long (omega (arith, y-long)) (link_bytes l) (link-length l) (omega (arith, length-drop L s)) in
        let end : drop 5 behind ≡ drop (L + 5) s = drop-drop 5 L s in
        ap₂ (λ (u v : List ℕ). sets (sets (sets (moved_up v (link_place n k) (image_length n m)) (link_place n k) u) (count_at n) (bytes 2 c)) 1 (bytes 2 len)) w start
        ∙ stored
        ∙ ap₂ (λ (u v : List ℕ). parts len g.names c u v) (sym link-between) end
        ∙ ap (λ (u : ℕ). parts (body_length n u) g.names u (links_bytes (inserted_at k l g).links) (drop (L + 5) s)) d
        ∙ sym (image-parts (inserted_at k l g) (drop (L + 5) s))

  -- ---- a link fewer

  module _ (k : ℕ) (within : k < m) where
    abbrev U : List ℕ
    U = links_bytes (take k g.links)

    abbrev W : List ℕ
    W = links_bytes (drop (suc k) g.links)

    abbrev O : List ℕ
    O = link_bytes (get_or g.links k no_link)

    u-long : length U ≡ 5 * k
    u-long = links-length (take k g.links) ∙ omega (arith, length-take-le k g.links (omega arith))

    v-long : length W ≡ 5 * (m - suc k)
    v-long = links-length (drop (suc k) g.links) ∙ omega (arith, length-drop (suc k) g.links)

    u-o-v : links_bytes g.links ≡ U ++ (O ++ W)
    unfolding links_bytes
    u-o-v = ap links_bytes (split_at g.links k no_link within) ∙ links-append (take k g.links) (get_or g.links k no_link ∷ drop (suc k) g.links)

    fewer-links : length (removed_at k g).links ≡ m - 1
    fewer-links =
        length-append (take k g.links) (drop (suc k) g.links)
        ∙ omega (arith, length-take-le k g.links (omega arith), length-drop (suc k) g.links)

    pub remove-law :
        sets (sets (sets (moved_down s (link_place n k) (image_length n m)) (image_length n m - 5) (bytes 5 0)) (count_at n) (bytes 2 (m - 1))) 1 (bytes 2 (body_length n (m - 1)))
        ≡ buffer_removed s k g
    remove-law =
        let c = m - 1 in
        let len = body_length n (m - 1) in
        let d : c ≡ length (removed_at k g).links = sym fewer-links in
        let start : s ≡ version ++ (bytes 2 (body_length n m) ++ (items g.names ++ (bytes 2 m ++ ((U ++ (O ++ W)) ++ behind)))) =
        in_parts ∙ ap (λ (z : List ℕ). parts (body_length n m) g.names m z behind) u-o-v in
        let stored = removed n m k version (bytes 2 (body_length n m)) (items g.names) (bytes 2 m) (bytes 2 c) (bytes 2 len)
        refl (bytes-length 2 (body_length n m)) (bytes-length 2 len) (items-long g.names) (bytes-length 2 m) (bytes-length 2 c)
        U O W behind u-long (link-length (get_or g.links k no_link)) (omega (arith, v-long)) (zeros 5) (length-replicate {A = ℕ} 5 0) in
        ap₂ (λ (u v : List ℕ). sets (sets (sets (moved_down u (link_place n k) (image_length n m)) (image_length n m - 5) v) (count_at n) (bytes 2 c)) 1 (bytes 2 len)) start zero-bytes
        ∙ stored
        ∙ ap (λ (u : List ℕ). parts len g.names c u (zeros 5 ++ behind)) (sym (links-append (take k g.links) (drop (suc k) g.links)))
        ∙ ap (λ (u : ℕ). parts (body_length n u) g.names u (links_bytes (removed_at k g).links) (zeros 5 ++ behind)) d
        ∙ sym (image-parts (removed_at k g) (zeros 5 ++ behind)) ∙ sym (append_assoc (encode (removed_at k g)) (zeros 5) behind)

  -- ---- another set of names

  module _ (i w : ℕ) (within : i < n) where
    abbrev renamed : Register
    renamed = record { names = set g.names i w; links = g.links }

    same_count : length (set g.names i w) ≡ n
    same_count = length-set g.names i w

    abbrev before : List ℕ
    before = items_bytes (take i g.names)

    abbrev after : List ℕ
    after = items_bytes (drop (suc i) g.names)

    old-items : items_bytes g.names ≡ before ++ (bytes 8 (get_or g.names i 0) ++ after)
    unfolding items_bytes
    old-items = ap items_bytes (split_at g.names i 0 within) ∙ items-append (take i g.names) (get_or g.names i 0 ∷ drop (suc i) g.names)

    new_items : items_bytes (set g.names i w) ≡ before ++ (bytes 8 w ++ after)
    unfolding items_bytes
    new_items = ap items_bytes (set_split g.names i w within) ∙ items-append (take i g.names) (w ∷ drop (suc i) g.names)

    store : (a b c d f h r : List ℕ) → length a ≡ 1 → length b ≡ 2 → length c ≡ 2 → 5 + length d ≡ names_at i → length f ≡ 8 → length h ≡ 8 → (t : List ℕ)
        → sets (a ++ (b ++ ((c ++ (d ++ (f ++ t))) ++ r))) (names_at i) h ≡ a ++ (b ++ ((c ++ (d ++ (h ++ t))) ++ r))
    store a b c d f h r la lb lc ld lf lh t =
        let x : a ++ (b ++ ((c ++ (d ++ (f ++ t))) ++ r)) ≡ (a ++ b ++ c ++ d) ++ (f ++ (t ++ r)) = simp append_assoc in
        let y : (a ++ b ++ c ++ d) ++ (h ++ (t ++ r)) ≡ a ++ (b ++ ((c ++ (d ++ (h ++ t))) ++ r)) = simp append_assoc in
        let l : length (a ++ b ++ c ++ d) ≡ names_at i = length-append (a ++ b ++ c) d ∙ omega (arith, length-append (a ++ b) c, length-append a b) in
        ap (λ (z : List ℕ). sets z (names_at i) h) x ∙ splice (names_at i) (a ++ b ++ c ++ d) f h (t ++ r) l (lf ∙ sym lh) ∙ y

    renamed-long : length (encode renamed) ≡ L
    renamed-long = image-length renamed ∙ omega (arith, image-length g, same_count)

    pub name-law : sets s (names_at i) (bytes 8 w) ≡ rewritten s g renamed
    unfolding rewritten
    name-law =
        let len = body_length n m in
        let rest = bytes 2 m ++ (links_bytes g.links ++ behind) in
        let lb : 5 + length before ≡ names_at i = omega (arith, items-length (take i g.names), length-take-le i g.names (omega arith)) in
        let d : 0 ≡ L - length (encode renamed) = omega (arith, renamed-long) in
        let f : L ≡ max L (length (encode renamed)) = omega (arith, renamed-long) in
        let new : encode renamed ++ behind ≡ version ++ (bytes 2 len ++ ((bytes 2 n ++ (before ++ (bytes 8 w ++ after))) ++ rest)) =
        image-parts renamed behind
        ∙ ap (λ (k : ℕ). version ++ (bytes 2 (body_length k m) ++ ((bytes 2 k ++ items_bytes (set g.names i w)) ++ rest))) same_count
        ∙ ap (λ (z : List ℕ). version ++ (bytes 2 len ++ ((bytes 2 n ++ z) ++ rest))) new_items in
        ap (λ (z : List ℕ). sets z (names_at i) (bytes 8 w)) (in_parts ∙ ap (λ (z : List ℕ). version ++ (bytes 2 len ++ ((bytes 2 n ++ z) ++ rest))) old-items)
        ∙ store version (bytes 2 len) (bytes 2 n) before (bytes 8 (get_or g.names i 0)) (bytes 8 w) rest
        refl (bytes-length 2 len) (bytes-length 2 n) lb (bytes-length 8 (get_or g.names i 0)) (bytes-length 8 w) after
        ∙ sym new
        ∙ ap (λ (z : List ℕ). z ++ behind) (sym (append-nil (encode renamed)))
        ∙ ap₂ (λ (u v : ℕ). encode renamed ++ zeros u ++ drop v s) d f
