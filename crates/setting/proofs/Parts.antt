-- The image as parts that stand one after the other, and what the stores of an insertion, a removal and a set of names make of them.
-- Assumes nothing.
use mathlib.Core.Path.{◌≡◌, refl, sym, ap, ap₂, ◌∙◌}
use mathlib.Core.List.{List, [], ◌∷◌, ◌++◌, append_assoc}
use Prim.Native.Nat.{ℕ, ◌+◌, ◌*◌, ◌-◌, ◌/◌, ◌%◌, ◌≤◌}
use native.Mathlib.Omega.{arith}
use lib.ListN.{length, take, drop, length-append, length-drop}
use lib.Seq.{sets, slice, sets-eq, take_at, drop_at, take-append-add, drop-append-add, length-take-le, take-append_seam}
use Rattle.meaning.specs.Bytes.{bytes, headed}
use Rattle.meaning.specs.Register.{Link, Register, link_bytes, items_bytes, links_bytes, encode}
use Rattle.meaning.proofs.Reading.{bytes-length}
use Rattle.meaning.proofs.Head.{headed-length}
use Rattle.meaning.proofs.Image.{items-length, image-length}
use Rattle.register.specs.Layout.{count_at, link_place, image_length, body_length}
use Rattle.register.specs.Reading.{key, Small}
use Rattle.setting.specs.Moved.{moved_up, moved_down}

-- ---- stores between parts

pub splice : (p : ℕ) (a b c r : List ℕ) → length a ≡ p → length b ≡ length c → sets (a ++ (b ++ r)) p c ≡ a ++ (c ++ r)
splice p a b c r e d =
    let l : length (a ++ (b ++ r)) ≡ p + (length b + length r) = length-append a (b ++ r) ∙ omega (arith, length-append b r) in
    let n : p + length c ≡ length a + length b = omega arith in
    let dr : drop (p + length c) (a ++ (b ++ r)) ≡ r =
    ap (λ (k : ℕ). drop k (a ++ (b ++ r))) n ∙ drop-append-add a (b ++ r) (length b) ∙ drop_at b r (length b) refl in
    sets-eq c (a ++ (b ++ r)) p (omega arith)
    ∙ ap₂ (λ (x y : List ℕ). x ++ c ++ y) (take_at a (b ++ r) p e) dr ∙ append_assoc a c r

-- what stands between two parts is moved up into the five bytes behind it
moved_up_lem : (a y z : List ℕ) (p e : ℕ) → length a ≡ p → p + length y ≡ e
    → moved_up (a ++ (y ++ z)) p e ≡ a ++ (take 5 (y ++ z) ++ (y ++ drop 5 z))
moved_up_lem a y z p e la le =
    let s = a ++ (y ++ z) in
    let n : p + 5 ≡ length a + 5 = omega arith in
    let m : e ≡ length a + length y = omega arith in
    let k : e + 5 ≡ length a + (length y + 5) = omega arith in
    let x : take (p + 5) s ≡ a ++ take 5 (y ++ z) = ap (λ (i : ℕ). take i s) n ∙ take-append-add a (y ++ z) 5 in
    let t : take e s ≡ a ++ y = ap (λ (i : ℕ). take i s) m ∙ take-append-add a (y ++ z) (length y) ∙ ap (λ (r : List ℕ). a ++ r) (take-append_seam y z) in
    let b : slice p e s ≡ y = ap (drop p) t ∙ drop_at a y p la in
    let d : drop (e + 5) s ≡ drop 5 z = ap (λ (i : ℕ). drop i s) k ∙ drop-append-add a (y ++ z) (length y + 5) ∙ drop-append-add y z 5 in
    ap₂ (λ (u v : List ℕ). u ++ slice p e s ++ v) x d ∙ ap (λ (r : List ℕ). a ++ take 5 (y ++ z) ++ r ++ drop 5 z) b
    ∙ append_assoc (a ++ take 5 (y ++ z)) y (drop 5 z) ∙ append_assoc a (take 5 (y ++ z)) (y ++ drop 5 z)

-- what stands behind five bytes is moved down onto them; five bytes are left behind it
moved_down_lem : (a x y z : List ℕ) (p e : ℕ) → length a ≡ p → length x ≡ 5 → p + 5 + length y ≡ e
    → moved_down (a ++ (x ++ (y ++ z))) p e ≡ a ++ (y ++ (drop (length y) (x ++ y) ++ z))
moved_down_lem a x y z p e la lx le =
    let s = a ++ (x ++ (y ++ z)) in
    let ax = length-append a x in
    let n : e ≡ length (a ++ x) + length y = omega arith in
    let m : e - 5 ≡ length a + length y = omega arith in
    let q : s ≡ (a ++ x) ++ (y ++ z) = sym (append_assoc a x (y ++ z)) in
    let t : take e s ≡ (a ++ x) ++ y = ap₂ (λ (i : ℕ) (r : List ℕ). take i r) n q ∙ take-append-add (a ++ x) (y ++ z) (length y) ∙ ap (λ (r : List ℕ). a ++ x ++ r) (take-append_seam y z) in
    let b : slice (p + 5) e s ≡ y = ap (drop (p + 5)) t ∙ drop_at (a ++ x) y (p + 5) (omega arith) in
    let d : drop (e - 5) s ≡ drop (length y) (x ++ y) ++ z =
    ap (λ (i : ℕ). drop i s) m ∙ drop-append-add a (x ++ (y ++ z)) (length y)
    ∙ ap (drop (length y)) (sym (append_assoc x y z)) ∙ lib.Seq.drop-append-le (length y) (x ++ y) z (omega (arith, length-append x y)) in
    ap₂ (λ (u v : List ℕ). u ++ slice (p + 5) e s ++ v) (take_at a (x ++ (y ++ z)) p la) d
    ∙ ap (λ (r : List ℕ). a ++ r ++ (drop (length y) (x ++ y) ++ z)) b
    ∙ append_assoc a y (drop (length y) (x ++ y) ++ z)

-- ---- the parts of an image

abbrev pub version : List ℕ
version = 1 ∷ []

abbrev pub items : List ℕ → List ℕ
items names = bytes 2 (length names) ++ items_bytes names

-- the image of so many items and links, whose body is so long, and what stands behind it
abbrev pub parts : ℕ → List ℕ → ℕ → List ℕ → List ℕ → List ℕ
parts len names m links r = version ++ (bytes 2 len ++ (items names ++ (bytes 2 m ++ (links ++ r))))

headed-parts : (body : List ℕ) → headed body ≡ version ++ bytes 2 (length body) ++ body
unfolding headed
headed-parts body = refl

regroup : (v n a b c d r : List ℕ) → v ++ n ++ (a ++ b ++ c ++ d) ++ r ≡ v ++ (n ++ ((a ++ b) ++ (c ++ (d ++ r))))
regroup v n a b c d r = simp append_assoc

pub image-parts : (g : Register) (r : List ℕ)
    → encode g ++ r ≡ parts (body_length (length g.names) (length g.links)) g.names (length g.links) (links_bytes g.links) r
unfolding encode
image-parts g r =
    let body = bytes 2 (length g.names) ++ items_bytes g.names ++ bytes 2 (length g.links) ++ links_bytes g.links in
    let e : length body ≡ body_length (length g.names) (length g.links) =
    omega (arith, image-length g, headed-length body) in
    ap (λ (z : List ℕ). z ++ r) (headed-parts body) ∙ ap (λ (k : ℕ). version ++ bytes 2 k ++ body ++ r) e
    ∙ regroup version (bytes 2 (body_length (length g.names) (length g.links))) (bytes 2 (length g.names)) (items_bytes g.names)
    (bytes 2 (length g.links)) (links_bytes g.links) r

pub items-append : (xs ys : List ℕ) → items_bytes (xs ++ ys) ≡ items_bytes xs ++ items_bytes ys
unfolding items_bytes
items-append [] ys = refl
items-append (x ∷ xs) ys = ap (λ (z : List ℕ). bytes 8 x ++ z) (items-append xs ys) ∙ sym (append_assoc (bytes 8 x) (items_bytes xs) (items_bytes ys))

pub links-append : (xs ys : List Link) → links_bytes (xs ++ ys) ≡ links_bytes xs ++ links_bytes ys
unfolding links_bytes
links-append [] ys = refl
links-append (x ∷ xs) ys = ap (λ (z : List ℕ). link_bytes x ++ z) (links-append xs ys) ∙ sym (append_assoc (link_bytes x) (links_bytes xs) (links_bytes ys))

pub items-long : (names : List ℕ) → 3 + length (items names) ≡ count_at (length names)
items-long names = ap (λ (z : ℕ). 3 + z) (length-append (bytes 2 (length names)) (items_bytes names)) ∙ omega (arith, bytes-length 2 (length names), items-length names)

-- a link's five bytes are those of its number
pub number-bytes : (l : Link) → Small l → bytes 5 (key l) ≡ link_bytes l
unfolding bytes
number-bytes l h =
    let n = key l in
    let a : n / 256 / 256 / 256 / 256 % 256 ≡ l.from / 256 % 256 = omega arith in
    let b : n / 256 / 256 / 256 % 256 ≡ l.from % 256 = omega arith in
    let c : n / 256 / 256 % 256 ≡ l.role % 256 = omega arith in
    let d : n / 256 % 256 ≡ l.to / 256 % 256 = omega arith in
    let e : n % 256 ≡ l.to % 256 = omega arith in
    cc

-- ---- the three changes, on parts

module _ (n m k : ℕ) (a b c d d' b' : List ℕ) (la : length a ≡ 1) (lb : length b ≡ 2) (lb' : length b' ≡ 2) (lc : 3 + length c ≡ count_at n)
    (ld : length d ≡ 2) (ld' : length d' ≡ 2) where
  -- the counts are stored anew
  counts : (r : List ℕ) → sets (sets (a ++ (b ++ (c ++ (d ++ r)))) (count_at n) d') 1 b' ≡ a ++ (b' ++ (c ++ (d' ++ r)))
  counts r =
      let e : a ++ (b ++ (c ++ (d ++ r))) ≡ (a ++ b ++ c) ++ (d ++ r) = simp append_assoc in
      let f : (a ++ b ++ c) ++ (d' ++ r) ≡ a ++ (b ++ (c ++ (d' ++ r))) = simp append_assoc in
      let l : length (a ++ b ++ c) ≡ count_at n = length-append (a ++ b) c ∙ omega (arith, length-append a b) in
      ap (λ (z : List ℕ). sets (sets z (count_at n) d') 1 b') e
      ∙ ap (λ (z : List ℕ). sets z 1 b') (splice (count_at n) (a ++ b ++ c) d d' r l (ld ∙ sym ld') ∙ f)
      ∙ splice 1 a b b' (c ++ (d' ++ r)) la (lb ∙ sym lb')

  module _ (x y z : List ℕ) (lx : length x ≡ 5 * k) (ly : 5 * k + length y ≡ 5 * m) where
    abbrev front : List ℕ
    front = a ++ b ++ c ++ d ++ x

    front_long : length front ≡ link_place n k
    front_long =
        length-append (a ++ b ++ c ++ d) x
        ∙ omega (arith, length-append (a ++ b ++ c) d, length-append (a ++ b) c, length-append a b)

    pub inserted : (w : List ℕ) → length w ≡ 5 → 5 ≤ length z
        → sets (sets (sets (moved_up (a ++ (b ++ (c ++ (d ++ ((x ++ y) ++ z))))) (link_place n k) (image_length n m)) (link_place n k) w) (count_at n) d') 1 b'
        ≡ a ++ (b' ++ (c ++ (d' ++ ((x ++ (w ++ y)) ++ drop 5 z))))
    inserted w lw lz =
        let p = link_place n k in
        let e = image_length n m in
        let t = take 5 (y ++ z) in
        let lt : length t ≡ 5 = length-take-le 5 (y ++ z) (omega (arith, length-append y z)) in
        let f : a ++ (b ++ (c ++ (d ++ ((x ++ y) ++ z)))) ≡ front ++ (y ++ z) = simp append_assoc in
        let h : front ++ (w ++ (y ++ drop 5 z)) ≡ a ++ (b ++ (c ++ (d ++ ((x ++ (w ++ y)) ++ drop 5 z)))) = simp append_assoc in
        ap (λ (s : List ℕ). sets (sets (sets s p w) (count_at n) d') 1 b')
        (ap (λ (s : List ℕ). moved_up s p e) f ∙ moved_up_lem front y z p e front_long (omega arith))
        ∙ ap (λ (s : List ℕ). sets (sets s (count_at n) d') 1 b') (splice p front t w (y ++ drop 5 z) front_long (lt ∙ sym lw) ∙ h)
        ∙ counts ((x ++ (w ++ y)) ++ drop 5 z)

  module _ (x o y z : List ℕ) (lx : length x ≡ 5 * k) (lo : length o ≡ 5) (ly : 5 * k + 5 + length y ≡ 5 * m) where
    pub removed : (w : List ℕ) → length w ≡ 5
        → sets (sets (sets (moved_down (a ++ (b ++ (c ++ (d ++ ((x ++ (o ++ y)) ++ z))))) (link_place n k) (image_length n m)) (image_length n m - 5) w) (count_at n) d') 1 b'
        ≡ a ++ (b' ++ (c ++ (d' ++ ((x ++ y) ++ (w ++ z)))))
    removed w lw =
        let p = link_place n k in
        let e = image_length n m in
        let fr = a ++ b ++ c ++ d ++ x in
        let t = drop (length y) (o ++ y) in
        let lt : length t ≡ 5 = length-drop (length y) (o ++ y) ∙ omega (arith, length-append o y) in
        let fl : length fr ≡ p =
        length-append (a ++ b ++ c ++ d) x ∙ omega (arith, length-append (a ++ b ++ c) d, length-append (a ++ b) c, length-append a b) in
        let f : a ++ (b ++ (c ++ (d ++ ((x ++ (o ++ y)) ++ z)))) ≡ fr ++ (o ++ (y ++ z)) = simp append_assoc in
        let i : fr ++ (y ++ (t ++ z)) ≡ (fr ++ y) ++ (t ++ z) = sym (append_assoc fr y (t ++ z)) in
        let h : (fr ++ y) ++ (w ++ z) ≡ a ++ (b ++ (c ++ (d ++ ((x ++ y) ++ (w ++ z))))) = simp append_assoc in
        let l : length (fr ++ y) ≡ e - 5 = length-append fr y ∙ omega arith in
        ap (λ (s : List ℕ). sets (sets (sets s (e - 5) w) (count_at n) d') 1 b')
        (ap (λ (s : List ℕ). moved_down s p e) f ∙ moved_down_lem fr o y z p e fl lo (omega arith) ∙ i)
        ∙ ap (λ (s : List ℕ). sets (sets s (count_at n) d') 1 b') (splice (e - 5) (fr ++ y) t w z l (lt ∙ sym lw) ∙ h)
        ∙ counts ((x ++ y) ++ (w ++ z))
