-- What an accepted call of a session says of its tests; and the buffer that an image leaves.
-- Assumes nothing.
use mathlib.Core.Path.{◌≡◌, refl, sym, ap, ◌∙◌, subst}
use mathlib.Core.Bool.{false}
use mathlib.Core.List.{List, ◌++◌, append_assoc}
use Prim.Native.Nat.{ℕ, zero, suc, ◌+◌, ◌-◌, ◌≤◌, ◌<◌, max}
use native.Mathlib.Omega.{arith}
use lib.Dec.{T}
use lib.ListN.{length, drop, length-append, length-replicate, replicate-append-replicate}
use lib.Seq.{drop-append-add, take_at}
use Rattle.meaning.specs.declared.Step.{Step}
use Rattle.meaning.specs.Refusal.{good}
use Rattle.meaning.specs.Bytes.{number, bytes, headed}
use Rattle.meaning.specs.Register.{Register, well_formed, items_bytes, links_bytes, encode, read_buffer}
use Rattle.meaning.specs.Session.{Edit, set_fact, zeros, cleared, rewritten, image_of, room, out_of_range, role_above, no_place, Changed, open_call, edit_call, undo_call}
use Rattle.meaning.proofs.Reading.{good-inj, taken, Stands, stands_self, stands-left, number_of}
use Rattle.meaning.proofs.Image.{buffer-read, largest-image}
use Rattle.meaning.proofs.Refusing.{tells-outside, tells-role, tells-room, edit-takes, edit-exactly, undo-takes, undo-exactly}
use Rattle.meaning.proofs.Head.{headed-length, length-stands}

-- ---- calls

pub record EditPassed (s : List ℕ) (log count : ℕ) (e : Edit) (c : Changed) : Type 0 where
  pub read : read_buffer s ≡ good c.before
  pub steps : count < room log
  pub range : out_of_range (length c.before.names) e.fact ≡ false
  pub role : role_above e.fact ≡ false
  pub place : no_place s c.before e.adds e.fact ≡ false
  pub after : c.after ≡ set_fact e.adds e.fact c.before
  pub more : c.count ≡ count + 1

pub edit-passed : (s : List ℕ) (log count : ℕ) (e : Edit) (c : Changed) → edit_call s log count e ≡ good c → EditPassed s log count e c
edit-passed s log count e c h =
    let x = (edit-exactly s log count e).takes.0 (c, h) in
    let g = x.counts.register in
    subst (λ (z : Changed). EditPassed s log count e z) (good-inj (sym (edit-takes s log count e x) ∙ h)) (record {
      read = x.counts.read;
      steps = omega (arith, x.in_log, x.in_use);
      range = (tells-outside (length g.names) e.fact).no-is x.inside;
      role = (tells-role e.fact).no-is x.role;
      place = (tells-room s g e.adds e.fact).no-is x.room;
      after = refl;
      more = refl;
    })

pub record UndoPassed (s : List ℕ) (log count : ℕ) (last : Step) (c : Changed) : Type 0 where
  pub read : read_buffer s ≡ good c.before
  pub steps : count ≤ room log
  pub used : 0 < count
  pub range : out_of_range (length c.before.names) last.fact ≡ false
  pub role : role_above last.fact ≡ false
  pub place : no_place s c.before last.was last.fact ≡ false
  pub after : c.after ≡ set_fact last.was last.fact c.before
  pub fewer : c.count ≡ count - 1

pub undo-passed : (s : List ℕ) (log count : ℕ) (last : Step) (c : Changed) → undo_call s log count last ≡ good c → UndoPassed s log count last c
undo-passed s log count last c h =
    let x = (undo-exactly s log count last).takes.0 (c, h) in
    let g = x.counts.register in
    subst (λ (z : Changed). UndoPassed s log count last z) (good-inj (sym (undo-takes s log count last x) ∙ h)) (record {
      read = x.counts.read;
      steps = omega (arith, x.counts.in_log, x.counts.in_use);
      used = x.used;
      range = (tells-outside (length g.names) last.fact).no-is x.inside;
      role = (tells-role last.fact).no-is x.role;
      place = (tells-room s g last.was last.fact).no-is x.room;
      after = refl;
      fewer = refl;
    })

pub open-passed : (s : List ℕ) (g : Register) → open_call s ≡ good g → read_buffer s ≡ good g
unfolding open_call
open-passed s g h = let q = taken (read_buffer s) _ h in q.1 ∙ q.2

-- ---- the buffer

-- an image, and zeros behind it
abbrev pub alone : ℕ → Register → List ℕ
alone long g = encode g ++ zeros (long - length (encode g))

pub front-stands : (xs ys : List ℕ) → Stands (xs ++ ys) 0 xs
front-stands xs ys = stands-left (xs ++ ys) 0 xs ys (stands_self (xs ++ ys))

pub alone-length : (long : ℕ) (g : Register) → length (encode g) ≤ long → length (alone long g) ≡ long
alone-length long g h =
    length-append (encode g) (zeros (long - length (encode g))) ∙ omega (arith, length-replicate {A = ℕ} (long - length (encode g)) 0)

pub alone-read : (long : ℕ) (g : Register) → T (well_formed g) → length (encode g) ≤ long → read_buffer (alone long g) ≡ good g
alone-read long g w h = buffer-read (alone long g) g w (front-stands (encode g) _) (omega (arith, alone-length long g h))

-- where an image ends, and the image alone
pub image-end : (s : List ℕ) (g : Register) → T (well_formed g) → Stands s 0 (encode g) → 3 + number s 1 2 ≡ length (encode g)
unfolding encode
image-end s g w h =
    let body = bytes 2 (length g.names) ++ items_bytes g.names ++ bytes 2 (length g.links) ++ links_bytes g.links in
    let l : length (headed body) ≡ 3 + length body = headed-length body in
    let m = largest-image g w in
    omega (arith, number_of s 1 2 (length body) (omega arith) (length-stands s body h))

pub alone-image : (long : ℕ) (g : Register) → T (well_formed g) → image_of (alone long g) ≡ encode g
alone-image long g w =
    take_at (encode g) (zeros (long - length (encode g))) (3 + number (alone long g) 1 2)
    (sym (image-end (alone long g) g w (front-stands (encode g) (zeros (long - length (encode g))))))

drop-zeros : (n z : ℕ) → drop n (zeros z) ≡ zeros (z - n)
drop-zeros zero z = let e : z ≡ z - 0 = omega arith in ap zeros e
drop-zeros (suc n) zero = let e : 0 ≡ 0 - suc n = omega arith in ap zeros e
drop-zeros (suc n) (suc z) = let e : z - n ≡ suc z - suc n = omega arith in drop-zeros n z ∙ ap zeros e

pub alone-cleared : (long : ℕ) (g : Register) → length (encode g) ≤ long → cleared (alone long g) g ≡ alone long g
unfolding cleared
alone-cleared long g h = ap (λ (k : ℕ). encode g ++ zeros (k - length (encode g))) (alone-length long g h)

pub alone-rewritten : (long : ℕ) (g h : Register) → length (encode g) ≤ long → length (encode h) ≤ long → rewritten (alone long g) g h ≡ alone long h
unfolding rewritten
alone-rewritten long g h a b =
    let l = length (encode g) in
    let m = length (encode h) in
    let e : max l m ≡ l + (max l m - l) = omega arith in
    let d : drop (max l m) (alone long g) ≡ zeros (long - l - (max l m - l)) =
    ap (λ (k : ℕ). drop k (alone long g)) e ∙ drop-append-add (encode g) (zeros (long - l)) (max l m - l) ∙ drop-zeros (max l m - l) (long - l) in
    let f : l - m + (long - l - (max l m - l)) ≡ long - m = omega arith in
    ap (λ (z : List ℕ). encode h ++ zeros (l - m) ++ z) d
    ∙ append_assoc (encode h) (zeros (l - m)) (zeros (long - l - (max l m - l)))
    ∙ ap (λ (z : List ℕ). encode h ++ z) (replicate-append-replicate {A = ℕ} (l - m) (long - l - (max l m - l)) 0 ∙ ap zeros f)
