-- Every byte of a session's buffer after an accepted call. Opening: the image, and zeros behind it. An edit or undo: the image of the register
-- afterwards; "Taking a link away, by undo too, zeros the 5 bytes freed; other bytes behind the image stay", whatever stood there.
-- Assumes nothing.
use mathlib.Core.Path.{◌≡◌, sym, ap, ◌∙◌, subst}
use mathlib.Core.Bool.{Bool, false}
use mathlib.Core.List.{List, ◌++◌}
use Prim.Native.Nat.{ℕ, ◌+◌, ◌-◌, ◌≤◌, ◌<◌, max}
use native.Mathlib.Decide.{dec_lt}
use native.Mathlib.Omega.{arith}
use lib.ListN.{length, get_or, drop, length-append, length-drop, length-replicate, get_or-replicate}
use lib.ListN.{get_or-append, get_or-eq_default}
use lib.Seq.{get_or-append-add, get_or-drop}
use Rattle.meaning.specs.declared.Fact.{Fact}
use Rattle.meaning.specs.declared.Step.{Step}
use Rattle.meaning.specs.Refusal.{good}
use Rattle.meaning.specs.Bytes.{Bytes}
use Rattle.meaning.specs.Register.{Register, encode, read_buffer}
use Rattle.meaning.specs.Session.{Edit, set_fact, zeros, cleared, rewritten, out_of_range, role_above, no_place, Changed, open_call, edit_call, undo_call, buffer_opened, buffer_after}
use Rattle.meaning.proofs.Reading.{Stands, stands-left}
use Rattle.meaning.proofs.Image.{read-buffer}
use Rattle.meaning.proofs.SessionFacts.{sounds, placed}
use Rattle.meaning.proofs.SessionCalls.{edit-passed, undo-passed, open-passed, alone-length, front-stands}

-- in front of ys stand xs, and then n zeros
module _ (xs ys : List ℕ) (n : ℕ) where
  abbrev whole : List ℕ
  whole = xs ++ zeros n ++ ys

  front : length (xs ++ zeros n) ≡ length xs + n
  front = length-append xs (zeros n) ∙ omega (arith, length-replicate {A = ℕ} n 0)

  pub zeros-between : (i : ℕ) → length xs ≤ i → i < length xs + n → get_or whole i 0 ≡ 0
  zeros-between i a b =
      let k = i - length xs in
      let e : i ≡ length xs + k = omega arith in
      get_or-append (xs ++ zeros n) ys 0 i (omega (arith, front))
      ∙ ap (λ (z : ℕ). get_or (xs ++ zeros n) z 0) e ∙ get_or-append-add xs (zeros n) k 0 ∙ get_or-replicate n k 0 0 (omega arith)

  pub behind-zeros : (i : ℕ) → length xs + n ≤ i → get_or whole i 0 ≡ get_or ys (i - (length xs + n)) 0
  behind-zeros i a =
      let k = i - (length xs + n) in
      let e : i ≡ length (xs ++ zeros n) + k = omega (arith, front) in
      ap (λ (z : ℕ). get_or whole z 0) e ∙ get_or-append-add (xs ++ zeros n) ys k 0

-- ---- opening

pub record Clears (s new : List ℕ) (g : Register) : Type 0 where
  pub long : length new ≡ length s
  pub image : Stands new 0 (encode g)
  pub behind : (i : ℕ) → length (encode g) ≤ i → get_or new i 0 ≡ 0

pub open-clears : (s : List ℕ) (g : Register) → Bytes s → open_call s ≡ good g → Clears s (buffer_opened s (good g)) g
unfolding buffer_opened cleared
open-clears s g b h =
    let q = read-buffer s g b (open-passed s g h) in
    let n = length s - length (encode g) in
    let l = alone-length (length s) g q.2 in
    record { long = l; image = front-stands (encode g) (zeros n); behind = λ i a. go i a (dec_lt i (length s)) }
  where
    go : (i : ℕ) → length (encode g) ≤ i → Dec (i < length s) → get_or (encode g ++ zeros (length s - length (encode g))) i 0 ≡ 0
    go i a (yes c) =
        let k = i - length (encode g) in
        let e : i ≡ length (encode g) + k = omega arith in
        ap (λ (z : ℕ). get_or (encode g ++ zeros (length s - length (encode g))) z 0) e ∙ get_or-append-add (encode g) _ k 0
        ∙ get_or-replicate (length s - length (encode g)) k 0 0 (omega arith)
    go i a (no c) =
        get_or-eq_default (encode g ++ zeros (length s - length (encode g))) 0
        (omega (arith, length-append (encode g) (zeros (length s - length (encode g))), length-replicate {A = ℕ} (length s - length (encode g)) 0))

-- ---- an edit or undo, from the register g to the register h

pub record Rewrites (s new : List ℕ) (g h : Register) : Type 0 where
  pub long : length new ≡ length s
  pub image : Stands new 0 (encode h)
  pub freed : (i : ℕ) → length (encode h) ≤ i → i < length (encode g) → get_or new i 0 ≡ 0
  pub stays : (i : ℕ) → length (encode g) ≤ i → length (encode h) ≤ i → get_or new i 0 ≡ get_or s i 0

pub rewrites : (s : List ℕ) (g h : Register) → length (encode g) ≤ length s → length (encode h) ≤ length s → Rewrites s (rewritten s g h) g h
unfolding rewritten
rewrites s g h a b =
    let l = length (encode g) in
    let m = length (encode h) in
    let rest = drop (max l m) s in
    let new = encode h ++ zeros (l - m) ++ rest in
    record {
      long = length-append (encode h ++ zeros (l - m)) rest ∙ omega (arith, front (encode h) rest (l - m), length-drop (max l m) s);
      image = stands-left new 0 (encode h) (zeros (l - m)) (front-stands (encode h ++ zeros (l - m)) rest);
      freed = λ i c d. zeros-between (encode h) rest (l - m) i c (omega arith);
      stays = λ i c d.
          behind-zeros (encode h) rest (l - m) i (omega arith) ∙ get_or-drop (max l m) s (i - (m + (l - m))) 0
          ∙ ap (λ (z : ℕ). get_or s z 0) (let e : max l m + (i - (m + (l - m))) ≡ i = omega arith in e);
    }

-- a fact set where it is in range and has a place
set-rewrites : (s : List ℕ) (g : Register) (v : Bool) (f : Fact) → Bytes s → read_buffer s ≡ good g → out_of_range (length g.names) f ≡ false
    → role_above f ≡ false → no_place s g v f ≡ false → Rewrites s (rewritten s g (set_fact v f g)) g (set_fact v f g)
set-rewrites s g v f b r o k p =
    let q = read-buffer s g b r in
    rewrites s g (set_fact v f g) q.2 (placed s v f g q.0 (sounds (length g.names) f o k) q.2 p).1

pub edit-rewrites : (s : List ℕ) (log count : ℕ) (e : Edit) (c : Changed) → Bytes s → edit_call s log count e ≡ good c
    → Rewrites s (buffer_after s (good c)) c.before c.after
unfolding buffer_after
edit-rewrites s log count e c b h =
    let q = edit-passed s log count e c h in
    subst (λ (z : Register). Rewrites s (rewritten s c.before z) c.before z) (sym q.after)
    (set-rewrites s c.before e.adds e.fact b q.read q.range q.role q.place)

pub undo-rewrites : (s : List ℕ) (log count : ℕ) (last : Step) (c : Changed) → Bytes s → undo_call s log count last ≡ good c
    → Rewrites s (buffer_after s (good c)) c.before c.after
unfolding buffer_after
undo-rewrites s log count last c b h =
    let q = undo-passed s log count last c h in
    subst (λ (z : Register). Rewrites s (rewritten s c.before z) c.before z) (sym q.after)
    (set-rewrites s c.before last.was last.fact b q.read q.range q.role q.place)
