-- A session can be worked: an edit of a fact in range, with room in the log and in the buffer, is accepted, and afterwards that fact is what the
-- edit makes it and every other is what it was. From any buffer that holds a register (`edit-works`), and so from every opened one (`opened-works`).
-- Assumes nothing.
use mathlib.Core.Path.{◌≡◌, sym, ap, ◌∙◌, subst}
use mathlib.Core.Logic.{◌⊎◌}
use mathlib.Core.Bool.{Bool, true, false}
use mathlib.Core.List.{List, ◌++◌}
use Prim.Native.Nat.{ℕ, ◌+◌, ◌-◌, ◌≤◌, ◌<◌, max}
use native.Mathlib.Omega.{arith}
use lib.Dec.{T}
use lib.ListN.{length, set, drop, length-append}
use Rattle.meaning.specs.declared.Fact.{Fact}
use Rattle.meaning.specs.declared.Fact.TheVariants.{Name as name_on, Link as link_of}
use Rattle.meaning.specs.Refusal.{Answer, good}
use Rattle.meaning.specs.Bytes.{Bytes}
use Rattle.meaning.specs.Register.{Register, is_fact, well_formed, encode, read_buffer}
use Rattle.meaning.specs.Session.{Edit, edited, set_fact, zeros, cleared, rewritten, Changed, edit_call, counted, buffer_after, step_of, log_after, Session, opens, edits}
use Rattle.meaning.specs.Session.{answer, buffer, log, count_after, next}
use Rattle.meaning.specs.Refusing.{Inside, RoleFits, HasRoom, EditTakes}
use Rattle.meaning.proofs.Reading.{stands_self, stands-left}
use Rattle.meaning.proofs.Image.{buffer-read, read-buffer}
use Rattle.meaning.proofs.SessionFacts.{sounds, set-items, set-facts, placed, set-well}
use Rattle.meaning.proofs.SessionCalls.{edit-passed, alone, alone-length, alone-read}
use Rattle.meaning.proofs.Refusing.{edit-takes}
use Rattle.meaning.proofs.Demand3.{open_next}

-- the register that was written is read back
pub rewritten-read : (s : List ℕ) (g h : Register) → T (well_formed h) → read_buffer (rewritten s g h) ≡ good h
unfolding rewritten
rewritten-read s g h w =
    let z = zeros (length (encode g) - length (encode h)) in
    let d = drop (max (length (encode g)) (length (encode h))) s in
    let whole = encode h ++ z ++ d in
    let two = stands-left whole 0 (encode h ++ z) d (stands_self whole) in
    buffer-read whole h w (stands-left whole 0 (encode h) z two) (omega (arith, length-append (encode h ++ z) d, length-append (encode h) z))

module _ (s : Session) (g : Register) (e : Edit) where
  -- the edit was accepted, with one step more, whose record holds what was; the buffer holds a register of as many items, in which that fact
  -- is what the edit makes it, and every other is what it was
  pub record Works : Type 0 where
    pub accepted : answer s (edits e) ≡ good (s.count + 1)
    pub counted-up : (next s (edits e)).count ≡ s.count + 1
    pub recorded : (next s (edits e)).log ≡ set s.log s.count (step_of g e.fact)
    pub after : Register
    pub read : read_buffer (next s (edits e)).buffer ≡ good after
    pub items : length after.names ≡ length g.names
    pub moved : (x : Fact) → is_fact after x ≡ edited e (is_fact g) x

  works : T (well_formed g) → length (encode g) ≤ length s.buffer → read_buffer s.buffer ≡ good g → s.count < length s.log → s.count < 64
      → Inside (length g.names) e.fact → RoleFits e.fact → HasRoom s.buffer g e.adds e.fact → Works
  unfolding answer next buffer log counted buffer_after log_after
  works v l r in_log in_use inside role room =
      let x : EditTakes s.buffer (length s.log) s.count e = record {
        counts = record { register = g; read = r; in_log = omega arith; in_use = omega arith };
        inside = inside;
        role = role;
        in_log = in_log;
        in_use = in_use;
        room = room;
      } in
      let c : Changed = record { before = g; after = set_fact e.adds e.fact g; count = s.count + 1 } in
      let d : edit_call s.buffer (length s.log) s.count e ≡ good c = edit-takes s.buffer (length s.log) s.count e x in
      let q = edit-passed s.buffer (length s.log) s.count e c d in
      let so = sounds (length g.names) e.fact q.range q.role in
      let pl = placed s.buffer e.adds e.fact g (v) so l q.place in
      let w = set-well e.adds e.fact g (v) so pl.0 in
      record {
        accepted = ap counted d;
        counted-up = ap (λ (a : Answer Changed). count_after s.count (counted a)) d;
        recorded = ap (log_after s.log s.count e.fact) d;
        after = set_fact e.adds e.fact g;
        read = ap (λ (a : Answer Changed). read_buffer (buffer_after s.buffer a)) d ∙ rewritten-read s.buffer g (set_fact e.adds e.fact g) w;
        items = set-items e.adds e.fact g;
        moved = set-facts e.adds e.fact g (v) so;
      }

  pub edit-works : Bytes s.buffer → read_buffer s.buffer ≡ good g → s.count < length s.log → s.count < 64
      → Inside (length g.names) e.fact → RoleFits e.fact → HasRoom s.buffer g e.adds e.fact → Works
  edit-works b r = let q = read-buffer s.buffer g b r in works q.0 q.2 r

-- ---- from an opened register

room-there : (s t : List ℕ) (g : Register) (v : Bool) (f : Fact) → length s ≡ length t → HasRoom s g v f → HasRoom t g v f
room-there s t g v (name_on i k) e h = tt
room-there s t g v (link_of a r b) e h =
    subst (λ (n : ℕ). (v ≡ false) ⊎ (is_fact g (link_of a r b) ≡ true) ⊎ ((length g.links < 4096) × (length (encode g) + 5 ≤ n))) e h

-- the log has a record or more; what stands in it, and the count that comes with it, is anything at all
pub opened-works : (s : Session) (g : Register) (e : Edit) → Bytes s.buffer → read_buffer s.buffer ≡ good g → 0 < length s.log
    → Inside (length g.names) e.fact → RoleFits e.fact → HasRoom s.buffer g e.adds e.fact → Works (next s opens) g e
unfolding cleared
opened-works s g e b r l i o room =
    let q = read-buffer s.buffer g b r in
    let long = length s.buffer in
    let t : Session = record { buffer = cleared s.buffer g; log = s.log; count = 0 } in
    let same : length (alone long g) ≡ long = alone-length long g q.2 in
    subst (λ (z : Session). Works z g e) (sym (open_next s g b r))
    (works t g e q.0 (omega (arith, q.2)) (alone-read long g q.0 q.2) l (omega arith) i o
    (room-there s.buffer t.buffer g e.adds e.fact (sym same) room))
