-- Demand 3, proved: after any history of calls from an opened register on, with refused calls among them, the buffer shows the facts that the
-- history gives (`demand-3`). An accepted edit decides its fact (`edit-shows`); whatever is on trial can be taken back, and then the buffer is
-- what it was (`undo-accepted`, `taken_back`), also where the edit changed nothing. Undo that always reverses the edit is wrong (`undo-slip`).
-- An edit or undo that has something to change changes the image (`edit-moves`, `undo-moves`).
-- Assumes nothing.
use mathlib.Core.Path.{◌≡◌, refl, sym, ap, ◌∙◌, subst}
use mathlib.Core.Bool.{Bool, true, false, ◌&&◌, ◌||◌, not, cond}
use mathlib.Core.List.{List, [], ◌∷◌, ◌++◌}
use Prim.Native.Nat.{ℕ, ◌+◌, ◌-◌, ◌≤◌, ◌<◌}
use native.Mathlib.Omega.{arith}
use lib.Dec.{T, ltb, leb, eqb, eqb→eq}
use lib.ListN.{length}
use Rattle.meaning.specs.declared.Fact.{Fact}
use Rattle.meaning.specs.declared.Fact.TheVariants.{Name as name_on, Link as link_of}
use Rattle.meaning.specs.declared.Step.{Step}
use Rattle.meaning.specs.Refusal.{Answer, good}
use Rattle.meaning.specs.Bytes.{Bytes}
use Rattle.meaning.specs.Tree.{nodes}
use Rattle.meaning.specs.Register.{Register, is_fact, any_link, well_formed, encode, read_register, read_buffer}
use Rattle.meaning.specs.Bounds.{most_links, withdrawn_name}
use Rattle.meaning.specs.Message.{read_requirement, lawful}
use Rattle.meaning.specs.Calls.{read_plain, degree_call, margin_call, member_call}
use Rattle.meaning.specs.Session.{Facts, link, Edit, edited, insert, without, set_fact, cleared, image_of, room, out_of_range, role_above, no_place, Changed, open_call, undo_call}
use Rattle.meaning.specs.Session.{no_steps, counted, buffer_opened, Session, Call, opens, edits, undoes, last_step}
use Rattle.meaning.specs.Session.{answer, buffer, log, count_after, next, play, kept_if, accepted, Standing, nothing, told, standing, applied, standing_facts, history_facts}
use Rattle.meaning.specs.Demand3.{Shows}
use Rattle.meaning.proofs.Tests.{is_true, is_false, neither}
use Rattle.meaning.proofs.Reading.{pass, took, not-below, not-le}
use Rattle.meaning.proofs.Asked.{Asks, asks-goes}
use Rattle.meaning.proofs.Image.{image-length, image-read, one-register, read-buffer, fits}
use Rattle.meaning.proofs.SessionFacts.{fact-same, same-rising, same-register, Sounds, set-items, set-facts, set-rises, set-grows, set_same, Grows}
use Rattle.meaning.proofs.SessionCalls.{alone, alone-length, alone-image}
use Rattle.meaning.proofs.History.{edit-undone, edited-agree, Logged, Held, Stepped, read_here, last_step_lem, step, held-play}

-- ---- a session in which all that holds

module _ (n long : ℕ) (opened : Facts) where
  -- the buffer shows the facts
  shows : (w : Standing) (s : Session) → Held n long opened w s → Shows n (standing_facts w opened) s.buffer
  unfolding degree_call margin_call member_call is_fact
  shows w s h =
      let g = h.has.register in
      let o = h.has.of in
      let im : image_of s.buffer ≡ encode g = ap image_of h.filled ∙ alone-image long g o.well in
      let rd : read_register (image_of s.buffer) ≡ good g = ap read_register im ∙ image-read g o.well in
      let asks : (item : ℕ) → item < n → standing_facts w opened (name_on item withdrawn_name) ≡ false → Asks g item =
      λ item i out. record { inside = omega (arith, o.items); serves = o.has (name_on item withdrawn_name) ∙ out } in
      let long' : length s.buffer ≡ long = ap length h.filled ∙ alone-length long g h.has.small in
      record {
        register = g;
        fits = o;
        image = im;
        only = λ k q. same-register k g q.well o.well (q.items ∙ sym o.items) (λ f. q.has f ∙ sym (o.has f));
        behind = h.filled ∙ ap (λ (z : ℕ). alone z g) (sym long');
        degree = λ message t item room e i w r.
            took (read_register (image_of s.buffer)) _ g rd ∙ took (read_plain message) _ t e
            ∙ asks-goes g item _ (asks item i w)
            ∙ pass (ltb room (nodes t)) _ _ (not-below room (nodes t) r);
        against = λ message t item p q e i w l.
            took (read_register (image_of s.buffer)) _ g rd ∙ took (read_plain message) _ t e
            ∙ asks-goes g item _ (asks item i w)
            ∙ pass (not (lawful p q)) _ _ (ap not (is_true (lawful p q) l));
        decision = λ message q parts item room e i w r.
            took (read_register (image_of s.buffer)) _ g rd ∙ took (read_requirement message) _ (q, parts) e
            ∙ asks-goes g item _ (asks item i w)
            ∙ pass (ltb room (nodes q)) _ _ (not-below room (nodes q) r);
      }

-- ---- from an opened register on

module _ (s : Session) (g : Register) (b : Bytes s.buffer) (r : read_buffer s.buffer ≡ good g) where
  opened-good : open_call s.buffer ≡ good g
  unfolding open_call
  opened-good = took (read_buffer s.buffer) _ g r

  open-answer : answer s opens ≡ good 0
  unfolding answer no_steps
  open-answer = ap no_steps opened-good

  pub open_next : next s opens ≡ record { buffer = cleared s.buffer g; log = s.log; count = 0 }
  unfolding next answer buffer log no_steps buffer_opened
  open_next = ap (λ (a : Answer Register). record { buffer = buffer_opened s.buffer a; log = s.log; count = count_after s.count (no_steps a) }) opened-good

  open-held : Held (length g.names) (length s.buffer) (is_fact g) nothing (next s opens)
  unfolding cleared applied Logged
  open-held =
      let q = read-buffer s.buffer g b r in
      subst (λ (z : Session). Held (length g.names) (length s.buffer) (is_fact g) nothing z) (sym open_next) (record {
        has = record { register = g; of = record { well = q.0; items = refl; has = λ f. refl }; small = q.2 };
        filled = refl;
        count = refl;
        steps = omega arith;
        logged = tt;
      })

  history-held : (cs : List Call)
      → Held (length g.names) (length s.buffer) (is_fact g) (standing nothing (accepted s (opens ∷ cs))) (play s (opens ∷ cs))
  unfolding play accepted standing
  history-held cs =
      subst (λ (a : Answer ℕ).
      Held (length g.names) (length s.buffer) (is_fact g) (standing nothing (kept_if a opens (accepted (next s opens) cs))) (play (next s opens) cs))
      (sym open-answer) (held-play (length g.names) (length s.buffer) (is_fact g) cs nothing (next s opens) open-held)

  -- Demand 3: the session's buffer may hold anything behind the image that is opened, and the log and the count that come with it anything at all.
  pub demand-3 : (cs : List Call) → Shows (length g.names) (history_facts s (opens ∷ cs) (is_fact g)) (play s (opens ∷ cs)).buffer
  demand-3 cs = shows (length g.names) (length s.buffer) (is_fact g) (standing nothing (accepted s (opens ∷ cs))) (play s (opens ∷ cs)) (history-held cs)

  -- the buffer keeps its length, and as many steps are in use as edits can be taken back
  pub history-counts : (cs : List Call)
      → (length (play s (opens ∷ cs)).buffer ≡ length s.buffer) × ((play s (opens ∷ cs)).count ≡ length (standing nothing (accepted s (opens ∷ cs))).trial)
  history-counts cs =
      let h = history-held cs in
      (ap length h.filled ∙ alone-length (length s.buffer) h.has.register h.has.small, h.count)

-- ---- an edit that changes something changes the image

-- one image shows one set of facts
pub one-image : (n m : ℕ) (p q : Facts) (b c : List ℕ) → Shows n p b → Shows m q c → image_of b ≡ image_of c → (f : Fact) → p f ≡ q f
one-image n m p q b c h k e f =
    let g = one-register h.register k.register h.fits.well k.fits.well (sym h.image ∙ e ∙ k.image) in
    sym (h.fits.has f) ∙ ap (λ (r : Register). is_fact r f) g ∙ k.fits.has f

-- an edit decides its fact, whatever was there, and no other
pub edit-shows : (e : Edit) (there : Facts) → edited e there e.fact ≡ e.adds
edit-shows e there = ap (λ (c : Bool). cond c e.adds (there e.fact)) (fact-same e.fact)

-- ---- what is on trial can be taken back

in-range : (n : ℕ) (f : Fact) → Sounds n f → (out_of_range n f || role_above f) ≡ false
in-range n (name_on i k) o = neither (leb n i || ltb 63 k) false (neither (leb n i) (ltb 63 k) (not-le n i o.0) (not-below 63 k (omega (arith, o.1)))) refl
in-range n (link_of a r b) o =
    neither (leb n a || leb n b) (ltb 31 r) (neither (leb n a) (leb n b) (not-le n a o.0) (not-le n b o.2)) (not-below 31 r o.1)

-- there is place for a register that fits
place-back : (s : List ℕ) (g : Register) (v : Bool) (f : Fact) → T (well_formed g) → Sounds (length g.names) f
    → length (set_fact v f g).links ≤ most_links → length (encode (set_fact v f g)) ≤ length s → no_place s g v f ≡ false
unfolding no_place
place-back s g v (name_on i k) w o m l = refl
place-back s g v (link_of a r b) w o m l = go v (is_fact g (link_of a r b)) m l (set-grows v a r b g w o)
  where
    go : (v there : Bool) → length (set_fact v (link_of a r b) g).links ≤ most_links → length (encode (set_fact v (link_of a r b) g)) ≤ length s
        → Grows v there (length g.links) (length (set_fact v (link_of a r b) g).links)
        → (v && not there && (leb most_links (length g.links) || ltb (length s) (length (encode g) + 5))) ≡ false
    go true true m l d = refl
    go false true m l d = refl
    go false false m l d = refl
    go true false m l d =
        let f = link_of a r b in
        neither (leb most_links (length g.links)) (ltb (length s) (length (encode g) + 5))
        (not-le most_links (length g.links) (omega arith))
        (not-below (length s) (length (encode g) + 5) (omega (arith, image-length g, image-length (set_fact true f g), set-items true f g)))

module _ (n long : ℕ) (opened : Facts) where
  undo-good : (e : Edit) (es kept : List Edit) (s : Session) → Held n long opened (record { trial = e ∷ es; kept = kept }) s
      → (c : Changed) × (undo_call s.buffer (length s.log) s.count (last_step s) ≡ good c)
  unfolding undo_call applied Logged
  undo-good e es kept s h =
      let p = applied (es ++ kept) opened in
      let v = p e.fact in
      let g = h.has.register in
      let o = h.has.of in
      let k = h.logged.2 in
      let ls = last_step_lem n long opened e es kept s h.count h.logged in
      let so : Sounds (length g.names) e.fact = subst (λ (z : ℕ). Sounds z e.fact) (sym o.items) h.logged.1 in
      let back : set_fact v e.fact g ≡ k.register =
      same-rising (set_fact v e.fact g) k.register (set-rises v e.fact g o.well so) (fits k.register k.of.well).rising
      (set-items v e.fact g ∙ o.items ∙ sym k.of.items)
      (λ x. set-facts v e.fact g o.well so x ∙ edited-agree (record { fact = e.fact; adds = v }) (is_fact g) (edited e p) o.has x
      ∙ edit-undone e p x ∙ sym (k.of.has x)) in
      let few : length (set_fact v e.fact g).links ≤ most_links =
      subst (λ (z : Register). length z.links ≤ most_links) (sym back) (fits k.register k.of.well).few in
      let lb : length s.buffer ≡ long = ap length h.filled ∙ alone-length long g h.has.small in
      let small : length (encode (set_fact v e.fact g)) ≤ length s.buffer =
      subst (λ (z : Register). length (encode z) ≤ length s.buffer) (sym back) (omega (arith, k.small)) in
      let np : no_place s.buffer g (last_step s).was (last_step s).fact ≡ false =
      ap (λ (z : Step). no_place s.buffer g z.was z.fact) ls ∙ place-back s.buffer g v e.fact o.well so few small in
      let rg : (out_of_range (length g.names) (last_step s).fact || role_above (last_step s).fact) ≡ false =
      ap (λ (z : Step). out_of_range (length g.names) z.fact || role_above z.fact) ls ∙ in-range (length g.names) e.fact so in (
        record { before = g; after = set_fact (last_step s).was (last_step s).fact g; count = s.count - 1 },
        took (read_buffer s.buffer) _ g (read_here n long opened (record { trial = e ∷ es; kept = kept }) s h)
            ∙ pass (ltb (room (length s.log)) s.count) _ _ (not-below (room (length s.log)) s.count h.steps)
            ∙ pass (eqb s.count 0) _ _ (is_false (eqb s.count 0) (λ t. let z = eqb→eq s.count 0 t in omega (arith, h.count)))
            ∙ pass (out_of_range (length g.names) (last_step s).fact || role_above (last_step s).fact) _ _ rg
            ∙ pass (no_place s.buffer g (last_step s).was (last_step s).fact) _ _ np,
      )

  -- an undo is accepted where an edit is on trial
  undo-answer : (w : Standing) (s : Session) (e : Edit) (es : List Edit) → w.trial ≡ e ∷ es → Held n long opened w s → (k : ℕ) × (answer s undoes ≡ good k)
  unfolding answer counted
  undo-answer w s e es d h =
      let ew : w ≡ record { trial = e ∷ es; kept = w.kept } = ap (λ (z : List Edit). record { trial = z; kept = w.kept }) d in
      let q = undo-good e es w.kept s (subst (λ (z : Standing). Held n long opened z s) ew h) in
      (q.0.count, ap counted q.1)

  -- what a good answer says of the next session
  next-held : (w : Standing) (s : Session) (c : Call) (k : ℕ) → answer s c ≡ good k → Held n long opened w s → Held n long opened (told w c) (next s c)
  next-held w s c k a h = subst (λ (z : Answer ℕ). Stepped n long opened (told w c) s (next s c) z) a (step n long opened w s h c)

  -- the buffer is given by what stands
  one-buffer : (w : Standing) (s t : Session) → Held n long opened w s → Held n long opened w t → s.buffer ≡ t.buffer
  one-buffer w s t h k =
      let p = h.has.of in
      let q = k.has.of in
      let e = same-register h.has.register k.has.register p.well q.well (p.items ∙ sym q.items) (λ f. p.has f ∙ sym (q.has f)) in
      h.filled ∙ ap (alone long) e ∙ sym k.filled

  back-again : (w : Standing) (s : Session) (e : Edit) (k : ℕ) → Held n long opened w s → answer s (edits e) ≡ good k
      → (j : ℕ) × (answer (next s (edits e)) undoes ≡ good j) × ((next (next s (edits e)) undoes).buffer ≡ s.buffer)
      × ((next (next s (edits e)) undoes).count ≡ s.count)
  back-again w s e k h a =
      let t = next s (edits e) in
      let ht = next-held w s (edits e) k a h in
      let u = undo-answer (told w (edits e)) t e w.trial refl ht in
      let hu = next-held (told w (edits e)) t undoes u.0 u.1 ht in
      (u.0, u.1, one-buffer w (next t undoes) s hu h, hu.count ∙ sym h.count)

module _ (s : Session) (g : Register) (b : Bytes s.buffer) (r : read_buffer s.buffer ≡ good g) (cs : List Call) where
  abbrev now : Session
  now = play s (opens ∷ cs)

  -- in any history an undo is accepted where an edit is neither taken back nor kept
  pub undo-accepted : (e : Edit) (es : List Edit) → (standing nothing (accepted s (opens ∷ cs))).trial ≡ e ∷ es → (k : ℕ) × (answer now undoes ≡ good k)
  undo-accepted e es d =
      undo-answer (length g.names) (length s.buffer) (is_fact g) (standing nothing (accepted s (opens ∷ cs))) now e es d (history-held s g b r cs)

  -- and takes an edit back: every byte of the buffer and the count are what they were before it, also where the edit changed nothing
  pub taken_back : (e : Edit) (k : ℕ) → answer now (edits e) ≡ good k
      → (j : ℕ) × (answer (next now (edits e)) undoes ≡ good j) × ((next (next now (edits e)) undoes).buffer ≡ now.buffer)
      × ((next (next now (edits e)) undoes).count ≡ now.count)
  taken_back e k a =
      back-again (length g.names) (length s.buffer) (is_fact g) (standing nothing (accepted s (opens ∷ cs))) now e k (history-held s g b r cs) a

  -- An accepted edit that leaves the image as it was had nothing to change; so had an undo's edit. This rules out an image that never changes, an
  -- undo that does nothing, and a session that applies its first edit and only counts the rest.
  pub edit-moves : (e : Edit) (k : ℕ) → answer now (edits e) ≡ good k → image_of (next now (edits e)).buffer ≡ image_of now.buffer
      → history_facts s (opens ∷ cs) (is_fact g) e.fact ≡ e.adds
  unfolding applied
  edit-moves e k a i =
      let n = length g.names in
      let long = length s.buffer in
      let w = standing nothing (accepted s (opens ∷ cs)) in
      let h = history-held s g b r cs in
      let before = shows n long (is_fact g) w now h in
      let after = shows n long (is_fact g) (told w (edits e)) (next now (edits e)) (next-held n long (is_fact g) w now (edits e) k a h) in
      sym (one-image n n _ _ _ _ after before i e.fact) ∙ edit-shows e (standing_facts w (is_fact g))

  pub undo-moves : (e : Edit) (es : List Edit) (k : ℕ) → (standing nothing (accepted s (opens ∷ cs))).trial ≡ e ∷ es → answer now undoes ≡ good k
      → image_of (next now undoes).buffer ≡ image_of now.buffer
      → standing_facts (told (standing nothing (accepted s (opens ∷ cs))) undoes) (is_fact g) e.fact ≡ e.adds
  unfolding applied
  undo-moves e es k d a i =
      let n = length g.names in
      let long = length s.buffer in
      let w = standing nothing (accepted s (opens ∷ cs)) in
      let h = history-held s g b r cs in
      let before = shows n long (is_fact g) w now h in
      let after = shows n long (is_fact g) (told w undoes) (next now undoes) (next-held n long (is_fact g) w now undoes k a h) in
      one-image n n _ _ _ _ after before i e.fact
      ∙ ap (λ (z : List Edit). applied (z ++ w.kept) (is_fact g) e.fact) d ∙ edit-shows e (applied (es ++ w.kept) (is_fact g))

-- ---- "Undo that always reverses the edit"

-- an edit that changes nothing, and its undo, leave the register as it is
pub undo-of-nothing : (e : Edit) (g : Register) → T (well_formed g) → Sounds (length g.names) e.fact → is_fact g e.fact ≡ e.adds
    → set_fact (is_fact g e.fact) e.fact (set_fact e.adds e.fact g) ≡ g
undo-of-nothing e g w o h =
    let same = set_same e.adds e.fact g w o h in
    ap (set_fact (is_fact g e.fact) e.fact) same ∙ ap (λ (v : Bool). set_fact v e.fact g) h ∙ same

-- the slip sets the fact to what the edit did not
abbrev pub reversed : Edit → Register → Register
reversed e g = set_fact (not e.adds) e.fact g

-- one item with a link to itself, which is added again
abbrev loop : Register
loop = record { names = 0 ∷ []; links = link 0 0 0 ∷ [] }

abbrev again : Edit
again = record { fact = link_of 0 0 0; adds = true }

-- "Add a link that stands, undo: the link stands." By the slip it would not.
pub undo-slip : (is_fact loop again.fact ≡ true) × (is_fact (set_fact (is_fact loop again.fact) again.fact (set_fact true again.fact loop)) again.fact ≡ true)
    × (is_fact (reversed again (set_fact true again.fact loop)) again.fact ≡ false)
unfolding is_fact any_link set_fact insert without
undo-slip = (refl, refl, refl)
