-- Demand 3 for any history of calls from an opened register on: the buffer shows the facts that the history gives.
-- The log is what makes an undo set back what was: each record in use holds its edit's fact and whether the edits before it gave that fact.
-- Assumes nothing.
use mathlib.Core.Path.{◌≡◌, refl, sym, ap, ap₂, ◌∙◌, subst}
use mathlib.Core.Bool.{Bool, true, false, cond}
use mathlib.Core.List.{List, [], ◌∷◌, ◌++◌}
use Prim.Native.Nat.{ℕ, suc, ◌≤◌, ◌<◌}
use native.Mathlib.Omega.{arith}
use lib.ListN.{length, get_or, set, length-set}
use lib.Seq.{get_or-set_same, get_or-set_other}
use Rattle.meaning.specs.declared.Fact.{Fact}
use Rattle.meaning.specs.declared.Step.{Step}
use Rattle.meaning.specs.Refusal.{Answer, good, refused}
use Rattle.meaning.specs.Register.{Register, is_fact, encode, read_buffer}
use Rattle.meaning.specs.Session.{Facts, same_fact, Edit, edited, set_fact, cleared, rewritten, room, no_place, Changed, open_call, edit_call, undo_call, keep_call}
use Rattle.meaning.specs.Session.{no_steps, counted, buffer_opened, buffer_after, step_of, log_after, Session, Call, opens, edits, undoes, keeps, no_step, last_step}
use Rattle.meaning.specs.Session.{answer, buffer, log, count_after, next, play, kept_if, accepted, Standing, told, standing, applied, standing_facts}
use Rattle.meaning.specs.Demand3.{RegisterOf}
use Rattle.meaning.proofs.Reading.{good-inj}
use Rattle.meaning.proofs.SessionFacts.{same-fact, Sounds, sounds, set-items, set-facts, placed, set-well}
use Rattle.meaning.proofs.SessionCalls.{edit-passed, UndoPassed, undo-passed, open-passed, alone, alone-length, alone-read, alone-cleared, alone-rewritten}

-- ---- an edit and its undo, on facts

-- setting back what was undoes an edit, also where it changed nothing
pub edit-undone : (e : Edit) (there : Facts) (x : Fact) → edited (record { fact = e.fact; adds = there e.fact }) (edited e there) x ≡ there x
edit-undone e there x = go (same_fact e.fact x) refl
  where
    go : (c : Bool) → same_fact e.fact x ≡ c → cond c (there e.fact) (cond c e.adds (there x)) ≡ there x
    go true d = ap there (same-fact e.fact x d)
    go false d = refl

pub edited-agree : (e : Edit) (p q : Facts) → ((x : Fact) → p x ≡ q x) → (x : Fact) → edited e p x ≡ edited e q x
edited-agree e p q h x = ap (λ (b : Bool). cond (same_fact e.fact x) e.adds b) (h x)

-- ---- what holds in a session of n items in a buffer of `long` bytes, opened with the facts `opened`

module _ (n long : ℕ) (opened : Facts) where
  pub record Has (facts : Facts) : Type 0 where
    pub register : Register
    pub of : RegisterOf n facts register
    pub small : length (encode register) ≤ long

  -- each record in use holds its edit's fact, and whether the edits before gave it; and those edits gave a register
  unfoldable pub Logged : List Step → List Edit → List Edit → Type 0
  Logged log [] kept = Unit {0}
  Logged log (e ∷ es) kept =
      (get_or log (length es) no_step ≡ record { fact = e.fact; was = applied (es ++ kept) opened e.fact })
      × Sounds n e.fact × Has (applied (es ++ kept) opened) × Logged log es kept

  pub record Held (w : Standing) (s : Session) : Type 0 where
    pub has : Has (standing_facts w opened)
    pub filled : s.buffer ≡ alone long has.register
    pub count : s.count ≡ length w.trial
    pub steps : s.count ≤ room (length s.log)
    pub logged : Logged s.log w.trial w.kept

  logged-later : (log : List Step) (k : ℕ) (st : Step) (es kept : List Edit) → length es ≤ k → Logged log es kept → Logged (set log k st) es kept
  unfolding Logged
  logged-later log k st [] kept h l = tt
  logged-later log k st (e ∷ es) kept h l =
      (get_or-set_other log k (length es) st no_step (λ d. let z : length es ≡ k = d in omega arith) ∙ l.0, l.1, l.2, logged-later log k st es kept (omega arith) l.3)

  -- the fact f is set to v in the register of a session
  has-set : (p q : Facts) (h : Has p) (v : Bool) (f : Fact) → Sounds n f → no_place (alone long h.register) h.register v f ≡ false
      → ((x : Fact) → edited (record { fact = f; adds = v }) p x ≡ q x) → (k : Has q) × (k.register ≡ set_fact v f h.register)
  has-set p q h v f o e agree =
      let g = h.register in
      let w = h.of.well in
      let i = h.of.items in
      let so : Sounds (length g.names) f = subst (λ (z : ℕ). Sounds z f) (sym i) o in
      let l = alone-length long g h.small in
      let pl = placed (alone long g) v f g w so (omega (arith, h.small)) e in (
        record {
          register = set_fact v f g;
          of = record {
            well = set-well v f g w so pl.0;
            items = set-items v f g ∙ i;
            has = λ x. set-facts v f g w so x ∙ edited-agree (record { fact = f; adds = v }) (is_fact g) p h.of.has x ∙ agree x;
          };
          small = omega (arith, pl.1);
        },
        refl,
      )

  -- ---- one call

  abbrev pub Stepped : Standing → Session → Session → Answer ℕ → Type 0
  Stepped w s t (good k) = Held w t
  Stepped w s t (refused r) = t ≡ s

  module _ (w : Standing) (s : Session) (h : Held w s) where
    abbrev g : Register
    g = h.has.register

    pub read_here : read_buffer s.buffer ≡ good g
    read_here = ap read_buffer h.filled ∙ alone-read long g h.has.of.well h.has.small

    here : {r : Register} → read_buffer s.buffer ≡ good r → r ≡ g
    here e = good-inj (sym e ∙ read_here)

    -- the buffer after an accepted edit or undo
    refilled : (c : Changed) (k : Register) → c.before ≡ g → c.after ≡ k → length (encode k) ≤ long → rewritten s.buffer c.before c.after ≡ alone long k
    refilled c k b a l =
        ap (λ (z : List ℕ). rewritten z c.before c.after) h.filled
        ∙ ap₂ (rewritten (alone long g)) b a ∙ alone-rewritten long g k h.has.small l

    step-edit : (e : Edit) (a : Answer Changed) → edit_call s.buffer (length s.log) s.count e ≡ a
        → Stepped (told w (edits e)) s
        (record { buffer = buffer_after s.buffer a; log = log_after s.log s.count e.fact a; count = count_after s.count (counted a) }) (counted a)
    unfolding buffer_after log_after counted applied Logged
    step-edit e (refused r) d = refl
    step-edit e (good c) d =
        let q = edit-passed s.buffer (length s.log) s.count e c d in
        let b = here q.read in
        let so : Sounds n e.fact = subst (λ (z : ℕ). Sounds z e.fact) (ap (λ (r : Register). length r.names) b ∙ h.has.of.items) (sounds _ e.fact q.range q.role) in
        let np : no_place (alone long g) g e.adds e.fact ≡ false =
        ap₂ (λ (z : List ℕ) (r : Register). no_place z r e.adds e.fact) (sym h.filled) (sym b) ∙ q.place in
        let k = has-set (standing_facts w opened) (edited e (standing_facts w opened)) h.has e.adds e.fact so np (λ x. refl) in
        let af : c.after ≡ k.0.register = q.after ∙ ap (set_fact e.adds e.fact) b ∙ sym k.1 in
        let room : s.count < length s.log = omega (arith, q.steps) in
        let st : step_of c.before e.fact ≡ record { fact = e.fact; was = standing_facts w opened e.fact } =
        ap (λ (z : Bool). record { fact = e.fact; was = z }) (ap (λ (r : Register). is_fact r e.fact) b ∙ h.has.of.has e.fact) in
        record {
          has = k.0;
          filled = refilled c k.0.register b af k.0.small;
          count = q.more ∙ omega (arith, h.count);
          steps = omega (arith, q.more, q.steps, length-set s.log s.count (step_of c.before e.fact));
          logged = (
            ap (λ (z : ℕ). get_or (set s.log s.count (step_of c.before e.fact)) z no_step) (sym h.count)
                ∙ get_or-set_same s.log s.count (step_of c.before e.fact) no_step room ∙ st,
            so,
            h.has,
            logged-later s.log s.count _ w.trial w.kept (omega (arith, h.count)) h.logged,
          );
        }

  -- the last step in use is that of the latest edit on trial
  pub last_step_lem : (e : Edit) (es kept : List Edit) (s : Session) → s.count ≡ suc (length es) → Logged s.log (e ∷ es) kept
      → last_step s ≡ record { fact = e.fact; was = applied (es ++ kept) opened e.fact }
  unfolding Logged
  last_step_lem e es kept s c l = ap (λ (z : ℕ). get_or s.log z no_step) (omega arith) ∙ l.0

  module _ (w : Standing) (s : Session) (h : Held w s) where
    undone : (e : Edit) (es kept : List Edit) → w ≡ record { trial = e ∷ es; kept = kept } → (c : Changed)
        → UndoPassed s.buffer (length s.log) s.count (last_step s) c
        → Held (record { trial = es; kept = kept })
        (record { buffer = rewritten s.buffer c.before c.after; log = s.log; count = c.count })
    unfolding applied Logged
    undone e es kept ew c q =
        let hh : Held (record { trial = e ∷ es; kept = kept }) s = subst (λ (z : Standing). Held z s) ew h in
        let p = applied (es ++ kept) opened in
        let b = here _ s hh q.read in
        let ls = last_step_lem e es kept s hh.count hh.logged in
        let v = p e.fact in
        let np : no_place (alone long hh.has.register) hh.has.register v e.fact ≡ false =
        ap₂ (λ (z : List ℕ) (r : Register). no_place z r v e.fact) (sym hh.filled) (sym b)
        ∙ sym (ap (λ (z : Step). no_place s.buffer c.before z.was z.fact) ls) ∙ q.place in
        let k = has-set (edited e p) p hh.has v e.fact hh.logged.1 np (edit-undone e p) in
        let af : c.after ≡ k.0.register =
        q.after ∙ ap (λ (z : Step). set_fact z.was z.fact c.before) ls ∙ ap (set_fact v e.fact) b ∙ sym k.1 in
        record {
          has = k.0;
          filled = refilled _ s hh c k.0.register b af k.0.small;
          count = omega (arith, q.fewer, hh.count);
          steps = omega (arith, q.fewer, q.steps);
          logged = hh.logged.3;
        }

    step-undo : (a : Answer Changed) → undo_call s.buffer (length s.log) s.count (last_step s) ≡ a
        → Stepped (told w undoes) s (record { buffer = buffer_after s.buffer a; log = s.log; count = count_after s.count (counted a) }) (counted a)
    unfolding buffer_after counted
    step-undo (refused r) d = refl
    step-undo (good c) d = go w.trial refl
      where
        q : UndoPassed s.buffer (length s.log) s.count (last_step s) c
        q = undo-passed s.buffer (length s.log) s.count (last_step s) c d

        go : (t : List Edit) → w.trial ≡ t → Held (told w undoes) (record { buffer = rewritten s.buffer c.before c.after; log = s.log; count = c.count })
        go [] e = absurd (omega (arith, q.used, h.count, ap length e))
        go (x ∷ es) e =
            let ew : w ≡ record { trial = x ∷ es; kept = w.kept } = ap (λ (z : List Edit). record { trial = z; kept = w.kept }) e in
            subst (λ (z : Standing). Held (told z undoes) (record { buffer = rewritten s.buffer c.before c.after; log = s.log; count = c.count }))
            (sym ew) (undone x es w.kept ew c q)

    -- nothing changes but that no edit is on trial
    kept-all : Held (record { trial = []; kept = w.trial ++ w.kept }) (record { buffer = s.buffer; log = s.log; count = 0 })
    unfolding Logged
    kept-all = record { has = h.has; filled = h.filled; count = refl; steps = omega arith; logged = tt }

    step-open : (a : Answer Register) → open_call s.buffer ≡ a
        → Stepped (told w opens) s (record { buffer = buffer_opened s.buffer a; log = s.log; count = count_after s.count (no_steps a) }) (no_steps a)
    unfolding buffer_opened no_steps
    step-open (refused r) d = refl
    step-open (good r) d =
        let b = here w s h (open-passed s.buffer r d) in
        let e : cleared s.buffer r ≡ s.buffer =
        ap₂ cleared h.filled b ∙ alone-cleared long h.has.register h.has.small ∙ sym h.filled in
        subst (λ (z : List ℕ). Held (told w opens) (record { buffer = z; log = s.log; count = 0 })) (sym e) kept-all

    step-keep : (a : Answer (Unit {0})) → Stepped (told w keeps) s (record { buffer = s.buffer; log = s.log; count = count_after s.count (no_steps a) }) (no_steps a)
    unfolding no_steps
    step-keep (refused r) = refl
    step-keep (good u) = kept-all

    pub step : (c : Call) → Stepped (told w c) s (next s c) (answer s c)
    unfolding next answer buffer log
    step opens = step-open (open_call s.buffer) refl
    step (edits e) = step-edit w s h e (edit_call s.buffer (length s.log) s.count e) refl
    step undoes = step-undo (undo_call s.buffer (length s.log) s.count (last_step s)) refl
    step keeps = step-keep (keep_call s.buffer (length s.log) s.count)

  -- ---- any calls

  pub held-play : (cs : List Call) (w : Standing) (s : Session) → Held w s → Held (standing w (accepted s cs)) (play s cs)
  unfolding play accepted standing
  held-play [] w s h = h
  held-play (c ∷ cs) w s h = go (answer s c) (step w s h c) (λ w t k. held-play cs w t k)
    where
      go : (a : Answer ℕ) → Stepped (told w c) s (next s c) a
          → ((w : Standing) (t : Session) → Held w t → Held (standing w (accepted t cs)) (play t cs))
          → Held (standing w (kept_if a c (accepted (next s c) cs))) (play (next s c) cs)
      go (good k) p ih = ih (told w c) (next s c) p
      go (refused r) p ih = ih w (next s c) (subst (λ (z : Session). Held w z) (sym p) h)
