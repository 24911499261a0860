-- The calls themselves, one after another: whatever results their promises allow, one result each (`one-result`), they follow meaning's history on
-- the steps that the numbers of the log code (`follows`). So demand 3 holds of them (`demand-3`), and an accepted edit that has something to change
-- changes the image, the first and each later one (`edit-moves`), and so does an undo (`undo-moves`).
-- Assumes nothing.
use mathlib.Core.Path.{◌≡◌, refl, sym, ap, ap₂, ◌∙◌}
use mathlib.Core.List.{List, [], ◌∷◌, map}
use Prim.Native.Nat.{ℕ, ◌-◌}
use lib.ListN.{length, get_or, length-map}
use Rattle.meaning.specs.declared.Step.{Step}
use Rattle.meaning.specs.Refusal.{Answer, good}
use Rattle.meaning.specs.Register.{Register, is_fact, read_buffer}
use Rattle.meaning.specs.Session.{Edit, Changed, Call, opens, edits, undoes, keeps, edit_call, undo_call, keep_call, no_steps, counted, buffer_after, log_after, image_of}
use Rattle.meaning.specs.Session.{Session, last_step, answer, buffer, log, count_after, next, play, kept_if, accepted, Standing, nothing, told, standing, standing_facts}
use Rattle.meaning.specs.Demand3.{Shows}
use Rattle.std.specs.Prelude.{Ok}
use Rattle.numbered.specs.Coded.{decoded}
use Rattle.session.specs.Calls.{Counted, paper_count}
use Rattle.numbered.specs.Played.{Lent, lent, steps, Promised, Called, Result, Played, calls, taken}
use Rattle.fields.proofs.Once.{once}
use Rattle.session.proofs.Promise.{count-told}
use Rattle.numbered.proofs.Codes.{last-decoded, log-decoded}
use Rattle.session.proofs.Followed.{shows, edit-moved, undo-moved}

-- ---- any two results that a promise allows are equal

same-lent : {b c l m : List ℕ} {i j : ℕ} → b ≡ c → l ≡ m → i ≡ j → lent b l i ≡ lent c m j
same-lent e f g = cc

-- what is handed back, and all that is lent afterwards
pub one-result : (s : Lent) (c : Call) (r q : Counted) (t u : Lent) → Called s c r t → Called s c q u → (r ≡ q) × (t ≡ u)
one-result s c r q t u h k = go c h.promised k.promised
  where
    same : {a : Answer ℕ} {b l : List ℕ} → paper_count r ≡ a → t.buffer ≡ b → t.log ≡ l → paper_count q ≡ a → u.buffer ≡ b → u.log ≡ l → (r ≡ q) × (t ≡ u)
    same a b l x y z =
        let e = once paper_count count-told _ r q a x in
        let n = h.handed ∙ ap (λ (v : Counted). count_after s.count (paper_count v)) e ∙ sym k.handed in
        (e, same-lent (b ∙ sym y) (l ∙ sym z) n)

    go : (c : Call) → Promised s c r t → Promised s c q u → (r ≡ q) × (t ≡ u)
    go opens x y = same x.0 x.1 x.2 y.0 y.1 y.2
    go (edits e) x y = same x.0 x.1 x.2 y.0 y.1 y.2
    go undoes x y = same x.0 x.1 x.2 y.0 y.1 y.2
    go keeps x y = same x.0 x.1 x.2 y.0 y.1 y.2

-- ---- the calls follow meaning's

same-session : {b c : List ℕ} {l m : List Step} {i j : ℕ} → b ≡ c → l ≡ m → i ≡ j
    → ◌≡◌ {A = Session} (record { buffer = b; log = l; count = i }) (record { buffer = c; log = m; count = j })
same-session e f g = cc

-- one call: its answer is meaning's, and so is what is lent afterwards
pub one-call : (s : Lent) (c : Call) (r : Counted) (t : Lent) → Called s c r t → (paper_count r ≡ answer (steps s) c) × (steps t ≡ next (steps s) c)
unfolding next answer buffer log
one-call s c r t h = go c h.promised
  where
    many : length s.log ≡ length (map decoded s.log)
    many = sym (length-map s.log decoded)

    last : decoded (get_or s.log (s.count - 1) 0) ≡ last_step (steps s)
    last = sym (last-decoded s.log (s.count - 1))

    edit : Edit → ℕ → Answer Changed
    edit e n = edit_call s.buffer n s.count e

    undo : ℕ → Step → Answer Changed
    undo n z = undo_call s.buffer n s.count z

    done : (c : Call) → paper_count r ≡ answer (steps s) c → t.buffer ≡ buffer (steps s) c → map decoded t.log ≡ log (steps s) c
        → (paper_count r ≡ answer (steps s) c) × (steps t ≡ next (steps s) c)
    done c a b l = (a, same-session b l (h.handed ∙ ap (count_after s.count) a))

    go : (c : Call) → Promised s c r t → (paper_count r ≡ answer (steps s) c) × (steps t ≡ next (steps s) c)
    go opens p = done opens p.0 p.1 (ap (map decoded) p.2)
    go (edits e) p =
        done (edits e) (p.0 ∙ ap (λ (n : ℕ). counted (edit e n)) many) (p.1 ∙ ap (λ (n : ℕ). buffer_after s.buffer (edit e n)) many)
        (ap (map decoded) p.2 ∙ log-decoded s.buffer s.log h.bytes s.count e.fact e.adds
        ∙ ap (λ (n : ℕ). log_after (map decoded s.log) s.count e.fact (edit e n)) many)
    go undoes p =
        done undoes (p.0 ∙ ap₂ (λ (n : ℕ) (z : Step). counted (undo n z)) many last)
        (p.1 ∙ ap₂ (λ (n : ℕ) (z : Step). buffer_after s.buffer (undo n z)) many last) (ap (map decoded) p.2)
    go keeps p = done keeps (p.0 ∙ ap (λ (n : ℕ). no_steps (keep_call s.buffer n s.count)) many) p.1 (ap (map decoded) p.2)

-- ---- any calls

pub follows : (xs : List Result) (s t : Lent) → Played s xs t
    → (steps t ≡ play (steps s) (calls xs)) × (taken xs ≡ accepted (steps s) (calls xs))
unfolding Played taken play accepted
follows [] s t p = (ap steps p, refl)
follows (x ∷ xs) s t p =
    let u = p.0 in
    let one = one-call s x.call x.answer u p.1 in
    let ih = follows xs u t p.2 in (
      ih.0 ∙ ap (λ (z : Session). play z (calls xs)) one.1,
      ap₂ (λ (a : Answer ℕ) (cs : List Call). kept_if a x.call cs) one.0 (ih.1 ∙ ap (λ (z : Session). accepted z (calls xs)) one.1),
    )

-- ---- demand 3, from an opened register on: the first call is an opening, the others are any, refused ones among them

module _ (s t : Lent) (g : Register) (r : read_buffer s.buffer ≡ good g) (a : Counted) (xs : List Result)
    (p : Played s (record { call = opens; answer = a } ∷ xs) t) where
  -- what stands of these calls, by what they handed back
  abbrev pub stands : Standing
  stands = standing nothing (taken (record { call = opens; answer = a } ∷ xs))

  follow : (steps t ≡ play (steps s) (opens ∷ calls xs)) × (taken (record { call = opens; answer = a } ∷ xs) ≡ accepted (steps s) (opens ∷ calls xs))
  follow = follows (record { call = opens; answer = a } ∷ xs) s t p

  pub demand-3 : Shows (length g.names) (standing_facts stands (is_fact g)) t.buffer
  unfolding Played
  demand-3 = shows (steps s) (steps t) g p.1.bytes r (calls xs) _ follow.0 follow.1

  -- An accepted edit that leaves the image as it was had nothing to change; so had an undo's edit. So neither an image that never changes nor an undo
  -- that does nothing keeps the promises, nor a session that applies its first edit and only counts the rest: `xs` may hold any edits.
  pub edit-moves : (e : Edit) (n : ℕ) (u : Lent) → Called t (edits e) (Ok n) u → image_of u.buffer ≡ image_of t.buffer
      → standing_facts stands (is_fact g) e.fact ≡ e.adds
  unfolding Played
  edit-moves e n u h i =
      let one = one-call t (edits e) (Ok n) u h in
      edit-moved (steps s) (steps t) g p.1.bytes r (calls xs) _ follow.0 follow.1 n (steps u) i e one.0 one.1

  pub undo-moves : (e : Edit) (es : List Edit) (n : ℕ) (u : Lent) → stands.trial ≡ e ∷ es → Called t undoes (Ok n) u
      → image_of u.buffer ≡ image_of t.buffer → standing_facts (told stands undoes) (is_fact g) e.fact ≡ e.adds
  unfolding Played
  undo-moves e es n u d h i =
      let one = one-call t undoes (Ok n) u h in
      undo-moved (steps s) (steps t) g p.1.bytes r (calls xs) _ follow.0 follow.1 n (steps u) i e es d one.0 one.1
