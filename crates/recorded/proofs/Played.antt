-- The calls themselves over a log of step records, one after another: whatever results their promises allow, one result each (`one-result`), they
-- follow meaning's history (`follows`). So demand 3 holds of them (`demand-3`), and an accepted edit that has something to change changes the image,
-- the first and each later one (`edit-moves`), and so does an undo (`undo-moves`). Nothing is assumed of the log and the count that are lent.
-- Assumes nothing.
use mathlib.Core.Path.{◌≡◌, refl, ap, ap₂, ◌∙◌}
use mathlib.Core.List.{List, [], ◌∷◌}
use Prim.Native.Nat.{ℕ}
use lib.ListN.{length}
use Rattle.meaning.specs.declared.Step.{Step}
use Rattle.meaning.specs.Refusal.{Answer, good}
use Rattle.meaning.specs.Bytes.{Bytes}
use Rattle.meaning.specs.Register.{Register, is_fact, read_buffer}
use Rattle.meaning.specs.Session.{Edit, Session, Call, opens, edits, undoes, image_of, answer, next, play, kept_if, accepted}
use Rattle.meaning.specs.Session.{Standing, nothing, told, standing, standing_facts}
use Rattle.meaning.specs.Demand3.{Shows}
use Rattle.recorded.specs.declared.held.Held.{Held}
use Rattle.std.specs.Prelude.{Ok}
use Rattle.session.specs.Calls.{Counted, paper_count}
use Rattle.recorded.specs.Played.{session, Promised, Played, calls, taken}
use Rattle.session.proofs.Followed.{shows, edit-moved, undo-moved}
use Rattle.fields.proofs.Once.{once-left}
use Rattle.session.proofs.Promise.{count-told}

-- any two results that a promise allows are equal: what is handed back, and all that is lent afterwards
pub one-result : (s : Session) (c : Call) (r q : Counted) (t u : Session) → Promised s c r t → Promised s c q u → (r ≡ q) × (t ≡ u)
one-result s c = once-left paper_count count-told (answer s c) (next s c)

-- where the log is held by value, the log that is handed back among it
pub one-held : (s : Session) (c : Call) (r q : Held) (t u : List ℕ) (m n : ℕ)
    → Promised s c r.answer (session t r.log m) → Promised s c q.answer (session u q.log n) → (r ≡ q) × (t ≡ u)
one-held s c r q t u m n h k =
    let e = one-result s c r.answer q.answer (session t r.log m) (session u q.log n) h k in
    let l : r.log ≡ q.log = ap (λ (z : Session). z.log) e.1 in
    let both : r ≡ q = ap₂ (λ (x : List Step) (y : Counted). record { log = x; answer = y }) l e.0 in
    (both, ap (λ (z : Session). z.buffer) e.1)

-- any calls: what they leave, and which were accepted
pub follows : (s : Session) (hs : List (Call × Counted)) (t : Session) → Played s hs t → (t ≡ play s (calls hs)) × (taken hs ≡ accepted s (calls hs))
unfolding Played taken play accepted
follows s [] t p = (p, refl)
follows s (h ∷ hs) t p =
    let one = p.1 in
    let rest = follows p.0 hs t p.2 in (
      rest.0 ∙ ap (λ (z : Session). play z (calls hs)) one.1,
      ap₂ (λ (a : Answer ℕ) (cs : List Call). kept_if a h.0 cs) one.0 (rest.1 ∙ ap (λ (z : Session). accepted z (calls hs)) one.1),
    )

-- ---- demand 3, from an opened register on: the first call is an opening, the others are any, refused ones among them

module _ (s t : Session) (g : Register) (b : Bytes s.buffer) (r : read_buffer s.buffer ≡ good g) (a : Counted) (hs : List (Call × Counted))
    (p : Played s ((opens, a) ∷ hs) t) where
  -- what stands of these calls, by what they handed back
  abbrev pub stands : Standing
  stands = standing nothing (taken ((opens, a) ∷ hs))

  follow : (t ≡ play s (opens ∷ calls hs)) × (taken ((opens, a) ∷ hs) ≡ accepted s (opens ∷ calls hs))
  follow = follows s ((opens, a) ∷ hs) t p

  -- the buffer shows the facts of the edits that were accepted and not taken back
  pub demand-3 : Shows (length g.names) (standing_facts stands (is_fact g)) t.buffer
  demand-3 = shows s t g b r (calls hs) _ follow.0 follow.1

  -- An accepted edit that leaves the image as it was had nothing to change; so had an undo's edit. So neither an image that never changes nor an undo
  -- that does nothing keeps the promises, nor a session that applies its first edit and only counts the rest: `hs` may hold any edits.
  pub edit-moves : (e : Edit) (n : ℕ) (u : Session) → Promised t (edits e) (Ok n) u → image_of u.buffer ≡ image_of t.buffer
      → standing_facts stands (is_fact g) e.fact ≡ e.adds
  edit-moves e n u h i =
      edit-moved s t g b r (calls hs) _ follow.0 follow.1 n u i e h.0 h.1

  pub undo-moves : (e : Edit) (es : List Edit) (n : ℕ) (u : Session) → stands.trial ≡ e ∷ es → Promised t undoes (Ok n) u
      → image_of u.buffer ≡ image_of t.buffer → standing_facts (told stands undoes) (is_fact g) e.fact ≡ e.adds
  undo-moves e es n u d h i =
      undo-moved s t g b r (calls hs) _ follow.0 follow.1 n u i e es d h.0 h.1
