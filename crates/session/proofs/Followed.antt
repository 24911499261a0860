-- What both faces conclude of calls that follow meaning's history: demand 3 (`shows`), and that an accepted edit or undo that has something to change
-- changes the image (`edit-moved`, `undo-moved`).
-- Assumes nothing.
use mathlib.Core.Path.{◌≡◌, sym, ap, ◌∙◌, subst}
use mathlib.Core.List.{List, ◌∷◌}
use Prim.Native.Nat.{ℕ}
use lib.ListN.{length}
use Rattle.meaning.specs.Refusal.{good}
use Rattle.meaning.specs.Bytes.{Bytes}
use Rattle.meaning.specs.Register.{Register, is_fact, read_buffer}
use Rattle.meaning.specs.Session.{Edit, Session, Call, opens, edits, undoes, image_of, answer, next, play, accepted, Standing, nothing, told, standing, standing_facts}
use Rattle.meaning.specs.Demand3.{Shows}
use Rattle.meaning.proofs.Demand3 as meant

-- s is opened, and then cs are called; t is what they leave, and `taken` are the calls that their results say were accepted
module _ (s t : Session) (g : Register) (b : Bytes s.buffer) (r : read_buffer s.buffer ≡ good g) (cs taken : List Call)
    (left : t ≡ play s (opens ∷ cs)) (kept : taken ≡ accepted s (opens ∷ cs)) where
  abbrev stands : Standing
  stands = standing nothing taken

  pub shows : Shows (length g.names) (standing_facts stands (is_fact g)) t.buffer
  shows =
      subst (λ (xs : List Call). Shows (length g.names) (standing_facts (standing nothing xs) (is_fact g)) t.buffer) (sym kept)
      (subst (λ (z : Session). Shows (length g.names) (standing_facts (standing nothing (accepted s (opens ∷ cs))) (is_fact g)) z.buffer)
      (sym left) (meant.demand-3 s g b r cs))

  -- one call more, which answers n and leaves u
  module _ (n : ℕ) (u : Session) (i : image_of u.buffer ≡ image_of t.buffer) where
    same_answer : (c : Call) → good n ≡ answer t c → answer (play s (opens ∷ cs)) c ≡ good n
    same_answer c a = ap (λ (z : Session). answer z c) (sym left) ∙ sym a

    same-image : (c : Call) → u ≡ next t c → image_of (next (play s (opens ∷ cs)) c).buffer ≡ image_of (play s (opens ∷ cs)).buffer
    same-image c e =
        ap (λ (z : Session). image_of (next z c).buffer) (sym left) ∙ sym (ap (λ (z : Session). image_of z.buffer) e) ∙ i
        ∙ ap (λ (z : Session). image_of z.buffer) left

    pub edit-moved : (e : Edit) → good n ≡ answer t (edits e) → u ≡ next t (edits e) → standing_facts stands (is_fact g) e.fact ≡ e.adds
    edit-moved e a d =
        ap (λ (xs : List Call). standing_facts (standing nothing xs) (is_fact g) e.fact) kept
        ∙ meant.edit-moves s g b r cs e n (same_answer (edits e) a) (same-image (edits e) d)

    pub undo-moved : (e : Edit) (es : List Edit) → stands.trial ≡ e ∷ es → good n ≡ answer t undoes → u ≡ next t undoes
        → standing_facts (told stands undoes) (is_fact g) e.fact ≡ e.adds
    undo-moved e es f a d =
        ap (λ (xs : List Call). standing_facts (told (standing nothing xs) undoes) (is_fact g) e.fact) kept
        ∙ meant.undo-moves s g b r cs e es n (ap (λ (xs : List Call). (standing nothing xs).trial) (sym kept) ∙ f) (same_answer undoes a) (same-image undoes d)
