-- The calls from C, one after another: whatever numbers their promises allow, what a caller reads in them follows meaning's history on the steps that the
-- numbers of the log code. So demand 3 holds of them (`demand-3`), and an accepted edit, or undo, that has something to change changes the image.
-- Assumes nothing.
use mathlib.Core.Path.{◌≡◌, refl, ap, ◌∙◌}
use mathlib.Core.List.{List, [], ◌∷◌, map}
use Prim.Native.Nat.{ℕ}
use lib.ListN.{length}
use Rattle.meaning.specs.declared.Side.{Side}
use Rattle.meaning.specs.declared.Side.TheVariants.{Register as register, Requirement as requirement, Call as call}
use Rattle.meaning.specs.Refusal.{Answer, good, refused, at}
use Rattle.meaning.specs.Register.{Register, is_fact, read_buffer}
use Rattle.meaning.specs.Session.{Edit, Call, opens, edits, undoes, keeps, image_of, Standing, nothing, told, standing, standing_facts}
use Rattle.meaning.specs.Demand3.{Shows}
use Rattle.session.specs.Calls.{paper_count}
use Rattle.numbered.specs.Played.{Lent, taken}
use Rattle.numbered.specs.Played.{Promised as PromisedThere, Called as CalledThere, Played as PlayedThere}
use Rattle.numbered.proofs.Played.{demand-3 as demand-3-there, edit-moves as edit-moves-there, undo-moves as undo-moves-there}
use Rattle.answers.specs.Numbers.{four, side_number, numbers, in_use}
use Rattle.svelgandur.specs.Played.{side_of, heard, Promised, Called, Numbers, hear, Played}

-- ---- the numbers say what was answered

side-heard : (s : Side) → side_of (side_number s) ≡ s
side-heard register = refl
side-heard requirement = refl
side-heard call = refl

heard-is : (x : Answer ℕ) → paper_count (heard (numbers in_use x)) ≡ x
heard-is (good n) = refl
heard-is (refused r) = ap (λ (s : Side). refused (at s r.number r.place)) (side-heard r.side)

hears : {l : List ℕ} {x : Answer ℕ} → l ≡ numbers in_use x → paper_count (heard l) ≡ x
hears {x = x} e = ap (λ (z : List ℕ). paper_count (heard z)) e ∙ heard-is x

-- ---- so the promise from C is the promise of the face below it

promised-there : (s : Lent) (c : Call) (l : List ℕ) (t : Lent) → Promised s c l t → PromisedThere s c (heard l) t
promised-there s opens l t p = (hears p.0.0, p.0.1, p.1)
promised-there s (edits e) l t p = (hears p.0, p.1, p.2)
promised-there s undoes l t p = (hears p.0.0, p.0.1, p.1)
promised-there s keeps l t p = (hears p.0, p.1, p.2)

called-there : (s : Lent) (c : Call) (l : List ℕ) (t : Lent) → Called s c l t → CalledThere s c (heard l) t
called-there s c l t h = record { bytes = h.bytes; promised = promised-there s c l t h.promised; handed = h.handed }

pub played-there : (xs : List Numbers) (s t : Lent) → Played s xs t → PlayedThere s (map hear xs) t
unfolding Played PlayedThere
played-there [] s t p = p
played-there (x ∷ xs) s t p = (p.0, called-there s x.call x.answer p.0 p.1, played-there xs p.0 t p.2)

-- ---- demand 3, from an opened register on: the first call is an opening, the others are any, refused ones among them

module _ (s t : Lent) (g : Register) (r : read_buffer s.buffer ≡ good g) (l : List ℕ) (xs : List Numbers)
    (p : Played s (record { call = opens; answer = l } ∷ xs) t) where
  -- what stands of these calls, by the numbers that they wrote
  abbrev pub stands : Standing
  stands = standing nothing (taken (map hear (record { call = opens; answer = l } ∷ xs)))

  there : PlayedThere s (map hear (record { call = opens; answer = l } ∷ xs)) t
  there = played-there (record { call = opens; answer = l } ∷ xs) s t p

  pub demand-3 : Shows (length g.names) (standing_facts stands (is_fact g)) t.buffer
  demand-3 = demand-3-there s t g r (heard l) (map hear xs) there

  pub edit-moves : (e : Edit) (n : ℕ) (u : Lent) → Called t (edits e) (four 1 n 0 0) u → image_of u.buffer ≡ image_of t.buffer
      → standing_facts stands (is_fact g) e.fact ≡ e.adds
  edit-moves e n u h i = edit-moves-there s t g r (heard l) (map hear xs) there e n u (called-there t (edits e) (four 1 n 0 0) u h) i

  pub undo-moves : (e : Edit) (es : List Edit) (n : ℕ) (u : Lent) → stands.trial ≡ e ∷ es → Called t undoes (four 1 n 0 0) u
      → image_of u.buffer ≡ image_of t.buffer → standing_facts (told stands undoes) (is_fact g) e.fact ≡ e.adds
  undo-moves e es n u d h i = undo-moves-there s t g r (heard l) (map hear xs) there e es n u d (called-there t undoes (four 1 n 0 0) u h) i
