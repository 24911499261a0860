-- The calls of a history one by one, as the program comes to them.
-- Assumes nothing.
use mathlib.Core.Path.{◌≡◌, refl, sym, ap, ◌∙◌}
use mathlib.Core.List.{List, [], ◌∷◌, map}
use Prim.Native.Nat.{ℕ, suc, ◌+◌, ◌/◌, ◌<◌}
use native.Mathlib.Omega.{arith}
use Rattle.std.proofs.Common.{add-one}
use lib.ListN.{length, get_or, drop}
use lib.Seq.{drop-cons, drop-length}
use Rattle.std.specs.Simd.{first_chunks}
use Rattle.meaning.specs.Session.{Call, Session, play}
use Rattle.session.specs.Calls.{Counted}
use Rattle.numbered.specs.Played.{Lent, Called, steps}
use Rattle.numbered.proofs.Played.{one-call}
use Rattle.history.specs.Histories.{call_in, calls_of}

-- ---- the calls of a history are those of its bytes, four and four

pub in-fours : (h : List ℕ) → map call_in (first_chunks 4 (length h / 4) h) ≡ calls_of h
unfolding calls_of
in-fours [] = refl
in-fours (k ∷ []) = refl
in-fours (k ∷ a ∷ []) = refl
in-fours (k ∷ a ∷ b ∷ []) = refl
in-fours (k ∷ a ∷ b ∷ c ∷ rest) =
    let n : length (k ∷ a ∷ b ∷ c ∷ rest) / 4 ≡ suc (length rest / 4) = omega arith in
    ap (λ (m : ℕ). map call_in (first_chunks 4 m (k ∷ a ∷ b ∷ c ∷ rest))) n ∙ ap (λ (z : List Call). call_in (k ∷ a ∷ b ∷ c ∷ []) ∷ z) (in-fours rest)

-- ---- what is still to be played

abbrev pub Playing : List (List ℕ) → Lent → ℕ → Lent → Type 0
Playing rows start i now = play (steps now) (map call_in (drop i rows)) ≡ play (steps start) (map call_in rows)

-- one more call
pub played-on : (rows : List (List ℕ)) (start now : Lent) (i : ℕ) (r : Counted) (then : Lent) → i < length rows → Playing rows start i now
    → Called now (call_in (get_or rows i [])) r then → Playing rows start (i + 1) then
unfolding play
played-on rows start now i r then few p done =
    let next : drop i rows ≡ get_or rows i [] ∷ drop (i + 1) rows = drop-cons rows i [] few ∙ ap (λ (k : ℕ). get_or rows i [] ∷ drop k rows) (sym (add-one i)) in
    ap (λ (z : Session). play z (map call_in (drop (i + 1) rows))) (one-call now _ r then done).1
    ∙ sym (ap (λ (z : List (List ℕ)). play (steps now) (map call_in z)) next) ∙ p

pub played-out : (h : List ℕ) (rows : List (List ℕ)) (start now : Lent) (i : ℕ) → rows ≡ first_chunks 4 (length h / 4) h → length rows ≡ i → Playing rows start i now
    → steps now ≡ play (steps start) (calls_of h)
unfolding play
played-out h rows start now i fours all p =
    let none : drop i rows ≡ [] = ap (λ (k : ℕ). drop k rows) (sym all) ∙ drop-length rows in
    sym (ap (λ (z : List (List ℕ)). play (steps now) (map call_in z)) none) ∙ p
    ∙ ap (λ (z : List Call). play (steps start) z) (ap (map call_in) fours ∙ in-fours h)
