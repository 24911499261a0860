-- The pieces of a line: the places of a map one after the other, and an item's line.
-- Assumes nothing.
use mathlib.Core.Path.{◌≡◌, refl, sym, ap, ◌∙◌}
use mathlib.Core.List.{List, [], ◌∷◌, ◌++◌, append_assoc, append-nil}
use Prim.Native.Nat.{ℕ, ◌+◌, ◌<◌}
use native.Mathlib.Numerals.{add-one}
use lib.ListN.{length, get_or, take}
use lib.Seq.{take-suc}
use Rattle.lines.specs.Text.{decimal}
use Rattle.meaning.specs.Fraction.{Frac}
use Rattle.lines.specs.Lines.{yes_word, place, places, shown_map, degree_line, yes_line, item_line}

-- ---- the places from the second on

pub places-append : (xs ys : List ℕ) → places (xs ++ ys) ≡ places xs ++ places ys
unfolding places
places-append [] ys = refl
places-append (x ∷ xs) ys = ap (λ (z : List ℕ). (44 ∷ []) ++ place x ++ z) (places-append xs ys) ∙ ap (λ (z : List ℕ). 44 ∷ z) (sym (append_assoc (place x) (places xs) (places ys)))

pub places-one : (v : ℕ) → places (v ∷ []) ≡ (44 ∷ []) ++ place v
unfolding places
places-one v = ap (λ (z : List ℕ). 44 ∷ z) (append-nil (place v))

pub places-next : (m : List ℕ) (i : ℕ) → i < length m → places (take (i + 1) m) ≡ places (take i m) ++ ((44 ∷ []) ++ place (get_or m i 0))
places-next m i l =
    ap (λ (k : ℕ). places (take k m)) (add-one i) ∙ ap places (take-suc m i 0 l) ∙ places-append (take i m) (get_or m i 0 ∷ [])
    ∙ ap (λ (z : List ℕ). places (take i m) ++ z) (places-one (get_or m i 0))

-- ---- an item's line

pub degree-line : (i : ℕ) (d : Frac) (m : List ℕ)
    → degree_line i d m ≡ decimal i ++ (32 ∷ []) ++ decimal d.num ++ (47 ∷ []) ++ decimal d.den ++ (32 ∷ []) ++ shown_map m ++ (10 ∷ [])
unfolding degree_line
degree-line i d m = refl

pub yes-line : (i : ℕ) (m : List ℕ) → yes_line i m ≡ decimal i ++ yes_word ++ shown_map m ++ (10 ∷ [])
unfolding yes_line
yes-line i m = refl

pub item-line : (i : ℕ) (word : List ℕ) → item_line i word ≡ decimal i ++ word
unfolding item_line
item-line i word = refl
