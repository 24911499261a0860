-- The pieces of a listing: a plan of what is printed, and that whatever the promises of `plan` and `row` allow to be
-- printed is the listing (`pieces_are`): so any two results that they allow print the same (`one-listing`).
-- Assumes nothing.
use mathlib.Core.Path.{◌≡◌, sym, ap, ◌∙◌}
use mathlib.Core.List.{List, ◌++◌, append-nil}
use Prim.Native.Nat.{ℕ, ◌<◌}
use native.Mathlib.Omega.{arith}
use Rattle.std.specs.Prelude.{Err}
use Rattle.meaning.specs.declared.Refusal.{Refusal}
use Rattle.meaning.specs.Refusal.{Answer, good, refused}
use Rattle.fields.proofs.Once.{itself, once}
use Rattle.lines.specs.Lines.{refusal_line}
use Rattle.listing.specs.declared.Rest.TheVariants.{Nothing}
use Rattle.listing.specs.declared.Outline.{Outline}
use Rattle.listing.specs.Listing.{lines, printed, listing}
use Rattle.listing.specs.Pieces.{rows_in, row_in, Opens, Planning, Planned}
use Rattle.listing.proofs.Items.{lines_none, same_lines}

-- one line, and no row
pub opens-line : (image message : List ℕ) {line text : List ℕ} → line ≡ text → Opens image message text (record { first = line; rest = Nothing })
opens-line image message {line} {text} e = record {
  few = omega arith;
  of = tt;
  readable = tt;
  whole = sym e ∙ sym (append-nil line) ∙ ap (λ (z : List ℕ). line ++ z) (sym (lines_none (row_in Nothing)));
}

-- a refusal is all that is printed
pub opens-refused : (image message : List ℕ) (a : Answer (List ℕ)) (f : Refusal) {line : List ℕ} → Planning image message a (Err f) → line ≡ refusal_line f
    → Opens image message (printed a) (record { first = line; rest = Nothing })
opens-refused image message (good text) f o e = absurd o
opens-refused image message (refused g) f o e = opens-line image message (e ∙ ap refusal_line o)

-- ---- all that is printed

-- the row of each item
abbrev pub Pieces : Type 0
Pieces = ℕ → List ℕ

abbrev pub said : Outline → Pieces → List ℕ
said p rows = p.first ++ lines rows (rows_in p.rest)

-- what the promises of `plan` and `row` allow
abbrev pub Allowed : List ℕ → Outline → Pieces → Type 0
Allowed s p rows = Planned s p × ((i : ℕ) → i < rows_in p.rest → rows i ≡ row_in p.rest i)

pub pieces_are : (s : List ℕ) (p : Outline) (rows : Pieces) → Allowed s p rows → said p rows ≡ listing s
pieces_are s p rows (plan, each) = ap (λ (t : List ℕ). p.first ++ t) (same_lines rows (row_in p.rest) (rows_in p.rest) each) ∙ sym plan.opens.whole

pub one-listing : (s : List ℕ) (p p' : Outline) (rows rows' : Pieces) → Allowed s p rows → Allowed s p' rows' → said p rows ≡ said p' rows'
one-listing s p p' rows rows' x y = once (λ (z : List ℕ). z) itself (listing s) _ _ (pieces_are s p rows x) (pieces_are s p' rows' y)
