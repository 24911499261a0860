-- From what was worked out for all items to one item's row: of an item in service the number over the scale in lowest terms is the call's answer, and
-- the map drawn is its map; for a withdrawn one the call is refused, and its row says so.
-- Assumes nothing.
use mathlib.Core.Path.{◌≡◌, sym, ap, ap₂, subst, ◌∙◌}
use mathlib.Core.Bool.{Bool, true, false}
use mathlib.Core.List.{List}
use mathlib.Core.Option.{some}
use Prim.Native.Nat.{ℕ, ◌≤◌, ◌<◌}
use native.Mathlib.Omega.{arith}
use lib.ListN.{length, get_or, take, length-map}
use lib.Seq.{length-sets}
use Rattle.meaning.specs.Bounds.{most_nodes}
use Rattle.meaning.specs.Tree.{nodes}
use Rattle.meaning.specs.Register.{Register, withdrawn, judged}
use Rattle.meaning.specs.Fraction.{Frac, ◌÷◌, lowest}
use Rattle.meaning.specs.Degree.{answered}
use Rattle.meaning.specs.Shown.{degree_map, shown, mark_number}
use Rattle.meaning.specs.Calls.{degree_call}
use Rattle.meaning.proofs.Rows.{holds-nodes}
use Rattle.meaning.proofs.Kept.{shown-length}
use Rattle.meaning.proofs.InPlace.{scale_in_lem, degree-in}
use Rattle.meaning.proofs.Asked.{Asks}
use Rattle.meaning.proofs.Agreeing.{answered-agrees, degree_map-agrees}
use Rattle.register.specs.Image.{Image}
use Rattle.graph.specs.Walked.{walked}
use Rattle.graph.proofs.Walked.{Serves, walked-judged}
use Rattle.folds.specs.Folded.{row_at}
use Rattle.degrees.specs.Notes.{Noted}
use Rattle.degrees.proofs.Folding.{scale-in-pos}
use Rattle.shown.specs.Given.{drawn, Drawing}
use Rattle.lines.specs.Lines.{degree_line, withdrawn_line}
use Rattle.lines.specs.Entries.{degree_row}
use Rattle.lines.proofs.Begins.{front}
use Rattle.lines.proofs.Entries.{degree-out}
use Rattle.lines.proofs.Entries.{degree-in as degree-call}
use Rattle.rows.specs.declared.Reduced.{Reduced}
use Rattle.graph.specs.declared.Indexed.{Indexed}
use Rattle.std.specs.Prelude.{Some}
use Rattle.ratings.specs.declared.Ratings.{Ratings}
use Rattle.ratings.specs.Rated.{Rated}

module _ {on : Indexed} {of : Reduced} {message notes : List ℕ} {r : Ratings} (w : Rated on of message notes r) where
  abbrev image : List ℕ
  image = on.image.now

  abbrev ends : List ℕ
  ends = of.tree.ends

  abbrev pub g : Register
  g = w.posed.graph.register

  pub ended : get_or ends 0 0 ≡ nodes w.tree
  ended = omega (arith, holds-nodes w.names w.roles ends w.tree 17 0 _ w.posed.held)

  pub few : get_or ends 0 0 ≤ most_nodes
  few = w.posed.few

  pub positive : 0 < r.scale
  positive = rw w.graded.scaled (scale-in-pos w.tree)

  module _ (item : ℕ) (l : item < on.items) where
    pub noted-at : (x : ℕ) → Some item ≡ Some x → Noted ends of.marks g notes w.tree 0 x
    noted-at x e = let z : item ≡ x = cc in subst (Noted ends of.marks g notes w.tree 0) z (w.graded.noted item l)

    -- what is to be drawn for the item
    abbrev pub drawing : Drawing on of notes 0 17 (Some item)
    drawing = record {
      names = w.names;
      roles = w.roles;
      tree = w.tree;
      posed = w.posed;
      marked = w.marked;
      places = w.places;
      inside = l;
      noted = noted-at;
    }

    -- a withdrawn item's row, where the test for it holds
    pub out-row : {b : Bool} → Image image (λ z. b ≡ withdrawn z item) → b ≡ true → degree_row item (degree_call image message item most_nodes) ≡ withdrawn_line item
    out-row told h =
        ap (degree_row item) (degree-out image message g w.whole item w.tree w.wanted (omega (arith, w.posed.graph.items-are))
        (sym (told g w.posed.graph.read) ∙ h))

    map-long : length (degree_map (walked g) w.tree item) ≡ get_or ends 0 0
    map-long = length-map (shown (walked g) w.tree (some item)) mark_number ∙ shown-length (walked g) w.tree (some item) ∙ sym ended

    module _ (old new : List ℕ) (room : most_nodes ≤ length old)
        (shows : (k : Drawing on of notes 0 17 (Some item)) → new ≡ drawn k.posed.graph.register k.tree 0 (Some item) old)
        (k : ℕ) (ek : k ≡ get_or ends 0 0) where
      -- the places at the front are the item's map
      map_is : take k new ≡ degree_map (walked g) w.tree item
      map_is =
          ap (take k) (shows drawing) ∙ front old (degree_map (walked g) w.tree item) k (map-long ∙ sym ek) (omega (arith, ek, few))

      pub map-fits : (k ≤ length new) × (k ≤ most_nodes) × (k ≡ length (take k new))
      map-fits =
          let long : length new ≡ length old = ap length (shows drawing) ∙ length-sets old 0 (degree_map (walked g) w.tree item) in
          (omega (arith, ek, few, long), omega (arith, ek, few), ek ∙ sym (ap length map_is ∙ map-long))

      -- the row of an item in service: there the graph that is walked is the one that is judged
      pub row_is : {b : Bool} → Image image (λ z. b ≡ withdrawn z item) → b ≡ false
          → (n num den : ℕ) → n ≡ row_at r.numbers 512 item → (num ≡ (lowest (n ÷ r.scale)).num) × (den ≡ (lowest (n ÷ r.scale)).den)
          → degree_row item (degree_call image message item most_nodes) ≡ degree_line item (num ÷ den) (take k new)
      row_is told h n num den en low =
          let serves : Serves g item = sym (told g w.posed.graph.read) ∙ h in
          let asks : Asks g item = record { inside = omega (arith, w.posed.graph.items-are); serves = serves } in
          let same : lowest (n ÷ r.scale) ≡ answered (walked g) w.tree item =
          ap₂ (λ (x y : ℕ). lowest (x ÷ y)) (en ∙ w.graded.numbered item l ∙ sym (degree-in (walked g) w.tree item)) (w.graded.scaled ∙ sym (scale_in_lem w.tree)) in
          let fraction : (num ÷ den) ≡ answered (judged g) w.tree item = ap₂ ◌÷◌ low.0 low.1 ∙ same ∙ answered-agrees (walked-judged g) w.tree item serves in
          let map : take k new ≡ degree_map (judged g) w.tree item = map_is ∙ degree_map-agrees (walked-judged g) w.tree item serves in
          ap (degree_row item) (degree-call image message g w.whole item w.tree w.wanted asks (omega (arith, ended, few)))
          ∙ ap₂ (λ (d : Frac) (m : List ℕ). degree_line item d m) (sym fraction) (sym map)
