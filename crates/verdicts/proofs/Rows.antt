-- From the table to an item's row: what the yes/no call answers for an item in service, and the places of its map; for a withdrawn one it is refused,
-- and the row says so.
-- Assumes nothing.
use mathlib.Core.Path.{◌≡◌, sym, ap, ap₂, ◌∙◌}
use mathlib.Core.Bool.{Bool, true, false}
use mathlib.Core.List.{List}
use Prim.Native.Nat.{ℕ, ◌≤◌, ◌<◌}
use native.Mathlib.Omega.{arith}
use lib.ListN.{length, get_or, take}
use lib.Seq.{sets, length-sets}
use Rattle.meaning.specs.Bounds.{most_nodes}
use Rattle.meaning.specs.Refusal.{good}
use Rattle.meaning.specs.Tree.{nodes}
use Rattle.meaning.specs.Register.{Register, withdrawn}
use Rattle.meaning.specs.Requirement.{Requirement, fulfils, member}
use Rattle.meaning.specs.Shown.{yes_map}
use Rattle.meaning.specs.Calls.{decide, member_call}
use Rattle.meaning.proofs.Tests.{holds}
use Rattle.meaning.proofs.YesShown.{yes-shows}
use Rattle.meaning.proofs.Agreeing.{member-agrees, yes_map-agrees}
use Rattle.register.specs.Image.{Image}
use Rattle.rows.specs.declared.Tree.{Tree}
use Rattle.graph.specs.declared.sets.Items.{Items}
use Rattle.graph.specs.declared.Indexed.{Indexed}
use Rattle.graph.specs.Walked.{walked}
use Rattle.graph.proofs.Use.{one-register}
use Rattle.graph.proofs.Walked.{Serves, walked-judged}
use Rattle.screening.specs.declared.Wanted.{Wanted}
use Rattle.trails.specs.Cells.{cell}
use Rattle.trails.specs.Charted.{Charted}
use Rattle.trails.proofs.Trail.{holds-nodes}
use Rattle.meeting.specs.Required.{Required}
use Rattle.deciding.specs.BothRead.{BothRead}
use Rattle.lines.specs.Lines.{yes_line, no_line, withdrawn_line}
use Rattle.lines.specs.Entries.{member_row}
use Rattle.lines.proofs.Begins.{front, empty_map}
use Rattle.lines.proofs.Entries.{member-out, member-in}
use Rattle.verdicts.specs.Told.{Tabled, Told}

-- the index is of the register that was read
pub told : {image message packed : List ℕ} {items links parts : ℕ} {on : Indexed} {wanted : Wanted} {met : List Items}
    (k : BothRead image items links message packed parts) → on.image.now ≡ image → (r : Required on wanted 0 17) → k.requirement ≡ r.tree
    → Tabled (walked r.posed.graph.register) r.tree on.items wanted.tree.ends met → Told on message wanted.tree met
told k image-is r e t = record {
  requirement = r.tree;
  places = k.places;
  wanted = k.wanted ∙ ap (λ (q : Requirement). good (q, k.places)) e;
  posed = r.posed;
  whole = rw image-is (k.whole ∙ ap good (sym (one-register r.posed.graph k.posed.graph.register (rw image-is k.posed.graph.read))));
  table = t;
}

module _ {on : Indexed} {message : List ℕ} {rows : Tree} {met : List Items} (k : Told on message rows met) where
  abbrev g : Register
  g = k.posed.graph.register

  abbrev q : Requirement
  q = k.requirement

  -- the rows are as many as the nodes
  ended : get_or rows.ends 0 0 ≡ nodes q
  ended = omega (arith, holds-nodes rows.names rows.roles rows.ends q 17 0 (get_or rows.ends 0 0) k.posed.held)

  module _ {item : ℕ} (l : item < on.items) where
    inside : item < length g.names
    inside = omega (arith, l, k.posed.graph.items-are)

    -- a withdrawn item's row, where the test for it holds
    pub out-row : {b : Bool} → Image on.image.now (λ r. b ≡ withdrawn r item) → b ≡ true → member_row item (member_call on.image.now message item most_nodes) ≡ withdrawn_line item
    out-row told h =
        ap (member_row item) (member-out on.image.now message g k.whole item q k.places k.wanted inside (sym (told g k.posed.graph.read) ∙ h))

    -- where it does not, b is what the first row says of the item
    module _ {w b : Bool} (out : Image on.image.now (λ r. w ≡ withdrawn r item)) (in-service : w ≡ false) (e : b ≡ cell met 0 item) where
      serves : Serves g item
      serves = sym (out g k.posed.graph.read) ∙ in-service

      pub says : b ≡ member (walked g) q item
      says = e ∙ k.table.each item l

      -- at an item in service the graph that is walked is the one that is judged
      its : (c : Bool) → b ≡ c → member_call on.image.now message item most_nodes ≡ good (decide c (yes_map (walked g) q item))
      its c d =
          member-in on.image.now message g k.whole item q k.places k.wanted (record { inside = inside; serves = serves })
          (omega (arith, ended, k.posed.few))
          ∙ ap₂ (λ (z : Bool) (m : List ℕ). good (decide z m)) (sym (member-agrees (walked-judged g) q item serves) ∙ sym says ∙ d)
          (sym (yes_map-agrees (walked-judged g) q item serves))

      -- where the test for a no holds, and where it does not
      pub no_row : b ≡ false → member_row item (member_call on.image.now message item most_nodes) ≡ no_line item
      no_row e₀ = ap (member_row item) (its false e₀)

      module _ (yes : b ≡ true) where
        abbrev pub charted : Charted on rows met 0 17 item
        charted = record { tree = q; posed = k.posed; right = k.table.right item (sym e ∙ yes); inside = l; yes = sym says ∙ yes }

        -- the first places of the map are its own
        pub yes-row : {map : List ℕ} {j : ℕ}
            → ((c : Charted on rows met 0 17 item) → map ≡ sets empty_map 0 (yes_map (walked c.posed.graph.register) c.tree item))
            → j ≡ get_or rows.ends 0 0
            → (member_row item (member_call on.image.now message item most_nodes) ≡ yes_line item (take j map)) × (j ≤ length map) × (j ≤ most_nodes) × (j ≡ length (take j map))
        yes-row {map} {j} w en =
            let m = yes_map (walked g) q item in
            let long : length m ≡ j = (yes-shows (fulfils (walked g)) (walked g) q item (holds (sym says ∙ yes))).long ∙ sym (en ∙ ended) in
            let fits : j ≤ most_nodes = omega (arith, en, k.posed.few) in
            let shown : take j map ≡ m = ap (λ (z : List ℕ). take j z) (w charted) ∙ front empty_map m j long fits in (
              ap (member_row item) (its true yes) ∙ ap (yes_line item) (sym shown),
              omega (arith, fits, ap length (w charted) ∙ length-sets empty_map 0 m),
              fits,
              sym (ap length shown ∙ long),
            )
