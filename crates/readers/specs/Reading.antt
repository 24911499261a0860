-- What the readers of a message ask and leave, over meaning's reading. A reader starts at a spot: the next byte, the nodes of this tree so far and
-- the thresholds of the message so far. After a good read the rows hold the tree; after a refusal they may hold anything.
-- Assumes nothing.
use Rattle.std.specs.Prelude.{◌≡◌, Bool, List, ℕ, ◌+◌, ◌≤◌, ◌<◌, length, get_or, Result, Ok, Err}
use Rattle.std.proofs.Math.Option.{Option, some, none as nowhere}
use Rattle.meaning.specs.declared.Side.TheVariants.{Requirement as requirement}
use Rattle.meaning.specs.declared.Refusal.{Refusal}
use Rattle.meaning.specs.declared.Fault.{Fault}
use Rattle.meaning.specs.Refusal.{Answer, good, refused}
use Rattle.meaning.specs.Rules.{refusal_on}
use Rattle.meaning.specs.Tree.{Forest, Concept}
use Rattle.meaning.specs.Bounds.{most_nodes, most_thresholds}
use Rattle.meaning.specs.Message.{Part, Spot, read_threshold, read_thresholds}
use Rattle.meaning.specs.Rows.{Holds, HoldsF}
use Rattle.readers.specs.declared.Reached.{Reached}
pub use Rattle.fixed.specs.Spots.{spot, Here, node_in, children_in, whole_inner}
use Rattle.rows.specs.Packed.{names_in, roles_in, ends_in, owners_in, firsts_in}

-- ---- where a reader starts, and the rows

-- what a reader is asked: it begins before the end of its stretch, and there is room for all rows
pub record Begins (end p n parts long : ℕ) : Type 0 where
  pub before : p ≤ end
  pub few : n ≤ most_nodes
  pub room : parts ≤ most_thresholds
  pub rows : 144 ≤ long

-- a reader starts where bytes of a message stand, and there is room for all rows
pub record Start (s : List ℕ) (end p n parts : ℕ) (A : List ℕ) : Type 0 where
  pub here : Here s end p
  pub few : n ≤ most_nodes
  pub room : parts ≤ most_thresholds
  pub long : 144 ≤ length A

abbrev pub no_part : Part
no_part = record { owner = 0; first = 0; len = 0 }

-- the rows hold these thresholds
pub record PartsHeld (A : List ℕ) (ps : List Part) : Type 0 where
  pub owner : (k : ℕ) → k < length ps → get_or (owners_in A) k 0 ≡ (get_or ps k no_part).owner
  pub first : (k : ℕ) → k < length ps → get_or (firsts_in A) k 0 ≡ (get_or ps k no_part).first

-- what stood below n stays
abbrev pub Kept : ℕ → List ℕ → List ℕ → Type 0
Kept n A B = (k : ℕ) → k < n → get_or B k 0 ≡ get_or A k 0

-- the first n nodes stay
pub record RowsKept (n : ℕ) (A B : List ℕ) : Type 0 where
  pub names : Kept n A B
  pub edges : (k : ℕ) → k < n → get_or B (64 + k) 0 ≡ get_or A (64 + k) 0

-- ---- answers

-- how far reading came: the next byte, the nodes of this tree and the thresholds of the message so far
abbrev pub reached : ℕ → ℕ → ℕ → Result Reached Fault
reached p n parts = Ok (record { next = p; nodes = n; parts = parts })

-- a refusal, in the document's words
abbrev pub refusal_of : {X : Type 0} → Result X Fault → Option Refusal
refusal_of (Ok x) = nowhere
refusal_of (Err f) = some (refusal_on requirement f)

-- a good answer lies further on
pub record Further (end p n : ℕ) (v : Spot) : Type 0 where
  pub on : p ≤ v.next
  pub before : v.next ≤ end
  pub more : n ≤ v.nodes
  pub few : v.nodes ≤ most_nodes
  pub room : length v.parts ≤ most_thresholds

-- ---- nodes and children

-- what was read, of which `Held` says how the rows hold it
pub record ReadGood {X : Type 0} (Held : X → ℕ → Type 0) (end p n : ℕ) (A B : List ℕ) (x : X) (v : Spot) (r : Result Reached Fault) : Type 0 where
  pub answer : r ≡ reached v.next v.nodes (length v.parts)
  pub further : Further end p n v
  pub held : Held x v.nodes
  pub kept : RowsKept n A B
  pub parted : PartsHeld B v.parts

abbrev pub Outcome : {X : Type 0} → (X → ℕ → Type 0) → ℕ → ℕ → ℕ → List ℕ → List ℕ → Answer (X × Spot) → Result Reached Fault → Type 0
Outcome Held end p n A B (good x) r = ReadGood Held end p n A B x.0 x.1 r
Outcome Held end p n A B (refused e) r = refusal_of r ≡ some e

-- the tree stands at n, and under its role
pub record NodeHeld (B : List ℕ) (left role n : ℕ) (t : Concept) (m : ℕ) : Type 0 where
  pub tree : Holds (names_in B) (roles_in B) (ends_in B) t left n m
  pub under : get_or (roles_in B) n 0 ≡ role

abbrev pub NodeDone : Bool → List ℕ → ℕ → ℕ → ℕ → ℕ → ℕ → ℕ → List ℕ → List ℕ → Result Reached Fault → Type 0
NodeDone inner s end left role p n parts A B r =
    (ps : List Part) → length ps ≡ parts → PartsHeld A ps
    → Outcome (NodeHeld B left role n) end p n A B (node_in inner s end left (spot p n ps)) r

abbrev pub ForestHeld : List ℕ → ℕ → ℕ → Forest ℕ → ℕ → Type 0
ForestHeld B left n f m = HoldsF (names_in B) (roles_in B) (ends_in B) f left n m

abbrev pub ChildrenDone : Bool → List ℕ → ℕ → ℕ → ℕ → ℕ → ℕ → ℕ → List ℕ → List ℕ → Result Reached Fault → Type 0
ChildrenDone inner s end left k p n parts A B r =
    (ps : List Part) → length ps ≡ parts → PartsHeld A ps
    → Outcome (ForestHeld B left n) end p n A B (children_in inner s end left k (spot p n ps)) r

-- ---- thresholds: the nodes' rows stay

pub record PartsGood (end p n : ℕ) (A B : List ℕ) (v : Spot) (r : Result Reached Fault) : Type 0 where
  pub answer : r ≡ reached v.next v.nodes (length v.parts)
  pub on : p ≤ v.next
  pub before : v.next ≤ end
  pub room : length v.parts ≤ most_thresholds
  pub same : v.nodes ≡ n
  pub kept : Kept 128 A B
  pub parted : PartsHeld B v.parts

abbrev pub PartsOutcome : {X : Type 0} → ℕ → ℕ → ℕ → List ℕ → List ℕ → Answer (X × Spot) → Result Reached Fault → Type 0
PartsOutcome end p n A B (good x) r = PartsGood end p n A B x.1 r
PartsOutcome end p n A B (refused e) r = refusal_of r ≡ some e

abbrev pub ThresholdsDone : List ℕ → ℕ → ℕ → ℕ → ℕ → ℕ → ℕ → List ℕ → List ℕ → Result Reached Fault → Type 0
ThresholdsDone s end owner k p n parts A B r =
    (ps : List Part) → length ps ≡ parts → PartsHeld A ps → PartsOutcome end p n A B (read_thresholds s end owner k (spot p n ps)) r

abbrev pub ThresholdDone : List ℕ → ℕ → ℕ → ℕ → ℕ → ℕ → List ℕ → List ℕ → Result Reached Fault → Type 0
ThresholdDone s end owner p n parts A B r =
    (ps : List Part) → length ps ≡ parts → PartsHeld A ps → PartsOutcome end (p + 7) n A B (read_threshold s end owner (spot p n ps)) r

-- ---- an inner concept

abbrev pub InnerOutcome : Answer (Concept × Spot) → Result (Unit {0}) Fault → Type 0
InnerOutcome (good x) r = r ≡ Ok tt
InnerOutcome (refused e) r = refusal_of r ≡ some e

abbrev pub InnerDone : List ℕ → ℕ → ℕ → Result (Unit {0}) Fault → Type 0
InnerDone s stop p r = InnerOutcome (whole_inner s stop p) r
