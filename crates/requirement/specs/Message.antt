-- The promise of reading a whole message: the document's reading of it, and after a good one rows that hold it.
-- Assumes nothing.
use Rattle.std.specs.Prelude.{◌≡◌, List, ℕ, ◌≤◌, length, Result, Ok, Err}
use Rattle.meaning.specs.declared.Side.TheVariants.{Requirement as requirement}
use Rattle.meaning.specs.declared.Fault.{Fault}
use Rattle.meaning.specs.declared.Refusal.{Refusal}
use Rattle.meaning.specs.Refusal.{Answer, good, refused}
use Rattle.meaning.specs.Rules.{refusal_on}
use Rattle.meaning.specs.Tree.{nodes}
use Rattle.meaning.specs.Bounds.{most_levels, most_nodes, most_thresholds}
use Rattle.meaning.specs.Requirement.{Requirement, bare}
use Rattle.meaning.specs.Message.{Part, read_requirement}
use Rattle.meaning.specs.Rows.{Holds}
use Rattle.requirement.specs.declared.Message.{Message}
use Rattle.rows.specs.Packed.{names_in, roles_in, ends_in}
use Rattle.readers.specs.Reading.{PartsHeld}

-- what is wrong in a message is on the requirement's side
abbrev pub on_requirement : Result Message Fault → Result Message Refusal
on_requirement (Ok m) = Ok m
on_requirement (Err f) = Err (refusal_on requirement f)

-- after a good read the rows hold the tree without its thresholds, and the thresholds' rows where they stand
pub record MessageGood (B : List ℕ) (q : Requirement) (ps : List Part) (r : Result Message Refusal) : Type 0 where
  pub answer : r ≡ Ok (record { nodes = nodes q; parts = length ps })
  pub tree : Holds (names_in B) (roles_in B) (ends_in B) (bare q) most_levels 0 (nodes q)
  pub few : nodes q ≤ most_nodes
  pub room : length ps ≤ most_thresholds
  pub parted : PartsHeld B ps

abbrev pub MessageOutcome : List ℕ → Answer (Requirement × List Part) → Result Message Refusal → Type 0
MessageOutcome B (good x) r = MessageGood B x.0 x.1 r
MessageOutcome B (refused e) r = r ≡ Err e

abbrev pub MessageDone : List ℕ → List ℕ → Result Message Refusal → Type 0
MessageDone s B r = MessageOutcome B (read_requirement s) r

-- ---- without the rows: how many nodes and thresholds there are, or the refusal

abbrev pub paper_message : Result Message Refusal → Answer (ℕ × ℕ)
paper_message (Ok m) = good (m.nodes, m.parts)
paper_message (Err e) = refused e

abbrev pub counted : Answer (Requirement × List Part) → Answer (ℕ × ℕ)
counted (good x) = good (nodes x.0, length x.1)
counted (refused e) = refused e
