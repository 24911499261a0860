-- What the yes/no call promises of its result and of the lent map, and the rows of the document's table that refuse it.
-- Assumes nothing.
use Rattle.std.specs.Prelude.{◌≡◌, true, false, List, ℕ, ◌≤◌, ◌<◌, length, Option, Result}
use Rattle.meaning.specs.declared.Refusal.{Refusal}
use Rattle.meaning.specs.Refusal.{good, refused, on_call}
use Rattle.meaning.specs.Tree.{nodes}
use Rattle.meaning.specs.Register.{Register, withdrawn, read_register}
use Rattle.meaning.specs.Requirement.{Requirement}
use Rattle.meaning.specs.Message.{Part, read_requirement}
use Rattle.meaning.specs.Calls.{member_call, after_member}
use Rattle.deciding.specs.Answers.{paper_verdict, said}

-- what the call promises of its result and of the lent map afterwards
abbrev pub DecidePromise : List ℕ → List ℕ → ℕ → List ℕ → List ℕ → Result (Option ℕ) Refusal → Type 0
DecidePromise image message item old new r =
    (paper_verdict r ≡ said (member_call image message item (length old))) × (new ≡ after_member old (member_call image message item (length old)))

-- "A degree or yes/no reads the register, the requirement, then .. 15, .. 16": x is given exactly where its row holds and none before it
pub data DecideRow (image message : List ℕ) (item room : ℕ) (x : Refusal) : Type 0 where
  bad_image : read_register image ≡ refused x → DecideRow image message item room x
  bad_message : (g : Register) → read_register image ≡ good g → read_requirement message ≡ refused x → DecideRow image message item room x
  no_item : (g : Register) (q : Requirement) (ps : List Part) → read_register image ≡ good g → read_requirement message ≡ good (q, ps)
      → length g.names ≤ item → x ≡ on_call 15 → DecideRow image message item room x
  -- document 02, §5: "26 when the asked item is withdrawn, directly after 15"
  is_withdrawn : (g : Register) (q : Requirement) (ps : List Part) → read_register image ≡ good g → read_requirement message ≡ good (q, ps)
      → item < length g.names → withdrawn g item ≡ true → x ≡ on_call 26 → DecideRow image message item room x
  no_room : (g : Register) (q : Requirement) (ps : List Part) → read_register image ≡ good g → read_requirement message ≡ good (q, ps)
      → item < length g.names → withdrawn g item ≡ false → room < nodes q → x ≡ on_call 16 → DecideRow image message item room x
