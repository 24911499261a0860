-- The document's readers as code runs them: where a reader starts, a node and its children read for their names alone, and an inner concept with what is
-- tested after it.
-- Assumes nothing.
use Rattle.std.specs.Prelude.{Bool, true, false, List, ℕ, ◌≤◌, ltb, length}
use Rattle.meaning.specs.declared.Side.TheVariants.{Requirement as requirement}
use Rattle.meaning.specs.Refusal.{Answer, good, at, refuse_if, ◌>>=◌, ◌>>◌}
use Rattle.meaning.specs.Tree.{Forest, Concept}
use Rattle.meaning.specs.Reduce.{reduce, size}
use Rattle.meaning.specs.Bounds.{most_size}
use Rattle.meaning.specs.Message.{Part, Spot, read_children, read_node, no_thresholds, read_inner, with_thresholds}

-- the next byte, the nodes of this tree so far and the thresholds of the message so far
abbrev pub spot : ℕ → ℕ → List Part → Spot
spot p n parts = record { next = p; nodes = n; parts = parts }

-- an end within the bytes of a message
abbrev pub Within : List ℕ → ℕ → Type 0
Within s end = (end ≤ length s) × (end ≤ 65538)

-- the bytes from p up to end are of a message
pub record Here (s : List ℕ) (end p : ℕ) : Type 0 where
  pub before : p ≤ end
  pub inside : end ≤ length s
  pub short : end ≤ 65538

-- ---- nodes and children: the names of a node are read alike in a requirement and in an inner concept

abbrev pub label_in : Bool → List ℕ → ℕ → Spot → Answer (ℕ × Spot)
label_in true s end = no_thresholds s
label_in false s end = λ w. (with_thresholds s end w >>= λ x. good (x.0.names, x.1))

abbrev pub node_in : Bool → List ℕ → ℕ → ℕ → Spot → Answer (Concept × Spot)
node_in inner s end left w = read_node (label_in inner s end) s end left w

abbrev pub children_in : Bool → List ℕ → ℕ → ℕ → ℕ → Spot → Answer (Forest ℕ × Spot)
children_in inner s end left k w = read_children (label_in inner s end) s end (λ z. node_in inner s end left z) k w

-- an inner concept with what is tested after it: 8, 14
unfoldable pub whole_inner : List ℕ → ℕ → ℕ → Answer (Concept × Spot)
whole_inner s stop p = do
  (t, v) ← read_inner s stop p
  refuse_if (ltb v.next stop) (at requirement 8 v.next)
  refuse_if (ltb most_size (size (reduce t))) (at requirement 14 p)
  good (t, v)
