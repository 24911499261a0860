-- What the fixed fields of a node, an edge and a threshold say: that what is behind them may be read, or what reading answers.
-- Assumes nothing.
use Rattle.std.specs.Prelude.{◌≡◌, ◌≢◌, Bool, false, true, ◌&&◌, List, ℕ, ◌+◌, ◌≤◌, ◌<◌, ltb, leb, length, Result, Ok, Err}
use Rattle.meaning.specs.declared.Side.TheVariants.{Requirement as requirement}
use Rattle.meaning.specs.declared.Fault.{Fault}
use Rattle.meaning.specs.Refusal.{refused}
use Rattle.meaning.specs.Rules.{refusal_on}
use Rattle.meaning.specs.Bytes.{number}
use Rattle.meaning.specs.Bounds.{most_role, most_nodes, most_thresholds}
use Rattle.meaning.specs.Fraction.{wrong_with}
use Rattle.meaning.specs.Message.{Part, lawful, fault_at, read_threshold}
use Rattle.fixed.specs.declared.NodeFields.{NodeFields}
use Rattle.fixed.specs.Spots.{spot, node_in, children_in}

-- a node of names a, with so many thresholds and children
pub record NodeOpen (inner : Bool) (s : List ℕ) (end left p n a thresholds' children' : ℕ) : Type 0 where
  pub fits : p + 10 ≤ end
  pub deep : 0 < left
  pub room : n < most_nodes
  pub free : (inner && ltb 0 (number s (p + 8) 1)) ≡ false
  pub names : a ≡ number s p 8
  pub thresholds : thresholds' ≡ number s (p + 8) 1
  pub children : children' ≡ number s (p + 9) 1

abbrev pub NodeFixed : Bool → List ℕ → ℕ → ℕ → ℕ → ℕ → Result NodeFields Fault → Type 0
NodeFixed inner s end left p n (Ok f) = NodeOpen inner s end left p n f.names f.thresholds f.children
NodeFixed inner s end left p n (Err f) = (ps : List Part) → node_in inner s end left (spot p n ps) ≡ refused (refusal_on requirement f)

pub record EdgeOpen (s : List ℕ) (end p role : ℕ) : Type 0 where
  pub fits : p + 1 ≤ end
  pub is : role ≡ number s p 1
  pub small : role ≤ most_role

abbrev pub EdgeFixed : List ℕ → ℕ → ℕ → Result ℕ Fault → Type 0
EdgeFixed s end p (Ok role) = EdgeOpen s end p role
EdgeFixed s end p (Err f) =
    (inner : Bool) (left k n : ℕ) (ps : List Part) → 0 < k → children_in inner s end left k (spot p n ps) ≡ refused (refusal_on requirement f)

-- the comparison, p and q are those of a threshold
abbrev pub lawful_at : List ℕ → ℕ → Bool
lawful_at s p = leb (number s p 1) 3 && lawful (number s (p + 1) 2) (number s (p + 3) 2)

-- what is wrong with the fraction of a threshold, at its place
abbrev pub FractionFixed : List ℕ → ℕ → Result (Unit {0}) Fault → Type 0
FractionFixed s p (Ok u) = wrong_with (number s (p + 1) 2) (number s (p + 3) 2) ≡ 0
FractionFixed s p (Err f) =
    (wrong_with (number s (p + 1) 2) (number s (p + 3) 2) ≢ 0)
    × (refusal_on requirement f ≡ fault_at p (wrong_with (number s (p + 1) 2) (number s (p + 3) 2)))

pub record ThresholdOpen (s : List ℕ) (end p parts stop : ℕ) : Type 0 where
  pub room : parts < most_thresholds
  pub fits : p + 7 ≤ end
  pub ruled : lawful_at s p ≡ true
  pub stops : stop ≡ p + 7 + number s (p + 5) 2
  pub inside : stop ≤ end

abbrev pub ThresholdFixed : List ℕ → ℕ → ℕ → ℕ → Result ℕ Fault → Type 0
ThresholdFixed s end p parts (Ok stop) = ThresholdOpen s end p parts stop
ThresholdFixed s end p parts (Err f) =
    (owner n : ℕ) (ps : List Part) → length ps ≡ parts → read_threshold s end owner (spot p n ps) ≡ refused (refusal_on requirement f)
