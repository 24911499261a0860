-- Notes of where nodes go: a set of written nodes for each link of the register. A node is in the set of a link when it goes along that
-- link, its parent being at the item that the link leads from.
-- Assumes nothing.
use Rattle.std.specs.Prelude.{◌≡◌, Bool, true, false, ◌⊎◌, List, ℕ, ◌≤◌, ◌<◌, length, get_or}
use Rattle.std.proofs.Math.Option.{Option, some}
use Rattle.meaning.specs.Names.{has}
use Rattle.meaning.specs.Register.{Register}
use Rattle.graph.specs.Judged.{start_no, end_no}

-- node n goes along the k-th link
abbrev pub flag : List ℕ → ℕ → ℕ → Bool
flag notes n k = has (get_or notes k 0) n

-- of the links of item x, node n goes along one that leads where o says, and along no other; links beyond the notes' places are not noted
pub record Note (g : Register) (notes : List ℕ) (n x : ℕ) (o : Option ℕ) : Type 0 where
  pub only : (k : ℕ) → k < length g.links → start_no g k ≡ x → flag notes n k ≡ true → o ≡ some (end_no g k)
  pub one : (y : ℕ) → o ≡ some y → (k : ℕ) × (k < length g.links) × (start_no g k ≡ x) × (k < length notes → flag notes n k ≡ true)

-- no rows have changed but those from n up to e
abbrev pub Outside : ℕ → ℕ → List ℕ → List ℕ → Type 0
Outside n e old new = (j k : ℕ) → (j < n) ⊎ (e ≤ j) → flag new j k ≡ flag old j k

-- the rows from n up to e are empty
abbrev pub Clear : List ℕ → ℕ → ℕ → Type 0
Clear notes n e = (j k : ℕ) → n ≤ j → j < e → flag notes j k ≡ false
