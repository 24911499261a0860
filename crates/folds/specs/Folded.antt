-- Rows of numbers, one for each item, and a child's numbers folded into those of its parent.
-- Assumes nothing.
use Rattle.std.specs.Prelude.{◌≡◌, false, ◌⊎◌, List, Some, None, ℕ, ◌+◌, ◌*◌, ◌≤◌, ◌<◌, length, get_or}
use Rattle.std.proofs.Math.Option.{some, none as nowhere}
use Rattle.meaning.specs.Graph.{Graph}
use Rattle.meaning.specs.Register.{Register, withdrawn, except}
use Rattle.meaning.specs.Degree.{best}
use Rattle.meaning.specs.Shown.{pick}
use Rattle.graph.specs.Walked.{walked}
use Rattle.graph.specs.Judged.{Judged, end_no, spanned, Parted}
use Rattle.folds.specs.Members.{Member}
use Rattle.folds.specs.Notes.{flag, Note, Outside}
use Rattle.folds.specs.declared.Best.{Best}

-- a row of numbers from a place on
abbrev pub row_at : List ℕ → ℕ → ℕ → ℕ
row_at numbers at x = get_or numbers (at + x) 0

-- the places before `at` have stayed
abbrev pub Kept : ℕ → List ℕ → List ℕ → Type 0
Kept at old new = (i : ℕ) → i < at → get_or new i 0 ≡ get_or old i 0

-- of some ends of links from `first` up to `end`: the greatest value, and the first link whose end has it
pub record Top (g : Register) (v : ℕ → ℕ) (ys : List ℕ) (first end : ℕ) (b : Best) : Type 0 where
  pub value : b.value ≡ best v ys
  pub link : (k : ℕ) → b.link ≡ Some k → (first ≤ k) × (k < end) × (pick v ys ≡ some (end_no g k))
  pub none : b.link ≡ None → pick v ys ≡ nowhere

-- the same of the ends in service of the links from `first` up to `stop`, as far as none is of a higher role
pub record Chosen (g : Register) (role first stop : ℕ) (v : ℕ → ℕ) (b : Best) : Type 0 where
  pub end : ℕ
  pub parted : Parted g (role + 1) first stop end
  pub top : Top g v (except (withdrawn g) (spanned (end_no g) first end)) first end b

-- ---- one child folded in at the members of a set: its numbers stand from `from` on, and the sums from `to` on

abbrev pub sum_with : Graph ℕ → List ℕ → ℕ → ℕ → ℕ → ℕ → ℕ → ℕ → ℕ
sum_with G numbers role from to scale product x = row_at numbers to x * scale + best (row_at numbers from) (G.next x role) * product

-- what is asked: the row of the child in the notes is empty, and the sums fit
pub record Folding (s : List ℕ) (items : ℕ) (index set notes numbers : List ℕ) (role node from to scale product : ℕ) : Type 0 where
  pub graph : Judged s items index
  pub fits : (x : ℕ) → Member set x → sum_with (walked graph.register) numbers role from to scale product x < 4294967296
  pub clear : (k : ℕ) → flag notes node k ≡ false
  pub inside : node < 64
  pub short : length numbers ≤ 3584
  pub from-fits : from + 512 ≤ length numbers
  pub to-fits : to + 512 ≤ length numbers
  pub apart : (from + 512 ≤ to) ⊎ (to + 512 ≤ from)

pub record Folded (g : Register) (set notes notes' numbers numbers' : List ℕ) (role node from to scale product : ℕ) : Type 0 where
  pub sums : (x : ℕ) → Member set x → row_at numbers' to x ≡ sum_with (walked g) numbers role from to scale product x
  pub noted : (x : ℕ) → Member set x → Note g notes' node x (pick (row_at numbers from) ((walked g).next x role))
  pub outside : Outside node (node + 1) notes notes'
  pub kept : Kept to numbers numbers'
