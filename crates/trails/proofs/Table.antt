-- The table of sets: sets that have not changed.
-- Assumes nothing.
use mathlib.Core.Path.{◌≡◌, refl, ap, ◌∙◌}
use mathlib.Core.List.{List}
use Prim.Native.Nat.{ℕ, ◌+◌, ◌≤◌, ◌<◌}
use native.Mathlib.Omega.{arith}
use lib.ListN.{get_or, set}
use lib.Seq.{get_or-set_other}
use Rattle.graph.specs.declared.sets.Items.{Items}
use Rattle.graph.specs.Sets.{in_set}
use Rattle.trails.specs.Cells.{no_items, cell, Outside}

-- the sets from i up to e are the same in both
abbrev pub SameRows : List Items → List Items → ℕ → ℕ → Type 0
SameRows m new i e = (k : ℕ) → i ≤ k → k < e → get_or new k no_items ≡ get_or m k no_items

pub same-cell : (m new : List Items) (i e n : ℕ) → SameRows m new i e → i ≤ n → n < e → (x : ℕ) → cell new n x ≡ cell m n x
same-cell m new i e n s a b x = ap (λ (z : Items). in_set z.words x) (s n a b)

pub outside-none : (n e : ℕ) (m : List Items) → Outside n e m m
outside-none n e m = record { before = λ k l. refl; behind = λ k l. refl }

pub outside-part : (n e c d : ℕ) (old m new : List Items) → n ≤ c → d ≤ e → Outside n e old m → Outside c d m new → Outside n e old new
outside-part n e c d old m new l k w v = record {
  before = λ j h. v.before j (omega arith) ∙ w.before j h;
  behind = λ j h. v.behind j (omega arith) ∙ w.behind j h;
}

-- one set is written
pub outside-set : (n : ℕ) (m : List Items) (s : Items) → Outside n (n + 1) m (set m n s)
outside-set n m s = record {
  before = λ k l. get_or-set_other m n k s no_items (λ e. let z : k ≡ n = e in omega arith);
  behind = λ k l. get_or-set_other m n k s no_items (λ e. let z : k ≡ n = e in omega arith);
}
