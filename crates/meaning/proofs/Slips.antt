-- Each slip of document 01 differs from our definition on an input of the sheet. (The undo slip is told apart with the session.)
-- Assumes nothing.
use mathlib.Core.Path.{◌≡◌, refl}
use mathlib.Core.Bool.{true, false}
use mathlib.Core.List.{[], ◌∷◌}
use Prim.Native.Nat.{ℕ}
use lib.Count.{ones}
use Rattle.meaning.specs.Tree.{node, none, more, Concept, count, under}
use Rattle.meaning.specs.Graph.{Graph}
use Rattle.meaning.specs.Fraction.{◌÷◌, gcd, lowest, at_least, compares}
use Rattle.meaning.specs.Register.{judged, targets, except}
use Rattle.meaning.specs.Whole.{any, meets_by}
use Rattle.meaning.specs.Reduce.{dropped, kept_of, reduce, scale}
use Rattle.meaning.specs.Degree.{best, degree, degree_of, answered}
use Rattle.meaning.specs.Shown.{first_best, pick}
use Rattle.meaning.specs.Sheet.{leaf, two, link, C1}
use Rattle.meaning.specs.Slips.{as_written, unused, distinct, by_names, rounded, empty_none, keep_neither, both_dropped}

-- the sheet's register R1, and two others of its rows
abbrev R : Graph ℕ
R = judged (record { names = 10 ∷ 2 ∷ 4 ∷ []; links = link 0 0 1 ∷ link 0 1 2 ∷ [] })

abbrev both : Graph ℕ
both = judged (record { names = 0 ∷ 6 ∷ []; links = link 0 0 1 ∷ [] })

abbrev apart : Graph ℕ
apart = judged (record { names = 0 ∷ 2 ∷ 0 ∷ 4 ∷ 8 ∷ []; links = link 0 0 1 ∷ link 0 0 2 ∷ link 2 1 3 ∷ link 2 1 4 ∷ [] })

abbrev doubled : Concept
doubled = two 0 (leaf 2) 0 (leaf 6)

-- the doubled line: 3/4 as written, 1/2 in truth
pub scored-as-written : (lowest (as_written R doubled 0) ≡ 3 ÷ 4) × (answered R doubled 0 ≡ 1 ÷ 2)
unfolding lowest gcd degree best scale reduce kept_of dropped meets_by any targets except count under ones
scored-as-written = (refl, refl)

-- one successor may serve two children: 1/2 with distinct ones, 1/1 in truth
pub distinct-successors : (lowest (distinct both (two 0 (leaf 2) 0 (leaf 4)) 0 ÷ 2) ≡ 1 ÷ 2) × (answered both (two 0 (leaf 2) 0 (leaf 4)) 0 ≡ 1 ÷ 1)
unfolding lowest gcd degree best scale reduce kept_of dropped meets_by any targets except count under ones distinct unused
distinct-successors = (refl, refl)

abbrev deep : Concept
deep = node 0 (more 0 (node 2 (more 1 (leaf 4) (more 1 (leaf 8) none))) none)

-- the successor that holds name 1 is the worse one: 1/3 by names alone, 2/3 in truth
pub chosen-by-names : (lowest (by_names apart deep 0 ÷ 3) ≡ 1 ÷ 3) × (answered apart deep 0 ≡ 2 ÷ 3)
unfolding lowest gcd degree best scale reduce kept_of dropped meets_by any targets except count under ones by_names pick first_best
chosen-by-names = (refl, refl)

-- 2/3 as 0.67 passes ≥ 67/100, and does not in truth
pub rounded-decimals : (compares at_least (rounded (degree_of R C1 0)) (67 ÷ 100) ≡ true) × (compares at_least (degree_of R C1 0) (67 ÷ 100) ≡ false)
unfolding degree best scale reduce kept_of dropped meets_by any targets except count under ones
rounded-decimals = (refl, refl)

-- an empty child asks for nothing: 0/1 as a slip, 1/1 in truth
pub empty-child : (lowest (empty_none R (node 0 (more 0 (leaf 0) none)) 0 ÷ 1) ≡ 0 ÷ 1) × (answered R (node 0 (more 0 (leaf 0) none)) 0 ≡ 1 ÷ 1)
unfolding lowest gcd degree best scale reduce kept_of dropped meets_by any targets except count under ones empty_none
empty-child = (refl, refl)

-- of two equal children one is kept: with both dropped an item with no links would be 1/1, and is 0/1 in truth
pub both-dropped : (lowest (as_written R (both_dropped (two 0 (leaf 2) 0 (leaf 2))) 1) ≡ 1 ÷ 1) × (answered R (two 0 (leaf 2) 0 (leaf 2)) 1 ≡ 0 ÷ 1)
unfolding lowest gcd degree best scale reduce kept_of dropped meets_by any targets except count under ones keep_neither
both-dropped = (refl, refl)
