-- Two graphs that agree at the items in service have the same table: so the one that is walked has that of the one that is judged.
-- Assumes nothing.
use mathlib.Core.Path.{◌≡◌, refl, sym, ap, ap₂, ◌∙◌}
use mathlib.Core.Bool.{Bool, true, false, cond}
use mathlib.Core.List.{List, [], ◌∷◌, ◌++◌}
use Prim.Native.Nat.{ℕ}
use Rattle.meaning.specs.Tree.{Concept}
use Rattle.meaning.specs.Graph.{Graph}
use Rattle.meaning.specs.Register.{Register, withdrawn, judged}
use Rattle.meaning.specs.Reduce.{reduce, kept}
use Rattle.meaning.specs.Degree.{degree}
use Rattle.meaning.specs.Table.{trees, placed, rows_of, table}
use Rattle.meaning.specs.InPlace.{table_in}
use Rattle.meaning.proofs.Agreeing.{Agree, degree-agrees}
use Rattle.meaning.proofs.Table.{up_to-same, table-in}
use Rattle.graph.specs.Walked.{walked}
use Rattle.graph.proofs.Walked.{walked-judged}

module _ {G H : Graph ℕ} (out : ℕ → Bool) (same : Agree G H (λ x. out x ≡ false)) (items : ℕ) where
  placed-agrees : (t : Concept) (x : ℕ) → placed G out items t x ≡ placed H out items t x
  placed-agrees t x = go (out x) refl
    where
      go : (b : Bool) → out x ≡ b → cond b 0 (degree G (reduce t) x) ≡ cond b 0 (degree H (reduce t) x)
      go true e = refl
      go false e = degree-agrees same (reduce t) x e

  rows_agree : (ks : List Bool) (ts : List Concept) → rows_of G out items ks ts ≡ rows_of H out items ks ts
  unfolding rows_of
  rows_agree [] ts = refl
  rows_agree (k ∷ ks) [] = refl
  rows_agree (k ∷ ks) (t ∷ ts) =
      ap₂ {C = List ℕ} ◌++◌
      (up_to-same items (λ x. cond k (placed G out items t x) 0) (λ x. cond k (placed H out items t x) 0) (λ x l. ap (λ (n : ℕ). cond k n 0) (placed-agrees t x)))
      (rows_agree ks ts)

  pub table-agrees : (t : Concept) → table G out items t ≡ table H out items t
  table-agrees t = rows_agree (kept t) (trees t)

-- the table that is worked out over the graph that is walked is that of the graph that is judged
pub table-judged : (g : Register) (items : ℕ) (t : Concept) → table_in (walked g) (withdrawn g) items t ≡ table (judged g) (withdrawn g) items t
table-judged g items t = sym (table-in (walked g) (withdrawn g) items t) ∙ table-agrees (withdrawn g) (walked-judged g) items t
