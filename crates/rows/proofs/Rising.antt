-- Rows that hold trees: each ends after itself, which is what is asked of them to go over siblings.
-- Assumes nothing.
use mathlib.Core.Path.{◌≡◌}
use mathlib.Core.List.{List}
use mathlib.Core.Logic.{inl, inr}
use Prim.Native.Nat.{ℕ, ◌+◌, ◌-◌, ◌≤◌, ◌<◌}
use native.Mathlib.Omega.{arith}
use lib.ListN.{get_or}
use Rattle.std.proofs.lemmas.Bool.{cases_lt}
use Rattle.meaning.specs.Tree.{node, Forest, none, more, Concept}
use Rattle.meaning.specs.Rows.{Holds, HoldsF}
use Rattle.rows.specs.Rising.{Rising}

module _ (names roles ends : List ℕ) where
  mutual
    unfolding Holds

    rises : (t : Concept) (left i e c : ℕ) → Holds names roles ends t left i e → i ≤ c → c < e → c < get_or ends c 0
    rises (node a f) left i e c h l m =
        elim (cases_lt i c) [
          | inl k ↦ rises_f f (left - 1) (i + 1) e c h.4 (omega arith) m
          | inr k ↦ (let x : i ≡ c = omega arith in let y : get_or ends i 0 ≡ e = h.3 in rw (← x) (omega arith))
        ]

    rises_f : (f : Forest ℕ) (left i e c : ℕ) → HoldsF names roles ends f left i e → i ≤ c → c < e → c < get_or ends c 0
    rises_f none left i e c h l m = absurd (let z : i ≡ e = h in omega arith)
    rises_f (more r t f) left i e c h l m =
        elim (cases_lt c (get_or ends i 0)) [
          | inl k ↦ rises t left i (get_or ends i 0) c h.2 l k
          | inr k ↦ rises_f f left (get_or ends i 0) e c h.3 k m
        ]

  pub rising : (f : Forest ℕ) (left i e : ℕ) → HoldsF names roles ends f left i e → e ≤ 64 → Rising ends i e
  rising f left i e h le = record { rises = λ c l m. rises_f f left i e c h l m; fits = le }
