-- All successors of a set, gathered item by item.
-- Assumes nothing.
use mathlib.Core.Path.{◌≡◌, subst}
use mathlib.Core.Bool.{true}
use mathlib.Core.List.{List, Memᴰ}
use Prim.Native.Nat.{ℕ, ◌+◌, ◌≤◌, ◌<◌}
use native.Mathlib.Decide.{dec_lt}
use native.Mathlib.Omega.{arith}
use Rattle.meaning.specs.Bytes.{Bytes}
use Rattle.meaning.proofs.Tests.{true-false}
use Rattle.graph.specs.Walked.{walked}
use Rattle.graph.specs.Judged.{Judged}
use Rattle.graph.specs.Sets.{in_set, Among, Next, Gathered, Spread}
use Rattle.graph.proofs.Use.{next-inside}

module _ (s : List ℕ) (items : ℕ) (index set : List ℕ) (role : ℕ) where
  -- the members before a place are done; all items before `full` are there
  pub record Spreading (below : List ℕ) (full from : ℕ) : Type 0 where
    pub among : Among items below
    pub so_far : (j : Judged s items index) (z y : ℕ) → z < from → in_set set z ≡ true → Memᴰ y ((walked j.register).next z role) → in_set below y ≡ true
    pub whole : (y : ℕ) → y < full → in_set below y ≡ true

  pub spreading-start : (below : List ℕ) → Among items below → Spreading below 0 0
  spreading-start below a = record {
    among = a;
    so_far = λ j z y l m. absurd (omega arith);
    whole = λ y l. absurd (omega arith);
  }

  pub spreading-step : (below later : List ℕ) (full fuller from x : ℕ) → Spreading below full from → Next set from x → Judged s items index
      → ((j : Judged s items index) → Gathered ((walked j.register).next x role) items below later)
      → ((y : ℕ) → full ≤ y → y < fuller → in_set later y ≡ true) → Spreading later fuller (x + 1)
  spreading-step below later full fuller from x w n i g f = record {
    among = (g i).among;
    so_far = λ j z y l m d. go j z y l m d (dec_lt z from) (dec_lt z x);
    whole = λ y l. there y l (dec_lt y full);
  }
    where
      go : (j : Judged s items index) (z y : ℕ) → z < x + 1 → in_set set z ≡ true → Memᴰ y ((walked j.register).next z role)
          → Dec (z < from) → Dec (z < x) → in_set later y ≡ true
      go j z y l m d (yes p) q = (g j).kept y (w.so_far j z y p m d)
      go j z y l m d (no p) (yes q) = absurd (true-false m (n.passed z (omega (arith, p)) q))
      go j z y l m d (no p) (no q) =
          let same : z ≡ x = omega (arith, q) in
          (g j).got y (subst (λ (v : ℕ). Memᴰ y ((walked j.register).next v role)) same d)

      there : (y : ℕ) → y < fuller → Dec (y < full) → in_set later y ≡ true
      there y l (yes p) = (g i).kept y (w.whole y p)
      there y l (no p) = f y (omega (arith, p)) l

  pub spreading-end : (below : List ℕ) (full from : ℕ) → Spreading below full from → Next set from 512 → Among 512 set → (j : Judged s items index)
      → Spread (walked j.register) items set role below
  spreading-end below full from w n f j = record { closed = λ z y m d. w.so_far j z y (before z m (dec_lt z from)) m d; among = w.among }
    where
      before : (z : ℕ) → in_set set z ≡ true → Dec (z < from) → z < from
      before z m (yes p) = p
      before z m (no p) = absurd (true-false m (n.passed z (omega (arith, p)) (f z m)))

  -- all items are there, so all successors are
  pub spreading-full : (below : List ℕ) (full from : ℕ) → Spreading below full from → items ≤ full → Bytes s → (j : Judged s items index)
      → Spread (walked j.register) items set role below
  spreading-full below full from w l b j = record { closed = λ z y m d. w.whole y (let q = next-inside j b z role y d in omega arith); among = w.among }
