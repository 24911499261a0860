-- The turns of the two loops, over the children of a node and over its thresholds: what is still to be read, read from where the loop stands,
-- is all that is read from where it began.
-- Assumes nothing.
use mathlib.Core.Path.{◌≡◌, ◌∙◌}
use mathlib.Core.Bool.{Bool}
use mathlib.Core.List.{List}
use Prim.Native.Nat.{ℕ, ◌+◌, ◌-◌, ◌≤◌, ◌<◌}
use native.Mathlib.Omega.{arith}
use lib.ListN.{length}
use Rattle.readers.specs.declared.Reached.{Reached}
use Rattle.std.specs.Prelude.{Result}
use Rattle.meaning.specs.declared.Fault.{Fault}
use Rattle.readers.specs.Reading.{reached, Begins, Start, NodeDone, ChildrenDone, ThresholdDone, ThresholdsDone}
use Rattle.fixed.specs.Spots.{Within}
use Rattle.fixed.specs.Fixed.{EdgeOpen}
use Rattle.readers.proofs.Cycle.{child-here, children-then, others-here, thresholds-then}

-- a reader begins in a stretch of a message
pub start : {s : List ℕ} {end p n parts : ℕ} {A : List ℕ} → Within s end → Begins end p n parts (length A) → Start s end p n parts A
start w b = record { here = record { before = b.before; inside = w.0; short = w.1 }; few = b.few; room = b.room; long = b.rows }

-- ---- children

module _ (inner : Bool) (s : List ℕ) (end left count p₀ n₀ parts₀ : ℕ) (A₀ : List ℕ) where
  -- k children are left, from p on
  pub record Children (k p n parts : ℕ) (A : List ℕ) : Type 0 where
    pub start : Start s end p n parts A
    pub on : p₀ ≤ p
    pub same : length A ≡ length A₀
    pub rest : (C : List ℕ) (r : Result Reached Fault) → ChildrenDone inner s end left k p n parts A C r → ChildrenDone inner s end left count p₀ n₀ parts₀ A₀ C r

  pub child-read : (k p n parts role : ℕ) (A B : List ℕ) (r : Result Reached Fault) (i j m : ℕ) → Children k p n parts A → 0 < k → EdgeOpen s end p role
      → NodeDone inner s end left role (p + 1) n parts A B r → r ≡ reached i j m → length B ≡ length A → {k' : ℕ} → k' ≡ k - 1 → Children k' i j m B
  child-read k p n parts role A B r i j m c some' o done e l {k'} fewer =
      let h = c.start in
      let b = child-here inner s end left k p n parts role A B r some' o done i j m e in record {
        start = record {
          here = record { before = b.1; inside = h.here.inside; short = h.here.short };
          few = b.2;
          room = b.3;
          long = omega (arith, h.long);
        };
        on = omega (arith, c.on, b.0);
        same = l ∙ c.same;
        rest = λ C r' d. c.rest C r' (children-then inner s end left k p n parts role A B r some' o done i j m e C r' (rw fewer at d));
      }

-- ---- thresholds

module _ (s : List ℕ) (end owner count p₀ n parts₀ : ℕ) (A₀ : List ℕ) where
  -- k thresholds are left, from p on
  pub record Thresholds (k p n' parts : ℕ) (A : List ℕ) : Type 0 where
    pub start : Start s end p owner parts A
    pub on : p₀ ≤ p
    pub same : length A ≡ length A₀
    pub rest : (C : List ℕ) (r : Result Reached Fault) → ThresholdsDone s end owner k p n' parts A C r → ThresholdsDone s end owner count p₀ n parts₀ A₀ C r

  pub threshold-read : (k p n' parts : ℕ) (A B : List ℕ) (r : Result Reached Fault) (i z m : ℕ) → Thresholds k p n' parts A → 0 < k
      → ThresholdDone s end owner p n' parts A B r → r ≡ reached i z m → length B ≡ length A → {k' : ℕ} → k' ≡ k - 1 → Thresholds k' i z m B
  threshold-read k p n' parts A B r i z m c some' done e l {k'} fewer =
      let h = c.start in
      let b = others-here s end owner k p n' parts A B r some' done i z m e in record {
        start = record {
          here = record { before = b.1; inside = h.here.inside; short = h.here.short };
          few = h.few;
          room = b.3;
          long = omega (arith, h.long);
        };
        on = omega (arith, c.on, b.0);
        same = l ∙ c.same;
        rest = λ C r' d. c.rest C r' (thresholds-then s end owner k p n' parts A B r some' done i z m e C r' (rw fewer at d));
      }
