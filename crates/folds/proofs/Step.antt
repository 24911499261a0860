-- Folding a child in at the members of a set, one after the other: the sums and the notes together.
-- Assumes nothing.
use mathlib.Core.Path.{◌≡◌, sym, subst}
use mathlib.Core.Bool.{false}
use mathlib.Core.Logic.{◌⊎◌}
use mathlib.Core.List.{List}
use Prim.Native.Nat.{ℕ, ◌+◌, ◌*◌, ◌≤◌, ◌<◌}
use native.Mathlib.Nat.{le_refl}
use native.Mathlib.Omega.{arith}
use lib.ListN.{length, set}
use Rattle.meaning.specs.Bytes.{Bytes}
use Rattle.meaning.specs.Degree.{best}
use Rattle.graph.specs.Walked.{walked}
use Rattle.std.specs.Prelude.{MatchOption}
use Rattle.graph.specs.Judged.{Judged, Runs, Opens}
use Rattle.graph.specs.Sets.{Among, Next}
use Rattle.graph.proofs.Walked.{walked-run}
use Rattle.graph.proofs.Judging.{along}
use Rattle.graph.proofs.Use.{next-inside}
use Rattle.folds.specs.declared.Best.{Best}
use Rattle.folds.specs.Notes.{flag}
use Rattle.folds.specs.Folded.{row_at, Top, Chosen, sum_with, Folded}
use Rattle.folds.proofs.Fill.{Filled, filled_none, filled-on, filled_more, filled-kept, filled_apart, sum_is}
use Rattle.folds.proofs.Scanning.{top-same}
use Rattle.folds.proofs.Noting.{Noting, note_at, noting-none, noting-on, noting-more, noting-outside}

-- what is found along a walk is so of the image that is walked
module _ {s s' : List ℕ} {items items' : ℕ} {index index' : List ℕ} (e : s ≡ s') (f : items ≡ items') (g : index ≡ index') {role first stop : ℕ} where
  pub opens-along : {x : ℕ} → ((j : Judged s items index) → Opens j.register x role first stop) → (j : Judged s' items' index') → Opens j.register x role first stop
  opens-along {x} = along (λ k. Opens k x role first stop) e f g

  pub chosen-along : {v : ℕ → ℕ} {b : Best} → ((j : Judged s items index) → Chosen j.register role first stop v b)
      → (j : Judged s' items' index') → Chosen j.register role first stop v b
  chosen-along {v} {b} = along (λ k. Chosen k role first stop v b) e f g

module _ {s : List ℕ} {items : ℕ} {index : List ℕ} (j : Judged s items index) (members : List ℕ) (role node from to scale product : ℕ) (notes₀ numbers₀ : List ℕ) where
  -- the members before x are done
  pub record Stepped (notes numbers : List ℕ) (x : ℕ) : Type 0 where
    pub filled : Filled (sum_with (walked j.register) numbers₀ role from to scale product) members to numbers₀ numbers x
    pub noting : Noting j.register (row_at numbers₀ from) role node members notes₀ notes x

  pub step-none : ((k : ℕ) → flag notes₀ node k ≡ false) → Stepped notes₀ numbers₀ 0
  step-none clear = record { filled = filled_none _ members to numbers₀; noting = noting-none j.register _ role node members notes₀ clear }

  pub step-on : (notes numbers : List ℕ) (x y : ℕ) → Stepped notes numbers x → Next members x y → Stepped notes numbers y
  step-on notes numbers x y w n = record {
    filled = filled-on _ members to numbers₀ numbers x w.filled y n;
    noting = noting-on j.register _ role node members notes₀ notes x w.noting y n;
  }

  module _ (b : Bytes s) (notes numbers : List ℕ) (x : ℕ) (w : Stepped notes numbers x) (apart : (from + 512 ≤ to) ⊎ (to + 512 ≤ from)) (first stop : ℕ) (t : Best)
      (o : Opens j.register x role first stop) (c : Chosen j.register role first stop (row_at numbers from) t) where
    abbrev ys : List ℕ
    ys = (walked j.register).next x role

    run : Runs j.register x role first c.end
    run = o.run c.end c.parted

    top₀ : Top j.register (row_at numbers₀ from) ys first c.end t
    top₀ = top-same j.register (row_at numbers from) (row_at numbers₀ from) ys first c.end t
        (λ y m. filled_apart _ _ to numbers₀ numbers x w.filled from apart y (let l = next-inside j b x role y m in let q = j.most in omega arith))
        (subst (λ (zs : List ℕ). Top j.register (row_at numbers from) zs first c.end t) (sym (walked-run j.register x role first c.end run)) c.top)

    pub step_value : t.value ≡ best (row_at numbers₀ from) ys
    step_value = top₀.value

    pub step-more : (v : ℕ) (new : List ℕ) → x < 512 → to + 512 ≤ length numbers₀ → v ≡ row_at numbers to x * scale + t.value * product
        → MatchOption t.link (new ≡ notes) (λ k. new ≡ note_at notes k node) → Stepped new (set numbers (to + x) v) (x + 1)
    step-more v new l fits e said = record {
      filled = filled_more _ _ to numbers₀ numbers x w.filled v l fits (sum_is v _ _ _ _ scale product e (w.filled.ahead x (le_refl x)) step_value);
      noting = noting-more j.register (row_at numbers₀ from) role node members notes₀ notes x w.noting first c.end t run top₀ new said;
    }

  pub step_end : (notes numbers : List ℕ) (x : ℕ) → Stepped notes numbers x → Next members x 512 → Among 512 members
      → Folded j.register members notes₀ notes numbers₀ numbers role node from to scale product
  step_end notes numbers x w n l = let v = step-on notes numbers x 512 w n in record {
    sums = λ z m. v.filled.done z (l z m) m;
    noted = λ z m. v.noting.done z (l z m) m;
    outside = noting-outside j.register (row_at numbers₀ from) role node members notes₀ notes 512 v.noting;
    kept = filled-kept _ _ to numbers₀ numbers 512 v.filled;
  }
