-- A loop over the members of a set that stores f x in a row of numbers, at x, for each member x in turn.
-- Assumes nothing.
use mathlib.Core.Path.{◌≡◌, refl, subst, ◌∙◌}
use mathlib.Core.Logic.{◌⊎◌, inl, inr}
use mathlib.Core.List.{List}
use Prim.Native.Nat.{ℕ, ◌+◌, ◌*◌, ◌≤◌, ◌<◌}
use native.Mathlib.Decide.{dec_lt}
use native.Mathlib.Omega.{arith}
use lib.ListN.{length, get_or, set, length-set}
use lib.Seq.{get_or-set_same, get_or-set_other}
use Rattle.meaning.proofs.Tests.{true-false}
use Rattle.graph.specs.Sets.{Among, Next}
use Rattle.folds.specs.Members.{Member}
use Rattle.folds.specs.Folded.{row_at, Kept}

-- what holds of the members before i, where the next one from i on is j
pub before_next : (set : List ℕ) (P : ℕ → Type 0) (i j : ℕ) → Next set i j → ((x : ℕ) → x < i → Member set x → P x) → (x : ℕ) → x < j → Member set x → P x
before_next set P i j n w x l m = go (dec_lt x i)
  where
    go : Dec (x < i) → P x
    go (yes k) = w x k m
    go (no k) = absurd (true-false m (n.passed x (omega (arith, k)) l))

-- and of the next one
pub before_more : (X P : ℕ → Type 0) (i : ℕ) → ((x : ℕ) → x < i → X x → P x) → P i → (x : ℕ) → x < i + 1 → X x → P x
before_more X P i w here x l m = go (dec_lt x i)
  where
    go : Dec (x < i) → P x
    go (yes k) = w x k m
    go (no k) = let same : i ≡ x = omega (arith, k) in subst P same here

-- the places outside the row from `to` on have stayed
abbrev pub Beyond : ℕ → List ℕ → List ℕ → Type 0
Beyond to old new = (p : ℕ) → (p < to) ⊎ (to + 512 ≤ p) → get_or new p 0 ≡ get_or old p 0

-- it is done for the members before i
pub record Filled (f : ℕ → ℕ) (members : List ℕ) (to : ℕ) (old new : List ℕ) (i : ℕ) : Type 0 where
  pub size : length new ≡ length old
  pub done : (x : ℕ) → x < i → Member members x → row_at new to x ≡ f x
  pub ahead : (x : ℕ) → i ≤ x → row_at new to x ≡ row_at old to x
  pub beyond : Beyond to old new

module _ (f : ℕ → ℕ) (members : List ℕ) (to : ℕ) (old : List ℕ) where
  pub filled_none : Filled f members to old old 0
  filled_none = record { size = refl; done = λ x l m. absurd (omega arith); ahead = λ x l. refl; beyond = λ p o. refl }

  module _ (new : List ℕ) (i : ℕ) (w : Filled f members to old new i) where
    -- no member stands before j
    pub filled-on : (j : ℕ) → Next members i j → Filled f members to old new j
    filled-on j n = record {
      size = w.size;
      done = before_next members (λ x. row_at new to x ≡ f x) i j n w.done;
      ahead = λ x l. w.ahead x (let b = n.behind in omega arith);
      beyond = w.beyond;
    }

    pub filled_more : (v : ℕ) → i < 512 → to + 512 ≤ length old → v ≡ f i → Filled f members to old (set new (to + i) v) (i + 1)
    filled_more v l r e = record {
      size = length-set new (to + i) v ∙ w.size;
      done = before_more (Member members) (λ x. row_at (set new (to + i) v) to x ≡ f x) i
          (λ x h m. other x (λ z. let y : x ≡ i = z in omega arith) ∙ w.done x h m) (here ∙ e);
      ahead = λ x h. other x (λ z. let y : x ≡ i = z in omega arith) ∙ w.ahead x (omega arith);
      beyond = λ p o. get_or-set_other new (to + i) p v 0 (out p o) ∙ w.beyond p o;
    }
      where
        here : row_at (set new (to + i) v) to i ≡ v
        here = get_or-set_same new (to + i) v 0 (omega (arith, w.size))

        other : (x : ℕ) → (x ≡ i → ⊥) → row_at (set new (to + i) v) to x ≡ row_at new to x
        other x d = get_or-set_other new (to + i) (to + x) v 0 (λ z. d (let y : to + x ≡ to + i = z in omega arith))

        out : (p : ℕ) → (p < to) ⊎ (to + 512 ≤ p) → p ≡ to + i → ⊥
        out p (inl h) z = let y : p ≡ to + i = z in omega arith
        out p (inr h) z = let y : p ≡ to + i = z in omega arith

    pub filled-kept : Kept to old new
    filled-kept p l = w.beyond p (inl l)

    -- another row stands as it was
    pub filled_apart : (from : ℕ) → (from + 512 ≤ to) ⊎ (to + 512 ≤ from) → (y : ℕ) → y < 512 → row_at new from y ≡ row_at old from y
    filled_apart from (inl h) y l = w.beyond (from + y) (inl (omega arith))
    filled_apart from (inr h) y l = w.beyond (from + y) (inr (omega arith))

    -- no member is left
    pub filled-all : Next members i 512 → Among 512 members → (x : ℕ) → Member members x → row_at new to x ≡ f x
    filled-all n l x m = (filled-on 512 n).done x (l x m) m

-- ---- sums of equal parts

pub sum_fits : (a b c d s p n : ℕ) → a ≡ c → b ≡ d → c * s + d * p < n → a * s + b * p < n
sum_fits a b c d s p n e f h = rw (e, f) h

pub sum_is : (r a b c d s p : ℕ) → r ≡ a * s + b * p → a ≡ c → b ≡ d → r ≡ c * s + d * p
sum_is r a b c d s p q e f = rw (← e, ← f) q

pub times-one : (a b : ℕ) → a + b * 1 ≡ a + b
times-one a b = omega arith
