-- The size as the code works it out: one law for each way out of a function and each turn of a loop.
-- Assumes nothing.
use mathlib.Core.Path.{◌≡◌, ap}
use mathlib.Core.List.{List}
use Prim.Native.Nat.{ℕ, ◌+◌, ◌-◌, ◌≤◌, ◌<◌}
use native.Mathlib.Omega.{arith}
use lib.ListN.{get_or}
use Rattle.meaning.specs.Names as N
use Rattle.meaning.specs.Tree.{Forest, Concept}
use Rattle.meaning.specs.InPlace.{count_in, size_in, size_in_f}
use Rattle.meaning.proofs.Rows.{mark-dropped, mark-kept, drops, size-more, Walk, walk_start, walk-next, walk_end}
use Rattle.reduction.specs.Sizes.{HeldBy, Counts, CountsKept, Sized, SizedKept}
use Rattle.reduction.proofs.Held.{Front, front}

-- ---- the size so far

-- the size of t is v with what the children f add, before which the children b are written
abbrev pub SizeSoFar : ℕ → Concept → Forest ℕ → Forest ℕ → Type 0
SizeSoFar v t f b = size_in t ≡ v + (count_in f b + size_in_f f b)

module _ (names ends : List ℕ) (left : ℕ) (marks : List ℕ) (n : ℕ) where
  abbrev pub Sizing : ℕ → ℕ → Type 0
  Sizing v c = (roles : List ℕ) → Walk names roles ends marks left n (SizeSoFar v) c

  pub size-start : {v : ℕ} → v ≡ N.names (get_or names n 0) → Sizing v (n + 1)
  unfolding size_in
  size-start {v} e roles = walk_start names roles ends marks left n (SizeSoFar v) (λ f. omega arith)

  -- the child at c
  pub size-child : (v c : ℕ) → Sizing v c → (h : HeldBy names ends left n) → c < get_or ends n 0 → Front names h.roles ends (left - 1) c (get_or ends n 0)
  size-child v c w h lt =
      let u = w h.roles h.held.tree h.held.holds in
      front names h.roles ends (left - 1) c (get_or ends n 0) (record { trees = u.rest; holds = u.back; fits = h.held.fits }) lt

  pub size-next : (v c : ℕ) → Sizing v c → c < get_or ends n 0 → (x : ℕ) → SizedKept names ends (left - 1) marks c x → {m : ℕ} → m ≡ get_or ends c 0 → Sizing (v + x) m
  size-next v c w lt x s on roles =
      walk-next names roles ends marks left n (SizeSoFar v) c (w roles) (SizeSoFar (v + x)) lt on (λ t u f b m.
      let q = size-more (get_or roles c 0) u f b x (s.right roles u m.holds (drops (get_or roles c 0) u f b) m.marked m.below) in
      let p = m.so_far in
      omega arith)

  pub size-all : (v c : ℕ) → Sizing v c → get_or ends n 0 ≤ c → Counts names ends left marks size_in n v
  unfolding size_in
  size-all v c w le roles t h m = let q = walk_end names roles ends marks left n (SizeSoFar v) c (w roles) le t h m in let p = q.1 in omega arith

-- ---- one child's size

module _ (names ends : List ℕ) (left : ℕ) (marks : List ℕ) (c : ℕ) where
  pub none-counted : (f : Concept → ℕ) (k : ℕ) → (get_or marks c 0 ≡ 1 → ⊥) → CountsKept names ends left marks f k c k
  none-counted f k z roles t h d e below = rw (mark-dropped d e z)

  pub kept-counted : (f : Concept → ℕ) (k v : ℕ) → get_or marks c 0 ≡ 1 → Counts names ends left marks f c v → CountsKept names ends left marks f k c v
  kept-counted f k v z s roles t h d e below = rw (mark-kept d e z) (s roles t h (below z))

  pub none-sized : (get_or marks c 0 ≡ 1 → ⊥) → SizedKept names ends left marks c 0
  none-sized z = record { right = none-counted (λ t. 1 + size_in t) 0 z; small = omega arith }

  pub kept-sized : (v : ℕ) → get_or marks c 0 ≡ 1 → Sized names ends left marks c v → SizedKept names ends left marks c (1 + v)
  kept-sized v z s =
      let l = s.small in
      record { right = kept-counted (λ t. 1 + size_in t) 0 (1 + v) z (λ roles t h m. ap (λ (x : ℕ). 1 + x) (s.right roles t h m)); small = omega arith }
