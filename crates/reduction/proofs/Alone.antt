-- Children each alone under its role: none of them is dropped. And the set of their roles as the code gathers it: one law for each way out
-- of the function and each turn of the loop.
-- Assumes nothing.
use mathlib.Core.Path.{◌≡◌, refl, subst, sym, ◌∙◌}
use mathlib.Core.Bool.{Bool, true, false, cond}
use mathlib.Core.List.{List, []}
use Prim.Native.Nat.{ℕ, ◌+◌, ◌-◌, ◌%◌, ◌≤◌, ◌<◌}
use native.Mathlib.Omega.{arith}
use borrow.Author.Tests.{eq-eqb, ne_eqb}
use lib.Dec.{eqb}
use lib.ListN.{get_or}
use Rattle.meaning.specs.Names.{has}
use Rattle.meaning.specs.Session.{with_name}
use Rattle.meaning.specs.Tree.{Forest, none, more, Concept, under}
use Rattle.meaning.specs.Whole.{any}
use Rattle.meaning.specs.Reduce.{dropped}
use Rattle.meaning.specs.Rows.{Holds, HoldsF}
use Rattle.meaning.proofs.Tests.{true-false}
use Rattle.meaning.proofs.SessionNames.{with-has}
use Rattle.meaning.proofs.Rows.{opened, holds_f-le, holds_more, ran_out}
use Rattle.reduction.specs.Held.{Held, ForTrees}
use Rattle.reduction.specs.Subsumed.{TestsDropped}
use Rattle.reduction.specs.Alone.{Children, KeptIf}
use Rattle.reduction.proofs.Held.{inside, Front, front}

-- ---- a set with one thing more

module _ (seen k : ℕ) where
  put_in : has (with_name true k seen) k ≡ true
  put_in = with-has true k seen k ∙ rw (eq-eqb k k refl)

  still-in : (j : ℕ) → has seen j ≡ true → has (with_name true k seen) j ≡ true
  still-in j e = with-has true k seen j ∙ go (eqb k j)
    where
      go : (b : Bool) → cond b true (has seen j) ≡ true
      go true = refl
      go false = e

  not-before : (j : ℕ) → has (with_name true k seen) j ≡ false → has seen j ≡ false
  not-before j e = go (eqb k j) (sym (with-has true k seen j) ∙ e)
    where
      go : (b : Bool) → cond b true (has seen j) ≡ false → has seen j ≡ false
      go true d = absurd (true-false refl d)
      go false d = d

-- a role in the set is another than one that is not
differ : (seen r s : ℕ) → has seen (r % 64) ≡ true → has seen (s % 64) ≡ false → r ≡ s → ⊥
differ seen r s p q z = true-false p (rw z q)

-- ---- trees apart

-- no tree stands under a role of the set, nor two under one role, as far as roles modulo 64 tell
unfoldable pub Fresh : ℕ → Forest ℕ → Type 0
Fresh seen none = Unit {0}
Fresh seen (more r t f) = (has seen (r % 64) ≡ false) × Fresh (with_name true (r % 64) seen) f

none_seen : (f : Forest ℕ) (seen r : ℕ) → has seen (r % 64) ≡ true → Fresh seen f → under r f ≡ []
unfolding Fresh under
none_seen none seen r p h = refl
none_seen (more s t f) seen r p h =
    rw (ne_eqb r s (differ seen r s p h.0)) (none_seen f (with_name true (s % 64) seen) r (still-in seen (s % 64) (r % 64) p) h.1)

module _ (names roles ends : List ℕ) (left c e : ℕ) (t : Concept) (h : Holds names roles ends t left c (get_or ends c 0)) (f : Forest ℕ)
    (k : HoldsF names roles ends f left (get_or ends c 0) e) where
  -- the tree at c, before which those of b stand, and behind it those of f
  record Alone (seen : ℕ) (b : Forest ℕ) : Type 0 where
    new : has seen (get_or roles c 0 % 64) ≡ false
    before : under (get_or roles c 0) b ≡ []
    after : under (get_or roles c 0) f ≡ []

  alone : (b : Forest ℕ) (seen i : ℕ) → HoldsF names roles ends b left i c → ForTrees names roles ends left i e (Fresh seen) → Alone seen b
  unfolding Fresh under Holds
  alone none seen i at all =
      let l = holds_f-le names roles ends f left (get_or ends c 0) e k in
      let r = get_or roles c 0 in
      let q = all (more r t f) (subst (λ (z : ℕ). HoldsF names roles ends (more r t f) left z e) (sym at) (holds_more names roles ends t f left c e l h k)) in
      record { new = q.0; before = refl; after = none_seen f (with_name true (r % 64) seen) r (put_in seen (r % 64)) q.1 }
  alone (more s u b) seen i at all =
      let l = holds_f-le names roles ends f left (get_or ends c 0) e k in
      let o = opened names roles ends t left c (get_or ends c 0) h in
      let m : get_or ends i 0 ≤ c = at.1 in
      let r = get_or roles c 0 in
      let a = alone b (with_name true (s % 64) seen) (get_or ends i 0) at.3 (λ g z. (all (more s u g) (at.0, omega arith, at.2, z)).1) in
      record {
        new = not-before seen (s % 64) (r % 64) a.new;
        before = rw (ne_eqb r s (λ z. differ (with_name true (s % 64) seen) s r (put_in seen (s % 64)) a.new (sym z))) a.before;
        after = a.after;
      }

all-kept : (names roles ends : List ℕ) (left seen i c e : ℕ) → ForTrees names roles ends left i e (Fresh seen) → TestsDropped names roles ends left i c e false
unfolding dropped any
all-kept names roles ends left seen i c e all b at t h f k =
    let a = alone names roles ends left c e t h f k b seen i at all in
    rw (a.before, a.after)

-- ---- the children one after the other

pub below : (names roles ends : List ℕ) (left n : ℕ) → Held names roles ends left n → {e : ℕ} → e ≡ get_or ends n 0 → Children roles ends (n + 1) e
below names roles ends left n h on = record { names = names; left = left - 1; held = rw on (inside names roles ends left n h).children }

module _ (roles ends : List ℕ) (i e : ℕ) where
  -- the roles of those before c are in the set, and those from c on are still to be looked at
  pub record Ungathered (names : List ℕ) (left seen c : ℕ) (f : Forest ℕ) : Type 0 where
    pub rest : Forest ℕ
    pub holds : HoldsF names roles ends rest left c e
    pub done : Fresh seen rest → Fresh 0 f

  abbrev pub Gathering : ℕ → ℕ → Type 0
  Gathering seen c = (names : List ℕ) (left : ℕ) → ForTrees names roles ends left i e (λ f. Ungathered names left seen c f)

  pub gather-start : Gathering 0 i
  gather-start names left f h = record { rest = f; holds = h; done = λ x. x }

  pub gather-twice : KeptIf roles ends i e false
  gather-twice z = absurd (true-false z refl)

  module _ (seen c : ℕ) (w : Gathering seen c) where
    -- the child at c
    pub ungathered : (h : Children roles ends i e) → c < e → Front h.names roles ends h.left c e
    ungathered h lt =
        let u = w h.names h.left h.held.trees h.held.holds in
        front h.names roles ends h.left c e (record { trees = u.rest; holds = u.holds; fits = h.held.fits }) lt

    pub gather-all : e ≤ c → KeptIf roles ends i e true
    unfolding Fresh
    gather-all le z names left k =
        all-kept names roles ends left 0 i k e (λ f h.
        let u = w names left f h in u.done (rw (ran_out names roles ends u.rest left c e u.holds le) tt))

    pub gather-next : c < e → {k : ℕ} → k ≡ get_or roles c 0 % 64 → has seen k ≡ false → {s : ℕ} → s ≡ with_name true k seen → {m : ℕ} → m ≡ get_or ends c 0 → Gathering s m
    unfolding Fresh Holds
    gather-next lt {k} role new {s} with {m} on names left f h = let u = w names left f h in go u.rest u.holds u.done
      where
        go : (g : Forest ℕ) → HoldsF names roles ends g left c e → (Fresh seen g → Fresh 0 f) → Ungathered names left s m f
        go none x done = absurd (let z : c ≡ e = x in omega arith)
        go (more r t g) x done =
            let q : k ≡ r % 64 = rw x.0 at role in
            record { rest = g; holds = rw on x.3; done = λ y. done (rw q at new, rw q at (rw with at y)) }
