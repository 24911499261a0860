-- The number that tells what is wrong with an item that is asked for.
-- Assumes nothing.
use mathlib.Core.Path.{◌≡◌, sym, ap, subst, ◌∙◌}
use mathlib.Core.Bool.{Bool, true, false, not}
use mathlib.Core.List.{List}
use Prim.Native.Nat.{ℕ, ◌+◌, ◌≤◌, ◌<◌}
use native.Mathlib.Decide.{dec_lt}
use native.Mathlib.Omega.{arith}
use lib.ListN.{length, get_or-eq_default}
use borrow.Author.Tests.{ne_eqb}
use Rattle.meaning.specs.Bounds.{withdrawn_name}
use Rattle.meaning.specs.Names.{has}
use Rattle.meaning.specs.Refusal.{good, refused, on_call, refuse_if}
use Rattle.meaning.specs.Register.{Register, withdrawn, read_buffer}
use Rattle.meaning.specs.Calls.{asked_for}
use Rattle.meaning.proofs.SessionNames.{has-none}
use Rattle.meaning.proofs.Reading.{went}
use Rattle.meaning.proofs.Asked.{Asks, asked-stops, asked-withdrawn, asked-passes, asks-went}
use Rattle.register.specs.Image.{Asked, Image}
use Rattle.graph.specs.Walked.{numbered}

-- one register is read
pub one-read : (s : List ℕ) {g h : Register} → read_buffer s ≡ good g → read_buffer s ≡ good h → g ≡ h
one-read s {g} {h} p q = let z : good g ≡ good h = sym p ∙ q in cc

module _ {s : List ℕ} {items : ℕ} (item : ℕ) (a : Asked s (λ g. items ≡ length g.names)) where
  many : (g : Register) → read_buffer s ≡ good g → items ≡ length g.names
  many g h = subst (λ (k : Register). items ≡ length k.names) (one-read s a.read h) a.holds

  pub item-inside : item < items → Asked s (λ g. item < length g.names)
  item-inside l = record { register = a.register; read = a.read; holds = omega (arith, l, a.holds) }

  pub asked-none : items ≤ item → Image s (λ g. asked_for g item ≡ numbered 15)
  unfolding refuse_if
  asked-none l g h = asked-stops g item (omega (arith, l, many g h))

  pub asked-out : item < items → Image s (λ g. true ≡ withdrawn g item) → Image s (λ g. asked_for g item ≡ numbered 26)
  unfolding refuse_if
  asked-out l w g h = asked-withdrawn g item (omega (arith, l, many g h)) (sym (w g h))

  pub asked-good : item < items → Image s (λ g. false ≡ withdrawn g item) → Image s (λ g. asked_for g item ≡ numbered 0)
  unfolding refuse_if
  asked-good l w g h = asked-passes g item (record { inside = omega (arith, l, many g h); serves = sym (w g h) })

-- one more item is in service
pub served-more : (g : Register) (i : ℕ) → ((x : ℕ) → x < i → withdrawn g x ≡ false) → withdrawn g i ≡ false → (x : ℕ) → x < i + 1 → withdrawn g x ≡ false
served-more g i h e x l = go (dec_lt x i)
  where
    go : Dec (x < i) → withdrawn g x ≡ false
    go (yes m) = h x m
    go (no m) = let same : x ≡ i = omega (arith, m) in rw same e

-- ---- what a caller makes of the number

module _ (g : Register) (item number : ℕ) (e : asked_for g item ≡ numbered number) where
  pub number-asks : number ≡ 0 → Asks g item
  unfolding refuse_if
  number-asks z = (asks-went g item (good (tt {0})) (went (asked_for g item) (good (tt {0})) (e ∙ ap numbered z))).0

  pub number-halts : (number ≡ 0 → ⊥) → asked_for g item ≡ refused (on_call number)
  unfolding refuse_if
  number-halts d = e ∙ ap (λ (b : Bool). refuse_if (not b) (on_call number)) (ne_eqb number 0 d)

-- what stands behind the items has no name
pub all-served : (g : Register) (items : ℕ) → items ≡ length g.names → ((x : ℕ) → x < items → withdrawn g x ≡ false) → (x : ℕ) → withdrawn g x ≡ false
all-served g items e h x = go (dec_lt x items)
  where
    go : Dec (x < items) → withdrawn g x ≡ false
    go (yes l) = h x l
    go (no l) = ap (λ (n : ℕ). has n withdrawn_name) (get_or-eq_default g.names 0 {n = x} (omega (arith, e, l))) ∙ has-none withdrawn_name
