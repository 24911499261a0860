-- What a caller makes of the record of a graph: what the other functions ask, and that successors are items.
-- Assumes nothing.
use mathlib.Core.Path.{◌≡◌, sym, ◌∙◌, subst}
use mathlib.Core.Logic.{◌⊎◌, inl, inr}
use mathlib.Core.List.Memᴰ
use mathlib.Core.List.{List, [], ◌∷◌, Memᴰ}
use mathlib.Core.Option.{Option, some}
use mathlib.Core.Option.{none as nowhere}
use Prim.Native.Nat.{ℕ, ◌<◌}
use native.Mathlib.Omega.{arith}
use lib.Dec.{T}
use lib.ListN.{length}
use Rattle.meaning.specs.Bytes.{Bytes}
use Rattle.meaning.specs.Refusal.{good}
use Rattle.meaning.specs.Register.{Link, Register, withdrawn, links_of, targets, read_buffer}
use Rattle.meaning.proofs.Links.{targets-links, except-in, link}
use Rattle.meaning.proofs.Image.{right, image-fits}
use Rattle.register.specs.Image.{Asked}
use Rattle.graph.specs.Walked.{walked}
use Rattle.graph.specs.Judged.{Judged}

-- a link of so many items leads to one of them
pub link-inside : (n : ℕ) (before : Option Link) (ls : List Link) (l : Link) → T (links_of n before ls) → Memᴰ l ls → l.to < n
link-inside n before [] l w m = elim m [ ]
link-inside n before (x ∷ ls) l w m = go (Memᴰ.cases_cons m) (λ k. link-inside n (some x) ls l (right n before x ls w).1 k)
  where
    go : (l ≡ x) ⊎ Memᴰ l ls → (Memᴰ l ls → l.to < n) → l.to < n
    go (inl e) h = subst (λ (z : Link). z.to < n) (sym e) (right n before x ls w).0.to
    go (inr k) h = h k

-- the successors of an item are items
pub successor-inside : (s : List ℕ) (items : ℕ) (g : Register) → read_buffer s ≡ good g → items ≡ length g.names → Bytes s → (x r y : ℕ) → Memᴰ y ((walked g).next x r)
    → y < items
successor-inside s items g h e b x r y m =
    rw e (link-inside (length g.names) nowhere g.links (link x r y) (image-fits s g b h).0.rising ((targets-links g.links x r y).0 ((except-in (withdrawn g) (targets g.links x r) y).0 m).0))

module _ {s : List ℕ} {items : ℕ} {index : List ℕ} (j : Judged s items index) where
  pub one-register : (g : Register) → read_buffer s ≡ good g → j.register ≡ g
  one-register g h = let z : good j.register ≡ good g = sym j.read ∙ h in cc

  pub asked-names : {item : ℕ} → item < items → Asked s (λ g. item < length g.names)
  asked-names l = record { register = j.register; read = j.read; holds = omega (arith, l, j.items-are) }

  pub next-inside : Bytes s → (x r y : ℕ) → Memᴰ y ((walked j.register).next x r) → y < items
  next-inside = successor-inside s items j.register j.read j.items-are
