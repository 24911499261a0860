-- The links of a register rise, in where they lead from and in their numbers. So those of one item stand together.
-- Assumes nothing.
use mathlib.Core.Path.{◌≡◌, sym, ◌∙◌, subst}
use mathlib.Core.Bool.{Bool, ◌&&◌, ◌||◌}
use mathlib.Core.Logic.{◌⊎◌, inl, inr}
use mathlib.Core.List.{List, [], ◌∷◌}
use mathlib.Core.Option.{Option, some}
use mathlib.Core.Option.{none as nowhere}
use Prim.Native.Nat.{ℕ, zero, suc, ◌+◌, ◌≤◌, ◌<◌}
use native.Mathlib.Nat.{le_refl, le_trans, le_of_eq}
use native.Mathlib.Omega.{arith}
use lib.Dec.{T, eqb, ltb, eqb→eq, ltb→lt, leb→le}
use lib.ListN.{length, get_or}
use Rattle.meaning.specs.Bytes.{Bytes}
use Rattle.meaning.specs.Refusal.{good}
use Rattle.meaning.specs.Register.{Link, Register, rises, links_of, read_buffer}
use Rattle.meaning.proofs.Tests.{and_both, or_cases}
use Rattle.meaning.proofs.Image.{right, image-fits}
use Rattle.meaning.proofs.SessionLinks.{Sound}
use Rattle.register.specs.Image.{Asked, Image, no_link, link_no, Begins}
use Rattle.register.specs.Reading.{key, Small}
use Rattle.links.proofs.Rising.{rises-key}

-- what is asked holds of the register that was read
pub asked-image : {s : List ℕ} {P : Register → Type 0} → Asked s P → Image s P
asked-image {P} a g h = let same : a.register ≡ g = let z : good a.register ≡ good g = sym a.read ∙ h in cc in subst P same a.holds

from_le : (l m : Link) → T (rises l m) → l.from ≤ m.from
from_le l m t = go (or_cases (ltb l.from m.from) (eqb l.from m.from && later) t)
  where
    later : Bool
    later = ltb l.role m.role || eqb l.role m.role && ltb l.to m.to

    go : T (ltb l.from m.from) ⊎ T (eqb l.from m.from && later) → l.from ≤ m.from
    go (inl h) = let k = ltb→lt l.from m.from h in omega arith
    go (inr h) = le_of_eq (eqb→eq l.from m.from (and_both (eqb l.from m.from) later h).0)

-- ---- what rises with the links

module _ (n : ℕ) (value : Link → ℕ) (up : (l m : Link) → Sound n l → Sound n m → T (rises l m) → value l ≤ value m) where
  sound : (before : Option Link) (l : Link) (ls : List Link) → T (links_of n before (l ∷ ls)) → Sound n l
  sound before l ls w = let q = (right n before l ls w).0 in (q.from, q.role, q.to)

  behind : (l : Link) (ls : List Link) (k : ℕ) → Sound n l → T (links_of n (some l) ls) → k < length ls → value l ≤ value (get_or ls k no_link)
  behind l [] k o w h = absurd (omega arith)
  behind l (m ∷ ls) zero o w h = up l m o (sound (some l) m ls w) (right n (some l) m ls w).0.rises
  behind l (m ∷ ls) (suc k) o w h =
      let q = right n (some l) m ls w in
      let u = sound (some l) m ls w in
      le_trans (up l m o u q.0.rises) (behind m ls k u q.1 (omega arith))

  value-rises : (before : Option Link) (ls : List Link) (j k : ℕ) → T (links_of n before ls) → j ≤ k → k < length ls
      → value (get_or ls j no_link) ≤ value (get_or ls k no_link)
  value-rises before [] j k w h l = absurd (omega arith)
  value-rises before (x ∷ ls) zero zero w h l = le_refl _
  value-rises before (x ∷ ls) zero (suc k) w h l = behind x ls k (sound before x ls w) (right n before x ls w).1 (omega arith)
  value-rises before (x ∷ ls) (suc j) zero w h l = absurd (omega arith)
  value-rises before (x ∷ ls) (suc j) (suc k) w h l = value-rises (some x) ls j k (right n before x ls w).1 (omega arith) (omega arith)

module _ (s : List ℕ) (b : Bytes s) (g : Register) (h : read_buffer s ≡ good g) where
  -- where they lead from
  pub links-rise : (j k : ℕ) → j ≤ k → k < length g.links → (link_no g j).from ≤ (link_no g k).from
  links-rise j k =
      value-rises (length g.names) (λ l. l.from) (λ l m o u t. from_le l m t) nowhere g.links j k (image-fits s g b h).0.rising

  -- their numbers
  pub keys-rise : (j k : ℕ) → j ≤ k → k < length g.links → key (link_no g j) ≤ key (link_no g k)
  keys-rise j k =
      value-rises (length g.names) (λ l. key l) up nowhere g.links j k (image-fits s g b h).0.rising
    where
      small : (l : Link) → Sound (length g.names) l → Small l
      small l o = (o.1, omega (arith, o.2, (image-fits s g b h).0.items))

      up : (l m : Link) → Sound (length g.names) l → Sound (length g.names) m → T (rises l m) → key l ≤ key m
      up l m o u t = let q = leb→le (key l + 1) (key m) (subst T (rises-key l m (small l o) (small m u)) t) in omega arith

-- the links of the first item begin at the first link
pub begins-first : (ls : List Link) → Begins ls 0 0
begins-first ls = record { within = omega arith; before = λ j h. absurd (let z : j < 0 = h in omega arith); behind = λ j h l. omega arith }
