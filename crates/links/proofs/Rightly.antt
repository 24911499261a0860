-- Links whose numbers pass every test are read.
-- Assumes nothing.
use mathlib.Core.Path.{◌≡◌, refl, sym, ◌∙◌, subst}
use mathlib.Core.List.{List, [], ◌∷◌}
use mathlib.Core.Option.{Option, some}
use mathlib.Core.Option.{none as nowhere}
use Prim.Native.Nat.{ℕ, zero, suc, ◌+◌, ◌*◌, ◌-◌, ◌≤◌, ◌<◌}
use native.Mathlib.Omega.{arith}
use Rattle.meaning.specs.Refusal.{good}
use Rattle.meaning.specs.Bounds.{most_items}
use Rattle.meaning.specs.Bytes.{Bytes}
use Rattle.meaning.specs.Register.{Link, link_at, read_link, read_links}
use Rattle.meaning.proofs.Reading.{took}
use Rattle.links.specs.Links.{key, Floor, Right, Rightly, AllRead}
use Rattle.links.proofs.OneLink.{link-passed}

module _ (s : List ℕ) (n : ℕ) where
  pub rightly-none : (m f p : ℕ) → m ≡ 0 → f ≤ n * 16777216 → Rightly s n m f p
  unfolding Rightly
  rightly-none m f p e h = subst (λ (z : ℕ). Rightly s n z f p) (sym e) h

  -- one more link, whose number is k, before some
  pub rightly-more : (m f p k : ℕ) → k ≡ key (link_at s p) → 0 < m → Right k n f → Rightly s n (m - 1) (k + 1) (p + 5) → Rightly s n m f p
  unfolding Rightly
  rightly-more zero f p k e l w r = absurd (omega arith)
  rightly-more (suc m) f p k e l w r =
      let d : suc m - 1 ≡ m = omega arith in
      let u = rw (e, d) at r in
      (subst (λ (z : ℕ). Right z n f) e w, u)

  -- the least number that the first may have is not above those that lead from the items
  small : (m f p : ℕ) → Rightly s n m f p → f ≤ n * 16777216
  unfolding Rightly
  small zero f p w = w
  small (suc m) f p w = omega (arith, w.0.0, small m _ _ w.1)

  module _ (b : Bytes s) (end : ℕ) (few : n ≤ most_items) where
    rightly-read : (m : ℕ) (before : Option Link) (f p : ℕ) → Floor before f → p + 5 * m ≤ end → Rightly s n m f p
        → (ls : List Link) × (read_links s end n m before p ≡ good ls)
    unfolding Rightly read_links
    rightly-read zero before f p fl fit w = ([], refl)
    rightly-read (suc m) before f p fl fit w =
        let one = link-passed s b end n p f before (omega arith) few w.0 (omega (arith, small m _ _ w.1)) fl in
        let rest = rightly-read m (some (link_at s p)) (key (link_at s p) + 1) (p + 5) one.1 (omega arith) w.1 in
        (link_at s p ∷ rest.0, took (read_link s end n before p) _ _ one.0 ∙ took (read_links s end n m (some (link_at s p)) (p + 5)) _ _ rest.1)

    pub rightly-all : (m p : ℕ) → p + 5 * m ≤ end → Rightly s n m 0 p → AllRead s end n m p
    rightly-all m p fit w = rightly-read m nowhere 0 p refl fit w

  -- ---- link after link: if those from the k-th on are right, of which the first must have at least the number f, all are
  module _ (m p : ℕ) where
    abbrev pub Rest : ℕ → ℕ → Type 0
    Rest k f = Rightly s n (m - k) f (p + 5 * k) → Rightly s n m 0 p

    pub rest-all : Rest 0 0
    rest-all r = let a : m - 0 ≡ m = omega arith in let b : p + 5 * 0 ≡ p = omega arith in rw (a, b) at r

    pub rest-more : (k f number : ℕ) → k < m → number ≡ key (link_at s (p + 5 * k)) → Right number n f → Rest k f → Rest (k + 1) (number + 1)
    rest-more k f number h e w all r =
        let a : m - (k + 1) ≡ m - k - 1 = omega arith in
        let b : p + 5 * (k + 1) ≡ p + 5 * k + 5 = omega arith in
        all (rightly-more (m - k) f (p + 5 * k) number e (omega arith) w (rw (a, b) at r))

    pub rest_none : (k f : ℕ) → m ≤ k → f ≤ n * 16777216 → Rest k f → Rightly s n m 0 p
    rest_none k f h l all = all (rightly-none (m - k) f (p + 5 * k) (omega arith) l)
