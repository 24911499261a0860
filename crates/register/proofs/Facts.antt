-- Where the facts of an image that was read stand.
-- Assumes nothing.
use mathlib.Core.Path.{◌≡◌, sym, ap, ◌∙◌, subst}
use mathlib.Core.List.{List}
use Prim.Native.Nat.{ℕ, ◌+◌, ◌≤◌, ◌<◌}
use native.Mathlib.Omega.{arith}
use lib.ListN.{length, get_or}
use Rattle.meaning.specs.Bounds.{most_items, most_links}
use Rattle.meaning.specs.Bytes.{number, Bytes}
use Rattle.meaning.specs.Refusal.{good}
use Rattle.meaning.specs.Register.{Link, link_at, read_buffer}
use Rattle.meaning.proofs.Image.{image-fits, image-names, image-link, link-right}
use Rattle.meaning.proofs.SessionLinks.{Sound}
use Rattle.register.specs.Layout.{names_at, link_place}
use Rattle.register.specs.Image.{Asked, Image, no_link, link_no}
use Rattle.register.specs.Held.{IsRead, held}
use Rattle.register.proofs.Holding.{good-is}
use Rattle.register.proofs.Begins.{asked-image}

module _ (s : List ℕ) (b : Bytes s) where
  pub names-place : (item : ℕ) → Asked s (λ g. item < length g.names) → (item ≤ most_items) × (names_at item + 8 ≤ length s)
  names-place item a =
      let q = image-fits s a.register b a.read in
      (omega (arith, q.0.items, a.holds), omega (arith, q.1, a.holds))

  pub names-value : (item r : ℕ) → Asked s (λ g. item < length g.names) → r ≡ number s (names_at item) 8 → Image s (λ g. r ≡ get_or g.names item 0)
  names-value item r a e g h = e ∙ image-names s g b h item (asked-image a g h)

  module _ (items links k : ℕ) (w : IsRead s items links) (l : k < links) where
    held-read : read_buffer s ≡ good (held s)
    held-read = good-is s w.0

    pub link-place : (items ≤ most_items) × (k ≤ most_links) × (link_place items k + 5 ≤ length s)
    link-place =
        let q = image-fits s (held s) b held-read in
        (omega (arith, q.0.items, w.1), omega (arith, q.0.few, w.2), omega (arith, q.1, w.1, w.2))

    -- One part of the k-th link, read at its place: it is that part, and what holds of the part of each link that may stand there holds of it.
    pub link-part : (part : Link → ℕ) (P : ℕ → ℕ → Type 0) → ((n : ℕ) (l : Link) → Sound n l → P n (part l)) → (r : ℕ)
        → r ≡ part (link_at s (link_place items k)) → (r ≡ part (link_no (held s) k)) × P items r
    link-part part P right r e =
        let many : k < length (held s).links = omega (arith, w.2) in
        let q = link-right s (held s) b held-read k no_link many in
        let there : link_at s (link_place items k) ≡ link_no (held s) k =
        ap (λ (z : ℕ). link_at s (link_place z k)) w.1 ∙ image-link s (held s) b held-read k no_link many in
        let same = e ∙ ap part there in
        (same, subst (P items) (sym same) (subst (λ (z : ℕ). P z (part (link_no (held s) k))) (sym w.1) (right (length (held s).names) (link_no (held s) k) (q.0, q.1, q.2))))
