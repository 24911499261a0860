-- Fields one after the other, from a width in hand on: cut short there, or whole.
-- Assumes nothing.
use mathlib.Core.Path.{◌≡◌, ap, ◌∙◌}
use mathlib.Core.List.{List, ◌∷◌}
use Prim.Native.Nat.{ℕ, ◌+◌, ◌≤◌, ◌<◌}
use lib.Dec.{ltb}
use lib.ListN.{length, get_or, drop}
use Rattle.std.proofs.Common.{add-one}
use Rattle.std.proofs.Math.Seq.{drop-cons}
use Rattle.std.proofs.lemmas.List.Sums.{sum_by-cons}
use Rattle.std.specs.Prelude.{sum}
use Rattle.meaning.specs.declared.Side.TheVariants.{Requirement as requirement}
use Rattle.meaning.specs.Refusal.{refused, at}
use Rattle.meaning.specs.Bytes.{fields}
use Rattle.meaning.proofs.Reading.{pass, stop, below, not-below}

module _ (W : List ℕ) (i : ℕ) (some' : i < length W) where
  abbrev w : ℕ
  w = get_or W i 0

  from : drop i W ≡ w ∷ drop (i + 1) W
  from = rw (add-one, drop-cons W i 0)

  pub summed : sum (drop i W) ≡ w + sum (drop (i + 1) W)
  summed = ap sum from ∙ sum_by-cons (λ x. x) w (drop (i + 1) W)

  module _ (end p : ℕ) where
    pub cut-here : end < p + w → fields requirement end (drop i W) p ≡ refused (at requirement 1 p)
    unfolding fields
    cut-here l = ap (λ (V : List ℕ). fields requirement end V p) from ∙ stop (ltb end (p + w)) _ _ (below end (p + w) l)

    pub whole-here : p + w ≤ end → fields requirement end (drop i W) p ≡ fields requirement end (drop (i + 1) W) (p + w)
    unfolding fields
    whole-here l = ap (λ (V : List ℕ). fields requirement end V p) from ∙ pass (ltb end (p + w)) _ _ (not-below end (p + w) l)
