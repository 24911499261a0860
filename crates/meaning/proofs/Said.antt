-- The lists of a requirement say that requirement.
-- Assumes nothing.
use mathlib.Core.Path.{◌≡◌, refl, ap, ap₂, ◌∙◌}
use mathlib.Core.List.{List, [], ◌∷◌, ◌++◌, append-nil}
use Prim.Native.Nat.{ℕ, suc, ◌<◌}
use native.Mathlib.Omega.{arith}
use Rattle.meaning.specs.Requirement.{Threshold, Label, Requirement}
use Rattle.meaning.specs.Lists.{Listed, Limit, concept, threshold, owned, labelled, said, listed, limit_of, limits_at, limits_of, names_only, lists_of}
use Rattle.meaning.proofs.MessageLabel.{decoded}
use Rattle.meaning.proofs.Lists.{same, other, first-listed}

concept-listed : (h : Threshold) → concept (listed 0 0 h.inner) ≡ h.inner
unfolding concept
concept-listed h = first-listed 0 h.inner 0 0

threshold-back : (i : ℕ) (h : Threshold) → threshold (limit_of i h) ≡ h
threshold-back i h = rw (concept-listed h, (decoded h.how).0) refl

-- the thresholds of one node, and then others
owned-own : (i : ℕ) (hs : List Threshold) (rest : List Limit) → owned i (limits_at i hs ++ rest) ≡ hs ++ owned i rest
unfolding owned limits_at
owned-own i [] rest = refl
owned-own i (h ∷ hs) rest = rw (same i i refl) (ap₂ {C = List Threshold} ◌∷◌ (threshold-back i h) (owned-own i hs rest))

owned-past : (i j : ℕ) (hs : List Threshold) (rest : List Limit) → i < j → owned j (limits_at i hs ++ rest) ≡ owned j rest
unfolding owned limits_at
owned-past i j [] rest l = refl
owned-past i j (h ∷ hs) rest l = rw (other i j (λ e. let z : i ≡ j = e in omega (arith, l))) (owned-past i j hs rest l)

owned-before : (i j : ℕ) (xs : List (Listed Label)) → i < j → owned i (limits_of j xs) ≡ []
unfolding owned limits_of limits_at
owned-before i j [] l = refl
owned-before i j (x ∷ xs) l = behind x.label.thresholds ∙ owned-before i (suc j) xs (omega arith)
  where
    behind : (hs : List Threshold) → owned i (limits_at j hs ++ limits_of (suc j) xs) ≡ owned i (limits_of (suc j) xs)
    behind [] = refl
    behind (h ∷ hs) = rw (other j i (λ e. let z : j ≡ i = e in omega (arith, l))) (behind hs)

labelled-past : (i j : ℕ) (ns : List (Listed ℕ)) (hs : List Threshold) (rest : List Limit) → i < j → labelled j ns (limits_at i hs ++ rest) ≡ labelled j ns rest
unfolding labelled
labelled-past i j [] hs rest l = refl
labelled-past i j (n ∷ ns) hs rest l = rw (owned-past i j hs rest l, labelled-past i (suc j) ns hs rest (omega arith)) refl

labelled-back : (i : ℕ) (xs : List (Listed Label)) → labelled i (names_only xs) (limits_of i xs) ≡ xs
unfolding labelled names_only limits_of
labelled-back i [] = refl
labelled-back i (x ∷ xs) =
    let hs = x.label.thresholds in
    let rest = limits_of (suc i) xs in
    let own : owned i (limits_at i hs ++ rest) ≡ hs =
    owned-own i hs rest ∙ ap (λ (z : List Threshold). hs ++ z) (owned-before i (suc i) xs (omega arith)) ∙ append-nil hs in
    let more : labelled (suc i) (names_only xs) (limits_at i hs ++ rest) ≡ xs =
    labelled-past i (suc i) (names_only xs) hs rest (omega arith) ∙ labelled-back (suc i) xs in
    rw (own, more) refl

pub said-back : (q : Requirement) → said (lists_of q) ≡ q
unfolding said lists_of
said-back q = rw (labelled-back 0 (listed 0 0 q)) (first-listed _ q 0 0)
