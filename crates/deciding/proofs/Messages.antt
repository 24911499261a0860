-- The thresholds that reading a message hands on, one after the other: each written node's are its label's.
-- Assumes nothing.
use mathlib.Core.Path.{◌≡◌, refl, sym, ap, subst, ◌∙◌}
use mathlib.Core.List.{List, [], ◌∷◌, ◌++◌, append_assoc}
use Prim.Native.Nat.{ℕ, suc, ◌+◌, ◌<◌, suc-le-suc}
use native.Mathlib.Numerals.{add-one}
use native.Mathlib.Nat.{zero-add}
use native.Mathlib.Omega.{arith}
use lib.ListN.{length, get_or, length-append, get_or-append}
use lib.Seq.{get_or-append-add}
use Rattle.meaning.specs.Tree.{node, Forest, none, more, nodes, written, written_f}
use Rattle.meaning.specs.Graph.{Graph}
use Rattle.meaning.specs.Requirement.{Threshold, Label, Requirement, bare}
use Rattle.meaning.specs.Message.{Part, joined, thresholds_of, thresholds_bytes, requirement_bytes, concept_bytes}
use Rattle.meaning.specs.Rows.{Holds}
use Rattle.meaning.proofs.MessageTree.{parts_of, parts_of_f}
use Rattle.meaning.proofs.MessageLabel.{parts_at, at_length, outer_kind}
use Rattle.meaning.proofs.Message.{parts_in, parts-length}
use Rattle.readers.specs.Reading.{no_part}
use Rattle.screening.specs.Standing.{no_threshold, Ruled}
use Rattle.deciding.proofs.Owners.{many, many_f, Own, Listed, ListedF, ruled-all}

-- each element of a list that is numbered from k on
abbrev Each : {A : Type 0} → (ℕ → A → Type 0) → A → List A → ℕ → Type 0
Each P d l k = (j : ℕ) → j < length l → P (k + j) (get_or l j d)

each-split : {A : Type 0} (P : ℕ → A → Type 0) (d : A) (a b : List A) (k : ℕ) → Each P d (a ++ b) k → Each P d a k × Each P d b (k + length a)
each-split P d a b k h = (
  (λ j l. subst (P (k + j)) (get_or-append a b d j l) (h j (omega (arith, length-append a b)))),
  (λ j l. let e : k + (length a + j) ≡ k + length a + j = omega arith in
      subst (λ (z : ℕ). P z (get_or b j d)) e (subst (P (k + (length a + j))) (get_or-append-add a b j d) (h (length a + j) (omega (arith, length-append a b))))),
)

joined-append : (as' bs : List Label) → joined (as' ++ bs) ≡ joined as' ++ joined bs
unfolding joined
joined-append [] bs = refl
joined-append (a ∷ as') bs = ap (λ (z : List Threshold). a.thresholds ++ z) (joined-append as' bs) ∙ sym (append_assoc a.thresholds _ _)

-- how many there are
mutual
  unfolding many joined written

  pub many-thresholds : (t : Requirement) → many t ≡ length (thresholds_of t)
  many-thresholds (node a f) = rw (many-thresholds_f f) (sym (length-append a.thresholds (joined (written_f f))))

  many-thresholds_f : (f : Forest Label) → many_f f ≡ length (joined (written_f f))
  many-thresholds_f none = refl
  many-thresholds_f (more r t f) =
      rw (many-thresholds t, many-thresholds_f f, joined-append (written t) (written_f f)) (sym (length-append (joined (written t)) (joined (written_f f))))

module _ (G : Graph ℕ) (owners : List ℕ) (all : List Threshold) where
  -- the k-th threshold is of this part's node, and is this one
  abbrev pub OfNode : ℕ → Part → Type 0
  OfNode k x = get_or owners k 0 ≡ x.owner

  abbrev pub Says : ℕ → Threshold → Type 0
  Says k h = get_or all k no_threshold ≡ h

  own-from : (hs : List Threshold) (i p k : ℕ) → Each OfNode no_part (parts_at hs i p) k → Each Says no_threshold hs k → Own G owners all hs i k
  unfolding Own parts_at
  own-from [] i p k o b = tt
  own-from (h ∷ hs) i p k o b =
      let e : k + 0 ≡ k = omega arith in
      let next : (j : ℕ) → k + suc j ≡ suc k + j = λ j. omega arith in (
        subst (λ (z : ℕ). get_or owners z 0 ≡ i) e (o 0 (omega arith)),
        subst (λ (z : ℕ). Says z h) e (b 0 (omega arith)),
        own-from hs i (p + 7 + length (concept_bytes h.inner)) (suc k)
            (λ j l. subst (λ (z : ℕ). OfNode z (get_or (parts_at hs i (p + 7 + length (concept_bytes h.inner))) j no_part)) (next j) (o (suc j) (suc-le-suc l)))
            (λ j l. subst (λ (z : ℕ). Says z (get_or hs j no_threshold)) (next j) (b (suc j) (suc-le-suc l))),
      )

  mutual
    unfolding Listed many parts_of joined written

    listed-from : (t : Requirement) (i p k : ℕ) → Each OfNode no_part (parts_of outer_kind t i p) k → Each Says no_threshold (thresholds_of t) k
        → Listed G owners all t i k
    listed-from (node a f) i p k o b =
        let hs = a.thresholds in
        let rest = p + 10 + length (thresholds_bytes hs) in
        let q = each-split OfNode no_part (parts_at hs i (p + 10)) (parts_of_f outer_kind f (suc i) rest) k o in
        let r = each-split Says no_threshold hs (joined (written_f f)) k b in (
          own-from hs i (p + 10) k q.0 r.0,
          subst (λ (z : ℕ). ListedF G owners all f z (k + length hs)) (sym (add-one i))
              (listed_f-from f (suc i) rest (k + length hs) (subst (λ (z : ℕ). Each OfNode no_part (parts_of_f outer_kind f (suc i) rest) (k + z)) (at_length hs i (p + 10)) q.1) r.1),
        )

    listed_f-from : (f : Forest Label) (i p k : ℕ) → Each OfNode no_part (parts_of_f outer_kind f i p) k → Each Says no_threshold (joined (written_f f)) k
        → ListedF G owners all f i k
    listed_f-from none i p k o b = tt
    listed_f-from (more r t f) i p k o b =
        let rest = p + 1 + length (requirement_bytes t) in
        let q = each-split OfNode no_part (parts_of outer_kind t i (p + 1)) (parts_of_f outer_kind f (i + nodes t) rest) k o in
        let b' : Each Says no_threshold (joined (written t) ++ joined (written_f f)) k =
        subst (λ (z : List Threshold). Each Says no_threshold z k) (joined-append (written t) (written_f f)) b in
        let s = each-split Says no_threshold (joined (written t)) (joined (written_f f)) k b' in (
          listed-from t i (p + 1) k q.0 s.0,
          listed_f-from f (i + nodes t) rest (k + many t)
              (subst (λ (z : ℕ). Each OfNode no_part (parts_of_f outer_kind f (i + nodes t) rest) (k + z)) (parts-length t i (p + 1) ∙ sym (many-thresholds t)) q.1)
              (subst (λ (z : ℕ). Each Says no_threshold (joined (written_f f)) (k + z)) (sym (many-thresholds t)) s.1),
        )

  -- a requirement that was read, its rows, the owners of its thresholds and these themselves
  pub message-ruled : (names roles ends : List ℕ) (q : Requirement) (left e n : ℕ) → Holds names roles ends (bare q) left 0 e
      → n ≡ length (parts_in q)
      → ((k : ℕ) → k < length (parts_in q) → get_or owners k 0 ≡ (get_or (parts_in q) k no_part).owner)
      → all ≡ thresholds_of q → Ruled G owners all ends n q 0
  message-ruled names roles ends q left e n h en o b =
      ruled-all G owners all names roles ends n q left e h
      (listed-from q 0 3 0 (λ j l. rw zero-add (o j l)) (λ j l. rw zero-add (ap (λ (hs : List Threshold). get_or hs j no_threshold) b)))
      (en ∙ parts-length q 0 3 ∙ sym (many-thresholds q))
