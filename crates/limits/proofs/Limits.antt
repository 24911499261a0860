-- The bytes of thresholds, one after the other.
-- Assumes nothing.
use mathlib.Core.Path.{◌≡◌, sym, ap, ◌∙◌, subst}
use mathlib.Core.List.{List, [], ◌∷◌, ◌++◌, append-nil}
use Prim.Native.Nat.{ℕ, ◌+◌, ◌*◌, ◌≤◌, ◌<◌}
use native.Mathlib.Omega.{arith}
use lib.Dec.{T}
use lib.ListN.{length, get_or}
use lib.Seq.{sets}
use Rattle.meaning.specs.Refusal.{good}
use Rattle.meaning.specs.Bytes.{bytes}
use Rattle.meaning.specs.Bounds.{most_thresholds}
use Rattle.meaning.specs.Tree.{nodes}
use Rattle.meaning.specs.Lists.{Listed, Limit, form_tree, concept, threshold}
use Rattle.meaning.specs.Message.{code, comparison, concept_bytes, threshold_bytes}
use Rattle.meaning.specs.Writing.{nodes_in, inners_at, limit_at, nodes_fit, limit_fits}
use Rattle.meaning.proofs.Reading.{bytes-length, passed, gone, le-of-not-below, lt_of_not_le}
use Rattle.meaning.proofs.Lists.{root_role}
use Rattle.meaning.proofs.ListsFit.{listed-length}
use Rattle.meaning.proofs.ListsSound.{inner-listed}
use Rattle.meaning.proofs.MessageLabel.{coded, concept-length}
use Rattle.lists.specs.Handed.{One, Inner}
use Rattle.lists.proofs.Parts.{nodes-own}
use Rattle.limits.proofs.Nodes.{nodes-length}
use Rattle.limits.proofs.Inner.{inner-some}
use Rattle.limits.proofs.Putting.{bytes_one, put-none, put-more, put_all, put_as}

-- what a threshold that passes has passed
pub limit-open : (k : ℕ) (h : Limit) → limit_fits k h ≡ good tt → (k < most_thresholds) × (h.how ≤ 3) × (nodes_fit 0 h.inner ≡ good tt)
unfolding limit_fits
limit-open k h e =
    let a = passed _ _ _ e in
    let b = passed _ _ _ a.1 in
    let c = passed _ _ _ b.1 in
    let d = gone (nodes_fit 0 h.inner) _ c.1 in
    (lt_of_not_le _ _ a.0, le-of-not-below _ _ b.0, d.0)

pub limit-inner : (hs own : List ℕ) (j : ℕ) → length own ≡ 3 * inners_at hs j → One hs own j 0 → limit_fits j (limit_at hs own j 0) ≡ good tt → Inner own
limit-inner hs own j e w f =
    let q = sym (nodes-own hs own j e) in
    record {
      forms = subst (λ (z : List (Listed ℕ)). T (form_tree z)) q w.forms;
      fits = subst (λ (z : List (Listed ℕ)). nodes_fit 0 z ≡ good tt) q (limit-open j (limit_at hs own j 0) f).2;
    }

-- a threshold has at least one inner node
pub limit-some : (hs own : List ℕ) (j : ℕ) → length own ≡ 3 * inners_at hs j → One hs own j 0 → limit_fits j (limit_at hs own j 0) ≡ good tt
    → 0 < inners_at hs j
limit-some hs own j e w f = omega (arith, e, inner-some own (limit-inner hs own j e w f))

pub inner-long : (xs : List (Listed ℕ)) → T (form_tree xs) → length (concept_bytes (concept xs)) + 1 ≡ 11 * length xs
inner-long xs w =
    let e : nodes (concept xs) ≡ length xs = sym (listed-length (concept xs) 0 (root_role xs)) ∙ ap length (inner-listed xs w) in
    concept-length (concept xs) ∙ ap (λ (z : ℕ). 11 * z) e

pub limit-put : (hs own old a b c d out : List ℕ) (at j h p q len : ℕ) → One hs own j 0 → limit_fits j (limit_at hs own j 0) ≡ good tt
    → length own ≡ 3 * inners_at hs j → h ≡ get_or hs (5 * j + 1) 0 → p ≡ get_or hs (5 * j + 2) 0 → q ≡ get_or hs (5 * j + 3) 0 → a ≡ sets old at (bytes 1 h)
    → b ≡ sets a (at + 1) (bytes 2 p) → c ≡ sets b (at + 3) (bytes 2 q) → d ≡ sets c (at + 5) (bytes 2 len)
    → out ≡ sets d (at + 7) (concept_bytes (concept (nodes_in own))) → len + 1 ≡ 11 * inners_at hs j
    → out ≡ sets old at (threshold_bytes (threshold (limit_at hs own j 0)))
unfolding bytes
limit-put hs own old a b c d out at j h p q len w f en eh ep eq ea eb ec ed eo el =
    let l = limit_at hs own j 0 in
    let all = threshold_bytes (threshold l) in
    let low = (limit-open j l f).1 in
    let body = concept_bytes (concept l.inner) in
    let long : len ≡ length body = omega (arith, el, inner-long l.inner w.forms, nodes-length own 0 (inners_at hs j)) in
    let how : bytes 1 h ≡ code (comparison l.how) ∷ [] =
    ap (bytes 1) eh ∙ bytes_one l.how (omega (arith, low)) ∙ ap (λ (z : ℕ). z ∷ []) (coded l.how low) in
    let one = put-more old old a at at (at + 1) all (code (comparison l.how) ∷ []) (bytes 2 l.p ++ (bytes 2 l.q ++ (bytes 2 (length body) ++ body)))
    (put-none old at all) (ea ∙ ap (sets old at) how) (omega arith) in
    let two = put-more old a b at (at + 1) (at + 3) all (bytes 2 l.p) (bytes 2 l.q ++ (bytes 2 (length body) ++ body)) one
    (eb ∙ ap (λ (z : ℕ). sets a (at + 1) (bytes 2 z)) ep) (omega (arith, bytes-length 2 l.p)) in
    let three = put-more old b c at (at + 3) (at + 5) all (bytes 2 l.q) (bytes 2 (length body) ++ body) two
    (ec ∙ ap (λ (z : ℕ). sets b (at + 3) (bytes 2 z)) eq) (omega (arith, bytes-length 2 l.q)) in
    let four = put-more old c d at (at + 5) (at + 7) all (bytes 2 (length body)) body three
    (ed ∙ ap (λ (z : ℕ). sets c (at + 5) (bytes 2 z)) long) (omega (arith, bytes-length 2 (length body))) in
    let five = put-more old d out at (at + 7) (at + 7 + length body) all body [] (put_as old d at (at + 7) all body (body ++ []) four (sym (append-nil body)))
    (eo ∙ ap (λ (z : List (Listed ℕ)). sets d (at + 7) (concept_bytes (concept z))) (nodes-own hs own j en)) (omega arith) in
    put_all old out at (at + 7 + length body) all five
