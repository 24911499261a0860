-- How long the message is that numbers say: by the counts of nodes, thresholds and inner nodes alone.
-- Assumes nothing.
use mathlib.Core.Path.{◌≡◌, refl, sym, ap, ◌∙◌, subst}
use mathlib.Core.Bool.{◌&&◌}
use mathlib.Core.List.{List, [], ◌∷◌}
use Prim.Native.Nat.{ℕ, zero, suc, ◌+◌, ◌*◌, ◌-◌, ◌/◌, ◌%◌, ◌≤◌, ◌<◌}
use native.Mathlib.Omega.{arith}
use native.Mathlib.Decide.{ℕ_discrete}
use lib.Dec.{T, leb, eqb, leb→le, eqb→eq}
use lib.ListN.{length, length-append}
use lib.Seq.{sets}
use Rattle.meaning.specs.Bytes.{bytes, headed}
use Rattle.meaning.specs.Tree.{nodes, written}
use Rattle.meaning.specs.Requirement.{Label, Requirement}
use Rattle.meaning.specs.Lists.{Listed, Limit, form_tree, stand_at, form, grown, first_tree, threshold, owned, labelled, said, listed}
use Rattle.meaning.specs.Message.{threshold_bytes, thresholds_bytes, requirement_bytes, encode}
use Rattle.meaning.specs.Writing.{inners_at, limit_at, limits_from, lists_in, shared_out, whole}
use Rattle.meaning.proofs.Tests.{and_both}
use Rattle.meaning.proofs.Reading.{bytes-length, total}
use Rattle.meaning.proofs.Lists.{same, other, root_role, listed-first}
use Rattle.meaning.proofs.ListsFit.{listed-length}
use Rattle.meaning.proofs.ListsSound.{stand-open, labelled-forms, labels, written_listed}
use Rattle.meaning.proofs.MessageTree.{tree-length}
use Rattle.meaning.proofs.MessageTree.{owned as longs}
use Rattle.meaning.proofs.MessageLabel.{threshold-length, outer_kind}
use Rattle.limits.proofs.Nodes.{nodes-length}
use Rattle.limits.proofs.Putting.{bytes_one, put_both}
use Rattle.limits.proofs.Limits.{inner-long}

-- ---- the thresholds of nodes from the i-th on

abbrev long : ℕ → List (Listed ℕ) → List Limit → ℕ
long i xs hs = total (longs outer_kind (labels (labelled i xs hs)))

long-none : (i : ℕ) (xs : List (Listed ℕ)) → long i xs [] ≡ 0
unfolding labelled owned thresholds_bytes
long-none i [] = refl
long-none i (x ∷ xs) = omega (arith, long-none (suc i) xs)

-- one of a node before them does not count
long-passed : (i : ℕ) (xs : List (Listed ℕ)) (h : Limit) (hs : List Limit) → h.owner < i → long i xs (h ∷ hs) ≡ long i xs hs
unfolding labelled owned
long-passed i [] h hs l = refl
long-passed i (x ∷ xs) h hs l =
    rw (other h.owner i (λ e. let z : h.owner ≡ i = e in omega (arith, l))) (omega (arith, long-passed (suc i) xs h hs (omega (arith, l))))

long-more : (i : ℕ) (xs : List (Listed ℕ)) (h : Limit) (hs : List Limit) → i ≤ h.owner → h.owner < i + length xs
    → long i xs (h ∷ hs) ≡ length (threshold_bytes (threshold h)) + long i xs hs
unfolding labelled owned thresholds_bytes
long-more i [] h hs l m = absurd (let z : h.owner < i + 0 = m in omega (arith, l))
long-more i (x ∷ xs) h hs l m = go (ℕ_discrete h.owner i) (long-more (suc i) xs h hs)
  where
    go : Dec (h.owner ≡ i)
        → (suc i ≤ h.owner → h.owner < suc i + length xs → long (suc i) xs (h ∷ hs) ≡ length (threshold_bytes (threshold h)) + long (suc i) xs hs)
        → long i (x ∷ xs) (h ∷ hs) ≡ length (threshold_bytes (threshold h)) + long i (x ∷ xs) hs
    go (yes e) f =
        rw (same h.owner i e)
        (omega (arith, length-append (threshold_bytes (threshold h)) (thresholds_bytes (owned i hs)), long-passed (suc i) xs h hs (omega (arith, e))))
    go (no n) f = rw (other h.owner i n) (omega (arith, f (omega (arith, l, n)) (omega (arith, m))))

-- ---- all of them

limit-long : (h : Limit) → T (form_tree h.inner) → length (threshold_bytes (threshold h)) ≡ 6 + 11 * length h.inner
limit-long h w = omega (arith, threshold-length (threshold h), inner-long h.inner w)

all-long : (ns : List (Listed ℕ)) (hs inner : List ℕ) (b j k m left : ℕ) → T (shared_out hs j m left) → T (stand_at (length ns) b (limits_from hs inner j k m))
    → long 0 ns (limits_from hs inner j k m) ≡ 6 * m + 11 * left
unfolding shared_out limits_from
all-long ns hs inner b j k zero left w s = omega (arith, long-none 0 ns, eqb→eq left 0 w)
all-long ns hs inner b j k (suc m) left w s =
    let p = and_both (leb (inners_at hs j) left) _ w in
    let h = limit_at hs inner j k in
    let hs' = limits_from hs inner (suc j) (k + inners_at hs j) m in
    let o = stand-open (length ns) b h hs' s in
    omega (
      arith,
      long-more 0 ns h hs' (omega arith) (omega (arith, o.0)),
      limit-long h o.2,
      nodes-length inner k (inners_at hs j),
      all-long ns hs inner h.owner (suc j) (k + inners_at hs j) m (left - inners_at hs j) p.1 o.3,
      leb→le (inners_at hs j) left p.0,
    )

labelled-length : (i : ℕ) (xs : List (Listed ℕ)) (hs : List Limit) → length (labelled i xs hs) ≡ length xs
unfolding labelled
labelled-length i [] hs = refl
labelled-length i (x ∷ xs) hs = ap suc (labelled-length (suc i) xs hs)

encode-length : (t : Requirement) → length (encode t) ≡ 3 + length (requirement_bytes t)
unfolding encode headed
encode-length t = omega (arith, length-append (bytes 2 (length (requirement_bytes t))) (requirement_bytes t), bytes-length 2 (length (requirement_bytes t)))

pub said-length : (ns hs inner : List ℕ) → T (whole ns hs inner) → T (form (lists_in ns hs inner))
    → length (encode (said (lists_in ns hs inner))) ≡ 2 + 11 * (length ns / 3) + 6 * (length hs / 5) + 11 * (length inner / 3)
unfolding whole form said
said-length ns hs inner w f =
    let l = lists_in ns hs inner in
    let p = and_both (eqb (length ns % 3) 0 && eqb (length hs % 5) 0 && eqb (length inner % 3) 0) (shared_out hs 0 (length hs / 5) (length inner / 3)) w in
    let q = and_both (form_tree l.outer) (stand_at (length l.outer) 0 l.limits) f in
    let ys = labelled 0 l.outer l.limits in
    let t = first_tree (record { names = 0; thresholds = [] }) (grown ys) in
    let back : listed 0 (root_role ys) t ≡ ys = listed-first _ ys (subst T (sym (labelled-forms 0 l.outer l.limits)) q.0) in
    let many : nodes t ≡ length ns / 3 =
    sym (listed-length t 0 (root_role ys)) ∙ ap length back ∙ labelled-length 0 l.outer l.limits ∙ nodes-length ns 0 (length ns / 3) in
    let own : total (longs outer_kind (written t)) ≡ 6 * (length hs / 5) + 11 * (length inner / 3) =
    ap (λ (z : List Label). total (longs outer_kind z)) (sym (written_listed t 0 (root_role ys)) ∙ ap labels back)
    ∙ all-long l.outer hs inner 0 0 0 (length hs / 5) (length inner / 3) p.1 q.1 in
    omega (arith, encode-length t, tree-length outer_kind t, many, own)

-- the head, and what it heads
pub message-put : (old a b out : List ℕ) (len : ℕ) (t : Requirement) → len ≡ length (encode t) → a ≡ sets old 0 (bytes 1 1) → b ≡ sets a 1 (bytes 2 (len - 3))
    → out ≡ sets b 3 (requirement_bytes t) → out ≡ sets old 0 (encode t)
unfolding encode headed
message-put old a b out len t l e f g =
    let body = requirement_bytes t in
    let n : len - 3 ≡ length body = omega (arith, l, encode-length t) in
    let one : a ≡ sets old 0 (1 ∷ []) = e ∙ ap (sets old 0) (bytes_one 1 (omega arith)) in
    let head : b ≡ sets old 0 (1 ∷ bytes 2 (length body)) =
    put_both old a b 0 1 (1 ∷ []) (bytes 2 (length body)) one (f ∙ ap (λ (z : ℕ). sets a 1 (bytes 2 z)) n) (omega arith) in
    put_both old b out 0 3 (1 ∷ bytes 2 (length body)) body head g (omega (arith, bytes-length 2 (length body)))
