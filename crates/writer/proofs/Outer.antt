-- The bytes of the outer list, node after node with its thresholds.
-- Assumes nothing.
use mathlib.Core.Path.{◌≡◌, refl, sym, ap, ap₂, ◌∙◌, subst}
use mathlib.Core.Bool.{cond}
use mathlib.Core.List.{List, [], ◌∷◌, ◌++◌, append_assoc}
use Prim.Native.Nat.{ℕ, zero, suc, ◌+◌, ◌*◌, ◌-◌, ◌/◌, ◌≤◌, ◌<◌}
use native.Mathlib.Omega.{arith}
use lib.Dec.{T, leb, eqb}
use lib.ListN.{length, get_or, length-append}
use Rattle.meaning.specs.Bytes.{bytes}
use Rattle.meaning.specs.Bounds.{most_thresholds}
use Rattle.meaning.specs.Requirement.{Threshold, Label}
use Rattle.meaning.specs.Lists.{Listed, Limit, form_tree, stand_at, form, grown, first_tree, threshold, owned, labelled, said}
use Rattle.meaning.specs.Message.{threshold_bytes, thresholds_bytes, requirement_bytes}
use Rattle.meaning.specs.Writing.{inners_at, nodes_from, limit_at, limits_from, lists_in}
use Rattle.meaning.proofs.Tests.{and_both}
use Rattle.meaning.proofs.ListsSound.{labelled-forms}
use Rattle.lists.specs.Handed.{nodes_to}
use Rattle.faults.specs.Faulty.{limits_on}
use Rattle.limits.specs.Flat.{ahead, fixed_at, run, after, Each, thresholds}
use Rattle.limits.proofs.Flat.{list_bytes, flat-bytes}
use Rattle.limits.proofs.Nodes.{nodes-next, nodes-end}
use Rattle.limits.proofs.Inner.{behind}
use Rattle.limits.proofs.Limits.{limit-open}
use Rattle.limits.proofs.Runs.{limits_bytes, limit-long, after-up}
use Rattle.writer.proofs.Owned.{Ran, ran}

three : {A : Type 0} (f : ℕ → ℕ → ℕ → A) {a a' b b' c c' : ℕ} → a ≡ a' → b ≡ b' → c ≡ c' → f a b c ≡ f a' b' c'
three f p q r = λ i. f (p i) (q i) (r i)

-- ---- the thresholds of the i-th node, from the j-th up to `end`

pub record Turn (hs inner : List ℕ) (n i j k end : ℕ) : Type 0 where
  pub begun : j ≤ end
  pub few : end ≤ length hs / 5
  pub own : owned i (limits_on hs inner j k) ≡ thresholds (limits_from hs inner j k (end - j))
  pub stands : T (stand_at n (i + 1) (limits_on hs inner end (after hs j k (end - j))))
  pub later : (h : ℕ) → i < h → owned h (limits_on hs inner j k) ≡ owned h (limits_on hs inner end (after hs j k (end - j)))
  pub each : Each hs inner j k (length hs / 5 - j) → Each hs inner j k (end - j) × Each hs inner end (after hs j k (end - j)) (length hs / 5 - end)
  pub whole : after hs j k (length hs / 5 - j) ≡ after hs end (after hs j k (end - j)) (length hs / 5 - end)

turn-of : (hs inner : List ℕ) (n i j k end r : ℕ) → j ≤ length hs / 5 → Ran hs inner n i j k (length hs / 5 - j) r → end ≡ j + r → Turn hs inner n i j k end
turn-of hs inner n i j k end r l w e =
    let all = length hs / 5 in
    let a : w.next ≡ end = w.place ∙ sym e in
    let q : r ≡ end - j = omega (arith, e) in
    let b : w.first ≡ after hs j k (end - j) = w.begins ∙ ap (after hs j k) q in
    let c : w.rest ≡ all - end = omega (arith, w.all, e, l) in
    let s : suc i ≡ i + 1 = omega arith in
    let same : limits_from hs inner w.next w.first w.rest ≡ limits_on hs inner end (after hs j k (end - j)) = three (limits_from hs inner) a b c in
    let moved : Each hs inner w.next w.first w.rest → Each hs inner end (after hs j k (end - j)) (all - end) =
    λ v. subst (λ (z : ℕ). Each hs inner end (after hs j k (end - j)) z) c
    (subst (λ (z : ℕ). Each hs inner end z w.rest) b (subst (λ (z : ℕ). Each hs inner z w.first w.rest) a v)) in
    record {
      begun = omega (arith, e);
      few = omega (arith, w.all, e, l);
      own = w.own ∙ ap (λ (z : ℕ). thresholds (limits_from hs inner j k z)) q;
      stands = subst (λ (z : List Limit). T (stand_at n (i + 1) z)) same
          (subst (λ (z : ℕ). T (stand_at n z (limits_from hs inner w.next w.first w.rest))) s w.stands);
      later = λ h m. w.later h m ∙ ap (owned h) same;
      each = λ v. let p = w.each v in (subst (Each hs inner j k) q p.0, moved p.1);
      whole = w.whole ∙ three (after hs) a b c;
    }

pub turn : (hs inner : List ℕ) (n i j k end : ℕ) → j ≤ length hs / 5 → T (stand_at n i (limits_on hs inner j k)) → end ≡ j + run hs i j (length hs / 5 - j)
    → Turn hs inner n i j k end
turn hs inner n i j k end l w e = turn-of hs inner n i j k end (run hs i j (length hs / 5 - j)) l (ran hs inner n i j k (length hs / 5 - j) w) e

-- ---- how many there are, and how long their bytes

pub each-few : (hs inner : List ℕ) (j k m : ℕ) → j ≤ most_thresholds → Each hs inner j k m → j + m ≤ most_thresholds
unfolding Each
each-few hs inner j k zero l w = omega (arith, l)
each-few hs inner j k (suc m) l w =
    omega (arith, each-few hs inner (suc j) (k + inners_at hs j) m (omega (arith, (limit-open j (limit_at hs inner j k) w.1).0)) w.2)

thresholds-length : (hs inner : List ℕ) (j k m : ℕ) → length (thresholds (limits_from hs inner j k m)) ≡ m
unfolding limits_from
thresholds-length hs inner j k zero = refl
thresholds-length hs inner j k (suc m) = ap suc (thresholds-length hs inner (suc j) (k + inners_at hs j) m)

pub limits-long : (hs inner : List ℕ) (j k m : ℕ) → Each hs inner j k m → length (limits_bytes (limits_from hs inner j k m)) ≡ 6 * m + 11 * (after hs j k m - k)
unfolding Each limits_from after thresholds_bytes
limits-long hs inner j k zero w = omega arith
limits-long hs inner j k (suc m) w =
    let here = threshold_bytes (threshold (limit_at hs inner j k)) in
    let next = k + inners_at hs j in
    omega (
      arith,
      length-append here (limits_bytes (limits_from hs inner (suc j) next m)),
      limit-long hs inner j k w.0.forms,
      limits-long hs inner (suc j) next m w.2,
      after-up hs (suc j) next m,
    )

-- ---- the outer list

abbrev pub outer_bytes : List (Listed Label) → List ℕ
outer_bytes = list_bytes (λ a. a.names) (λ a. length a.thresholds) (λ a. thresholds_bytes a.thresholds)

ahead-labelled : (d i : ℕ) (xs : List (Listed ℕ)) (hs : List Limit) → ahead d (labelled i xs hs) ≡ ahead d xs
unfolding ahead labelled
ahead-labelled d i [] hs = refl
ahead-labelled d i (x ∷ xs) hs = ap (λ (z : ℕ). cond (leb x.depth d) 0 (cond (eqb x.depth (suc d)) (suc z) z)) (ahead-labelled d (suc i) xs hs)

labelled-later : (i : ℕ) (xs : List (Listed ℕ)) (hs gs : List Limit) → ((h : ℕ) → i ≤ h → owned h hs ≡ owned h gs) → labelled i xs hs ≡ labelled i xs gs
unfolding labelled
labelled-later i [] hs gs f = refl
labelled-later i (x ∷ xs) hs gs f =
    ap₂ (λ (ts : List Threshold) (z : List (Listed Label)).
    record { label = record { names = x.label; thresholds = ts }; depth = x.depth; role = x.role } ∷ z)
    (f i (omega arith)) (labelled-later (suc i) xs hs gs (λ h l. f h (omega (arith, l))))

-- what stands behind a node's role: its ten bytes, its thresholds, and the nodes behind it
abbrev pub behind_role : List ℕ → List ℕ → List ℕ → ℕ → ℕ → ℕ → ℕ → List ℕ
behind_role nodes hs inner i j k end =
    (fixed_at nodes i (length nodes / 3) (end - j) ++ limits_bytes (limits_from hs inner j k (end - j)))
    ++ outer_bytes (labelled (i + 1) (nodes_to nodes (i + 1) (length nodes / 3)) (limits_on hs inner end (after hs j k (end - j))))

abbrev pub outer_from : List ℕ → List ℕ → List ℕ → ℕ → ℕ → ℕ → List ℕ
outer_from nodes hs inner i j k = outer_bytes (labelled i (nodes_to nodes i (length nodes / 3)) (limits_on hs inner j k))

pub outer-next : (nodes hs inner : List ℕ) (n i j k end : ℕ) → i < length nodes / 3 → Turn hs inner n i j k end
    → outer_from nodes hs inner i j k ≡ get_or nodes (3 * i + 2) 0 ∷ behind_role nodes hs inner i j k end
unfolding list_bytes labelled
outer-next nodes hs inner n i j k end l w =
    let all = length nodes / 3 in
    let gs = limits_on hs inner j k in
    let gs' = limits_on hs inner end (after hs j k (end - j)) in
    let xs = nodes_to nodes (i + 1) all in
    let d = get_or nodes (3 * i + 1) 0 in
    let s : suc i ≡ i + 1 = omega arith in
    let many : length (owned i gs) ≡ end - j = ap (λ (z : List Threshold). length z) w.own ∙ thresholds-length hs inner j k (end - j) in
    let kids : ahead d (labelled (suc i) xs gs) ≡ ahead d xs = ahead-labelled d (suc i) xs gs in
    let rest : labelled (suc i) xs gs ≡ labelled (i + 1) xs gs' =
    labelled-later (suc i) xs gs gs' (λ h m. w.later h (omega (arith, m))) ∙ ap (λ (z : ℕ). labelled z xs gs') s in
    let told : List Threshold → ℕ → ℕ → List (Listed Label) → List ℕ = λ ts a b z.
    get_or nodes (3 * i + 2) 0 ∷ ((bytes 8 (get_or nodes (3 * i) 0) ++ (a ∷ b ∷ [])) ++ (thresholds_bytes ts ++ outer_bytes z)) in
    ap (λ (z : List (Listed ℕ)). outer_bytes (labelled i z gs)) (nodes-next nodes i all l)
    ∙ (λ x. told (w.own x) (many x) (kids x) (rest x))
    ∙ ap (λ (z : List ℕ). get_or nodes (3 * i + 2) 0 ∷ z)
    (sym (append_assoc (fixed_at nodes i all (end - j)) (limits_bytes (limits_from hs inner j k (end - j))) (outer_bytes (labelled (i + 1) xs gs'))))

pub outer-end : (nodes hs inner : List ℕ) (i j k : ℕ) → length nodes / 3 ≤ i → outer_from nodes hs inner i j k ≡ []
unfolding list_bytes labelled
outer-end nodes hs inner i j k l = ap (λ (z : List (Listed ℕ)). outer_bytes (labelled i z (limits_on hs inner j k))) (nodes-end nodes i (length nodes / 3) l)

-- ---- the whole requirement

outer-flat : (a : Label) (ys : List (Listed Label)) → T (form_tree ys) → requirement_bytes (first_tree a (grown ys)) ≡ behind (outer_bytes ys)
unfolding behind
outer-flat a ys f = ap behind (sym (flat-bytes (λ a. a.names) (λ a. length a.thresholds) (λ a. thresholds_bytes a.thresholds) a ys f))

pub said-flat : (nodes hs inner : List ℕ) → T (form (lists_in nodes hs inner))
    → requirement_bytes (said (lists_in nodes hs inner)) ≡ behind (outer_from nodes hs inner 0 0 0)
unfolding said form
said-flat nodes hs inner w =
    let l = lists_in nodes hs inner in
    let ys = labelled 0 l.outer l.limits in
    let f : T (form_tree ys) = subst T (sym (labelled-forms 0 l.outer l.limits)) (and_both (form_tree l.outer) _ w).0 in
    let a : length nodes / 3 ≡ length nodes / 3 - 0 = omega arith in
    let b : length hs / 5 ≡ length hs / 5 - 0 = omega arith in
    outer-flat (record { names = 0; thresholds = [] }) ys f
    ∙ ap₂ (λ (x y : ℕ). behind (outer_bytes (labelled 0 (nodes_from nodes 0 x) (limits_from hs inner 0 0 y)))) a b
