-- Lists that form a requirement and pass every test say a sound one; and the lists of a sound requirement form one and pass every test.
-- Assumes nothing.
use mathlib.Core.Path.{◌≡◌, refl, sym, ap, ap₂, ◌∙◌, subst}
use mathlib.Core.Bool.{Bool, true, false, ◌&&◌, cond, not}
use mathlib.Core.List.{List, [], ◌∷◌, ◌++◌, map, map-append}
use Prim.Native.Nat.{ℕ, zero, suc, ◌+◌, ◌≤◌, ◌<◌}
use native.Mathlib.Omega.{arith}
use native.Mathlib.Decide.{ℕ_discrete}
use lib.Dec.{T, ltb, leb, eqb, leb→le, le→leb, ltb→lt, lt→ltb}
use lib.ListN.{length, length-append}
use Rattle.meaning.specs.Refusal.{good, on_call, refuse_if}
use Rattle.meaning.specs.Names.{is_set}
use Rattle.meaning.specs.Bounds.{most_thresholds, most_size}
use Rattle.meaning.specs.Tree.{Tree, node, Forest, none, more, written, written_f}
use Rattle.meaning.specs.Reduce.{reduce, size}
use Rattle.meaning.specs.Requirement.{Threshold, Label, Requirement, every}
use Rattle.meaning.specs.Message.{lawful, code, bounded, sound_inner, sound_threshold, sound_label, joined, thresholds_of, sound}
use Rattle.meaning.specs.Lists.{Listed, Limit, Lists, go_on, form_tree, stand_at, form, grown, first_tree, concept, threshold, owned, labelled, said}
use Rattle.meaning.specs.Lists.{listed, listed_f, limit_of, limits_at, limits_of, names_only, lists_of}
use Rattle.meaning.specs.Writing.{node_fits, nodes_fit, limit_fits, own_fit, lists_fit}
use Rattle.meaning.proofs.Tests.{and_both, both-and, of-not}
use Rattle.meaning.proofs.Reading.{not_good, pass, passed, went, gone, not-below, le-of-not-below, not-le, lt_of_not_le, not-not}
use Rattle.meaning.proofs.MessageLabel.{bounded-close, bounded-open, decoded, sound-inner}
use Rattle.meaning.proofs.Message.{sound-open}
use Rattle.meaning.proofs.Lists.{same, other, root_role, listed-first, first-listed, forms-listed}
use Rattle.meaning.proofs.ListsFit.{Fit, Ok, tree-fits, fits-tree, nodes-fit, fit-nodes, node-fits, fits-node}

-- a last test that is passed
pub last-passed : (b : Bool) (n : ℕ) → refuse_if b (on_call n) ≡ good tt → b ≡ false
unfolding refuse_if
last-passed true n h = absurd (not_good h)
last-passed false n h = refl

last-pass : (b : Bool) (n : ℕ) → b ≡ false → refuse_if b (on_call n) ≡ good tt
unfolding refuse_if
last-pass b n e = rw e refl

-- ---- an inner list

pub inner-listed : (xs : List (Listed ℕ)) → T (form_tree xs) → listed 0 (root_role xs) (concept xs) ≡ xs
unfolding concept
inner-listed xs w = listed-first 0 xs w

inner-bounded : (xs : List (Listed ℕ)) → T (form_tree xs) → Fit 0 xs → Ok is_set xs → T (bounded is_set (concept xs))
inner-bounded xs w f o =
    let e = sym (inner-listed xs w) in
    let r = tree-fits is_set (concept xs) 0 (root_role xs) 0 (subst (Fit 0) e f) (subst (Ok is_set) e o) in
    bounded-close is_set (concept xs) r.0 (omega (arith, r.1)) (omega (arith, r.2))

-- ---- one threshold

pub limit-sound : (k : ℕ) (h : Limit) → limit_fits k h ≡ good tt → T (form_tree h.inner) → Ok is_set h.inner
    → (k < most_thresholds) × (h.how ≤ 3) × T (sound_threshold (threshold h))
unfolding limit_fits
limit-sound k h e w o =
    let a = passed _ _ _ e in
    let b = passed _ _ _ a.1 in
    let c = passed _ _ _ b.1 in
    let d = gone (nodes_fit 0 h.inner) _ c.1 in
    let n = size (reduce (concept h.inner)) in
    let t = last-passed (ltb most_size n) 14 d.1 in
    let inner = both-and (bounded is_set (concept h.inner)) (leb n most_size)
    (inner-bounded h.inner w (nodes-fit 0 h.inner d.0) o) (le→leb n most_size (le-of-not-below most_size n t)) in
    (lt_of_not_le _ _ a.0, le-of-not-below _ _ b.0, both-and (lawful h.p h.q) (sound_inner (concept h.inner)) (of-not (lawful h.p h.q) c.0) inner)

pub sound-limit : (k i : ℕ) (h : Threshold) → k < most_thresholds → T (sound_threshold h) → limit_fits k (limit_of i h) ≡ good tt
unfolding limit_fits concept
sound-limit k i h l w =
    let p = and_both (lawful h.limit.num h.limit.den) (sound_inner h.inner) w in
    let q = sound-inner h.inner p.1 in
    let b = bounded-open is_set h.inner q.0 in
    let f = fits-tree is_set h.inner 0 0 0 (λ z. absurd (let y : 0 < 0 = z in omega arith)) b.0 (omega (arith, b.1)) (omega (arith, b.2)) in
    let e : first_tree 0 (grown (listed 0 0 h.inner)) ≡ h.inner = first-listed 0 h.inner 0 0 in
    pass _ _ _ (not-le _ _ l) ∙ pass _ _ _ (not-below 3 (code h.how) (decoded h.how).1)
    ∙ pass (not (lawful h.limit.num h.limit.den)) _ _ (not-not (lawful h.limit.num h.limit.den) p.0)
    ∙ went _ _ (fit-nodes 0 (listed 0 0 h.inner) f.0)
    ∙ last-pass (ltb most_size (size (reduce (first_tree 0 (grown (listed 0 0 h.inner)))))) 14 (rw e (not-below most_size (size (reduce h.inner)) q.1))

-- ---- all thresholds

unfoldable pub LimitsFit : ℕ → List Limit → Type 0
LimitsFit k [] = Unit {0}
LimitsFit k (h ∷ hs) = (limit_fits k h ≡ good tt) × LimitsFit (suc k) hs

own-more : (i k : ℕ) (h : Limit) (hs : List Limit) → own_fit i k (h ∷ hs) ≡ good tt → (h.owner ≡ i → limit_fits k h ≡ good tt) × (own_fit i (suc k) hs ≡ good tt)
unfolding own_fit
own-more i k h hs e = let a = gone _ _ e in ((λ o. let z = a.0 in rw (same h.owner i o) at z), a.1)

pub stand-open : (n b : ℕ) (h : Limit) (hs : List Limit) → T (stand_at n b (h ∷ hs)) → (h.owner < n) × (b ≤ h.owner) × T (form_tree h.inner) × T (stand_at n h.owner hs)
unfolding stand_at
stand-open n b h hs w =
    let p = and_both (ltb h.owner n && leb b h.owner && form_tree h.inner) _ w in
    let q = and_both (ltb h.owner n && leb b h.owner) _ p.0 in
    let r = and_both (ltb h.owner n) _ q.0 in
    (ltb→lt _ _ r.0, leb→le _ _ r.1, q.1, p.1)

pub limits-fit : (n b k : ℕ) (hs : List Limit) → T (stand_at n b hs) → ((i : ℕ) → i < n → own_fit i k hs ≡ good tt) → LimitsFit k hs
unfolding LimitsFit
limits-fit n b k [] w f = tt
limits-fit n b k (h ∷ hs) w f =
    let s = stand-open n b h hs w in
    ((own-more h.owner k h hs (f h.owner s.0)).0 refl, limits-fit n h.owner (suc k) hs s.3 (λ i l. (own-more i k h hs (f i l)).1))

fit-own : (i k : ℕ) (hs : List Limit) → LimitsFit k hs → own_fit i k hs ≡ good tt
unfolding LimitsFit own_fit
fit-own i k [] w = refl
fit-own i k (h ∷ hs) w = went _ _ (one (eqb h.owner i)) ∙ fit-own i (suc k) hs w.1
  where
    one : (b : Bool) → cond b (limit_fits k h) (good tt) ≡ good tt
    one true = w.0
    one false = refl

pub lists-open : (i : ℕ) (xs : List (Listed ℕ)) (hs : List Limit) → lists_fit i xs hs ≡ good tt → Fit i xs × ((j : ℕ) → i ≤ j → j < i + length xs → own_fit j 0 hs ≡ good tt)
unfolding lists_fit Fit
lists-open i [] hs e = (tt, λ j l m. absurd (let z : j < i + 0 = m in omega (arith, l)))
lists-open i (x ∷ xs) hs e =
    let a = gone (node_fits i x) _ e in
    let b = gone (own_fit i 0 hs) _ a.1 in
    let r = lists-open (suc i) xs hs b.1 in
    ((node-fits i x a.0, r.0), λ j l m. which j l m b.0 r.1 (ℕ_discrete i j))
  where
    which : (j : ℕ) → i ≤ j → j < i + suc (length xs) → own_fit i 0 hs ≡ good tt
        → ((j : ℕ) → suc i ≤ j → j < suc i + length xs → own_fit j 0 hs ≡ good tt) → Dec (i ≡ j) → own_fit j 0 hs ≡ good tt
    which j l m here later (yes e) = subst (λ (z : ℕ). own_fit z 0 hs ≡ good tt) e here
    which j l m here later (no n) = later j (omega (arith, l, n)) (omega (arith, m))

lists-close : (i : ℕ) (xs : List (Listed ℕ)) (hs : List Limit) → Fit i xs → LimitsFit 0 hs → lists_fit i xs hs ≡ good tt
unfolding lists_fit Fit
lists-close i [] hs f w = refl
lists-close i (x ∷ xs) hs f w = went _ _ (fits-node i x f.0) ∙ went _ _ (fit-own i 0 hs w) ∙ lists-close (suc i) xs hs f.1 w

-- ---- the outer list with its thresholds stands as without them

pub labelled-go_on : (b i : ℕ) (xs : List (Listed ℕ)) (hs : List Limit) → go_on b (labelled i xs hs) ≡ go_on b xs
unfolding go_on labelled
labelled-go_on b i [] hs = refl
labelled-go_on b i (x ∷ xs) hs = ap (λ (z : Bool). leb 1 x.depth && leb x.depth (suc b) && z) (labelled-go_on x.depth (suc i) xs hs)

pub labelled-forms : (i : ℕ) (xs : List (Listed ℕ)) (hs : List Limit) → form_tree (labelled i xs hs) ≡ form_tree xs
unfolding form_tree labelled
labelled-forms i [] hs = refl
labelled-forms i (x ∷ xs) hs = ap (λ (z : Bool). eqb x.depth 0 && z) (labelled-go_on 0 (suc i) xs hs)

pub labelled-fit : (j i : ℕ) (xs : List (Listed ℕ)) (hs : List Limit) → Fit j xs → Fit j (labelled i xs hs)
unfolding Fit labelled
labelled-fit j i [] hs w = tt
labelled-fit j i (x ∷ xs) hs w = (w.0, labelled-fit (suc j) (suc i) xs hs w.1)

-- ---- its labels

-- the names of all inner nodes are sets
unfoldable pub InnerSets : List Limit → Type 0
InnerSets [] = Unit {0}
InnerSets (h ∷ hs) = Ok is_set h.inner × InnerSets hs

owned-sound : (i n b k : ℕ) (hs : List Limit) → T (stand_at n b hs) → LimitsFit k hs → InnerSets hs → T (every sound_threshold (owned i hs))
unfolding every owned LimitsFit InnerSets
owned-sound i n b k [] w f o = tt
owned-sound i n b k (h ∷ hs) w f o =
    let s = stand-open n b h hs w in
    one (eqb h.owner i) (limit-sound k h f.0 s.2 o.0).2 (owned-sound i n h.owner (suc k) hs s.3 f.1 o.1)
  where
    one : (c : Bool) → T (sound_threshold (threshold h)) → T (every sound_threshold (owned i hs)) → T (every sound_threshold (cond c (threshold h ∷ owned i hs) (owned i hs)))
    one true v u = both-and (sound_threshold (threshold h)) (every sound_threshold (owned i hs)) v u
    one false v u = u

labelled-ok : (i n b : ℕ) (xs : List (Listed ℕ)) (hs : List Limit) → T (stand_at n b hs) → LimitsFit 0 hs → InnerSets hs → Ok is_set xs
    → Ok sound_label (labelled i xs hs)
unfolding Ok labelled
labelled-ok i n b [] hs w f o v = tt
labelled-ok i n b (x ∷ xs) hs w f o v =
    (both-and (is_set x.label) (every sound_threshold (owned i hs)) v.0 (owned-sound i n b 0 hs w f o), labelled-ok (suc i) n b xs hs w f o v.1)

-- ---- how many thresholds there are

abbrev pub labels : {L : Type 0} → List (Listed L) → List L
labels xs = map (λ x. x.label) xs

mutual
  unfolding written listed

  pub written_listed : {L : Type 0} (t : Tree L) (d r : ℕ) → labels (listed d r t) ≡ written t
  written_listed {L} (node a f) d r = ap (λ (z : List L). a ∷ z) (written-listed_f f (suc d))

  written-listed_f : {L : Type 0} (f : Forest L) (d : ℕ) → labels (listed_f d f) ≡ written_f f
  written-listed_f none d = refl
  written-listed_f {L} (more r t f) d =
      map-append (λ (x : Listed L). x.label) (listed d r t) (listed_f d f) ∙ ap₂ {C = List L} ◌++◌ (written_listed t d r) (written-listed_f f d)

-- all thresholds of n nodes from the i-th on
unfoldable owned_from : ℕ → ℕ → List Limit → ℕ
owned_from i zero hs = 0
owned_from i (suc n) hs = length (owned i hs) + owned_from (suc i) n hs

joined-labelled : (i : ℕ) (xs : List (Listed ℕ)) (hs : List Limit) → length (joined (labels (labelled i xs hs))) ≡ owned_from i (length xs) hs
unfolding joined labelled owned_from
joined-labelled i [] hs = refl
joined-labelled i (x ∷ xs) hs = length-append (owned i hs) (joined (labels (labelled (suc i) xs hs))) ∙ ap (λ (z : ℕ). length (owned i hs) + z) (joined-labelled (suc i) xs hs)

owned-passed : (i n : ℕ) (h : Limit) (hs : List Limit) → h.owner < i → owned_from i n (h ∷ hs) ≡ owned_from i n hs
unfolding owned_from owned
owned-passed i zero h hs l = refl
owned-passed i (suc n) h hs l = rw (other h.owner i (λ e. let z : h.owner ≡ i = e in omega (arith, l)), owned-passed (suc i) n h hs (omega (arith, l))) refl

owned-more : (i n : ℕ) (h : Limit) (hs : List Limit) → owned_from i n (h ∷ hs) ≤ suc (owned_from i n hs)
unfolding owned_from owned
owned-more i zero h hs = omega arith
owned-more i (suc n) h hs = go (ℕ_discrete h.owner i) (owned-more (suc i) n h hs)
  where
    go : Dec (h.owner ≡ i) → owned_from (suc i) n (h ∷ hs) ≤ suc (owned_from (suc i) n hs)
        → length (owned i (h ∷ hs)) + owned_from (suc i) n (h ∷ hs) ≤ suc (length (owned i hs) + owned_from (suc i) n hs)
    go (yes e) w = rw (same h.owner i e, owned-passed (suc i) n h hs (omega (arith, e))) (omega arith)
    go (no d) w = rw (other h.owner i d) (omega (arith, w))

none_owned : (i n : ℕ) → owned_from i n [] ≡ 0
unfolding owned_from owned
none_owned i zero = refl
none_owned i (suc n) = omega (arith, none_owned (suc i) n)

owned-most : (i n : ℕ) (hs : List Limit) → owned_from i n hs ≤ length hs
owned-most i n [] = omega (arith, none_owned i n)
owned-most i n (h ∷ hs) = omega (arith, owned-more i n h hs, owned-most i n hs)

limits-few : (n b k : ℕ) (hs : List Limit) → k ≤ most_thresholds → T (stand_at n b hs) → LimitsFit k hs → InnerSets hs → k + length hs ≤ most_thresholds
unfolding LimitsFit InnerSets
limits-few n b k [] l w f o = omega (arith, l)
limits-few n b k (h ∷ hs) l w f o =
    let s = stand-open n b h hs w in
    let m = (limit-sound k h f.0 s.2 o.0).0 in
    omega (arith, limits-few n h.owner (suc k) hs (omega (arith, m)) s.3 f.1 o.1)

-- ---- the whole

pub said-sound : (l : Lists) → T (form l) → lists_fit 0 l.outer l.limits ≡ good tt → Ok is_set l.outer → InnerSets l.limits → T (sound (said l))
unfolding form said sound
said-sound l w e v o =
    let p = and_both (form_tree l.outer) _ w in
    let n = length l.outer in
    let hs = l.limits in
    let a = lists-open 0 l.outer hs e in
    let f = limits-fit n 0 0 hs p.1 (λ i m. a.1 i (omega arith) (omega (arith, m))) in
    let ys = labelled 0 l.outer hs in
    let t = first_tree (record { names = 0; thresholds = [] }) (grown ys) in
    let back : listed 0 (root_role ys) t ≡ ys = listed-first _ ys (subst T (sym (labelled-forms 0 l.outer hs)) p.0) in
    let r = tree-fits sound_label t 0 (root_role ys) 0 (subst (Fit 0) (sym back) (labelled-fit 0 0 l.outer hs a.0))
    (subst (Ok sound_label) (sym back) (labelled-ok 0 n 0 l.outer hs p.1 f o v)) in
    let many : length (thresholds_of t) ≡ owned_from 0 n hs =
    ap (λ (z : List Label). length (joined z)) (sym (written_listed t 0 (root_role ys)) ∙ ap labels back) ∙ joined-labelled 0 l.outer hs in
    both-and (bounded sound_label t) (leb (length (thresholds_of t)) most_thresholds)
    (bounded-close sound_label t r.0 (omega (arith, r.1)) (omega (arith, r.2)))
    (le→leb (length (thresholds_of t)) most_thresholds (omega (arith, many, owned-most 0 n hs, limits-few n 0 0 hs (omega arith) p.1 f o)))

-- ---- the lists of a requirement

names-go_on : (b : ℕ) (xs : List (Listed Label)) → go_on b (names_only xs) ≡ go_on b xs
unfolding go_on names_only
names-go_on b [] = refl
names-go_on b (x ∷ xs) = ap (λ (z : Bool). leb 1 x.depth && leb x.depth (suc b) && z) (names-go_on x.depth xs)

names-forms : (xs : List (Listed Label)) → form_tree (names_only xs) ≡ form_tree xs
unfolding form_tree names_only
names-forms [] = refl
names-forms (x ∷ xs) = ap (λ (z : Bool). eqb x.depth 0 && z) (names-go_on 0 xs)

names-fit : (i : ℕ) (xs : List (Listed Label)) → Fit i xs → Fit i (names_only xs)
unfolding Fit names_only
names-fit i [] w = tt
names-fit i (x ∷ xs) w = (w.0, names-fit (suc i) xs w.1)

names-length : (xs : List (Listed Label)) → length (names_only xs) ≡ length xs
unfolding names_only
names-length [] = refl
names-length (x ∷ xs) = ap suc (names-length xs)

pub stand-close : (n b : ℕ) (h : Limit) (hs : List Limit) → h.owner < n → b ≤ h.owner → T (form_tree h.inner) → T (stand_at n h.owner hs) → T (stand_at n b (h ∷ hs))
unfolding stand_at
stand-close n b h hs l m w r =
    both-and (ltb h.owner n && leb b h.owner && form_tree h.inner) (stand_at n h.owner hs)
    (both-and (ltb h.owner n && leb b h.owner) (form_tree h.inner) (both-and (ltb h.owner n) (leb b h.owner) (lt→ltb _ _ l) (le→leb _ _ m)) w) r

pub stand-lower : (n b c : ℕ) (hs : List Limit) → c ≤ b → T (stand_at n b hs) → T (stand_at n c hs)
unfolding stand_at
stand-lower n b c [] l w = tt
stand-lower n b c (h ∷ hs) l w = let s = stand-open n b h hs w in stand-close n c h hs s.0 (omega (arith, l, s.1)) s.2 s.3

stand-own : (n b i : ℕ) (hs : List Threshold) (rest : List Limit) → i < n → b ≤ i → T (stand_at n i rest) → T (stand_at n b (limits_at i hs ++ rest))
unfolding limits_at
stand-own n b i [] rest l m w = stand-lower n i b rest m w
stand-own n b i (h ∷ hs) rest l m w = stand-close n b (limit_of i h) (limits_at i hs ++ rest) l m (forms-listed h.inner 0) (stand-own n i i hs rest l (omega arith) w)

stand-all : (n i : ℕ) (xs : List (Listed Label)) → i + length xs ≤ n → T (stand_at n i (limits_of i xs))
unfolding limits_of stand_at
stand-all n i [] l = tt
stand-all n i (x ∷ xs) l =
    stand-own n i i x.label.thresholds (limits_of (suc i) xs) (omega (arith, l)) (omega arith)
    (stand-lower n (suc i) i (limits_of (suc i) xs) (omega arith) (stand-all n (suc i) xs (omega (arith, l))))

-- how many limits there are
limits-length : (i : ℕ) (xs : List (Listed Label)) → length (limits_of i xs) ≡ length (joined (labels xs))
unfolding limits_of joined limits_at
limits-length i [] = refl
limits-length i (x ∷ xs) =
    length-append (limits_at i x.label.thresholds) (limits_of (suc i) xs)
    ∙ ap₂ ◌+◌ (at-limits x.label.thresholds) (limits-length (suc i) xs) ∙ sym (length-append x.label.thresholds (joined (labels xs)))
  where
    at-limits : (hs : List Threshold) → length (limits_at i hs) ≡ length hs
    at-limits [] = refl
    at-limits (h ∷ hs) = ap suc (at-limits hs)

own-limits : (i k : ℕ) (hs : List Threshold) (rest : List Limit) → T (every sound_threshold hs) → k + length (limits_at i hs ++ rest) ≤ most_thresholds
    → ((j : ℕ) → j + length rest ≤ most_thresholds → LimitsFit j rest) → LimitsFit k (limits_at i hs ++ rest)
unfolding limits_at LimitsFit every
own-limits i k [] rest w l f = f k l
own-limits i k (h ∷ hs) rest w l f =
    let p = and_both (sound_threshold h) (every sound_threshold hs) w in
    (sound-limit k i h (omega (arith, l)) p.0, own-limits i (suc k) hs rest p.1 (omega (arith, l)) f)

all-limits : (i k : ℕ) (xs : List (Listed Label)) → Ok sound_label xs → k + length (limits_of i xs) ≤ most_thresholds → LimitsFit k (limits_of i xs)
unfolding limits_of LimitsFit Ok
all-limits i k [] v l = tt
all-limits i k (x ∷ xs) v l =
    own-limits i k x.label.thresholds (limits_of (suc i) xs) (and_both (is_set x.label.names) _ v.0).1 l (λ j m. all-limits (suc i) j xs v.1 m)

pub lists-taken : (q : Requirement) → T (sound q) → T (form (lists_of q)) × (lists_fit 0 (lists_of q).outer (lists_of q).limits ≡ good tt)
unfolding form lists_of
lists-taken q w =
    let s = sound-open q w in
    let b = bounded-open sound_label q s.0 in
    let xs = listed 0 0 q in
    let f = fits-tree sound_label q 0 0 0 (λ z. absurd (let y : 0 < 0 = z in omega arith)) b.0 (omega (arith, b.1)) (omega (arith, b.2)) in
    let few : length (limits_of 0 xs) ≤ most_thresholds = omega (arith, limits-length 0 xs, ap (λ (z : List Label). length (joined z)) (written_listed q 0 0), s.1) in (
      both-and (form_tree (names_only xs)) (stand_at (length (names_only xs)) 0 (limits_of 0 xs))
          (subst T (sym (names-forms xs)) (forms-listed q 0)) (stand-all (length (names_only xs)) 0 xs (omega (arith, names-length xs))),
      lists-close 0 (names_only xs) (limits_of 0 xs) (names-fit 0 xs f.0) (all-limits 0 0 xs f.1 (omega (arith, few))),
    )
