-- A requirement put node after node: what holds when i nodes, with their thresholds, are put; one node more; and the end.
-- Assumes nothing.
use mathlib.Core.Path.{◌≡◌, sym, ap, ◌∙◌, subst}
use mathlib.Core.Bool.{◌&&◌}
use mathlib.Core.List.{List, [], ◌∷◌, ◌++◌}
use Prim.Native.Nat.{ℕ, zero, suc, ◌+◌, ◌*◌, ◌-◌, ◌/◌, ◌%◌, ◌≤◌, ◌<◌}
use native.Mathlib.Omega.{arith}
use lib.Dec.{T, leb, eqb, leb→le, eqb→eq}
use lib.ListN.{length, get_or, length-append}
use lib.Seq.{sets}
use Rattle.meaning.specs.Bytes.{bytes}
use Rattle.meaning.specs.Bounds.{most_role}
use Rattle.meaning.specs.Lists.{form_tree, stand_at, form, said}
use Rattle.meaning.specs.Message.{requirement_bytes}
use Rattle.meaning.specs.Writing.{inners_at, nodes_from, limit_at, limits_from, lists_in, shared_out, whole}
use Rattle.meaning.proofs.Tests.{and_both}
use Rattle.meaning.proofs.ListsFit.{Fit}
use Rattle.meaning.proofs.ListsSound.{LimitsFit, stand-open, limits-fit, lists-open}
use Rattle.lists.specs.Handed.{One}
use Rattle.faults.specs.Faulty.{limits_on}
use Rattle.limits.specs.Flat.{fixed_at, run, after, Each}
use Rattle.writer.specs.Ready.{Ready}
use Rattle.limits.proofs.Nodes.{nodes-length}
use Rattle.limits.proofs.Putting.{bytes_one, Put, put-none, put-more, put_all, put_as}
use Rattle.limits.proofs.Inner.{behind, fixed-length, fit-few, fit_at, forms-some}
use Rattle.limits.proofs.Runs.{limits_bytes, after-up}
use Rattle.writer.proofs.Outer.{Turn, turn, each-few, limits-long, behind_role, outer_from, outer-next, outer-end, said-flat}

-- ---- what the tests give

pub shared-after : (hs : List ℕ) (j k m left : ℕ) → T (shared_out hs j m left) → after hs j k m ≡ k + left
unfolding shared_out after
shared-after hs j k zero left w = omega (arith, eqb→eq left 0 w)
shared-after hs j k (suc m) left w =
    let p = and_both (leb (inners_at hs j) left) _ w in
    omega (arith, shared-after hs (suc j) (k + inners_at hs j) m (left - inners_at hs j) p.1, leb→le (inners_at hs j) left p.0)

each_all : (hs inner : List ℕ) (n b j k m left : ℕ) → T (shared_out hs j m left) → 5 * (j + m) ≤ length hs → 3 * (k + left) ≤ length inner
    → T (stand_at n b (limits_from hs inner j k m)) → LimitsFit j (limits_from hs inner j k m) → Each hs inner j k m
unfolding shared_out limits_from LimitsFit Each
each_all hs inner n b j k zero left w h i s f = tt
each_all hs inner n b j k (suc m) left w h i s f =
    let p = and_both (leb (inners_at hs j) left) _ w in
    let l = leb→le (inners_at hs j) left p.0 in
    let o = stand-open n b (limit_at hs inner j k) (limits_from hs inner (suc j) (k + inners_at hs j) m) s in
    let one : One hs inner j k = record { whole = omega (arith, h); room = omega (arith, i, l); forms = o.2 } in
    (one, f.0, each_all hs inner n (limit_at hs inner j k).owner (suc j) (k + inners_at hs j) m (left - inners_at hs j) p.1 (omega (arith, h)) (omega (arith, i, l)) o.3 f.1)

pub record Given (nodes hs inner : List ℕ) : Type 0 where
  pub some : 0 < length nodes / 3
  pub fit : Fit 0 (nodes_from nodes 0 (length nodes / 3))
  pub few : length nodes / 3 ≤ 64
  pub each : Each hs inner 0 0 (length hs / 5 - 0)
  pub most : length hs / 5 ≤ 16
  pub shared : after hs 0 0 (length hs / 5 - 0) ≡ length inner / 3
  pub stands : T (stand_at (length nodes / 3) 0 (limits_on hs inner 0 0))

pub given : (nodes hs inner : List ℕ) → Ready nodes hs inner → Given nodes hs inner
unfolding whole form
given nodes hs inner w =
    let l = lists_in nodes hs inner in
    let m = length hs / 5 in
    let left = length inner / 3 in
    let p = and_both (eqb (length nodes % 3) 0 && eqb (length hs % 5) 0 && eqb (length inner % 3) 0) (shared_out hs 0 m left) w.whole in
    let q = and_both (form_tree l.outer) (stand_at (length l.outer) 0 l.limits) w.forms in
    let a = lists-open 0 l.outer l.limits w.fits in
    let f = limits-fit (length l.outer) 0 0 l.limits q.1 (λ i v. a.1 i (omega arith) (omega (arith, v))) in
    let e : Each hs inner 0 0 m = each_all hs inner (length l.outer) 0 0 0 m left p.1 (omega arith) (omega arith) q.1 f in
    let z : m ≡ m - 0 = omega arith in
    let y : length nodes / 3 ≡ length nodes / 3 - 0 = omega arith in
    let s = subst (λ (n : ℕ). T (stand_at n 0 l.limits)) (nodes-length nodes 0 (length nodes / 3)) q.1 in
    record {
      some = forms-some nodes 0 (length nodes / 3) (subst (λ (n : ℕ). T (form_tree (nodes_from nodes 0 n))) y q.0);
      fit = a.0;
      few = omega (arith, fit-few nodes 0 0 (length nodes / 3) (omega arith) a.0);
      each = subst (Each hs inner 0 0) z e;
      most = omega (arith, each-few hs inner 0 0 m (omega arith) e);
      shared = ap (after hs 0 0) (sym z) ∙ shared-after hs 0 0 m left p.1 ∙ omega arith;
      stands = subst (λ (n : ℕ). T (stand_at (length nodes / 3) 0 (limits_from hs inner 0 0 n))) z s;
    }

pub given-role : (nodes hs inner : List ℕ) (i : ℕ) → Given nodes hs inner → 0 < i → i < length nodes / 3 → get_or nodes (3 * i + 2) 0 ≤ most_role
given-role nodes hs inner i w l m = (fit_at nodes 0 0 (length nodes / 3) i w.fit (omega arith) (omega (arith, m))).0 (omega (arith, l))

-- ---- when i nodes are put with their thresholds, of which the j-th comes next, with the inner nodes from the k-th on

pub record Stage (nodes hs inner old now all : List ℕ) (i j k : ℕ) : Type 0 where
  pub begun : j ≤ length hs / 5
  pub each : Each hs inner j k (length hs / 5 - j)
  pub shared : after hs j k (length hs / 5 - j) ≡ length inner / 3
  pub stands : T (stand_at (length nodes / 3) i (limits_on hs inner j k))
  pub put : Put old now 3 (2 + 11 * i + 6 * j + 11 * k) all (outer_from nodes hs inner i j k)

-- the inner nodes so far are among all
pub stage-inner : (nodes hs inner old now all : List ℕ) (i j k : ℕ) → Stage nodes hs inner old now all i j k → k ≤ length inner / 3
stage-inner nodes hs inner old now all i j k w = omega (arith, w.shared, after-up hs j k (length hs / 5 - j))

-- a node's bytes behind its role
stage-next : (nodes hs inner old now new all : List ℕ) (i j k end : ℕ) → Turn hs inner (length nodes / 3) i j k end → Each hs inner j k (length hs / 5 - j)
    → after hs j k (length hs / 5 - j) ≡ length inner / 3 → Put old now 3 (3 + 11 * i + 6 * j + 11 * k) all (behind_role nodes hs inner i j k end)
    → new ≡ sets now (3 + 11 * i + 6 * j + 11 * k) (fixed_at nodes i (length nodes / 3) (end - j) ++ limits_bytes (limits_from hs inner j k (end - j)))
    → Stage nodes hs inner old new all (i + 1) end (after hs j k (end - j))
stage-next nodes hs inner old now new all i j k end t e s p g =
    let v = t.each e in
    let here = fixed_at nodes i (length nodes / 3) (end - j) in
    let own = limits_bytes (limits_from hs inner j k (end - j)) in
    record {
      begun = t.few;
      each = v.1;
      shared = sym t.whole ∙ s;
      stands = t.stands;
      put = put-more old now new 3 (3 + 11 * i + 6 * j + 11 * k) (2 + 11 * (i + 1) + 6 * end + 11 * after hs j k (end - j)) all (here ++ own)
          (outer_from nodes hs inner (i + 1) end (after hs j k (end - j))) p g (omega (
            arith,
            length-append here own,
            fixed-length nodes i (length nodes / 3) (end - j),
            limits-long hs inner j k (end - j) v.0,
            after-up hs j k (end - j),
            t.begun,
          ));
    }

-- the root
pub stage-first : (nodes hs inner old new : List ℕ) (end f : ℕ) → T (form (lists_in nodes hs inner)) → Given nodes hs inner
    → end ≡ run hs 0 0 (length hs / 5 - 0) → f ≡ after hs 0 0 (end - 0)
    → new ≡ sets old 3 (fixed_at nodes 0 (length nodes / 3) (end - 0) ++ limits_bytes (limits_from hs inner 0 0 (end - 0)))
    → Stage nodes hs inner old new (requirement_bytes (said (lists_in nodes hs inner))) 1 end f
unfolding behind
stage-first nodes hs inner old new end f w g e q h =
    let t = turn hs inner (length nodes / 3) 0 0 0 end (omega arith) g.stands (omega (arith, e)) in
    let all = requirement_bytes (said (lists_in nodes hs inner)) in
    let flat : all ≡ behind_role nodes hs inner 0 0 0 end =
    said-flat nodes hs inner w ∙ ap behind (outer-next nodes hs inner (length nodes / 3) 0 0 0 end g.some t) in
    let p = put_as old old 3 3 all all (behind_role nodes hs inner 0 0 0 end) (put-none old 3 all) flat in
    subst (Stage nodes hs inner old new all 1 end) (sym q) (stage-next nodes hs inner old old new all 0 0 0 end t g.each g.shared p h)

-- one node more: its role, and what stands behind it
pub stage-more : (nodes hs inner old now a new all : List ℕ) (i j k r end f : ℕ) → Stage nodes hs inner old now all i j k → i < length nodes / 3
    → r ≡ get_or nodes (3 * i + 2) 0 → get_or nodes (3 * i + 2) 0 ≤ most_role → end ≡ j + run hs i j (length hs / 5 - j) → f ≡ after hs j k (end - j)
    → a ≡ sets now (2 + 11 * i + 6 * j + 11 * k) (bytes 1 r)
    → new ≡ sets a (2 + 11 * i + 6 * j + 11 * k + 1) (fixed_at nodes i (length nodes / 3) (end - j) ++ limits_bytes (limits_from hs inner j k (end - j)))
    → Stage nodes hs inner old new all (i + 1) end f
stage-more nodes hs inner old now a new all i j k r end f w l er m e q g h =
    let t = turn hs inner (length nodes / 3) i j k end w.begun w.stands e in
    let role = get_or nodes (3 * i + 2) 0 in
    let rest = behind_role nodes hs inner i j k end in
    let p = 2 + 11 * i + 6 * j + 11 * k in
    let at : p + 1 ≡ 3 + 11 * i + 6 * j + 11 * k = omega arith in
    let here = put_as old now 3 p all _ (role ∷ rest) w.put (outer-next nodes hs inner (length nodes / 3) i j k end l t) in
    let one = put-more old now a 3 p (3 + 11 * i + 6 * j + 11 * k) all (role ∷ []) rest here
    (g ∙ ap (sets now p) (ap (bytes 1) er ∙ bytes_one role (omega (arith, m)))) (omega arith) in
    subst (Stage nodes hs inner old new all (i + 1) end) (sym q)
    (stage-next nodes hs inner old a new all i j k end t w.each w.shared one
    (h ∙ ap (λ (z : ℕ). sets a z (fixed_at nodes i (length nodes / 3) (end - j) ++ limits_bytes (limits_from hs inner j k (end - j)))) at))

-- room for what stands behind the i-th node's role, out of the room for all
pub stage-room : (nodes hs inner old now all : List ℕ) (i j k end : ℕ) → Stage nodes hs inner old now all i j k → end ≡ j + run hs i j (length hs / 5 - j)
    → (j ≤ end) × (end ≤ length hs / 5) × Each hs inner j k (end - j) × (k ≤ after hs j k (end - j)) × (after hs j k (end - j) ≤ length inner / 3)
stage-room nodes hs inner old now all i j k end w e =
    let t = turn hs inner (length nodes / 3) i j k end w.begun w.stands e in (
      t.begun,
      t.few,
      (t.each w.each).0,
      after-up hs j k (end - j),
      omega (arith, t.whole, w.shared, after-up hs end (after hs j k (end - j)) (length hs / 5 - end)),
    )

pub first-room : (nodes hs inner : List ℕ) (end : ℕ) → Given nodes hs inner → end ≡ run hs 0 0 (length hs / 5 - 0)
    → (end ≤ length hs / 5) × Each hs inner 0 0 (end - 0) × (after hs 0 0 (end - 0) ≤ length inner / 3)
first-room nodes hs inner end g e =
    let t = turn hs inner (length nodes / 3) 0 0 0 end (omega arith) g.stands (omega (arith, e)) in
    (t.few, (t.each g.each).0, omega (arith, t.whole, g.shared, after-up hs end (after hs 0 0 (end - 0)) (length hs / 5 - end)))

-- all nodes are put
pub stage-all : (nodes hs inner old now all : List ℕ) (i j k : ℕ) → Stage nodes hs inner old now all i j k → length nodes / 3 ≤ i → now ≡ sets old 3 all
stage-all nodes hs inner old now all i j k w l =
    put_all old now 3 _ all (put_as old now 3 (2 + 11 * i + 6 * j + 11 * k) all _ [] w.put (outer-end nodes hs inner i j k l))
