-- Thresholds one after the other: those of one node, and where the inner nodes of the next begin.
-- Assumes nothing.
use mathlib.Core.Path.{◌≡◌, refl, sym, ap, ap₂, ◌∙◌, subst}
use mathlib.Core.Bool.{Bool, cond}
use mathlib.Core.List.{List, [], ◌∷◌, ◌++◌}
use Prim.Native.Nat.{ℕ, zero, suc, ◌+◌, ◌*◌, ◌-◌, ◌≤◌, ◌<◌}
use native.Mathlib.Omega.{arith}
use lib.Dec.{T}
use lib.ListN.{length, get_or}
use lib.Seq.{sets}
use Rattle.meaning.specs.Refusal.{good}
use Rattle.meaning.specs.Lists.{Limit, form_tree, threshold}
use Rattle.meaning.specs.Message.{threshold_bytes, thresholds_bytes}
use Rattle.meaning.specs.Writing.{inners_at, limit_at, limits_from, limit_fits}
use Rattle.meaning.proofs.Lists.{same, other}
use Rattle.meaning.proofs.MessageLabel.{threshold-length}
use Rattle.lists.specs.Handed.{One}
use Rattle.limits.specs.Flat.{run, after, Each, thresholds}
use Rattle.limits.proofs.Nodes.{nodes-length}
use Rattle.limits.proofs.Limits.{inner-long}
use Rattle.limits.proofs.Putting.{Put, put-more, put_all, put_as}

-- one from a place to an end, and the others
abbrev pub left : (e end : ℕ) → e < end → end - e ≡ suc (end - (e + 1))
left e end l = omega (arith, l)

-- ---- counting those of a node

pub run_more : (hs : List ℕ) (i e all h : ℕ) → e < all → h ≡ get_or hs (5 * e) 0 → h ≡ i → run hs i e (all - e) ≡ suc (run hs i (e + 1) (all - (e + 1)))
unfolding run
run_more hs i e all h l q w =
    let n : suc e ≡ e + 1 = omega arith in
    ap (run hs i e) (left e all l) ∙ ap (λ (b : Bool). cond b (suc (run hs i (suc e) (all - (e + 1)))) 0) (same (get_or hs (5 * e) 0) i (sym q ∙ w))
    ∙ ap (λ (y : ℕ). suc (run hs i y (all - (e + 1)))) n

pub run-stop : (hs : List ℕ) (i e all h : ℕ) → e < all → h ≡ get_or hs (5 * e) 0 → (h ≡ i → ⊥) → run hs i e (all - e) ≡ 0
unfolding run
run-stop hs i e all h l q w =
    ap (run hs i e) (left e all l)
    ∙ ap (λ (b : Bool). cond b (suc (run hs i (suc e) (all - (e + 1)))) 0) (other (get_or hs (5 * e) 0) i (λ y. w (q ∙ y)))

pub run_none : (hs : List ℕ) (i e all : ℕ) → all ≤ e → run hs i e (all - e) ≡ 0
unfolding run
run_none hs i e all l = let n : all - e ≡ 0 = omega (arith, l) in ap (run hs i e) n

-- ---- one threshold more

pub after-up : (hs : List ℕ) (j k m : ℕ) → k ≤ after hs j k m
unfolding after
after-up hs j k zero = omega arith
after-up hs j k (suc m) = omega (arith, after-up hs (suc j) (k + inners_at hs j) m)

pub after_next : (hs : List ℕ) (e k end n : ℕ) → e < end → n ≡ inners_at hs e → after hs e k (end - e) ≡ after hs (e + 1) (k + n) (end - (e + 1))
unfolding after
after_next hs e k end n l q =
    let s : suc e ≡ e + 1 = omega arith in
    ap (after hs e k) (left e end l) ∙ ap₂ (λ (y z : ℕ). after hs y (k + z) (end - (e + 1))) s (sym q)

pub after-room : (hs : List ℕ) (e k end : ℕ) → e < end → k + inners_at hs e ≤ after hs e k (end - e)
after-room hs e k end l =
    let n = inners_at hs e in
    omega (arith, after_next hs e k end n l refl, after-up hs (e + 1) (k + n) (end - (e + 1)))

pub after_none : (hs : List ℕ) (e k end : ℕ) → end ≤ e → after hs e k (end - e) ≡ k
unfolding after
after_none hs e k end l = let n : end - e ≡ 0 = omega (arith, l) in ap (after hs e k) n

pub each-here : (hs inner : List ℕ) (e k end : ℕ) → e < end → Each hs inner e k (end - e) → One hs inner e k × (limit_fits e (limit_at hs inner e k) ≡ good tt)
unfolding Each
each-here hs inner e k end l w = let v = subst (Each hs inner e k) (left e end l) w in (v.0, v.1)

pub each_next : (hs inner : List ℕ) (e k end n : ℕ) → e < end → n ≡ inners_at hs e → Each hs inner e k (end - e) → Each hs inner (e + 1) (k + n) (end - (e + 1))
unfolding Each
each_next hs inner e k end n l q w =
    let s : suc e ≡ e + 1 = omega arith in
    let v = subst (Each hs inner e k) (left e end l) w in
    subst (λ (z : ℕ). Each hs inner (e + 1) (k + z) (end - (e + 1))) (sym q) (subst (λ (y : ℕ). Each hs inner y (k + inners_at hs e) (end - (e + 1))) s v.2)

-- ---- their bytes

abbrev pub limits_bytes : List Limit → List ℕ
limits_bytes hs = thresholds_bytes (thresholds hs)

pub limits-next : (hs inner : List ℕ) (e k end n : ℕ) → e < end → n ≡ inners_at hs e
    → limits_from hs inner e k (end - e) ≡ limit_at hs inner e k ∷ limits_from hs inner (e + 1) (k + n) (end - (e + 1))
unfolding limits_from
limits-next hs inner e k end n l q =
    let s : suc e ≡ e + 1 = omega arith in
    ap (limits_from hs inner e k) (left e end l)
    ∙ ap₂ (λ (y z : ℕ). limit_at hs inner e k ∷ limits_from hs inner y (k + z) (end - (e + 1))) s (sym q)

pub limits-none : (hs inner : List ℕ) (e k end : ℕ) → end ≤ e → limits_from hs inner e k (end - e) ≡ []
unfolding limits_from
limits-none hs inner e k end l = let n : end - e ≡ 0 = omega (arith, l) in ap (limits_from hs inner e k) n

pub limit-long : (hs inner : List ℕ) (j k : ℕ) → T (form_tree (limit_at hs inner j k).inner)
    → length (threshold_bytes (threshold (limit_at hs inner j k))) ≡ 6 + 11 * inners_at hs j
limit-long hs inner j k w =
    let l = limit_at hs inner j k in
    omega (arith, threshold-length (threshold l), inner-long l.inner w, nodes-length inner k (inners_at hs j))

pub limits-more : (hs inner old now new : List ℕ) (at p q e k end n : ℕ) (all : List ℕ) → Put old now at p all (limits_bytes (limits_from hs inner e k (end - e)))
    → e < end → n ≡ inners_at hs e → One hs inner e k → q ≡ p + 6 + 11 * inners_at hs e → new ≡ sets now p (threshold_bytes (threshold (limit_at hs inner e k)))
    → Put old new at q all (limits_bytes (limits_from hs inner (e + 1) (k + n) (end - (e + 1))))
unfolding thresholds_bytes
limits-more hs inner old now new at p q e k end n all w l y o b g =
    let here = threshold_bytes (threshold (limit_at hs inner e k)) in
    let rest = limits_bytes (limits_from hs inner (e + 1) (k + n) (end - (e + 1))) in
    put-more old now new at p q all here rest (put_as old now at p all _ (here ++ rest) w (ap limits_bytes (limits-next hs inner e k end n l y))) g
    (omega (arith, b, limit-long hs inner e k o.forms))

pub limits-all : (hs inner old now : List ℕ) (at p e k end : ℕ) (all : List ℕ) → Put old now at p all (limits_bytes (limits_from hs inner e k (end - e)))
    → end ≤ e → now ≡ sets old at all
unfolding thresholds_bytes
limits-all hs inner old now at p e k end all w l =
    put_all old now at p all (put_as old now at p all _ [] w (ap limits_bytes (limits-none hs inner e k end l)))
