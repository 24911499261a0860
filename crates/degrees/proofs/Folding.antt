-- Folding a node's children in, one after the other: what is folded in and what is left make up the degree. The child at one row, h, was
-- folded in before the others.
-- Assumes nothing.
use mathlib.Core.Path.{◌≡◌, refl, sym, ap, subst, ◌∙◌}
use mathlib.Core.Bool.{Bool, true, false, ◌||◌, or-true}
use mathlib.Core.List.{List}
use Prim.Native.Nat.{ℕ, zero, suc, ◌+◌, ◌-◌, ◌*◌, ◌≤◌, ◌<◌, max}
use native.Mathlib.Nat.{le_trans, mul-le-mul_left, mul-le-mul_right, zero-lt-suc}
use native.Mathlib.Omega.{arith}
use lib.Dec.{eqb}
use lib.ListN.{get_or}
use borrow.Author.Tests.{eq-eqb, ne_eqb}
use Rattle.meaning.specs.Names.{common}
use Rattle.meaning.specs.Names.{names as many}
use Rattle.meaning.specs.Tree.{node, Forest, none, more, Concept, label_of, children, under}
use Rattle.meaning.specs.Graph.{Graph}
use Rattle.meaning.specs.Reduce.{dropped, kept_of, reduce, reduce_f}
use Rattle.meaning.specs.Degree.{or_one, best}
use Rattle.meaning.specs.InPlace.{count_in, scale_in, scale_in_f, degree_in, degree_in_f}
use Rattle.meaning.specs.Rows.{Holds, HoldsF, mark, Marked, MarkedF}
use Rattle.meaning.proofs.Names.{common-le}
use Rattle.meaning.proofs.Scale.{scale_f-pos, degree-le, degree_f-le}
use Rattle.meaning.proofs.InPlace.{count-in, scale_in_lem, scale_f-in, degree-in, degree_f-in}
use Rattle.meaning.proofs.Rows.{first, ran_out}
use Rattle.heaviest.specs.Heavy.{Stands}
use Rattle.heaviest.proofs.Stands.{Place, stands-place}
pub use Rattle.degrees.proofs.But.{mark-zero, mark-other, scale-in-pos}
use Rattle.degrees.proofs.But.{stands-marked, count_but, scale_but, degree_but, but-pos, but-one}

-- ---- laws of the scale and the degree over the tree as it is written

pub scale_f-in-pos : (f b : Forest ℕ) → 0 < scale_in_f f b
scale_f-in-pos f b = rw (← scale_f-in f b) (scale_f-pos (kept_of (reduce_f b) (reduce_f f)))

pub degree-in-le : (G : Graph ℕ) (t : Concept) (x : ℕ) → degree_in G t x ≤ scale_in t
degree-in-le G t x = rw (← degree-in G t x, ← scale_in_lem t) (degree-le G (reduce t) x)

degree_f-in-le : (G : Graph ℕ) (f b : Forest ℕ) (x : ℕ) → degree_in_f G f b x ≤ count_in f b * scale_in_f f b
degree_f-in-le G f b x = rw (← degree_f-in G f b x, ← count-in f b, ← scale_f-in f b) (degree_f-le G (kept_of (reduce_f b) (reduce_f f)) x)

-- the names and the kept children of a node
abbrev pub full_count : Concept → ℕ
full_count t = many (label_of t) + count_in (children t) none

abbrev pub full_scale : Concept → ℕ
full_scale t = scale_in_f (children t) none

abbrev pub full_sum : Graph ℕ → Concept → ℕ → ℕ
full_sum G t x = common (label_of t) (G.names x) * full_scale t + degree_in_f G (children t) none x

sum-le : (G : Graph ℕ) (t : Concept) (x : ℕ) → full_sum G t x ≤ full_count t * full_scale t
sum-le G (node a f) x = omega (arith, mul-le-mul_right (scale_in_f f none) (common-le a (G.names x)), degree_f-in-le G f none x)

full-le : (t : Concept) → full_count t * full_scale t ≤ scale_in t
unfolding scale_in
full-le (node a f) = let l : many a + count_in f none ≤ max 1 (many a + count_in f none) = omega arith in mul-le-mul_right (scale_in_f f none) l

pub scale-le : (t : Concept) → full_scale t ≤ scale_in t
unfolding scale_in
scale-le (node a f) = let l : 1 ≤ max 1 (many a + count_in f none) = omega arith in omega (arith, mul-le-mul_right (scale_in_f f none) l)

count-le : (t : Concept) → full_count t ≤ scale_in t
count-le t = le_trans (omega (arith, mul-le-mul_left (full_count t) (scale_f-in-pos (children t) none))) (full-le t)

-- ---- the fold

fold_step : (a s S b p d total : ℕ) → a * (s * S) + p * (b * S + s * d) ≡ total → (a * s + b * p) * S + p * s * d ≡ total
fold_step a s S b p d total e = omega arith

factor : (p s S total : ℕ) → 0 < total → 0 < S → p * (s * S) ≡ total → s ≤ total
factor zero s S total pos q e = absurd (omega arith)
factor (suc p) s S total pos q e = omega (arith, mul-le-mul_left s q, mul-le-mul_left (s * S) (zero-lt-suc p))

within : (x S r total : ℕ) → 0 < S → x * S + r ≡ total → x ≤ total
within x S r total pos e = omega (arith, mul-le-mul_left x pos)

other : (G : Graph ℕ) (t : Concept) → (full_count t ≡ 0 → ⊥) → (scale_in t ≡ full_count t * full_scale t) × ((x : ℕ) → degree_in G t x ≡ full_sum G t x)
unfolding scale_in degree_in
other G (node a f) z = go (many a + count_in f none) z
  where
    go : (k : ℕ) → (k ≡ 0 → ⊥) → (max 1 k * scale_in_f f none ≡ k * scale_in_f f none)
        × ((x : ℕ) → or_one k (common a (G.names x) * scale_in_f f none + degree_in_f G f none x) ≡ common a (G.names x) * scale_in_f f none + degree_in_f G f none x)
    go zero h = absurd (h refl)
    go (suc k) h = let m : max 1 (suc k) ≡ suc k = omega arith in (rw m refl, λ x. refl)

module _ (names roles ends marks : List ℕ) (G : Graph ℕ) (t : Concept) (left e h : ℕ) where
  -- The children of t from row c on are left, but for the one at row h. So far n is counted, the scales' product is p, and the sum for
  -- each x that is asked for is acc x.
  pub record Rest (c n p : ℕ) (acc : ℕ → ℕ) (X : ℕ → Type 0) : Type 0 where
    pub rest : Forest ℕ
    pub before : Forest ℕ
    pub held : HoldsF names roles ends rest left c e
    pub marked : MarkedF ends marks rest before c
    pub counted : n + count_but ends h rest before c ≡ full_count t
    pub scaled : p * scale_but ends h rest before c ≡ full_scale t
    pub summed : (x : ℕ) → X x → acc x * scale_but ends h rest before c + p * degree_but ends h G rest before c x ≡ full_sum G t x

  -- a kept child at row c, which is to be folded in
  pub record Child (c n p : ℕ) (acc : ℕ → ℕ) (X : ℕ → Type 0) : Type 0 where
    pub tree : Concept
    pub held : Holds names roles ends tree left c (get_or ends c 0)
    pub marked : Marked ends marks tree c
    pub small : scale_in tree ≤ scale_in t
    pub count_fits : n + 1 ≤ scale_in t
    pub scale-fits : p * scale_in tree ≤ scale_in t
    pub sum_fits : (x : ℕ) → X x → acc x * scale_in tree + best (λ y. degree_in G tree y) (G.next x (get_or roles c 0)) * p ≤ scale_in t
    pub then : (new : ℕ → ℕ) → ((x : ℕ) → X x → new x ≡ acc x * scale_in tree + best (λ y. degree_in G tree y) (G.next x (get_or roles c 0)) * p)
        → Rest (get_or ends c 0) (n + 1) (p * scale_in tree) new X

  -- no child is left
  pub record Whole (n p : ℕ) (acc : ℕ → ℕ) (X : ℕ → Type 0) : Type 0 where
    pub counted : n ≡ full_count t
    pub scaled : p ≡ full_scale t
    pub summed : (x : ℕ) → X x → acc x ≡ full_sum G t x

module _ {names roles ends marks : List ℕ} {G : Graph ℕ} {t : Concept} {left e h c n p : ℕ} {acc : ℕ → ℕ} {X : ℕ → Type 0}
    (w : Rest names roles ends marks G t left e h c n p acc X) where
  -- the child at row c is passed over
  over : c < e → ((d : Bool) → get_or marks c 0 ≡ mark d → (d || eqb c h) ≡ true) → Rest names roles ends marks G t left e h (get_or ends c 0) n p acc X
  unfolding Holds Marked count_but scale_but degree_but
  over l m = go w.rest w.before w.held w.marked w.counted w.scaled w.summed
    where
      go : (f b : Forest ℕ) → HoldsF names roles ends f left c e → MarkedF ends marks f b c → n + count_but ends h f b c ≡ full_count t
          → p * scale_but ends h f b c ≡ full_scale t
          → ((x : ℕ) → X x → acc x * scale_but ends h f b c + p * degree_but ends h G f b c x ≡ full_sum G t x)
          → Rest names roles ends marks G t left e h (get_or ends c 0) n p acc X
      go none b k o cs ss qs = absurd (let z : c ≡ e = k in omega arith)
      go (more r u f) b k o cs ss qs =
          let d : (dropped (under r b) u (under r f) || eqb c h) ≡ true = m (dropped (under r b) u (under r f)) o.0 in
          record {
            rest = f;
            before = more r u b;
            held = k.3;
            marked = o.2;
            counted = rw d at cs;
            scaled = rw d at ss;
            summed = λ x i. rw d at (qs x i);
          }

  -- since it is dropped
  pub rest-skip : c < e → get_or marks c 0 ≡ 0 → Rest names roles ends marks G t left e h (get_or ends c 0) n p acc X
  rest-skip l m = over l (λ d o. rw (mark-zero d (sym o ∙ m)))

  -- since it was folded in
  pub rest-pass : c < e → c ≡ h → Rest names roles ends marks G t left e h (get_or ends c 0) n p acc X
  rest-pass l m = over l (λ d o. rw (eq-eqb c h m) (or-true d))

  pub rest-child : c < e → (get_or marks c 0 ≡ 0 → ⊥) → (c ≡ h → ⊥) → Child names roles ends marks G t left e h c n p acc X
  unfolding Holds Marked count_but scale_but degree_but
  rest-child l m a = go w.rest w.before w.held w.marked w.counted w.scaled w.summed
    where
      go : (f b : Forest ℕ) → HoldsF names roles ends f left c e → MarkedF ends marks f b c → n + count_but ends h f b c ≡ full_count t
          → p * scale_but ends h f b c ≡ full_scale t
          → ((x : ℕ) → X x → acc x * scale_but ends h f b c + p * degree_but ends h G f b c x ≡ full_sum G t x)
          → Child names roles ends marks G t left e h c n p acc X
      go none b k o cs ss qs = absurd (let z : c ≡ e = k in omega arith)
      go (more r u f) b k o cs ss qs =
          let kept : dropped (under r b) u (under r f) ≡ false = mark-other _ (λ z. m (o.0 ∙ z)) in
          let d : (dropped (under r b) u (under r f) || eqb c h) ≡ false = rw (kept, ne_eqb c h a) in
          let one : get_or marks c 0 ≡ 1 = o.0 ∙ ap mark kept in
          let S : ℕ = scale_but ends h f (more r u b) (get_or ends c 0) in
          let pos : 0 < S = but-pos ends h f (more r u b) (get_or ends c 0) in
          let top : ℕ → ℕ = λ x. best (λ y. degree_in G u y) (G.next x r) in
          let cs' : n + (1 + count_but ends h f (more r u b) (get_or ends c 0)) ≡ full_count t = rw d at cs in
          let ss' : p * (scale_in u * S) ≡ full_scale t = rw d at ss in
          let qs' : (x : ℕ) → X x → (acc x * scale_in u + top x * p) * S + p * scale_in u * degree_but ends h G f (more r u b) (get_or ends c 0) x ≡ full_sum G t x =
          λ x i. fold_step (acc x) (scale_in u) S (top x) p (degree_but ends h G f (more r u b) (get_or ends c 0) x) (full_sum G t x) (rw d at (qs x i)) in
          record {
            tree = u;
            held = k.2;
            marked = o.1 one;
            small = le_trans (factor p (scale_in u) S (full_scale t) (scale_f-in-pos (children t) none) pos (omega arith)) (scale-le t);
            count_fits = le_trans (omega arith) (count-le t);
            scale-fits = le_trans (within (p * scale_in u) S 0 (full_scale t) pos (omega arith)) (scale-le t);
            sum_fits = λ x i. rw k.0 (le_trans (within _ S _ (full_sum G t x) pos (qs' x i)) (le_trans (sum-le G t x) (full-le t)));
            then = λ new q. record {
              rest = f;
              before = more r u b;
              held = k.3;
              marked = o.2;
              counted = omega arith;
              scaled = omega arith;
              summed = λ x i. rw (q x i, k.0) (qs' x i);
            };
          }

  -- where the next child stands
  pub rest-next : c < e → (c < get_or ends c 0) × (get_or ends c 0 ≤ e)
  rest-next l = let q = first names roles ends w.rest left c e w.held l in (q.inside, q.within)

  pub rest-whole : e ≤ c → Whole names roles ends marks G t left e h n p acc X
  unfolding count_but scale_but degree_but
  rest-whole l =
      let z = ran_out names roles ends w.rest left c e w.held l in
      let cs : n + count_but ends h none w.before c ≡ full_count t = rw z at w.counted in
      let ss : p * scale_but ends h none w.before c ≡ full_scale t = rw z at w.scaled in
      record {
        counted = omega arith;
        scaled = omega arith;
        summed = λ x i. let q : acc x * scale_but ends h none w.before c + p * degree_but ends h G none w.before c x ≡ full_sum G t x = rw z at (w.summed x i) in omega arith;
      }

  pub whole-fits : e ≤ c → n * p ≤ scale_in t
  whole-fits l = let v = rest-whole l in rw (v.counted, v.scaled) (full-le t)

  pub whole-other : e ≤ c → (n ≡ 0 → ⊥) → (scale_in t ≡ n * p) × ((x : ℕ) → X x → degree_in G t x ≡ acc x)
  whole-other l z =
      let v = rest-whole l in
      let q = other G t (λ y. z (v.counted ∙ y)) in
      (q.0 ∙ rw (v.counted, v.scaled), λ x i. q.1 x ∙ sym (v.summed x i))

-- the same at a row that is known by another name
pub rest_at : {names roles ends marks : List ℕ} {G : Graph ℕ} {t : Concept} {left e h c n p : ℕ} {acc : ℕ → ℕ} {X : ℕ → Type 0} {j : ℕ} → j ≡ c
    → Rest names roles ends marks G t left e h c n p acc X → Rest names roles ends marks G t left e h j n p acc X
rest_at {names} {roles} {ends} {marks} {G} {t} {left} {e} {h} {n} {p} {acc} {X} q w = subst (λ (z : ℕ). Rest names roles ends marks G t left e h z n p acc X) (sym q) w

-- what the child u at row h gives to x
abbrev pub given : List ℕ → Graph ℕ → ℕ → Concept → ℕ → ℕ
given roles G h u x = best (λ y. degree_in G u y) (G.next x (get_or roles h 0))

-- at first all are left but the one at row h, which is u
module _ (names roles ends marks : List ℕ) (G : Graph ℕ) (left e c h : ℕ) (u : Concept) (X : ℕ → Type 0) where
  pub record Head (t : Concept) : Type 0 where
    pub place : Place names roles ends (left - 1) (c + 1) e h u
    pub marked : Marked ends marks u h
    pub small : scale_in u ≤ scale_in t
    pub sum_fits : (x : ℕ) → common (get_or names c 0) (G.names x) * scale_in u + given roles G h u x * 1 ≤ scale_in t
    pub count_fits : many (get_or names c 0) + 1 ≤ scale_in t
    pub then : (n p : ℕ) (acc : ℕ → ℕ) → n ≡ many (get_or names c 0) + 1 → p ≡ scale_in u
        → ((x : ℕ) → X x → acc x ≡ common (get_or names c 0) (G.names x) * p + given roles G h u x)
        → Rest names roles ends marks G t (left - 1) e h (c + 1) n p acc X

  head-sum : (a s v k d total : ℕ) → total ≡ a * (s * k) + (v * k + s * d) → (a * s + v) * k + s * d ≡ total
  head-sum a s v k d total q = omega arith

  pub head : (t : Concept) → Holds names roles ends t left c e → Marked ends marks t c → Stands ends (children t) (c + 1) h u → (get_or marks h 0 ≡ 0 → ⊥) → Head t
  unfolding Holds Marked
  head (node a f) k m s o =
      let same : get_or names c 0 ≡ a = k.2 in
      let one = but-one ends h names roles marks G f none (left - 1) (c + 1) e u k.4 m s o in
      let K : ℕ = scale_but ends h f none (c + 1) in
      let pos : 0 < K = but-pos ends h f none (c + 1) in
      let D : ℕ → ℕ = λ x. degree_but ends h G f none (c + 1) x in
      let sum : (x : ℕ) → (common (get_or names c 0) (G.names x) * scale_in u + given roles G h u x) * K + scale_in u * D x ≡ full_sum G (node a f) x =
      λ x. head-sum (common (get_or names c 0) (G.names x)) (scale_in u) (given roles G h u x) K (D x) (full_sum G (node a f) x) (rw (same, one.scale, one.sum x)) in
      record {
        place = stands-place names roles ends f (left - 1) (c + 1) e h u k.4 s;
        marked = stands-marked ends marks f none (c + 1) h u m s o;
        small = le_trans (within (scale_in u) K 0 (scale_in_f f none) pos (rw one.scale (omega arith))) (scale-le (node a f));
        sum_fits = λ x. le_trans
            (within (common (get_or names c 0) (G.names x) * scale_in u + given roles G h u x * 1) K (scale_in u * D x) (full_sum G (node a f) x) pos
            (let q = sum x in omega arith))
            (le_trans (sum-le G (node a f) x) (full-le (node a f)));
        count_fits = le_trans (rw (same, one.count) (omega arith)) (count-le (node a f));
        then = λ n p acc en ep ea. record {
          rest = f;
          before = none;
          held = k.4;
          marked = m;
          counted = rw (en, same, one.count) (omega arith);
          scaled = rw (ep, one.scale);
          summed = λ x i. rw (ea x i, ep) (sum x);
        };
      }
