-- The inner concept of one threshold, read again from the message: its rows, marked, are gradable, and the degrees of the items of a set, compared as
-- the message says, are what the threshold asks of them.
-- Assumes nothing.
use mathlib.Core.Path.{◌≡◌, refl, sym, ap, ap₂, subst, ◌∙◌}
use mathlib.Core.Bool.{Bool, true, false, ◌&&◌}
use mathlib.Core.List.{List}
use Prim.Native.Nat.{ℕ, ◌+◌, ◌≤◌, ◌<◌}
use native.Mathlib.Omega.{arith}
use lib.ListN.{get_or}
use Rattle.meaning.specs.Bytes.{number}
use Rattle.meaning.specs.Bounds.{most_size, most_scale}
use Rattle.meaning.specs.Tree.{Concept, nodes}
use Rattle.meaning.specs.Register.{Register}
use Rattle.graph.specs.Walked.{walked}
use Rattle.meaning.specs.Fraction.{◌÷◌, Frac, Comparison, compares}
use Rattle.meaning.specs.Reduce.{reduce, size}
use Rattle.meaning.specs.InPlace.{scale_in}
use Rattle.meaning.specs.Degree.{degree_of}
use Rattle.meaning.specs.Requirement.{Threshold, passes}
use Rattle.meaning.specs.Message.{comparison}
use Rattle.meaning.specs.Rows.{Holds}
use Rattle.meaning.proofs.Rows.{opened}
use Rattle.meaning.proofs.Bound.{scale-bound}
use Rattle.meaning.proofs.InPlace.{scale_in_lem, degree-in}
use Rattle.reduction.specs.Held.{Held}
use Rattle.reduction.specs.Marks.{MarkedWhole}
use Rattle.rows.specs.Packed.{names_in, roles_in, ends_in}
use Rattle.readers.proofs.Places.{same_rows}
use Rattle.parts.specs.Inner.{ConceptDone}
use Rattle.graph.specs.Judged.{Judged}
use Rattle.graph.specs.Sets.{in_set}
use Rattle.folds.specs.Members.{Member}
use Rattle.folds.specs.Folded.{row_at}
use Rattle.degrees.specs.Gradable.{Gradable}
use Rattle.degrees.specs.Given.{Worked}
use Rattle.screening.specs.Sifting.{Sifted}
use Rattle.screening.specs.Standing.{StandsAt}

-- a small concept has a small scale
pub scale_small : (t : Concept) → size (reduce t) ≤ most_size → scale_in t ≤ most_scale
scale_small t h = rw (← scale_in_lem t) (scale-bound (reduce t) h)

-- the arrays that stand in the rows
pub concept-arrays : (s : List ℕ) (stop p : ℕ) (B : List ℕ) {names roles ends : List ℕ} → names ≡ names_in B → roles ≡ roles_in B → ends ≡ ends_in B
    → ConceptDone s stop p (names_in B) (roles_in B) (ends_in B) → ConceptDone s stop p names roles ends
concept-arrays s stop p B en er ee done = same_rows (λ n r e. ConceptDone s stop p n r e) (sym en) (sym er) (sym ee) done

module _ (s : List ℕ) (p : ℕ) (h : Threshold) (c : StandsAt s p h) (len : ℕ) (e : len ≡ number s (p + 5) 2) (names roles ends : List ℕ)
    (done : ConceptDone s (p + 7 + len) (p + 7) names roles ends) where
  -- the rows hold it
  inner-rows : Holds names roles ends h.inner 17 0 (nodes h.inner) × (nodes h.inner ≤ 64)
  inner-rows = subst (λ (n : ℕ). ConceptDone s (p + 7 + n) (p + 7) names roles ends) e done h.inner c.spot c.inner

  inner-end : get_or ends 0 0 ≡ nodes h.inner
  inner-end = (opened names roles ends h.inner 17 0 (nodes h.inner) inner-rows.0).ended

  pub inner-holds : Holds names roles ends h.inner 17 0 (get_or ends 0 0)
  inner-holds = subst (λ (n : ℕ). Holds names roles ends h.inner 17 0 n) (sym inner-end) inner-rows.0

  pub inner-few : get_or ends 0 0 ≤ 64
  inner-few = omega (arith, inner-end, inner-rows.1)

  pub inner-held : Held names roles ends 17 0
  inner-held = record { tree = h.inner; holds = inner-holds; fits = inner-few }

  -- marked, they are gradable
  abbrev pub inner-gradable : {image : List ℕ} {items : ℕ} {index : List ℕ} (j : Judged image items index) (marks : List ℕ) → MarkedWhole names roles ends marks
      → Gradable (Judged image items index) names roles ends marks 0 17
  inner-gradable j marks marked = record {
    tree = h.inner;
    posed = record { graph = j; held = inner-holds; few = inner-few };
    marked = marked.marked h.inner inner-holds;
    small = scale_small h.inner c.small;
  }

-- the degrees that were worked out, compared as the message says, are what the threshold asks
module _ (g : Register) (h : Threshold) (s : List ℕ) (p : ℕ) (c : StandsAt s p h) (set : List ℕ) (scale : ℕ) (numbers : List ℕ)
    (w : Worked g h.inner (Member set) 512 scale numbers) where
  pub sifted-passes : (num den : ℕ) → num ≡ number s (p + 1) 2 → den ≡ number s (p + 3) 2
      → (new : List ℕ) → Sifted (λ x. compares (comparison (get_or s p 0)) (row_at numbers 512 x ÷ scale) (num ÷ den)) set new → Sifted (λ x. passes (walked g) h x) set new
  sifted-passes num den en ed new q = record { each = λ x. q.each x ∙ go x (in_set set x) refl }
    where
      same : (x : ℕ) → in_set set x ≡ true → compares (comparison (get_or s p 0)) (row_at numbers 512 x ÷ scale) (num ÷ den) ≡ passes (walked g) h x
      same x l =
          let value : row_at numbers 512 x ÷ scale ≡ degree_of (walked g) h.inner x =
          ap₂ (λ (n m : ℕ). n ÷ m) (w.each x l ∙ sym (degree-in (walked g) h.inner x)) (w.scaled ∙ sym (scale_in_lem h.inner)) in
          let limit : num ÷ den ≡ h.limit = ap₂ (λ (n m : ℕ). n ÷ m) (en ∙ c.num) (ed ∙ c.den) in
          ap (λ (how : Comparison). compares how (row_at numbers 512 x ÷ scale) (num ÷ den)) c.how
          ∙ ap₂ (λ (d t : Frac). compares h.how d t) value limit

      go : (x : ℕ) (b : Bool) → in_set set x ≡ b
          → (b && compares (comparison (get_or s p 0)) (row_at numbers 512 x ÷ scale) (num ÷ den)) ≡ (b && passes (walked g) h x)
      go x true l = same x l
      go x false l = refl

  -- the scale is a 32-bit number
  pub scale-fits : scale < 4294967296
  scale-fits = omega (arith, w.scaled, scale_small h.inner c.small)
