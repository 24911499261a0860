-- For a call: what it has read is gradable, and what is worked out is the degree that is answered.
-- Assumes nothing.
use mathlib.Core.Path.{◌≡◌, sym, ap₂, ◌∙◌}
use mathlib.Core.List.{List}
use Prim.Native.Nat.{ℕ, ◌≤◌, ◌<◌}
use lib.ListN.{length, get_or}
use Rattle.meaning.specs.Bounds.{most_nodes, most_size, most_scale}
use Rattle.meaning.specs.Refusal.{good}
use Rattle.meaning.specs.Tree.{Concept}
use Rattle.meaning.specs.Register.{Register, read_buffer}
use Rattle.graph.specs.Walked.{walked}
use Rattle.meaning.specs.Fraction.{◌÷◌, lowest}
use Rattle.meaning.specs.Reduce.{reduce}
use Rattle.meaning.specs.Degree.{answered}
use Rattle.meaning.specs.InPlace.{size_in, scale_in}
use Rattle.meaning.specs.Rows.{Holds, Marked}
use Rattle.meaning.proofs.Bound.{scale-bound}
use Rattle.meaning.proofs.InPlace.{size_in_lem, scale_in_lem, degree-in}
use Rattle.register.specs.Image.{OfSize}
use Rattle.shown.specs.declared.Degree.{Degree}
use Rattle.degrees.specs.Gradable.{Gradable}
use Rattle.shown.specs.Given.{Graded}
use Rattle.degrees.proofs.Folding.{scale-in-pos, degree-in-le}

-- "With size at most 60 the scale is at most 3^20"
pub scale_small : (t : Concept) → size_in t ≤ most_size → scale_in t ≤ most_scale
scale_small t h = rw (← scale_in_lem t) (scale-bound (reduce t) (rw (size_in_lem t) h))

abbrev pub gradable-of : {s : List ℕ} {names roles ends marks : List ℕ} {items links node left : ℕ} (g : Register) (t : Concept) → read_buffer s ≡ good g
    → items ≡ length g.names → links ≡ length g.links → Holds names roles ends t left node (get_or ends node 0) → Marked ends marks t node
    → get_or ends node 0 ≤ most_nodes → size_in t ≤ most_size → Gradable (OfSize s items links) names roles ends marks node left
gradable-of g t h ei el held marked few small = record {
  tree = t;
  posed = record { graph = record { register = g; read = h; holds = (ei, el) }; held = held; few = few };
  marked = marked;
  small = scale_small t small;
}

-- the degree is at most 1, its scale positive, and in lowest terms it is the answer
pub graded-fits : (g : Register) (t : Concept) (x : ℕ) (d : Degree) → Graded g t x d → (0 < d.scale) × (d.number ≤ d.scale)
graded-fits g t x d h = rw (h.number, h.scale) (scale-in-pos t, degree-in-le (walked g) t x)

pub graded-answer : (g : Register) (t : Concept) (x : ℕ) (d : Degree) → Graded g t x d → lowest (d.number ÷ d.scale) ≡ answered (walked g) t x
graded-answer g t x d h =
    ap₂ (λ (n m : ℕ). lowest (n ÷ m)) (h.number ∙ sym (degree-in (walked g) t x)) (h.scale ∙ sym (scale_in_lem t))
