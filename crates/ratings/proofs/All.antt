-- All items at once: what the core answers.
-- Assumes nothing.
use mathlib.Core.Path.{◌∙◌}
use mathlib.Core.List.{List}
use Prim.Native.Nat.{ℕ}
use borrow.Author.Tests.{lt-ltb}
use Rattle.rows.specs.declared.Reduced.{Reduced}
use Rattle.graph.specs.declared.Indexed.{Indexed}
use Rattle.graph.specs.Sets.{All}
use Rattle.degrees.specs.Gradable.{GradableOn, Member}
use Rattle.degrees.specs.Given.{Done}
use Rattle.ratings.specs.declared.Ratings.{Ratings}
use Rattle.ratings.specs.Rated.{Graded}

pub graded-all : (on : Indexed) (of : Reduced) (k : GradableOn on of 0 17) {set : List ℕ} → All on.items set → {notes new last : List ℕ} (r : Ratings)
    → Done k (Member set) 512 512 r.scale notes new last r.numbers → Graded k.posed.graph.register k.tree on.items of new r
graded-all on of k a r d = record {
  scaled = d.worked.scaled;
  numbered = λ x l. d.worked.each x (a.has x ∙ lt-ltb x on.items l);
  noted = λ x l. d.noted x (a.has x ∙ lt-ltb x on.items l);
}
