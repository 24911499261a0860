-- All items worked out at once: the root's numbers, and the notes of where the kept nodes go, for each of them. A withdrawn item is worked out as any
-- other, over the graph as it is walked; its row does not show it.
-- Assumes nothing.
use Rattle.std.specs.Prelude.{◌≡◌, List, ℕ, ◌≤◌, ◌<◌, length}
use Rattle.meaning.specs.Bounds.{most_levels}
use Rattle.meaning.specs.Refusal.{good}
use Rattle.meaning.specs.Tree.{Concept}
use Rattle.meaning.specs.Register.{Register, read_register}
use Rattle.meaning.specs.InPlace.{scale_in, degree_in}
use Rattle.meaning.specs.Rows.{Marked}
use Rattle.meaning.specs.Calls.{read_plain}
use Rattle.rows.specs.declared.Reduced.{Reduced}
use Rattle.graph.specs.declared.Indexed.{Indexed}
use Rattle.graph.specs.On.{JudgedOn}
use Rattle.graph.specs.Walked.{walked}
use Rattle.graph.specs.Posed.{Posed}
use Rattle.folds.specs.Folded.{row_at}
use Rattle.degrees.specs.Notes.{Noted}
use Rattle.ratings.specs.declared.Ratings.{Ratings}

-- of each item: its number at the root, over the scale, and where the kept nodes go
pub record Graded (g : Register) (t : Concept) (items : ℕ) (of : Reduced) (notes : List ℕ) (r : Ratings) : Type 0 where
  pub scaled : r.scale ≡ scale_in t
  pub numbered : (x : ℕ) → x < items → row_at r.numbers 512 x ≡ degree_in (walked g) t x
  pub noted : (x : ℕ) → x < items → Noted of.tree.ends of.marks g notes t 0 x

-- an image and a plain requirement that were read, the image's index and the requirement's rows, and what was worked out for them
pub record Rated (on : Indexed) (of : Reduced) (message notes : List ℕ) (r : Ratings) : Type 0 where
  pub tree : Concept
  pub wanted : read_plain message ≡ good tree
  pub names : List ℕ
  pub roles : List ℕ
  pub posed : Posed (JudgedOn on) names roles of.tree.ends tree 0 most_levels
  pub whole : read_register on.image.now ≡ good posed.graph.register
  pub marked : Marked of.tree.ends of.marks tree 0
  pub places : length posed.graph.register.links ≤ length notes
  pub graded : Graded posed.graph.register tree on.items of notes r
