-- The listing in pieces: what comes first, and then rows, each a text of its own.
-- Assumes nothing.
use Rattle.std.specs.Prelude.{◌≡◌, true, false, List, [], ◌++◌, ℕ, ◌≤◌, length, Result, Ok, Err}
use Rattle.meaning.specs.declared.Refusal.{Refusal}
use Rattle.meaning.specs.Refusal.{Answer, good, refused}
use Rattle.meaning.specs.Bounds.{most_items}
use Rattle.meaning.specs.Tree.{Concept}
use Rattle.meaning.specs.Register.{Register, read_register}
use Rattle.meaning.specs.Requirement.{Requirement}
use Rattle.meaning.specs.Message.{Part, read_requirement}
use Rattle.meaning.specs.Calls.{read_plain}
use Rattle.listing.specs.declared.Rest.{Rest}
use Rattle.listing.specs.declared.Rest.TheVariants.{Nothing, Degrees, Members}
use Rattle.listing.specs.declared.Outline.{Outline}
use Rattle.listing.specs.Listing.{row_of, lines, listing}

-- how many rows come behind the first line, and an item's
abbrev pub rows_in : Rest → ℕ
rows_in Nothing = 0
rows_in (Degrees s) = s.items
rows_in (Members s) = s.items

abbrev pub row_in : Rest → ℕ → List ℕ
row_in Nothing i = []
row_in (Degrees s) i = row_of true s.image.now s.message.now i
row_in (Members s) i = row_of false s.image.now s.message.now i

-- they are of an image and a message
abbrev pub Of : List ℕ → List ℕ → Rest → Type 0
Of image message Nothing = Unit {0}
Of image message (Degrees s) = (s.image.now ≡ image) × (s.message.now ≡ message)
Of image message (Members s) = (s.image.now ≡ image) × (s.message.now ≡ message)

-- a register was read of which there are so many items
pub record Registered (image : List ℕ) (items : ℕ) : Type 0 where
  pub register : Register
  pub read : read_register image ≡ good register
  pub items-are : items ≡ length register.names

-- what the rows are of was read: a register, and a plain requirement for degrees, any for yes and no
abbrev pub Readable : Rest → Type 0
Readable Nothing = Unit {0}
Readable (Degrees s) = Registered s.image.now s.items × ((t : Concept) × (read_plain s.message.now ≡ good t))
Readable (Members s) = Registered s.image.now s.items × ((q : Requirement × List Part) × (read_requirement s.message.now ≡ good q))

-- the text is what the first line says, and then the rows of an image and a message
pub record Opens (image message text : List ℕ) (p : Outline) : Type 0 where
  pub few : rows_in p.rest ≤ most_items
  pub of : Of image message p.rest
  pub readable : Readable p.rest
  pub whole : text ≡ p.first ++ lines (row_in p.rest) (rows_in p.rest)

-- the text opens with a plan, or it is refused
abbrev pub Planning : List ℕ → List ℕ → Answer (List ℕ) → Result Outline Refusal → Type 0
Planning image message (good text) (Ok p) = Opens image message text p
Planning image message (good text) (Err e) = ⊥
Planning image message (refused f) (Ok p) = ⊥
Planning image message (refused f) (Err e) = e ≡ f

-- what is planned for an input is its listing; its rows are of an image and a message that the input is made of
pub record Planned (s : List ℕ) (p : Outline) : Type 0 where
  pub image : List ℕ
  pub message : List ℕ
  pub split : image ++ message ≡ s
  pub opens : Opens image message (listing s) p
