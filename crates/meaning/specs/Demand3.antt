-- Demand 3: what a session shows after any history of calls from an opened register on. proofs/Demand3.antt proves it of every history.
-- It rules out an unchanging image, an undo that does nothing, and a session that applies its first edit and only counts the rest: the facts are
-- those of all accepted edits not taken back, and an image shows one set of facts; so what has something to change changes the image
-- (proofs/Demand3.antt, `edit-moves`, `undo-moves`).
-- Assumes nothing.
use Rattle.std.specs.Prelude.{◌≡◌, false, List, ◌++◌, ℕ, ◌-◌, ◌≤◌, ◌<◌, T, length}
use Rattle.meaning.specs.declared.Fact.{Fact}
use Rattle.meaning.specs.declared.Fact.TheVariants.{Name as name_on}
use Rattle.meaning.specs.Bounds.{withdrawn_name}
use Rattle.meaning.specs.Refusal.{good}
use Rattle.meaning.specs.Tree.{Concept, nodes}
use Rattle.meaning.specs.Register.{Register, is_fact, judged, well_formed, encode}
use Rattle.meaning.specs.Degree.{answered}
use Rattle.meaning.specs.Requirement.{Requirement, member}
use Rattle.meaning.specs.Fraction.{◌÷◌, margin, margin_over}
use Rattle.meaning.specs.Message.{Part, read_requirement, lawful}
use Rattle.meaning.specs.Shown.{degree_map, yes_map}
use Rattle.meaning.specs.Calls.{read_plain, degree_call, margin_call, member_call, decide}
use Rattle.meaning.specs.Session.{Facts, zeros, image_of}

-- a register of n items that has these facts
pub record RegisterOf (n : ℕ) (facts : Facts) (g : Register) : Type 0 where
  pub well : T (well_formed g)
  pub items : length g.names ≡ n
  pub has : (f : Fact) → is_fact g f ≡ facts f

-- a buffer shows these facts of n items
pub record Shows (n : ℕ) (facts : Facts) (buffer : List ℕ) : Type 0 where
  pub register : Register
  pub fits : RegisterOf n facts register
  -- the image is the encoding of the register with these facts, of which there is one
  pub image : image_of buffer ≡ encode register
  pub only : (g : Register) → RegisterOf n facts g → g ≡ register
  -- behind it stand zeros: opening cleared them, an added link takes 5 of them, and one taken away gives them back
  pub behind : buffer ≡ encode register ++ zeros (length buffer - length (encode register))
  -- the degree, the margin, the yes or no, and the map asked of the image are those over these facts, for each item that is not withdrawn (document 02, §5:
  -- "demand 3 keeps all facts as before, and its degrees are taken over that graph")
  pub degree : (message : List ℕ) (t : Concept) (item room : ℕ) → read_plain message ≡ good t → item < n → facts (name_on item withdrawn_name) ≡ false → nodes t ≤ room
      → degree_call (image_of buffer) message item room
      ≡ good (record { degree = answered (judged register) t item; map = degree_map (judged register) t item })
  pub against : (message : List ℕ) (t : Concept) (item p q : ℕ) → read_plain message ≡ good t → item < n → facts (name_on item withdrawn_name) ≡ false → T (lawful p q)
      → margin_call (image_of buffer) message item p q
      ≡ good (record { margin = margin (answered (judged register) t item) (p ÷ q); over = margin_over (answered (judged register) t item) (p ÷ q) })
  pub decision : (message : List ℕ) (q : Requirement) (parts : List Part) (item room : ℕ) → read_requirement message ≡ good (q, parts)
      → item < n → facts (name_on item withdrawn_name) ≡ false → nodes q ≤ room
      → member_call (image_of buffer) message item room ≡ good (decide (member (judged register) q item) (yes_map (judged register) q item))
