-- Document 01's table for the calls of a session, row by row, in the document's own numbers: what each call takes, and what it refuses with which
-- number. "A number is given exactly when its row holds and nothing earlier in the order below applies."
-- Nothing of Session.antt is used but what is handed in: that its calls give these rows and no others is proofs/Refusing.antt.
-- Assumes nothing.
use Rattle.std.specs.Prelude.{◌≡◌, ◌⊎◌, Bool, true, false, List, ℕ, ◌+◌, ◌≤◌, ◌<◌, length}
use Rattle.meaning.specs.declared.Fact.{Fact}
use Rattle.meaning.specs.declared.Fact.TheVariants.{Name as name_on, Link as link_of}
use Rattle.meaning.specs.declared.Step.{Step}
use Rattle.meaning.specs.declared.Refusal.{Refusal}
use Rattle.meaning.specs.Refusal.{good, refused, on_call}
use Rattle.meaning.specs.Register.{Register, is_fact, encode, read_buffer}
use Rattle.meaning.specs.Session.{Edit, Session, Call, opens, edits, undoes, keeps, last_step}

-- ---- what a row says of a fact, and what it is not to break it

-- 15: "asked item or name not in range"; "A link's ends in an edit count as items under 15."
abbrev pub Outside : ℕ → Fact → Type 0
Outside items (name_on i k) = (items ≤ i) ⊎ (63 < k)
Outside items (link_of a r b) = (items ≤ a) ⊎ (items ≤ b)

abbrev pub Inside : ℕ → Fact → Type 0
Inside items (name_on i k) = (i < items) × (k ≤ 63)
Inside items (link_of a r b) = (a < items) × (b < items)

-- 7: "role above 31"
abbrev pub RoleAbove : Fact → Type 0
RoleAbove (name_on i k) = ⊥
RoleAbove (link_of a r b) = 31 < r

abbrev pub RoleFits : Fact → Type 0
RoleFits (name_on i k) = Unit {0}
RoleFits (link_of a r b) = r ≤ 31

-- 20: "link not there is to be added, and 4,096 stand or the buffer has under 5 bytes left"
abbrev pub NoRoom : List ℕ → Register → Bool → Fact → Type 0
NoRoom s g adds (name_on i k) = ⊥
NoRoom s g adds (link_of a r b) =
    (adds ≡ true) × (is_fact g (link_of a r b) ≡ false) × ((4096 ≤ length g.links) ⊎ (length s < length (encode g) + 5))

abbrev pub HasRoom : List ℕ → Register → Bool → Fact → Type 0
HasRoom s g adds (name_on i k) = Unit {0}
HasRoom s g adds (link_of a r b) =
    (adds ≡ false) ⊎ (is_fact g (link_of a r b) ≡ true) ⊎ ((length g.links < 4096) × (length (encode g) + 5 ≤ length s))

-- ---- opening: "register only"

pub record OpenTakes (s : List ℕ) : Type 0 where
  pub register : Register
  pub read : read_buffer s ≡ good register

pub data OpenRow (s : List ℕ) (f : Refusal) : Type 0 where
  unread : read_buffer s ≡ refused f → OpenRow s f

-- ---- what the others ask first, and all that keep asks: "register, 17 (count)"

-- 17: "step count above the log's length or 64"
pub record Counts (s : List ℕ) (log count : ℕ) : Type 0 where
  pub register : Register
  pub read : read_buffer s ≡ good register
  pub in_log : count ≤ log
  pub in_use : count ≤ 64

pub data CountRow (s : List ℕ) (log count : ℕ) (f : Refusal) : Type 0 where
  bad_register : read_buffer s ≡ refused f → CountRow s log count f
  count_above : (g : Register) → read_buffer s ≡ good g → (log < count) ⊎ (64 < count) → f ≡ on_call 17 → CountRow s log count f

abbrev pub KeepTakes : List ℕ → ℕ → ℕ → Type 0
KeepTakes = Counts

abbrev pub KeepRow : List ℕ → ℕ → ℕ → Refusal → Type 0
KeepRow = CountRow

-- ---- an edit: "register, 17, 15, 7, 18, 20"

pub record EditTakes (s : List ℕ) (log count : ℕ) (e : Edit) : Type 0 where
  pub counts : Counts s log count
  pub inside : Inside (length counts.register.names) e.fact
  pub role : RoleFits e.fact
  pub in_log : count < log
  pub in_use : count < 64
  pub room : HasRoom s counts.register e.adds e.fact

pub data EditRow (s : List ℕ) (log count : ℕ) (e : Edit) (f : Refusal) : Type 0 where
  earlier : CountRow s log count f → EditRow s log count e f
  outside : (x : Counts s log count) → Outside (length x.register.names) e.fact → f ≡ on_call 15 → EditRow s log count e f
  bad_role : (x : Counts s log count) → Inside (length x.register.names) e.fact → RoleAbove e.fact → f ≡ on_call 7 → EditRow s log count e f
  -- 18: "log full: count equals its length or 64"
  log_full : (x : Counts s log count) → Inside (length x.register.names) e.fact → RoleFits e.fact → (count ≡ log) ⊎ (count ≡ 64)
      → f ≡ on_call 18 → EditRow s log count e f
  no_room : (x : Counts s log count) → Inside (length x.register.names) e.fact → RoleFits e.fact → count < log → count < 64
      → NoRoom s x.register e.adds e.fact → f ≡ on_call 20 → EditRow s log count e f

-- ---- undo: "register, 17 (count), 19, 17 (step), 20"

pub record UndoTakes (s : List ℕ) (log count : ℕ) (last : Step) : Type 0 where
  pub counts : Counts s log count
  pub used : 0 < count
  pub inside : Inside (length counts.register.names) last.fact
  pub role : RoleFits last.fact
  pub room : HasRoom s counts.register last.was last.fact

pub data UndoRow (s : List ℕ) (log count : ℕ) (last : Step) (f : Refusal) : Type 0 where
  earlier_one : CountRow s log count f → UndoRow s log count last f
  -- 19: "undo with count 0"
  no_step_left : Counts s log count → count ≡ 0 → f ≡ on_call 19 → UndoRow s log count last f
  -- 17: "on undo, a last step out of range"
  step_outside : (x : Counts s log count) → 0 < count → Outside (length x.register.names) last.fact ⊎ RoleAbove last.fact
      → f ≡ on_call 17 → UndoRow s log count last f
  no_room_back : (x : Counts s log count) → 0 < count → Inside (length x.register.names) last.fact → RoleFits last.fact
      → NoRoom s x.register last.was last.fact → f ≡ on_call 20 → UndoRow s log count last f

-- ---- any call of a session

abbrev pub CallTakes : Session → Call → Type 0
CallTakes s opens = OpenTakes s.buffer
CallTakes s (edits e) = EditTakes s.buffer (length s.log) s.count e
CallTakes s undoes = UndoTakes s.buffer (length s.log) s.count (last_step s)
CallTakes s keeps = KeepTakes s.buffer (length s.log) s.count

abbrev pub CallRow : Session → Call → Refusal → Type 0
CallRow s opens = OpenRow s.buffer
CallRow s (edits e) = EditRow s.buffer (length s.log) s.count e
CallRow s undoes = UndoRow s.buffer (length s.log) s.count (last_step s)
CallRow s keeps = KeepRow s.buffer (length s.log) s.count
