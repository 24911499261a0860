-- Document 01, "Session": edits and their effect on the facts, the four calls as functions of what is handed in, histories of calls,
-- and the facts that a history gives.
-- Assumes nothing.
use Rattle.std.specs.Prelude.{Bool, true, false, ◌&&◌, ◌||◌, not, cond, List, [], ◌∷◌, ◌++◌, ℕ, ◌+◌, ◌-◌, ◌^◌, min, max, ltb, leb, eqb, length, get_or, set, take, drop, replicate}
use Rattle.meaning.specs.declared.Fact.{Fact}
use Rattle.meaning.specs.declared.Fact.TheVariants.{Name as name_on, Link as link_of}
use Rattle.meaning.specs.declared.Step.{Step}
use Rattle.meaning.specs.Refusal.{Answer, good, refused, on_call, refuse_if, ◌>>=◌, ◌>>◌}
use Rattle.meaning.specs.Bytes.{number}
use Rattle.meaning.specs.Names.{has}
use Rattle.meaning.specs.Register.{Link, Register, same_link, is_fact, rises, encode, read_buffer}
use Rattle.meaning.specs.Bounds.{most_links, most_name, most_role, most_steps}

-- ---- facts and edits

-- which facts there are
abbrev pub Facts : Type 0
Facts = Fact → Bool

abbrev pub link : ℕ → ℕ → ℕ → Link
link a r b = record { from = a; role = r; to = b }

abbrev pub same_fact : Fact → Fact → Bool
same_fact (name_on i k) (name_on j m) = eqb i j && eqb k m
same_fact (name_on i k) (link_of a r b) = false
same_fact (link_of a r b) (name_on i k) = false
same_fact (link_of a r b) (link_of c s d) = same_link (link a r b) (link c s d)

-- "An edit adds or takes away one fact."
pub record Edit : Type 0 where
  pub fact : Fact
  pub adds : Bool

-- its effect on the facts: that fact is there or not, and every other is as it was
abbrev pub edited : Edit → Facts → Facts
edited e there f = cond (same_fact e.fact f) e.adds (there f)

-- ---- its effect on a register

-- a set of names with the name k, and without it
abbrev pub with_name : Bool → ℕ → ℕ → ℕ
with_name true k a = cond (has a k) a (a + 2 ^ k)
with_name false k a = cond (has a k) (a - 2 ^ k) a

-- rising links with the link l, which takes its place in the order, and without it
unfoldable pub insert : Link → List Link → List Link
insert l [] = l ∷ []
insert l (m ∷ ms) = cond (rises l m) (l ∷ m ∷ ms) (cond (same_link l m) (m ∷ ms) (m ∷ insert l ms))

unfoldable pub without : Link → List Link → List Link
without l [] = []
without l (m ∷ ms) = cond (same_link l m) ms (m ∷ without l ms)

abbrev pub with_link : Bool → Link → List Link → List Link
with_link true = insert
with_link false = without

-- the register in which the fact is there, or not
unfoldable pub set_fact : Bool → Fact → Register → Register
set_fact v (name_on i k) g = record { names = set g.names i (with_name v k (get_or g.names i 0)); links = g.links }
set_fact v (link_of a r b) g = record { names = g.names; links = with_link v (link a r b) g.links }

-- ---- the buffer

abbrev pub zeros : ℕ → List ℕ
zeros n = replicate n 0

-- "Opening .. fills all behind them with zeros"
unfoldable pub cleared : List ℕ → Register → List ℕ
cleared s g = encode g ++ zeros (length s - length (encode g))

-- The image of `after` stands where that of `before` stood. "Taking a link away .. zeros the 5 bytes freed; other bytes behind the image stay."
unfoldable pub rewritten : List ℕ → Register → Register → List ℕ
rewritten s before after =
    encode after ++ zeros (length (encode before) - length (encode after)) ++ drop (max (length (encode before)) (length (encode after))) s

-- "A degree or yes/no in a session is asked of the image alone": the first 3 + length bytes
abbrev pub image_of : List ℕ → List ℕ
image_of s = take (3 + number s 1 2) s

-- ---- tests of a call

-- "at most 64 in use": of a log of so many records
abbrev pub room : ℕ → ℕ
room log = min log most_steps

-- 15: "asked item or name not in range"; "A link's ends in an edit count as items under 15."
abbrev pub out_of_range : ℕ → Fact → Bool
out_of_range items (name_on i k) = leb items i || ltb most_name k
out_of_range items (link_of a r b) = leb items a || leb items b

-- 7: "role above 31"
abbrev pub role_above : Fact → Bool
role_above (name_on i k) = false
role_above (link_of a r b) = ltb most_role r

-- 20: "link not there is to be added, and 4,096 stand or the buffer has under 5 bytes left"
unfoldable pub no_place : List ℕ → Register → Bool → Fact → Bool
no_place s g v (name_on i k) = false
no_place s g v (link_of a r b) =
    v && not (is_fact g (link_of a r b)) && (leb most_links (length g.links) || ltb (length s) (length (encode g) + 5))

-- ---- the calls

-- an accepted call: the register before and after it, and the count that is handed back
pub record Changed : Type 0 where
  pub before : Register
  pub after : Register
  pub count : ℕ

-- "Opening: register only."
unfoldable pub open_call : List ℕ → Answer Register
open_call s = do
  g ← read_buffer s
  good g

-- "An edit: register, 17, 15, 7, 18, 20." An accepted one adds 1 to the count. The log has so many records.
unfoldable pub edit_call : List ℕ → ℕ → ℕ → Edit → Answer Changed
edit_call s log count e = do
  g ← read_buffer s
  refuse_if (ltb (room log) count) (on_call 17)
  refuse_if (out_of_range (length g.names) e.fact) (on_call 15)
  refuse_if (role_above e.fact) (on_call 7)
  refuse_if (eqb count (room log)) (on_call 18)
  refuse_if (no_place s g e.adds e.fact) (on_call 20)
  good (record { before = g; after = set_fact e.adds e.fact g; count = count + 1 })

-- "Undo: register, 17 (count), 19, 17 (step), 20." It "sets the last step's fact to what it was, and lowers the count".
unfoldable pub undo_call : List ℕ → ℕ → ℕ → Step → Answer Changed
undo_call s log count last = do
  g ← read_buffer s
  refuse_if (ltb (room log) count) (on_call 17)
  refuse_if (eqb count 0) (on_call 19)
  refuse_if (out_of_range (length g.names) last.fact || role_above last.fact) (on_call 17)
  refuse_if (no_place s g last.was last.fact) (on_call 20)
  good (record { before = g; after = set_fact last.was last.fact g; count = count - 1 })

-- "Keep: register, 17 (count)."
unfoldable pub keep_call : List ℕ → ℕ → ℕ → Answer (Unit {0})
keep_call s log count = do
  g ← read_buffer s
  refuse_if (ltb (room log) count) (on_call 17)
  good tt

-- ---- what is handed back, the buffer and the log afterwards; a refusal changes nothing

-- opening and keep answer count 0
unfoldable pub no_steps : {A : Type 0} → Answer A → Answer ℕ
no_steps (good a) = good 0
no_steps (refused r) = refused r

unfoldable pub counted : Answer Changed → Answer ℕ
counted (good c) = good c.count
counted (refused r) = refused r

unfoldable pub buffer_opened : List ℕ → Answer Register → List ℕ
buffer_opened s (good g) = cleared s g
buffer_opened s (refused r) = s

unfoldable pub buffer_after : List ℕ → Answer Changed → List ℕ
buffer_after s (good c) = rewritten s c.before c.after
buffer_after s (refused r) = s

-- "A step holds its fact .. and whether that fact was there before."
abbrev pub step_of : Register → Fact → Step
step_of g f = record { fact = f; was = is_fact g f }

-- "An accepted edit, also one that changes nothing, writes the record at the count"
unfoldable pub log_after : List Step → ℕ → Fact → Answer Changed → List Step
log_after log count f (good c) = set log count (step_of c.before f)
log_after log count f (refused r) = log

-- ---- histories

-- what a session's calls are handed
pub record Session : Type 0 where
  pub buffer : List ℕ
  pub log : List Step
  pub count : ℕ

pub data Call : Type 0 where
  opens : Call
  edits : Edit → Call
  undoes : Call
  keeps : Call

abbrev pub no_step : Step
no_step = record { fact = name_on 0 0; was = false }

-- the step that an undo is handed: the last in use
abbrev pub last_step : Session → Step
last_step s = get_or s.log (s.count - 1) no_step

-- each call's answer: the count that is handed back, or its refusal
unfoldable pub answer : Session → Call → Answer ℕ
answer s opens = no_steps (open_call s.buffer)
answer s (edits e) = counted (edit_call s.buffer (length s.log) s.count e)
answer s undoes = counted (undo_call s.buffer (length s.log) s.count (last_step s))
answer s keeps = no_steps (keep_call s.buffer (length s.log) s.count)

-- the buffer, the log and the count afterwards
unfoldable pub buffer : Session → Call → List ℕ
buffer s opens = buffer_opened s.buffer (open_call s.buffer)
buffer s (edits e) = buffer_after s.buffer (edit_call s.buffer (length s.log) s.count e)
buffer s undoes = buffer_after s.buffer (undo_call s.buffer (length s.log) s.count (last_step s))
buffer s keeps = s.buffer

unfoldable pub log : Session → Call → List Step
log s opens = s.log
log s (edits e) = log_after s.log s.count e.fact (edit_call s.buffer (length s.log) s.count e)
log s undoes = s.log
log s keeps = s.log

-- "the step count stays" where a call is refused
abbrev pub count_after : ℕ → Answer ℕ → ℕ
count_after old (good n) = n
count_after old (refused r) = old

unfoldable pub next : Session → Call → Session
next s c = record { buffer = buffer s c; log = log s c; count = count_after s.count (answer s c) }

-- the session after a history of calls, refused ones among them
unfoldable pub play : Session → List Call → Session
play s [] = s
play s (c ∷ cs) = play (next s c) cs

-- ---- the facts that a history gives

abbrev pub kept_if : Answer ℕ → Call → List Call → List Call
kept_if (good n) c cs = c ∷ cs
kept_if (refused r) c cs = cs

-- its accepted calls
unfoldable pub accepted : Session → List Call → List Call
accepted s [] = []
accepted s (c ∷ cs) = kept_if (answer s c) c (accepted (next s c) cs)

-- the edits that were not taken back, the latest first: those that an undo can still take back, and those that it cannot, since they were kept
pub record Standing : Type 0 where
  pub trial : List Edit
  pub kept : List Edit

abbrev pub nothing : Standing
nothing = record { trial = []; kept = [] }

abbrev pub but_latest : List Edit → List Edit
but_latest [] = []
but_latest (e ∷ es) = es

-- "an undo takes back the latest accepted edit not yet taken back or kept"; an opening keeps too, since its count is 0
abbrev pub told : Standing → Call → Standing
told w opens = record { trial = []; kept = w.trial ++ w.kept }
told w (edits e) = record { trial = e ∷ w.trial; kept = w.kept }
told w undoes = record { trial = but_latest w.trial; kept = w.kept }
told w keeps = record { trial = []; kept = w.trial ++ w.kept }

-- what stands after these accepted calls
unfoldable pub standing : Standing → List Call → Standing
standing w [] = w
standing w (c ∷ cs) = standing (told w c) cs

-- edits, the latest first, applied in order
unfoldable pub applied : List Edit → Facts → Facts
applied [] there = there
applied (e ∷ es) there = edited e (applied es there)

abbrev pub standing_facts : Standing → Facts → Facts
standing_facts w there = applied (w.trial ++ w.kept) there

-- The facts of a history over those of the register that was opened. No log is looked at.
abbrev pub history_facts : Session → List Call → Facts → Facts
history_facts s cs there = standing_facts (standing nothing (accepted s cs)) there
