-- Document 01, "Refusal numbers", for the calls of a session: the order of the tests, on inputs that break two rules at once, each pair of
-- neighbours in each call's order; and each bound of a count and of a place, from both sides. One table, proved by computation.
-- (Of undo's 17 for the count and 19 no input breaks both: a count of 0 is above nothing.)
-- Assumes nothing.
use mathlib.Core.Bool.{Bool, true, false}
use mathlib.Core.List.{List, [], ◌∷◌, ◌++◌}
use Prim.Native.Nat.{ℕ}
use lib.Dec.{T, eqb}
use Rattle.meaning.specs.declared.Side.TheVariants.{Register as register, Call as call}
use Rattle.meaning.specs.declared.Fact.{Fact}
use Rattle.meaning.specs.declared.Fact.TheVariants.{Name as name_on, Link as link_of}
use Rattle.meaning.specs.declared.Step.{Step}
use Rattle.meaning.specs.Refusal.{Answer, good, refused, refuse_if, ◌>>=◌, ◌>>◌}
use Rattle.meaning.specs.Bytes.{number, bytes, fields, read_head, headed}
use Rattle.meaning.specs.Register.{Register, any_link, is_fact, items_bytes, links_bytes, encode, read_items, read_link, read_links, read_body, read_register_by, read_buffer}
use Rattle.meaning.specs.Session.{Edit, zeros, insert, without, set_fact, rewritten, no_place, Changed, open_call, edit_call, undo_call, keep_call}
use Rattle.meaning.specs.Session.{counted, buffer_after, log_after, edits, undoes, no_step, answer, buffer, log, next, play}
use Rattle.meaning.specs.Sheet.{all_true}
use Rattle.meaning.proofs.Orders.{same_side, is, one_item, link_bytes}

-- one item without names, without a link and with one to itself, and so many bytes behind the image
lone : ℕ → List ℕ
lone left = one_item 0 [] ++ zeros left

looped : ℕ → List ℕ
looped left = one_item 1 (link_bytes 0 0 0) ++ zeros left

adding : Fact → Edit
adding f = record { fact = f; adds = true }

taking : Fact → Edit
taking f = record { fact = f; adds = false }

-- the last step, of a fact that was there
step_for : Fact → Step
step_for f = record { fact = f; was = true }

-- accepted, with this count
counts : ℕ → Answer Changed → Bool
counts n (good c) = eqb c.count n
counts n (refused r) = false

accepted : {A : Type 0} → Answer A → Bool
accepted (good a) = true
accepted (refused r) = false

-- the buffer's register has the fact
stands : Fact → Answer Register → Bool
stands f (good g) = is_fact g f
stands f (refused r) = false

pub sessions : List Bool
unfolding is lone looped adding taking step_for counts accepted stands
sessions =
    -- opening: the register only
    is register 1 0 (open_call [])
    ∷ is register 3 1 (open_call (1 ∷ 0 ∷ 1 ∷ []))
    ∷ accepted (open_call (lone 3))
    -- an edit: the register, 17, 15, 7, 18, 20
    ∷ is register 1 0 (edit_call [] 0 1 (adding (name_on 0 0)))
    ∷ is call 17 0 (edit_call (lone 0) 0 1 (adding (name_on 1 0)))
    ∷ is call 17 0 (edit_call (lone 0) 66 65 (adding (name_on 1 0)))
    ∷ is call 15 0 (edit_call (lone 0) 0 0 (adding (link_of 1 32 0)))
    ∷ is call 15 0 (edit_call (lone 0) 0 0 (adding (link_of 0 32 1)))
    ∷ is call 15 0 (edit_call (lone 0) 0 0 (adding (name_on 1 0)))
    ∷ is call 15 0 (edit_call (lone 0) 0 0 (adding (name_on 0 64)))
    ∷ is call 7 0 (edit_call (lone 0) 0 0 (adding (link_of 0 32 0)))
    ∷ is call 18 0 (edit_call (lone 4) 0 0 (adding (link_of 0 31 0)))
    ∷ is call 18 0 (edit_call (lone 4) 65 64 (adding (link_of 0 31 0)))
    ∷ is call 20 0 (edit_call (lone 4) 1 0 (adding (link_of 0 31 0)))
    ∷ counts 1 (edit_call (lone 5) 1 0 (adding (link_of 0 31 0)))
    ∷ counts 64 (edit_call (lone 5) 65 63 (adding (link_of 0 31 0)))
    ∷ counts 1 (edit_call (lone 0) 1 0 (adding (name_on 0 63)))
    -- a link that stands needs no place, nor does one that is to be taken away
    ∷ counts 1 (edit_call (looped 0) 1 0 (adding (link_of 0 0 0)))
    ∷ counts 1 (edit_call (lone 0) 1 0 (taking (link_of 0 0 0)))
    -- undo: the register, 17 (count); 19, 17 (step), 20
    ∷ is register 1 0 (undo_call [] 0 1 (step_for (name_on 0 0)))
    ∷ is call 17 0 (undo_call (lone 0) 0 1 (step_for (name_on 0 0)))
    ∷ is call 17 0 (undo_call (lone 0) 66 65 (step_for (name_on 0 0)))
    ∷ is call 19 0 (undo_call (lone 0) 1 0 (step_for (name_on 1 0)))
    ∷ is call 17 0 (undo_call (lone 0) 1 1 (step_for (link_of 0 32 0)))
    ∷ is call 17 0 (undo_call (lone 0) 1 1 (step_for (link_of 1 0 0)))
    ∷ is call 17 0 (undo_call (lone 0) 1 1 (step_for (link_of 0 0 1)))
    ∷ is call 17 0 (undo_call (lone 0) 1 1 (step_for (name_on 0 64)))
    ∷ is call 20 0 (undo_call (lone 4) 1 1 (step_for (link_of 0 31 0)))
    ∷ counts 0 (undo_call (lone 5) 1 1 (step_for (link_of 0 31 0)))
    ∷ counts 63 (undo_call (lone 0) 65 64 (step_for (name_on 0 63)))
    -- keep: the register, 17 (count)
    ∷ is register 1 0 (keep_call [] 0 1)
    ∷ is call 17 0 (keep_call (lone 0) 0 1)
    ∷ is call 17 0 (keep_call (lone 0) 66 65)
    ∷ accepted (keep_call (lone 0) 65 64)
    -- "Add a link that stands, undo: the link stands."
    ∷ stands (link_of 0 0 0)
    (read_buffer (play (record { buffer = looped 0; log = no_step ∷ []; count = 0 }) (edits (adding (link_of 0 0 0)) ∷ undoes ∷ [])).buffer)
    ∷ []

pub session-orders : T (all_true sessions)
unfolding
    sessions is same_side lone looped adding taking step_for counts accepted stands one_item link_bytes all_true
    open_call edit_call undo_call keep_call no_place is_fact any_link insert without set_fact rewritten encode items_bytes links_bytes
    read_register_by read_body read_items read_link read_links read_head number bytes fields headed refuse_if ◌>>=◌ ◌>>◌
    play next answer buffer log counted buffer_after log_after
session-orders = tt
