-- The call, of a register and a plain requirement that were read or refused: each refusal in the document's order, and the answer.
-- Assumes nothing.
use mathlib.Core.Path.{◌≡◌, refl, sym, ap, ap₂, ◌∙◌}
use mathlib.Core.List.{List}
use Prim.Native.Nat.{ℕ, ◌*◌, ◌≤◌, ◌<◌}
use native.Mathlib.Nat.{mul-le-mul}
use native.Mathlib.Omega.{arith}
use lib.Dec.{ltb}
use lib.ListN.{length, get_or}
use lib.Seq.{sets}
use Rattle.std.specs.Prelude.{Result, Ok, Err}
use Rattle.meaning.specs.declared.Refusal.{Refusal}
use Rattle.meaning.specs.Refusal.{good, refused, on_call, ◌>>=◌}
use Rattle.meaning.specs.Tree.{nodes}
use Rattle.meaning.specs.Register.{withdrawn, judged}
use Rattle.meaning.specs.Reduce.{reduce, scale}
use Rattle.meaning.specs.Table.{table, Tabled, list_call, after_list}
use Rattle.meaning.proofs.Reading.{took, stopped, pass, stop, below, not-below}
use Rattle.meaning.proofs.Image.{whole-buffer}
use Rattle.meaning.proofs.InPlace.{scale_in_lem}
use Rattle.meaning.proofs.ListRows.{list_then}
use Rattle.register.specs.Image.{OfSize}
use Rattle.register.specs.Held.{IsRead}
use Rattle.register.proofs.Holding.{is_read}
use Rattle.degrees.specs.Gradable.{Gradable}
use Rattle.shown.proofs.Entry.{gradable-of}
use Rattle.shown.proofs.Alone.{sizes-fit}
use Rattle.plain.specs.declared.Both.{Both}
use Rattle.plain.specs.Reading.{read_both, BothDone}
use Rattle.plain.proofs.Known.{both_first, both-no, Known, ended}
use Rattle.tables.specs.Rows.{Whole}
use Rattle.tabling.specs.declared.Listed.{Listed}
use Rattle.tabling.specs.Answers.{Told, paper_list, told, ListPromise}

module _ (image message : List ℕ) where
  list-both : (room : ℕ) → list_call image message room ≡ (read_both image message >>= λ x. list_then room x.0 x.1)
  unfolding list_call
  list-both room = both_first (list_then room) image message

  list-no : (old : List ℕ) (f : Refusal) (r : Result Listed Refusal) → list_call image message (length old) ≡ refused f → r ≡ Err f → ListPromise image message old old r
  unfolding told ◌>>=◌
  list-no old f r e is = (ap paper_list is ∙ sym (ap told e), sym (ap (after_list old) e))

  -- refused by a reader
  pub list-stopped : (old : List ℕ) (f : Refusal) → BothDone image message (Err f) → ListPromise image message old old (Err f)
  list-stopped old f done = list-no old f _ (list-both (length old) ∙ stopped (read_both image message) _ f (both-no image message f done)) refl

module _ {image message : List ℕ} {b : Both} (w : Known image message b) where
  -- the tree is gradable over the register, and the image was read
  abbrev pub gradable : Gradable (OfSize image b.size.items b.size.links) b.plain.reduced.tree.names b.plain.reduced.tree.roles b.plain.reduced.tree.ends
      b.plain.reduced.marks 0 17
  gradable =
      let h = w.held.held in
      gradable-of w.register w.tree (whole-buffer image w.register w.bytes h.posed.graph) w.held.items w.held.links
      h.posed.held h.marked h.posed.few h.small

  pub was_read : IsRead image b.size.items b.size.links
  was_read = is_read image b.size.items b.size.links w.bytes gradable.posed.graph

  -- at most 64 nodes at 512 items
  pub few : b.plain.nodes * b.size.items ≤ 32768
  few =
      let a : b.plain.nodes ≤ 64 = omega (arith, w.held.written, ended w, w.held.held.posed.few) in
      let c : b.size.items ≤ 512 = (sizes-fit gradable.posed.graph w.bytes).0 in
      omega (arith, mul-le-mul a c)

  places : b.plain.nodes * b.size.items ≡ nodes w.tree * length w.register.names
  places = ap₂ ◌*◌ w.held.written w.held.items

  pub room : {long : ℕ} → b.plain.nodes * b.size.items ≤ long → get_or b.plain.reduced.tree.ends 0 0 * b.size.items ≤ long
  room {long} l = rw (ended w ∙ sym w.held.written) l

  list-then : (room : ℕ) → list_call image message room ≡ list_then room w.register w.tree
  list-then room = list-both image message room ∙ took (read_both image message) _ _ w.both

  -- 16
  pub list-no-room : (old : List ℕ) → length old < b.plain.nodes * b.size.items → (r : Result Listed Refusal) → r ≡ Err (on_call 16) → ListPromise image message old old r
  list-no-room old l r is =
      list-no image message old _ r
      (list-then (length old) ∙ stop (ltb (length old) (nodes w.tree * length w.register.names)) _ _ (below (length old) _ (omega (arith, places)))) is

  pub list-answer : (old new : List ℕ) → b.plain.nodes * b.size.items ≤ length old → (d : ℕ) → Whole b.size.items w.register w.tree d old new → ListPromise image message old new (Ok (record { items = b.size.items; nodes = b.plain.nodes; scale = d }))
  unfolding told ◌>>=◌
  list-answer old new l d h =
      let g = w.register in
      let t = w.tree in
      let rows = table (judged g) (withdrawn g) (length g.names) t in
      let answer : Tabled = record { items = length g.names; nodes = nodes t; scale = scale (reduce t); table = rows } in
      let call : list_call image message (length old) ≡ good answer =
      list-then (length old) ∙ pass (ltb (length old) (nodes t * length g.names)) _ _ (not-below (length old) _ (omega (arith, places))) in
      let said : ◌≡◌ {A = Told} (record { items = b.size.items; nodes = b.plain.nodes; scale = d }) (record { items = length g.names; nodes = nodes t; scale = scale (reduce t) }) =
      ap (λ (z : ℕ). record { items = z; nodes = b.plain.nodes; scale = d }) w.held.items
      ∙ ap₂ (λ (y z : ℕ). record { items = length g.names; nodes = y; scale = z }) w.held.written (h.scaled ∙ sym (scale_in_lem t)) in
      let filled : new ≡ sets old 0 rows =
      h.filled ∙ ap (λ (z : ℕ). sets old 0 (table (judged g) (withdrawn g) z t)) w.held.items in
      (ap good said ∙ sym (ap told call), filled ∙ sym (ap (after_list old) call))
