-- The rows of a table and what is taken leave nothing out and say what is answered: of what is read first, whatever follows, and of the list call.
-- Assumes nothing.
use mathlib.Core.Path.{◌≡◌, refl, sym, ap, ◌∙◌}
use mathlib.Core.Logic.{◌⊎◌, inl, inr}
use mathlib.Core.Bool.{Bool, true, false}
use mathlib.Core.List.{List, [], ◌∷◌}
use Prim.Native.Nat.{ℕ, ◌*◌}
use lib.Dec.{ltb, ltb→lt}
use lib.ListN.{length}
use Rattle.meaning.specs.declared.Side.TheVariants.{Requirement as requirement}
use Rattle.meaning.specs.declared.Refusal.{Refusal}
use Rattle.meaning.specs.Refusal.{Answer, good, refused, at, on_call, refuse_if, Exactly, ◌>>=◌, ◌>>◌}
use Rattle.meaning.specs.Tree.{Concept, nodes}
use Rattle.meaning.specs.Register.{Register, withdrawn, judged, read_register}
use Rattle.meaning.specs.Reduce.{reduce, size, scale}
use Rattle.meaning.specs.Bounds.{most_size}
use Rattle.meaning.specs.Requirement.{Requirement, bare}
use Rattle.meaning.specs.Message.{Part, read_requirement}
use Rattle.meaning.specs.Calls.{first_part, read_plain}
use Rattle.meaning.specs.Table.{table, Tabled, list_call}
use Rattle.meaning.specs.ListRows.{Readable, Unreadable, bad_register, bad_requirement, has_threshold, too_large, places_of, ListTakes, ListRow, unreadable, short_table}
use Rattle.meaning.proofs.Tests.{holds}
use Rattle.meaning.proofs.Reading.{took, stopped, halted, pass, stop, below, not-below, le-of-not-below}
use Rattle.meaning.proofs.Decided.{Decided, exactly}

-- ---- the plain requirement

module _ (message : List ℕ) where
  plain-refused : (f : Refusal) → read_requirement message ≡ refused f → read_plain message ≡ refused f
  unfolding read_plain
  plain-refused f e = stopped (read_requirement message) _ f e

  plain-first : (q : Requirement) (p : Part) (ps : List Part) → read_requirement message ≡ good (q, p ∷ ps)
      → read_plain message ≡ refused (at requirement 11 p.first)
  unfolding read_plain
  plain-first q p ps e = took (read_requirement message) _ (q, p ∷ ps) e ∙ halted (first_part (p ∷ ps)) _ _ refl

  -- without a threshold the size is tested
  plain-tested : (q : Requirement) → read_requirement message ≡ good (q, [])
      → read_plain message ≡ (refuse_if (ltb most_size (size (reduce (bare q)))) (at requirement 14 3) >> good (bare q))
  unfolding read_plain ◌>>◌
  plain-tested q e = took (read_requirement message) _ (q, []) e

-- ---- what is read first, and then `next`

module _ {C : Type 0} (image message : List ℕ) (next : Register → Concept → Answer C) where
  abbrev pub read_then : Answer C
  read_then = read_register image >>= λ g. (read_plain message >>= λ t. next g t)

  pub unreadable-stops : (f : Refusal) → Unreadable image message f → read_then ≡ refused f
  unreadable-stops f (bad_register e) = stopped (read_register image) _ f e
  unreadable-stops f (bad_requirement g eg e) = took (read_register image) _ g eg ∙ stopped (read_plain message) _ f (plain-refused message f e)
  unreadable-stops f (has_threshold g q p ps eg e is) =
      took (read_register image) _ g eg ∙ stopped (read_plain message) _ f (plain-first message q p ps e ∙ ap refused (sym is))
  unreadable-stops f (too_large g q eg e l is) =
      took (read_register image) _ g eg
      ∙ stopped (read_plain message) _ f (plain-tested message q e ∙ stop _ _ _ (below most_size (size (reduce (bare q))) l) ∙ ap refused (sym is))

  pub readable-goes : (x : Readable image message) → read_then ≡ next x.register (bare x.tree)
  readable-goes x =
      let t = bare x.tree in
      took (read_register image) _ x.register x.read
      ∙ took (read_plain message) _ t (plain-tested message x.tree x.written ∙ pass _ _ _ (not-below most_size (size (reduce t)) x.small))

-- ---- nothing is left out

module _ (image message : List ℕ) where
  abbrev Either : Type 0
  Either = ((f : Refusal) × Unreadable image message f) ⊎ Readable image message

  of_size : (g : Register) (q : Requirement) → read_register image ≡ good g → read_requirement message ≡ good (q, [])
      → (b : Bool) → ltb most_size (size (reduce (bare q))) ≡ b → Either
  of_size g q eg e true d = inl (at requirement 14 3, too_large g q eg e (ltb→lt most_size (size (reduce (bare q))) (holds d)) refl)
  of_size g q eg e false d = inr (record { register = g; tree = q; read = eg; written = e; small = le-of-not-below most_size (size (reduce (bare q))) d })

  of-message : (g : Register) → read_register image ≡ good g → (a : Answer (Requirement × List Part)) → read_requirement message ≡ a → Either
  of-message g eg (refused f) e = inl (f, bad_requirement g eg e)
  of-message g eg (good (q, [])) e = of_size g q eg e (ltb most_size (size (reduce (bare q)))) refl
  of-message g eg (good (q, p ∷ ps)) e = inl (at requirement 11 p.first, has_threshold g q p ps eg e refl)

  of-register : (a : Answer Register) → read_register image ≡ a → Either
  of-register (refused f) e = inl (f, bad_register e)
  of-register (good g) e = of-message g e (read_requirement message) refl

  pub unreadable-or-readable : Either
  unreadable-or-readable = of-register (read_register image) refl

-- ---- the list

abbrev tabled : Register → Concept → Tabled
tabled g t = record { items = length g.names; nodes = nodes t; scale = scale (reduce t); table = table (judged g) (withdrawn g) (length g.names) t }

abbrev pub list_then : ℕ → Register → Concept → Answer Tabled
list_then room g t = refuse_if (ltb room (nodes t * length g.names)) (on_call 16) >> good (tabled g t)

module _ (image message : List ℕ) (room : ℕ) where
  pub list-reads : list_call image message room ≡ read_then image message (list_then room)
  unfolding list_call
  list-reads = refl

  pub list-taken : (x : ListTakes image message room) → list_call image message room ≡ good (tabled x.readable.register (bare x.readable.tree))
  list-taken x =
      list-reads ∙ readable-goes image message (list_then room) x.readable ∙ pass (ltb room (places_of x.readable)) _ _ (not-below room (places_of x.readable) x.fits)

  pub list-row : (f : Refusal) → ListRow image message room f → list_call image message room ≡ refused f
  list-row f (unreadable u) = list-reads ∙ unreadable-stops image message (list_then room) f u
  list-row f (short_table x l is) =
      list-reads ∙ readable-goes image message (list_then room) x ∙ stop (ltb room (places_of x)) _ _ (below room (places_of x) l) ∙ ap refused (sym is)

  -- "refused exactly when a row of the table holds"
  pub list-decided : Decided (list_call image message room) (ListRow image message room) (ListTakes image message room)
  list-decided = record { good-where = λ x. (_, list-taken x); refused-where = list-row; either = go (unreadable-or-readable image message) }
    where
      fit : (x : Readable image message) (b : Bool) → ltb room (places_of x) ≡ b
          → ListTakes image message room ⊎ ((f : Refusal) × ListRow image message room f)
      fit x true d = inr (on_call 16, short_table x (ltb→lt room (places_of x) (holds d)) refl)
      fit x false d = inl (record { readable = x; fits = le-of-not-below room (places_of x) d })

      go : ((f : Refusal) × Unreadable image message f) ⊎ Readable image message → ListTakes image message room ⊎ ((f : Refusal) × ListRow image message room f)
      go (inl x) = inr (x.0, unreadable x.1)
      go (inr x) = fit x (ltb room (places_of x)) refl

  pub list-exactly : Exactly (list_call image message room) (ListRow image message room) (ListTakes image message room)
  list-exactly = exactly list-decided
