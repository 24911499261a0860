-- The rows of the table and what is taken leave nothing out and say what is answered: of what both calls ask first, whatever they do next.
-- Assumes nothing.
use mathlib.Core.Path.{◌≡◌, refl, sym, ap, ◌∙◌}
use mathlib.Core.Logic.{◌⊎◌, inl, inr}
use mathlib.Core.Bool.{true}
use mathlib.Core.List.{List}
use Prim.Native.Nat.{ℕ, ◌≤◌, ◌<◌}
use lib.ListN.{length}
use Rattle.meaning.specs.declared.Refusal.{Refusal}
use Rattle.meaning.specs.Refusal.{Answer, refused, on_call, ◌>>◌}
use Rattle.meaning.specs.Tree.{Concept}
use Rattle.meaning.specs.Register.{Register, withdrawn}
use Rattle.meaning.specs.ListRows.{Readable, Unreadable}
use Rattle.meaning.specs.Calls.{asked_for}
use Rattle.meaning.proofs.Asked.{Asks, asked-stops, asked-withdrawn, asked-either, asks-goes, asks-halts}
use Rattle.meaning.proofs.ListRows.{read_then, unreadable-stops, readable-goes, unreadable-or-readable}
use Rattle.asking.specs.Refusing.{Askable, Early, unread, no_item, is_withdrawn, concept_of}

-- ---- what is asked first, and then `next`

module _ {C : Type 0} (image message : List ℕ) (item : ℕ) (next : Register → Concept → Answer C) where
  abbrev ranged : Register → Concept → Answer C
  ranged g t = asked_for g item >> next g t

  abbrev pub asked : Answer C
  asked = read_then image message ranged

  pub early-stops : (f : Refusal) → Early image message item f → asked ≡ refused f
  early-stops f (unread u) = unreadable-stops image message ranged f u
  early-stops f (no_item x m is) =
      readable-goes image message ranged x ∙ asks-halts x.register item _ (asked-stops x.register item m) ∙ ap refused (sym is)
  early-stops f (is_withdrawn x l w is) =
      readable-goes image message ranged x ∙ asks-halts x.register item _ (asked-withdrawn x.register item l w) ∙ ap refused (sym is)

  pub askable-goes : (x : Askable image message item) → asked ≡ next x.readable.register (concept_of x)
  askable-goes x =
      readable-goes image message ranged x.readable
      ∙ asks-goes x.readable.register item _ (record { inside = x.inside; serves = x.serves })

-- ---- nothing is left out

module _ (image message : List ℕ) (item : ℕ) where
  abbrev Either : Type 0
  Either = ((f : Refusal) × Early image message item f) ⊎ Askable image message item

  of-item : (x : Readable image message)
      → (length x.register.names ≤ item) ⊎ ((item < length x.register.names) × (withdrawn x.register item ≡ true)) ⊎ Asks x.register item → Either
  of-item x (inl l) = inl (on_call 15, no_item x l refl)
  of-item x (inr (inl w)) = inl (on_call 26, is_withdrawn x w.0 w.1 refl)
  of-item x (inr (inr a)) = inr (record { readable = x; inside = a.inside; serves = a.serves })

  of-both : ((f : Refusal) × Unreadable image message f) ⊎ Readable image message → Either
  of-both (inl u) = inl (u.0, unread u.1)
  of-both (inr x) = of-item x (asked-either x.register item)

  pub early-or-askable : Either
  early-or-askable = of-both (unreadable-or-readable image message)
