-- The four ends of the writing call: no lists, what reading would refuse, an output that is too short, and a message.
-- Assumes nothing.
use mathlib.Core.Path.{◌≡◌, refl, sym, ap, ◌∙◌, subst}
use mathlib.Core.Bool.{Bool, true, false, not, ◌&&◌}
use mathlib.Core.List.{List}
use Prim.Native.Nat.{ℕ, ◌≤◌, ◌<◌}
use lib.Dec.{ltb}
use lib.ListN.{length}
use lib.Seq.{sets}
use Rattle.meaning.specs.Refusal.{Answer, good, refused, on_call, ◌>>=◌}
use Rattle.meaning.specs.Message.{encode}
use Rattle.meaning.specs.Lists.{form, said}
use Rattle.meaning.specs.Writing.{lists_in, whole, lists_fit, write_call, after_write}
use Rattle.meaning.proofs.Reading.{pass, stop, halted, went, below, not-below}
use Rattle.std.specs.Prelude.{Ok, Err}
use Rattle.meaning.specs.declared.Refusal.{Refusal}
use Rattle.writer.specs.Promise.{long, WritePromise}

module _ (nodes hs inner old : List ℕ) where
  abbrev pub lists : Bool
  lists = whole nodes hs inner && form (lists_in nodes hs inner)

  abbrev message : List ℕ
  message = encode (said (lists_in nodes hs inner))

  abbrev fits : Answer (Unit {0})
  fits = lists_fit 0 (lists_in nodes hs inner).outer (lists_in nodes hs inner).limits

  refuses : (f : Refusal) → write_call nodes hs inner (length old) ≡ refused f → WritePromise nodes hs inner old old (Err f)
  unfolding long ◌>>=◌
  refuses f e = (rw e refl, rw e refl)

  pub no-lists : lists ≡ false → WritePromise nodes hs inner old old (Err (on_call 22))
  unfolding write_call
  no-lists e = refuses (on_call 22) (stop (not lists) _ _ (rw e refl))

  module _ (e : lists ≡ true) where
    pub unfit : (f : Refusal) → refused f ≡ fits → WritePromise nodes hs inner old old (Err f)
    unfolding write_call
    unfit f h = refuses f (pass (not lists) _ _ (rw e refl) ∙ halted fits _ _ (sym h))

    module _ (h : good tt ≡ fits) where
      pub too_short : length old < length message → WritePromise nodes hs inner old old (Err (on_call 21))
      unfolding write_call
      too_short l = refuses (on_call 21) (pass (not lists) _ _ (rw e refl) ∙ went fits _ (sym h) ∙ stop (ltb (length old) (length message)) _ _ (below _ _ l))

      pub writes : (n : ℕ) → n ≡ length message → n ≤ length old → (new : List ℕ) → new ≡ sets old 0 message → WritePromise nodes hs inner old new (Ok n)
      unfolding write_call long ◌>>=◌
      writes n d l new g =
          let a = pass (not lists) _ _ (rw e refl) ∙ went fits _ (sym h) ∙ pass (ltb (length old) (length message)) _ (good message)
          (not-below _ _ (subst (λ (z : ℕ). z ≤ length old) d l)) in
          (ap good d ∙ ap long (sym a), g ∙ ap (after_write old) (sym a))
