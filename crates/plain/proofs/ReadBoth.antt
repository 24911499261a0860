-- A register that was read, and then a plain requirement: what the calls are asked of.
-- Assumes nothing.
use mathlib.Core.Path.{◌≡◌, refl, sym, ap, subst, ◌∙◌}
use mathlib.Core.Bool.{false}
use mathlib.Core.List.{List}
use Prim.Native.Nat.{ℕ}
use lib.ListN.{length}
use Rattle.meaning.specs.declared.Refusal.{Refusal}
use Rattle.meaning.specs.Refusal.{Answer, good, refused, ◌>>=◌}
use Rattle.meaning.specs.Tree.{Concept}
use Rattle.meaning.specs.Register.{Register, read_register}
use Rattle.meaning.specs.Calls.{read_plain}
use Rattle.meaning.proofs.Reading.{took, stopped, not_good}
use Rattle.std.specs.Prelude.{Ok, Err}
use Rattle.register.specs.declared.Size.{Size}
use Rattle.register.specs.Reading.{ReadPromise, counted}
use Rattle.plain.specs.declared.Plain.{Plain}
use Rattle.plain.specs.Reading.{PlainOutcome, PlainDone, read_both, BothOutcome, BothDone}

module _ (image message : List ℕ) where
  pub register-refused : (f : Refusal) → ReadPromise image false (Err f) → BothDone image message (Err f)
  unfolding read_both counted ◌>>=◌
  register-refused f says = subst (λ a. BothOutcome image a (Err f)) (sym (stopped (read_register image) _ f (go (read_register image) says))) refl
    where
      go : (a : Answer Register) → refused f ≡ counted a → a ≡ refused f
      go (good g) d = absurd (not_good d)
      go (refused q) d = let z : ◌≡◌ {A = Answer Size} (refused f) (refused q) = d in cc

  module _ (n : Size) (says : ReadPromise image false (Ok n)) where
    -- the register, and how many items and links it has
    read : (g : Register) × (read_register image ≡ good g) × (n.items ≡ length g.names) × (n.links ≡ length g.links)
    unfolding counted ◌>>=◌
    read = go (read_register image) refl says
      where
        go : (a : Answer Register) → read_register image ≡ a → good n ≡ counted a
            → (g : Register) × (read_register image ≡ good g) × (n.items ≡ length g.names) × (n.links ≡ length g.links)
        go (good g) d h =
            let z : n ≡ record { items = length g.names; links = length g.links } = cc in
            (g, d, ap (λ (c : Size). c.items) z, ap (λ (c : Size). c.links) z)
        go (refused q) d h = absurd (not_good (sym h))

    pub both-refused : (f : Refusal) → PlainDone message (Err f) → BothDone image message (Err f)
    unfolding read_both
    both-refused f done = go (read_plain message) refl done
      where
        go : (a : Answer Concept) → read_plain message ≡ a → PlainOutcome a (Err f) → BothDone image message (Err f)
        go (good t) h o = absurd o
        go (refused q) h o =
            subst (λ a. BothOutcome image a (Err f)) (sym (took (read_register image) _ read.0 read.1 ∙ stopped (read_plain message) _ q h)) o

    pub both-good : (p : Plain) → PlainDone message (Ok p) → BothDone image message (Ok (record { size = n; plain = p }))
    unfolding read_both
    both-good p done = go (read_plain message) refl done
      where
        go : (a : Answer Concept) → read_plain message ≡ a → PlainOutcome a (Ok p) → BothDone image message (Ok (record { size = n; plain = p }))
        go (good t) h o =
            let q = o.held in
            subst (λ a. BothOutcome image a (Ok (record { size = n; plain = p }))) (sym (took (read_register image) _ read.0 read.1 ∙ took (read_plain message) _ t h))
            (record {
              items = read.2;
              links = read.3;
              written = o.written;
              held = record { posed = record { graph = read.1; held = q.posed.held; few = q.posed.few }; marked = q.marked; small = q.small };
            })
        go (refused q) h o = absurd o
