-- The register that bytes begin with, named by the bytes alone, and what is known of one that was read.
-- Assumes nothing.
use mathlib.Core.Path.{◌≡◌, refl, sym, ap, ◌∙◌, subst}
use mathlib.Core.Bool.{Bool, true, false}
use mathlib.Core.List.{List}
use Prim.Native.Nat.{ℕ, ◌<◌}
use lib.ListN.{length}
use Rattle.std.specs.Prelude.{Ok}
use Rattle.meaning.specs.Refusal.{Answer, good, refused}
use Rattle.meaning.specs.Bytes.{Bytes}
use Rattle.meaning.specs.Register.{Register, read_register_by, read_buffer}
use Rattle.fields.specs.Head.{wrong_in}
use Rattle.meaning.proofs.Tests.{true-false}
use Rattle.meaning.proofs.Reading.{taken, good-inj}
use Rattle.meaning.proofs.Image.{whole-buffer}
use Rattle.register.specs.declared.Size.{Size}
use Rattle.register.specs.Held.{is_good, read_of, held, IsRead}
use Rattle.register.specs.Image.{Asked, Image, OfSize}
use Rattle.register.specs.Reading.{counted, sizes, ReadPromise}

module _ (s : List ℕ) where
  pub held-is : (g : Register) → read_buffer s ≡ good g → held s ≡ g
  unfolding held
  held-is g e = ap read_of e

  pub good-is : is_good (read_buffer s) ≡ true → read_buffer s ≡ good (held s)
  unfolding held
  good-is e = go (read_buffer s) e
    where
      go : (a : Answer Register) → is_good a ≡ true → a ≡ good (read_of a)
      go (good g) h = refl
      go (refused r) h = absurd (true-false h refl)

  pub is-good : (g : Register) → read_buffer s ≡ good g → is_good (read_buffer s) ≡ true
  is-good g e = ap is_good e

  -- what is said of each register that was read, and of the one that is held
  pub said-held : {P : Register → Type 0} → is_good (read_buffer s) ≡ true → Image s P → P (held s)
  said-held e h = h (held s) (good-is e)

  pub held-said : (P : Register → Type 0) → P (held s) → Image s P
  held-said P h g e = subst P (held-is g e) h

  module _ (items links : ℕ) where
    pub of_size : IsRead s items links → OfSize s items links
    of_size w = record { register = held s; read = good-is w.0; holds = (w.1, w.2) }

    pub is_read : Bytes s → OfSize s items links → IsRead s items links
    is_read b w =
        let h : w.register ≡ held s = sym (held-is w.register w.read) in
        (is-good w.register w.read, w.holds.0 ∙ ap (λ (g : Register). length g.names) h, w.holds.1 ∙ ap (λ (g : Register). length g.links) h, b)

    -- an item that it has, and a link
    pub asked-item : (item : ℕ) → IsRead s items links → item < items → Asked s (λ g. item < length g.names)
    asked-item item w l = record { register = held s; read = good-is w.0; holds = subst (λ (z : ℕ). item < z) w.1 l }

    pub asked-link : (k : ℕ) → IsRead s items links → k < links → Asked s (λ g. (items ≡ length g.names) × (k < length g.links))
    asked-link k w l = record { register = held s; read = good-is w.0; holds = (w.1, subst (λ (z : ℕ). k < z) w.2 l) }

  -- what `read` promises of a size: in a session, and of a whole input, which a buffer that holds it begins with
  pub size-read : (session : Bool) (size : Size) → Bytes s → ReadPromise s session (Ok size) → IsRead s size.items size.links
  unfolding counted
  size-read session size b h =
      let q = taken (read_register_by (wrong_in session) s) sizes (sym h) in
      let e = good-inj q.2 in
      is_read size.items size.links b (record {
        register = q.0;
        read = begins session q.0 q.1;
        holds = (ap (λ (z : Size). z.items) (sym e), ap (λ (z : Size). z.links) (sym e));
      })
    where
      begins : (session : Bool) (g : Register) → read_register_by (wrong_in session) s ≡ good g → read_buffer s ≡ good g
      begins true g e = e
      begins false g e = whole-buffer s g b e
