-- The children under a role, and that children are met one by one: each has a successor under its role that meets it.
-- Assumes nothing.
use mathlib.Core.Path.{◌≡◌, refl}
use mathlib.Core.Logic.{◌⊎◌, inl, inr}
use mathlib.Core.Bool.{Bool, true, false, cond}
use mathlib.Core.List.{◌∷◌, Memᴰ}
use Prim.Native.Nat.{ℕ}
use lib.Dec.{T, eqb, eqb→eq, eqb_refl}
use Rattle.meaning.specs.Tree.{Tree, Forest, none, more, under}
use Rattle.meaning.specs.Graph.{Graph}
use Rattle.meaning.specs.Whole.{meets_by, meets_by_f}
use Rattle.meaning.proofs.Tests.{holds}
use Rattle.meaning.proofs.Whole.{served, at_more}

module _ {L : Type 0} where
  under_first : (s : ℕ) (t : Tree L) (f : Forest L) → Memᴰ t (under s (more s t f))
  unfolding under
  under_first s t f = go (eqb s s) (eqb_refl s)
    where
      go : (b : Bool) → T b → Memᴰ t (cond b (t ∷ under s f) (under s f))
      go true u = Memᴰ.head refl
      go false u = absurd u

  under-later : {e : Tree L} (r s : ℕ) (t : Tree L) (f : Forest L) → Memᴰ e (under r f) → Memᴰ e (under r (more s t f))
  unfolding under
  under-later {e} r s t f m = go (eqb r s)
    where
      go : (b : Bool) → Memᴰ e (cond b (t ∷ under r f) (under r f))
      go true = Memᴰ.tail m
      go false = m

  pub under-cases : {e : Tree L} (r s : ℕ) (t : Tree L) (f : Forest L) → Memᴰ e (under r (more s t f)) → ((r ≡ s) × (e ≡ t)) ⊎ Memᴰ e (under r f)
  unfolding under
  under-cases {e} r s t f m = go (eqb r s) refl m
    where
      split : r ≡ s → Memᴰ e (t ∷ under r f) → ((r ≡ s) × (e ≡ t)) ⊎ Memᴰ e (under r f)
      split p (Memᴰ.head q) = inl (p, q)
      split p (Memᴰ.tail n) = inr n

      go : (b : Bool) → eqb r s ≡ b → Memᴰ e (cond b (t ∷ under r f) (under r f)) → ((r ≡ s) × (e ≡ t)) ⊎ Memᴰ e (under r f)
      go true p n = split (eqb→eq r s (holds p)) n
      go false p n = inr n

  module _ {N : Type 0} (fits : L → N → Bool) (G : Graph N) where
    pub met-each : (f : Forest L) (x : N) → T (meets_by_f fits G f x) → (r : ℕ) (e : Tree L) → Memᴰ e (under r f) → T (served fits G x r e)
    unfolding under
    met-each none x h r e m = elim m [ ]
    met-each (more s t f) x h r e m = let q = (at_more fits G s t f x).0 h in go q.0 (under-cases r s t f m) (λ n. met-each f x q.1 r e n)
      where
        go : T (served fits G x s t) → ((r ≡ s) × (e ≡ t)) ⊎ Memᴰ e (under r f) → (Memᴰ e (under r f) → T (served fits G x r e))
            → T (served fits G x r e)
        go u (inl p) k = rw (p.0, p.1) u
        go u (inr n) k = k n

    pub each-met : (f : Forest L) (x : N) → ((r : ℕ) (e : Tree L) → Memᴰ e (under r f) → T (served fits G x r e)) → T (meets_by_f fits G f x)
    unfolding meets_by
    each-met none x h = tt
    each-met (more s t f) x h =
        (at_more fits G s t f x).1 (h s t (under_first s t f), each-met f x (λ r e m. h r e (under-later r s t f m)))
