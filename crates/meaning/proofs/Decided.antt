-- An answer that is decided: refused exactly when a row of its table holds, with that row's refusal, and good exactly when what is handed in is taken;
-- and how that is put together from one step after the other.
-- Assumes nothing.
use mathlib.Core.Path.{◌≡◌, refl, sym, ◌∙◌, subst}
use mathlib.Core.Logic.{◌⊎◌, inl, inr}
use mathlib.Core.Bool.{Bool, true, false}
use Prim.Native.Nat.{ℕ, ◌≤◌, ◌<◌}
use native.Mathlib.Omega.{arith}
use native.Mathlib.Decide.{dec_lt}
use Rattle.meaning.specs.declared.Refusal.{Refusal}
use Rattle.meaning.specs.Refusal.{Answer, good, refused, refuse_if, Exactly, ◌>>◌}
use Rattle.meaning.proofs.Reading.{not_good, halted, went}

pub refused-inj : {A : Type 0} {g f : Refusal} → ◌≡◌ {A = Answer A} (refused g) (refused f) → g ≡ f
refused-inj e = cc

-- an answer that is decided: what is taken is good, a row gives its refusal, and one of the two is so
pub record Decided {A : Type 0} (a : Answer A) (Row : Refusal → Type 0) (Takes : Type 0) : Type 0 where
  pub good-where : Takes → (x : A) × (a ≡ good x)
  pub refused-where : (f : Refusal) → Row f → a ≡ refused f
  pub either : Takes ⊎ ((f : Refusal) × Row f)

pub exactly : {A : Type 0} {a : Answer A} {Row : Refusal → Type 0} {Takes : Type 0} → Decided a Row Takes → Exactly a Row Takes
exactly {A} {a} {Row} {Takes} d = record {
  refuses = λ f. ((λ e. row f e d.either), d.refused-where f);
  takes = ((λ g. take g d.either), d.good-where);
}
  where
    row : (f : Refusal) → a ≡ refused f → Takes ⊎ ((g : Refusal) × Row g) → Row f
    row f e (inl t) = absurd (not_good (sym e ∙ (d.good-where t).1))
    row f e (inr r) = let z : refused r.0 ≡ refused f = sym (d.refused-where r.0 r.1) ∙ e in subst Row (refused-inj z) r.1

    take : (x : A) × (a ≡ good x) → Takes ⊎ ((g : Refusal) × Row g) → Takes
    take g (inl t) = t
    take g (inr r) = absurd (not_good (sym (d.refused-where r.0 r.1) ∙ g.1))

-- ---- steps, one after the other

-- a last step, whose row is that its test holds
pub last : (b : Bool) (g : Refusal) {Row Takes : Type 0} → (Row → b ≡ true) → (Takes → b ≡ false) → Takes ⊎ Row
    → Decided (refuse_if b g) (λ f. Row × (f ≡ g)) Takes
unfolding refuse_if
last b g {Row} {Takes} r t (inl w) = record {
  good-where = λ u. (tt, rw (t u) refl);
  refused-where = λ f u. rw (r u.0, u.1) refl;
  either = inl w;
}
last b g {Row} {Takes} r t (inr w) = record {
  good-where = λ u. (tt, rw (t u) refl);
  refused-where = λ f u. rw (r u.0, u.1) refl;
  either = inr (g, (w, refl));
}

-- a step and what follows it
pub next : {B : Type 0} {a : Answer (Unit {0})} {b : Answer B} {Row Row' : Refusal → Type 0} {Takes Takes' : Type 0} → Decided a Row Takes → Decided b Row' Takes'
    → Decided (a >> b) (λ f. Row f ⊎ (Takes × Row' f)) (Takes × Takes')
next {B} {a} {b} {Row} {Row'} {Takes} {Takes'} d e = record {
  good-where = λ u. let g = e.good-where u.1 in (g.0, went a b (one u.0) ∙ g.1);
  refused-where = rows;
  either = which d.either e.either;
}
  where
    one : Takes → a ≡ good tt
    one t = (d.good-where t).1

    rows : (f : Refusal) → Row f ⊎ (Takes × Row' f) → (a >> b) ≡ refused f
    rows f (inl r) = halted a b f (d.refused-where f r)
    rows f (inr r) = went a b (one r.0) ∙ e.refused-where f r.1

    which : Takes ⊎ ((f : Refusal) × Row f) → Takes' ⊎ ((f : Refusal) × Row' f) → (Takes × Takes') ⊎ ((f : Refusal) × (Row f ⊎ (Takes × Row' f)))
    which (inl t) (inl u) = inl (t, u)
    which (inl t) (inr r) = inr (r.0, inr (t, r.1))
    which (inr r) u = inr (r.0, inl r.1)

-- the same rows in other words
pub same_rows : {A : Type 0} {a : Answer A} {Row Row' : Refusal → Type 0} {Takes Takes' : Type 0} → Decided a Row Takes → ((f : Refusal) → Row f → Row' f)
    → ((f : Refusal) → Row' f → Row f) → (Takes → Takes') → (Takes' → Takes) → Decided a Row' Takes'
same_rows {A} {a} {Row} {Row'} {Takes} {Takes'} d to from there back = record {
  good-where = λ u. d.good-where (back u);
  refused-where = λ f r. d.refused-where f (from f r);
  either = which d.either;
}
  where
    which : Takes ⊎ ((f : Refusal) × Row f) → Takes' ⊎ ((f : Refusal) × Row' f)
    which (inl t) = inl (there t)
    which (inr r) = inr (r.0, to r.0 r.1)

-- nothing is tested
pub none-tested : Decided {A = Unit {0}} (good tt) (λ f. ⊥) (Unit {0})
none-tested = record { good-where = λ u. (tt, refl); refused-where = λ f r. absurd r; either = inl tt }

-- ---- two cases

pub less-decided : (m n : ℕ) → (m < n) ⊎ (n ≤ m)
less-decided m n = go (dec_lt m n)
  where
    go : Dec (m < n) → (m < n) ⊎ (n ≤ m)
    go (yes l) = inl l
    go (no l) = inr (omega (arith, l))

pub swapped : {A B : Type 0} → A ⊎ B → B ⊎ A
swapped (inl a) = inr a
swapped (inr b) = inl b
