-- At an item in service the graph that is walked is the graph that is judged, and no link leads out of service: so the two have the same degrees, the
-- same members and the same maps there.
-- Assumes nothing.
use mathlib.Core.Path.{◌≡◌, refl, sym, ap, ◌∙◌}
use mathlib.Core.Bool.{Bool, true, false, ◌&&◌, ◌||◌, cond}
use mathlib.Core.List.{List, [], ◌∷◌}
use Prim.Native.Nat.{ℕ, max}
use native.Mathlib.Omega.{arith}
use lib.Dec.{eqb, eqb→eq}
use lib.ListN.{get_or}
use Rattle.meaning.specs.Register.{Link, Register, withdrawn, idle, targets, except, judged}
use Rattle.meaning.specs.Degree.{best}
use Rattle.meaning.proofs.Tests.{holds, true-false, and_both}
use Rattle.meaning.proofs.Links.{except-in}
use Rattle.meaning.proofs.Agreeing.{Agree}
use Rattle.graph.specs.Walked.{walked}
use Rattle.graph.specs.Judged.{end_no, spanned, Runs}

-- an item in service
abbrev pub Serves : Register → ℕ → Type 0
Serves g x = withdrawn g x ≡ false

module _ (g : Register) where
  walked-links : (ls : List Link) (x r : ℕ) → Serves g x → except (withdrawn g) (targets ls x r) ≡ targets (except (idle g) ls) x r
  unfolding targets except
  walked-links [] x r s = refl
  walked-links (l ∷ ls) x r s = go (eqb l.from x && eqb l.role r) (withdrawn g l.from) (withdrawn g l.to) refl refl refl (walked-links ls x r s)
    where
      led : Bool → List ℕ
      led b = cond b (l.to ∷ targets (except (idle g) ls) x r) (targets (except (idle g) ls) x r)

      go : (a b c : Bool) → (eqb l.from x && eqb l.role r) ≡ a → withdrawn g l.from ≡ b → withdrawn g l.to ≡ c
          → except (withdrawn g) (targets ls x r) ≡ targets (except (idle g) ls) x r
          → except (withdrawn g) (cond a (l.to ∷ targets ls x r) (targets ls x r)) ≡ targets (cond (b || c) (except (idle g) ls) (l ∷ except (idle g) ls)) x r
      go true true c ea eb ec h = absurd (let from = eqb→eq l.from x (and_both (eqb l.from x) (eqb l.role r) (holds ea)).0 in
          true-false (sym (ap (withdrawn g) from) ∙ eb) s)
      go true false true ea eb ec h = ap (λ (d : Bool). cond d (except (withdrawn g) (targets ls x r)) (l.to ∷ except (withdrawn g) (targets ls x r))) ec ∙ h
      go true false false ea eb ec h =
          ap (λ (d : Bool). cond d (except (withdrawn g) (targets ls x r)) (l.to ∷ except (withdrawn g) (targets ls x r))) ec
          ∙ ap (λ (z : List ℕ). l.to ∷ z) h ∙ sym (ap led ea)
      go false true c ea eb ec h = h
      go false false true ea eb ec h = h
      go false false false ea eb ec h = h ∙ sym (ap led ea)

  pub walked-judged : Agree (walked g) (judged g) (Serves g)
  walked-judged = record {
    names = λ x s. ap (λ (b : Bool). cond b 0 (get_or g.names x 0)) (sym s);
    next = λ x r s. walked-links g.links x r s;
    stays = λ x y r s m. ((except-in (withdrawn g) (targets g.links x r) y).0 m).1;
  }

-- the successors of an item under a role are the ends of a run of links, but for the withdrawn ones
pub walked-run : (g : Register) (x r first end : ℕ) → Runs g x r first end → (walked g).next x r ≡ except (withdrawn g) (spanned (end_no g) first end)
walked-run g x r first end run = ap (except (withdrawn g)) run.ends

-- ---- a row with 0 at the items that p holds of

pub best-struck : (p : ℕ → Bool) (v : ℕ → ℕ) (ys : List ℕ) → best (λ y. cond (p y) 0 (v y)) ys ≡ best v (except p ys)
unfolding best except
best-struck p v [] = refl
best-struck p v (y ∷ ys) = go (p y) (best-struck p v ys)
  where
    go : (b : Bool) → best (λ z. cond (p z) 0 (v z)) ys ≡ best v (except p ys)
        → max (cond b 0 (v y)) (best (λ z. cond (p z) 0 (v z)) ys) ≡ best v (cond b (except p ys) (y ∷ except p ys))
    go true h = omega (arith, h)
    go false h = ap (max (v y)) h
