-- The graph that is judged (document 02, §5): it is what specs/Judged.antt spells out; no item there has name 63; and a register without that name is
-- judged whole, so that all examples that do not use it stay.
-- Assumes nothing.
use mathlib.Core.Path.{◌≡◌, refl, ap₂, subst}
use mathlib.Core.Bool.{Bool, true, false, cond}
use mathlib.Core.Logic.{◌↔◌}
use mathlib.Core.List.{List, [], ◌∷◌, Memᴰ}
use Prim.Native.Nat.{ℕ}
use lib.Dec.{T}
use lib.ListN.{get_or}
use Rattle.meaning.specs.declared.Fact.TheVariants.{Name as name_on, Link as link_of}
use Rattle.meaning.specs.Bounds.{withdrawn_name}
use Rattle.meaning.specs.Names.{has}
use Rattle.meaning.specs.Graph.{Graph}
use Rattle.meaning.specs.Register.{Register, is_fact, withdrawn, idle, targets, except, judged}
use Rattle.meaning.specs.Judged.{InService, Judges}
use Rattle.meaning.proofs.Tests.{is_false, true-false, neither, neither-of}
use Rattle.meaning.proofs.SessionNames.{has-none}
use Rattle.meaning.proofs.Links.{link, targets-links, except-in, fact-link}

-- ---- spelled out

judged-names : (g : Register) (i k : ℕ) → T (has ((judged g).names i) k) ↔ (T (is_fact g (name_on i k)) × InService g i)
unfolding is_fact
judged-names g i k = go (withdrawn g i) refl
  where
    go : (b : Bool) → withdrawn g i ≡ b → T (has (cond b 0 (get_or g.names i 0)) k) ↔ (T (has (get_or g.names i 0) k) × (withdrawn g i ≡ false))
    go true e = (λ t. absurd (subst T (has-none k) t), λ t. absurd (true-false e t.1))
    go false e = (λ t. (t, e), λ t. t.0)

judged-links : (g : Register) (a r b : ℕ) → Memᴰ b ((judged g).next a r) ↔ (T (is_fact g (link_of a r b)) × InService g a × InService g b)
unfolding is_fact
judged-links g a r b =
    let at = targets-links (except (idle g) g.links) a r b in
    let some = except-in (idle g) g.links (link a r b) in
    let fact = fact-link g a r b in (
      (λ m. let q = some.0 (at.0 m) in let n = neither-of (withdrawn g a) (withdrawn g b) q.1 in (fact.1 q.0, n.0, n.1)),
      (λ t. at.1 (some.1 (fact.0 t.0, neither (withdrawn g a) (withdrawn g b) t.1 t.2))),
    )

pub judged-is : (g : Register) → Judges g (judged g)
judged-is g = record { names = judged-names g; links = judged-links g }

-- "naming 63 in a requirement is legal and is never held"
pub never-held : (g : Register) (i : ℕ) → has ((judged g).names i) withdrawn_name ≡ false
unfolding is_fact
never-held g i = is_false _ (λ t. let q = (judged-names g i withdrawn_name).0 t in subst T q.1 q.0)

-- ---- a register without name 63

pub except-none : {A : Type 0} (p : A → Bool) (ls : List A) → ((l : A) → p l ≡ false) → except p ls ≡ ls
unfolding except
except-none p [] h = refl
except-none {A} p (l ∷ ls) h = ap₂ {C = List A} (λ (b : Bool) (k : List A). cond b k (l ∷ k)) (h l) (except-none p ls h)

-- is judged whole: each item with all its names, and all links
pub judged-whole : (g : Register) → ((i : ℕ) → InService g i) → judged g ≡ record { names = λ i. get_or g.names i 0; next = targets g.links }
unfolding is_fact
judged-whole g h =
    let same : except (idle g) g.links ≡ g.links = except-none (idle g) g.links (λ l. neither _ _ (h l.from) (h l.to)) in
    λ d. record { names = λ i. cond (h i d) 0 (get_or g.names i 0); next = targets (same d) }

-- ---- no other graph is spelled out

both_ways : {A B C : Type 0} → A ↔ C → B ↔ C → A ↔ B
both_ways f g = (λ a. g.1 (f.0 a), λ b. f.1 (g.0 b))

-- each graph that is has the same names and the same successors
pub judged-only : (g : Register) (G : Graph ℕ) → Judges g G
    → ((i k : ℕ) → T (has (G.names i) k) ↔ T (has ((judged g).names i) k)) × ((a r b : ℕ) → Memᴰ b (G.next a r) ↔ Memᴰ b ((judged g).next a r))
judged-only g G j = ((λ i k. both_ways (j.names i k) (judged-names g i k)), (λ a r b. both_ways (j.links a r b) (judged-links g a r b)))
