-- Reading link after link: what holds when some are read, when one is refused, and when all are read.
-- Assumes nothing.
use mathlib.Core.Path.{◌≡◌, refl, sym, ap, ◌∙◌, subst}
use mathlib.Core.List.{List, [], ◌∷◌}
use mathlib.Core.Option.{Option, some}
use mathlib.Core.Option.{none as nowhere}
use Prim.Native.Nat.{ℕ, suc, ◌+◌, ◌-◌, ◌≤◌, ◌<◌}
use native.Mathlib.Omega.{arith}
use Rattle.meaning.specs.declared.Side.TheVariants.{Register as register}
use Rattle.meaning.specs.declared.Refusal.{Refusal}
use Rattle.meaning.specs.Refusal.{Answer, good, refused, at, ◌>>=◌}
use Rattle.meaning.specs.Register.{Link, read_link, read_links}
use Rattle.meaning.proofs.Reading.{good-inj, stopped, took, taken}
use Rattle.meaning.proofs.Image.{read-link}
use Rattle.links.specs.Links.{Floor, keyed, AllRead}

-- whether reading goes well, and if not, its refusal
unfoldable pub tested : {A : Type 0} → Answer A → Answer (Unit {0})
tested (good a) = good tt
tested (refused r) = refused r

tested-good : {A : Type 0} (a : Answer A) → tested a ≡ good tt → (x : A) × (a ≡ good x)
unfolding tested
tested-good (good x) e = (x, refl)
tested-good (refused r) e = let z : ◌≡◌ {A = ℕ} 0 1 = cc in absurd (omega arith)

tested-refused : {A : Type 0} (a : Answer A) (r : Refusal) → tested a ≡ refused r → a ≡ refused r
unfolding tested
tested-refused (good x) r e = let z : ◌≡◌ {A = ℕ} 0 1 = cc in absurd (omega arith)
tested-refused (refused q) r e = cc

module _ (s : List ℕ) (end n : ℕ) where
  tested-more : (k : ℕ) (before : Option Link) (p : ℕ) (l : Link) → read_link s end n before p ≡ good l
      → tested (read_links s end n (suc k) before p) ≡ tested (read_links s end n k (some l) (p + 5))
  unfolding read_links tested ◌>>=◌
  tested-more k before p l e = ap tested (took (read_link s end n before p) _ l e) ∙ go (read_links s end n k (some l) (p + 5))
    where
      go : (a : Answer (List Link)) → tested (a >>= λ rest. good (l ∷ rest)) ≡ tested a
      go (good x) = refl
      go (refused r) = refl

  tested-stop : (k : ℕ) (before : Option Link) (p : ℕ) (r : Refusal) → read_link s end n before p ≡ refused r
      → tested (read_links s end n (suc k) before p) ≡ refused r
  unfolding read_links tested
  tested-stop k before p r e = ap tested (stopped (read_link s end n before p) _ r e)

  module _ (m start : ℕ) where
    -- i links are read, the next stands at p, and must have at least the number f
    pub record Going (i p f : ℕ) : Type 0 where
      pub before : Option Link
      pub floor : Floor before f
      pub same : tested (read_links s end n m nowhere start) ≡ tested (read_links s end n (m - i) before p)

    pub going-none : Going 0 start 0
    going-none = record { before = nowhere; floor = refl; same = ap (λ (z : ℕ). tested (read_links s end n z nowhere start)) (omega arith) }

    module _ (i p f : ℕ) (w : Going i p f) where
      here : i < m → tested (read_links s end n m nowhere start) ≡ tested (read_links s end n (suc (m - (i + 1))) w.before p)
      here h = w.same ∙ ap (λ (z : ℕ). tested (read_links s end n z w.before p)) (omega arith)

      pub going_more : (next : ℕ) → i < m → n ≤ 512 → good next ≡ keyed (read_link s end n w.before p) → Going (i + 1) (p + 5) next
      unfolding keyed
      going_more next h b e =
          let q = taken (read_link s end n w.before p) _ (sym e) in
          let r = read-link s end n w.before p q.0 q.1 in
          record {
            before = some q.0;
            floor = (sym (good-inj q.2), r.1.role, omega (arith, r.1.to));
            same = here h ∙ tested-more (m - (i + 1)) w.before p q.0 q.1;
          }

      keyed-refused : (r : Refusal) → (a : Answer Link) → refused r ≡ keyed a → a ≡ refused r
      unfolding keyed ◌>>=◌
      keyed-refused r (good x) e = let z : ◌≡◌ {A = ℕ} 0 1 = cc in absurd (omega arith)
      keyed-refused r (refused q) e = let z : ◌≡◌ {A = Answer ℕ} (refused r) (refused q) = e in cc

      pub going-stop : (k q : ℕ) → i < m → refused (at register k q) ≡ keyed (read_link s end n w.before p)
          → read_links s end n m nowhere start ≡ refused (at register k q)
      going-stop k q h e = tested-refused _ _ (here h ∙ tested-stop (m - (i + 1)) w.before p _ (keyed-refused _ _ e))

      pub all_read : i ≡ m → AllRead s end n m start
      unfolding read_links tested
      all_read e =
          let z : m - i ≡ 0 = omega arith in
          tested-good (read_links s end n m nowhere start) (w.same ∙ ap (λ (k : ℕ). tested (read_links s end n k w.before p)) z)

pub none-to-read : (s : List ℕ) (end n m p : ℕ) → m ≡ 0 → AllRead s end n m p
unfolding read_links
none-to-read s end n m p e = subst (λ (z : ℕ). AllRead s end n z p) (sym e) ([], refl)
