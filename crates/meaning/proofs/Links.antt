-- The ends of links, the facts that are links, the links without some of them; and in a well-formed register the successors rise that are judged.
-- Assumes nothing.
use mathlib.Core.Path.{◌≡◌, refl, sym, ap, subst, ◌∙◌}
use mathlib.Core.Logic.{◌⊎◌, inl, inr, ◌↔◌}
use mathlib.Core.Bool.{Bool, true, false, ◌&&◌, ◌||◌, cond}
use mathlib.Core.List.Memᴰ
use mathlib.Core.List.{List, [], ◌∷◌, Memᴰ}
use mathlib.Core.Option.{Option, some}
use mathlib.Core.Option.{none as nowhere}
use Prim.Native.Nat.{ℕ, ◌≤◌, ◌<◌}
use native.Mathlib.Nat.{le_of_eq}
use native.Mathlib.Omega.{arith}
use lib.Dec.{T, eqb, ltb, leb, eqb→eq, eqb_refl, ltb→lt}
use lib.ListN.{length}
use Rattle.meaning.specs.declared.Fact.TheVariants.{Link as link_of}
use Rattle.meaning.specs.Register.{Link, Register, same_link, any_link, is_fact, targets, idle, except, judged}
use Rattle.meaning.specs.Register.{rises, above, all_sets, links_of, well_formed}
use Rattle.meaning.specs.Bounds.{most_items, most_links}
use Rattle.meaning.specs.Whole.{any}
use Rattle.meaning.proofs.Tests.{holds, true-false, and_both, both-and, or_cases, any_found, found-any}
use Rattle.meaning.proofs.Rising.{Rising, flat, up}

abbrev pub link : ℕ → ℕ → ℕ → Link
link i r y = record { from = i; role = r; to = y }

-- the test of `targets`
abbrev leaves : ℕ → ℕ → Link → Bool
leaves i r l = eqb l.from i && eqb l.role r

leaves-link : (i r : ℕ) (l : Link) → T (leaves i r l) → (l.from ≡ i) × (l.role ≡ r)
leaves-link i r l t = let b = and_both (eqb l.from i) (eqb l.role r) t in (eqb→eq l.from i b.0, eqb→eq l.role r b.1)

-- ---- the successors are the ends of the links

link-target : (ls : List Link) (i r y : ℕ) → Memᴰ (link i r y) ls → Memᴰ y (targets ls i r)
unfolding targets
link-target [] i r y m = elim m [ ]
link-target (l ∷ ls) i r y m = go (leaves i r l) refl (Memᴰ.cases_cons m) (λ n. link-target ls i r y n)
  where
    go : (b : Bool) → leaves i r l ≡ b → (link i r y ≡ l) ⊎ Memᴰ (link i r y) ls → (Memᴰ (link i r y) ls → Memᴰ y (targets ls i r))
        → Memᴰ y (cond b (l.to ∷ targets ls i r) (targets ls i r))
    go true e (inl p) k = Memᴰ.head (ap (λ (z : Link). z.to) p)
    go true e (inr n) k = Memᴰ.tail (k n)
    go false e (inr n) k = k n
    go false e (inl p) k = absurd (subst T e (subst (λ z. T (leaves i r z)) p (both-and (eqb i i) (eqb r r) (eqb_refl i) (eqb_refl r))))

target-link : (ls : List Link) (i r y : ℕ) → Memᴰ y (targets ls i r) → Memᴰ (link i r y) ls
unfolding targets
target-link [] i r y m = elim m [ ]
target-link (l ∷ ls) i r y m = go (leaves i r l) refl m (λ n. target-link ls i r y n)
  where
    go : (b : Bool) → leaves i r l ≡ b → Memᴰ y (cond b (l.to ∷ targets ls i r) (targets ls i r))
        → (Memᴰ y (targets ls i r) → Memᴰ (link i r y) ls) → Memᴰ (link i r y) (l ∷ ls)
    go false e n k = Memᴰ.tail (k n)
    go true e (Memᴰ.tail n) k = Memᴰ.tail (k n)
    go true e (Memᴰ.head p) k =
        let q = leaves-link i r l (holds e) in
        Memᴰ.head (λ d. record { from = sym q.0 d; role = sym q.1 d; to = p d })

pub targets-links : (ls : List Link) (i r y : ℕ) → Memᴰ y (targets ls i r) ↔ Memᴰ (link i r y) ls
targets-links ls i r y = (target-link ls i r y, link-target ls i r y)

-- ---- facts

pub same-link : (l m : Link) → T (same_link l m) → l ≡ m
same-link l m t =
    let b = and_both (eqb l.from m.from && eqb l.role m.role) (eqb l.to m.to) t in
    let c = and_both (eqb l.from m.from) (eqb l.role m.role) b.0 in
    let p = eqb→eq l.from m.from c.0 in
    let q = eqb→eq l.role m.role c.1 in
    let s = eqb→eq l.to m.to b.1 in
    λ d. record { from = p d; role = q d; to = s d }

pub link-same : (l : Link) → T (same_link l l)
link-same l =
    let q = both-and (eqb l.from l.from) (eqb l.role l.role) (eqb_refl l.from) (eqb_refl l.role) in
    both-and (eqb l.from l.from && eqb l.role l.role) (eqb l.to l.to) q (eqb_refl l.to)

pub any-link : (p : Link → Bool) (ls : List Link) → any_link p ls ≡ any p ls
unfolding any_link any
any-link p [] = refl
any-link p (l ∷ ls) = ap (λ (b : Bool). p l || b) (any-link p ls)

pub fact-link : (g : Register) (a r b : ℕ) → T (is_fact g (link_of a r b)) ↔ Memᴰ (link a r b) g.links
unfolding is_fact
fact-link g a r b = rw (any-link (same_link (link a r b)) g.links) (
  λ t. let q = any_found (same_link (link a r b)) g.links t in rw (same-link (link a r b) q.0 q.2) q.1,
  λ m. found-any (same_link (link a r b)) m (link-same (link a r b)),
)

-- ---- those of which p does not hold

module _ {A : Type 0} (p : A → Bool) where
  pub except-in : (xs : List A) (y : A) → Memᴰ y (except p xs) ↔ (Memᴰ y xs × (p y ≡ false))
  unfolding except
  except-in [] y = (λ m. elim m [ ], λ m. m.0)
  except-in (x ∷ xs) y = go (p x) refl (except-in xs y)
    where
      go : (b : Bool) → p x ≡ b → Memᴰ y (except p xs) ↔ (Memᴰ y xs × (p y ≡ false))
          → Memᴰ y (cond b (except p xs) (x ∷ except p xs)) ↔ (Memᴰ y (x ∷ xs) × (p y ≡ false))
      go true e h = (λ m. (Memᴰ.tail (h.0 m).0, (h.0 m).1), λ m. h.1 (past (Memᴰ.cases_cons m.0) m.1, m.1))
        where
          past : (y ≡ x) ⊎ Memᴰ y xs → p y ≡ false → Memᴰ y xs
          past (inl d) f = absurd (true-false e (ap p (sym d) ∙ f))
          past (inr m) f = m
      go false e h = (λ m. gone (Memᴰ.cases_cons m), λ m. kept (Memᴰ.cases_cons m.0) m.1)
        where
          gone : (y ≡ x) ⊎ Memᴰ y (except p xs) → Memᴰ y (x ∷ xs) × (p y ≡ false)
          gone (inl d) = (Memᴰ.head d, ap p d ∙ e)
          gone (inr m) = (Memᴰ.tail (h.0 m).0, (h.0 m).1)

          kept : (y ≡ x) ⊎ Memᴰ y xs → p y ≡ false → Memᴰ y (x ∷ except p xs)
          kept (inl d) f = Memᴰ.head d
          kept (inr m) f = Memᴰ.tail (h.1 (m, f))

-- ---- in a well-formed register they rise

-- l stands before m
pub record Below (l m : Link) : Type 0 where
  pub from_le : l.from ≤ m.from
  pub role-le : l.from ≡ m.from → l.role ≤ m.role
  pub to-lt : l.from ≡ m.from → l.role ≡ m.role → l.to < m.to

pub below-trans : {l m n : Link} → Below l m → Below m n → Below l n
below-trans p q = record {
  from_le = omega arith;
  role-le = λ e. omega (arith, p.role-le (omega arith), q.role-le (omega arith));
  to-lt = λ e d. let a = p.role-le (omega arith) in let b = q.role-le (omega arith) in
      omega (arith, p.to-lt (omega arith) (omega arith), q.to-lt (omega arith) (omega arith));
}

-- one place of the order
place : (a b : ℕ) (c : Bool) → T (ltb a b || eqb a b && c) → (a ≤ b) × (a ≡ b → T c)
place a b c t = go (or_cases (ltb a b) (eqb a b && c) t)
  where
    go : T (ltb a b) ⊎ T (eqb a b && c) → (a ≤ b) × (a ≡ b → T c)
    go (inl h) = let l = ltb→lt a b h in (omega arith, λ e. absurd (omega arith))
    go (inr h) = let p = and_both (eqb a b) c h in (le_of_eq (eqb→eq a b p.0), λ e. p.1)

pub rises-below : (l m : Link) → T (rises l m) → Below l m
rises-below l m t = record { from_le = p.0; role-le = λ e. (q e).0; to-lt = λ e d. ltb→lt l.to m.to ((q e).1 d) }
  where
    p : (l.from ≤ m.from) × (l.from ≡ m.from → T (ltb l.role m.role || eqb l.role m.role && ltb l.to m.to))
    p = place l.from m.from (ltb l.role m.role || eqb l.role m.role && ltb l.to m.to) t

    q : l.from ≡ m.from → (l.role ≤ m.role) × (l.role ≡ m.role → T (ltb l.to m.to))
    q e = place l.role m.role (ltb l.to m.to) (p.1 e)

-- the links after l are above it
pub rest : (n : ℕ) (before : Option Link) (l : Link) (ls : List Link) → T (links_of n before (l ∷ ls)) → T (above before l) × T (links_of n (some l) ls)
unfolding links_of
rest n before l ls t =
    let e = ltb l.from n && leb l.role 31 && ltb l.to n in
    let p = and_both (e && above before l) (links_of n (some l) ls) t in
    ((and_both e (above before l) p.0).1, p.1)

pub all-below : (n : ℕ) (l : Link) (ls : List Link) → T (links_of n (some l) ls) → (m : Link) → Memᴰ m ls → Below l m
all-below n l [] t m d = elim d [ ]
all-below n l (k ∷ ks) t m d =
    let p = rest n (some l) k ks t in
    let b = rises-below l k p.0 in
    go b (Memᴰ.cases_cons d) (λ c. below-trans b (all-below n k ks p.1 m c))
  where
    go : Below l k → (m ≡ k) ⊎ Memᴰ m ks → (Memᴰ m ks → Below l m) → Below l m
    go b (inl e) h = subst (Below l) (sym e) b
    go b (inr c) h = h c

-- also without some of the links
targets-rise : (n : ℕ) (before : Option Link) (p : Link → Bool) (ls : List Link) (i r : ℕ) → T (links_of n before ls) → Rising (targets (except p ls) i r)
unfolding targets except
targets-rise n before p [] i r t = flat
targets-rise n before p (l ∷ ls) i r t =
    let q = rest n before l ls t in drops (p l) (leaves i r l) refl q.1 (targets-rise n (some l) p ls i r q.1)
  where
    go : (b : Bool) → leaves i r l ≡ b → T (links_of n (some l) ls) → Rising (targets (except p ls) i r)
        → Rising (cond b (l.to ∷ targets (except p ls) i r) (targets (except p ls) i r))
    go true e t h =
        let q = leaves-link i r l (holds e) in
        up (λ y m. (all-below n l ls t (link i r y) ((except-in p ls (link i r y)).0 (target-link (except p ls) i r y m)).0).to-lt q.0 q.1) h
    go false e t h = h

    drops : (d b : Bool) → leaves i r l ≡ b → T (links_of n (some l) ls) → Rising (targets (except p ls) i r)
        → Rising (targets (cond d (except p ls) (l ∷ except p ls)) i r)
    drops true b e t h = h
    drops false b e t h = rw e (go b e t h)

pub next-rises : (g : Register) (i r : ℕ) → T (well_formed g) → Rising ((judged g).next i r)
unfolding well_formed
next-rises g i r t =
    let n = length g.names in
    let own = leb 1 n && leb n most_items && all_sets g.names && leb (length g.links) most_links in
    targets-rise n nowhere (idle g) g.links i r (and_both own (links_of n nowhere g.links) t).1
