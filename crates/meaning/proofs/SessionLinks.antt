-- Rising links: their order, lists that have the same links, and the list with a link or without it.
-- Assumes nothing.
use mathlib.Core.Path.{◌≡◌, refl, sym, ap, ap₂, ◌∙◌, subst}
use mathlib.Core.Logic.{◌⊎◌, inl, inr}
use mathlib.Core.Bool.{Bool, true, false, ◌&&◌, ◌||◌, cond}
use mathlib.Core.List.Memᴰ
use mathlib.Core.List.{List, [], ◌∷◌, Memᴰ}
use mathlib.Core.Option.{Option, some}
use mathlib.Core.Option.{none as nowhere}
use Prim.Native.Nat.{ℕ, suc, ◌≤◌, ◌<◌}
use native.Mathlib.Decide.{dec_lt}
use native.Mathlib.Omega.{arith}
use lib.Dec.{T, eqb, ltb, lt→ltb}
use lib.ListN.{length}
use Rattle.meaning.specs.Register.{Link, same_link, any_link, rises, above, links_of}
use Rattle.meaning.specs.Session.{insert, without, with_link}
use Rattle.meaning.proofs.Tests.{holds, is_true, is_false, true-false, bool_eq, is-eqb, both-and, or_cases, or_left, or_right, any_found, found-any}
use Rattle.meaning.proofs.Image.{Right, right, wrote}
use Rattle.meaning.proofs.Links.{same-link, link-same, any-link, Below, below-trans, rises-below, rest, all-below}

-- ---- the order

below-rises : (l m : Link) → Below l m → T (rises l m)
below-rises l m b = go (dec_lt l.from m.from) (dec_lt l.role m.role)
  where
    go : Dec (l.from < m.from) → Dec (l.role < m.role) → T (rises l m)
    go (yes f) d = or_left (ltb l.from m.from) _ (lt→ltb _ _ f)
    go (no f) (yes r) =
        let e : l.from ≡ m.from = omega (arith, b.from_le) in
        or_right (ltb l.from m.from) _ (both-and (eqb l.from m.from) _ (is-eqb e) (or_left (ltb l.role m.role) _ (lt→ltb _ _ r)))
    go (no f) (no r) =
        let e : l.from ≡ m.from = omega (arith, b.from_le) in
        let d : l.role ≡ m.role = omega (arith, b.role-le e) in
        or_right (ltb l.from m.from) _ (both-and (eqb l.from m.from) _ (is-eqb e)
        (or_right (ltb l.role m.role) _ (both-and (eqb l.role m.role) _ (is-eqb d) (lt→ltb _ _ (b.to-lt e d)))))

-- nothing stands below itself, nor two links below each other
below_self : {l : Link} → Below l l → ⊥
below_self b = omega (arith, b.to-lt refl refl)

pub below_both : {l m : Link} → Below l m → Below m l → ⊥
below_both b c = below_self (below-trans b c)

-- of two links one stands below the other, unless they are the same
flip : (l m : Link) → (T (rises l m) → ⊥) → (T (same_link l m) → ⊥) → Below m l
flip l m h d = go (dec_lt l.from m.from)
  where
    lower : l.from ≡ m.from → l.role < m.role → ⊥
    lower e r = h (below-rises l m (record { from_le = omega arith; role-le = λ q. omega arith; to-lt = λ q s. absurd (omega arith) }))

    last : l.from ≡ m.from → l.role ≡ m.role → l.to < m.to → ⊥
    last e r t = h (below-rises l m (record { from_le = omega arith; role-le = λ q. omega arith; to-lt = λ q s. t }))

    alike : l.from ≡ m.from → l.role ≡ m.role → l.to ≡ m.to → ⊥
    alike e r t =
        d (both-and (eqb l.from m.from && eqb l.role m.role) _ (both-and (eqb l.from m.from) _ (is-eqb e) (is-eqb r)) (is-eqb t))

    role-of : m.from ≡ l.from → Dec (l.role < m.role) → m.role ≤ l.role
    role-of e (yes r) = absurd (lower (sym e) r)
    role-of e (no r) = omega arith

    to-of : m.from ≡ l.from → m.role ≡ l.role → Dec (m.to < l.to) → Dec (l.to < m.to) → m.to < l.to
    to-of e r (yes t) u = t
    to-of e r (no t) (yes u) = absurd (last (sym e) (sym r) u)
    to-of e r (no t) (no u) = absurd (alike (sym e) (sym r) (omega arith))

    go : Dec (l.from < m.from) → Below m l
    go (yes f) = absurd (h (or_left (ltb l.from m.from) _ (lt→ltb _ _ f)))
    go (no f) = record {
      from_le = omega arith;
      role-le = λ e. role-of e (dec_lt l.role m.role);
      to-lt = λ e r. to-of e r (dec_lt m.to l.to) (dec_lt l.to m.to);
    }

pub flipped : (l m : Link) → rises l m ≡ false → same_link l m ≡ false → T (rises m l)
flipped l m e d = below-rises m l (flip l m (λ t. subst T e t) (λ t. subst T d t))

above-below : (before : Option Link) (l m : Link) → T (above before l) → Below l m → T (above before m)
above-below nowhere l m t b = tt
above-below (some k) l m t b = below-rises k m (below-trans (rises-below k l t) b)

-- ---- which links there are

abbrev pub among : Link → List Link → Bool
among x ls = any_link (same_link x) ls

pub among-member : (x : Link) (ls : List Link) → T (among x ls) → Memᴰ x ls
among-member x ls t =
    let q = any_found (same_link x) ls (subst T (any-link (same_link x) ls) t) in
    subst (λ (z : Link). Memᴰ z ls) (sym (same-link x q.0 q.2)) q.1

pub member-among : (x : Link) (ls : List Link) → Memᴰ x ls → T (among x ls)
member-among x ls m = subst T (sym (any-link (same_link x) ls)) (found-any (same_link x) m (link-same x))

-- a link is not among those above it
not-above : (n : ℕ) (l : Link) (ls : List Link) → T (links_of n (some l) ls) → Memᴰ l ls → ⊥
not-above n l ls t m = below_self (all-below n l ls t l m)

-- rising links with the same members are the same
module _ (n : ℕ) where
  first-same : (b c : Option Link) (l : Link) (ls : List Link) (m : Link) (ms : List Link) → T (links_of n b (l ∷ ls)) → T (links_of n c (m ∷ ms))
      → Memᴰ l (m ∷ ms) → Memᴰ m (l ∷ ls) → l ≡ m
  first-same b c l ls m ms t u p q = go (Memᴰ.cases_cons p) (Memᴰ.cases_cons q)
    where
      go : (l ≡ m) ⊎ Memᴰ l ms → (m ≡ l) ⊎ Memᴰ m ls → l ≡ m
      go (inl e) y = e
      go (inr x) (inl e) = sym e
      go (inr x) (inr y) = absurd (below_both (all-below n m ms (rest n c m ms u).1 l x) (all-below n l ls (rest n b l ls t).1 m y))

  rest-same : (l : Link) (ls ms : List Link) → T (links_of n (some l) ls) → ((x : Link) → Memᴰ x (l ∷ ls) → Memᴰ x (l ∷ ms))
      → (x : Link) → Memᴰ x ls → Memᴰ x ms
  rest-same l ls ms t h x m = go (Memᴰ.cases_cons (h x (Memᴰ.tail m)))
    where
      go : (x ≡ l) ⊎ Memᴰ x ms → Memᴰ x ms
      go (inl e) = absurd (not-above n l ls t (subst (λ (z : Link). Memᴰ z ls) e m))
      go (inr y) = y

  pub same-links : (b c : Option Link) (ls ms : List Link) → T (links_of n b ls) → T (links_of n c ms)
      → ((x : Link) → Memᴰ x ls → Memᴰ x ms) → ((x : Link) → Memᴰ x ms → Memᴰ x ls) → ls ≡ ms
  same-links b c [] [] t u h k = refl
  same-links b c [] (m ∷ ms) t u h k = elim (k m (Memᴰ.head refl)) [ ]
  same-links b c (l ∷ ls) [] t u h k = elim (h l (Memᴰ.head refl)) [ ]
  same-links b c (l ∷ ls) (m ∷ ms) t u h k =
      let e = first-same b c l ls m ms t u (h l (Memᴰ.head refl)) (k m (Memᴰ.head refl)) in
      let t' = (rest n b l ls t).1 in
      let u' = (rest n c m ms u).1 in
      let h' = rest-same l ls ms t' (λ x p. subst (λ (z : Link). Memᴰ x (z ∷ ms)) (sym e) (h x p)) in
      let k' = rest-same m ms ls u' (λ x p. subst (λ (z : Link). Memᴰ x (z ∷ ls)) e (k x p)) in
      ap₂ ◌∷◌ e (same-links (some l) (some m) ls ms t' u' h' k')

-- ---- with a link and without it

-- a link that may stand among n items
abbrev pub Sound : ℕ → Link → Type 0
Sound n l = (l.from < n) × (l.role ≤ 31) × (l.to < n)

module _ (n : ℕ) (l : Link) (s : Sound n l) where
  rightly : (before : Option Link) → T (above before l) → Right n before l
  rightly before a = record { from = s.0; role = s.1; to = s.2; rises = a }

  insert-rises : (before : Option Link) (ls : List Link) → T (above before l) → T (links_of n before ls) → T (links_of n before (insert l ls))
  unfolding insert links_of
  insert-rises before [] a t = wrote n before l [] (rightly before a) tt
  insert-rises before (m ∷ ms) a t = go (rises l m) refl (same_link l m) refl (right n before m ms t) (λ b u. insert-rises (some m) ms b u)
    where
      go : (b : Bool) → rises l m ≡ b → (c : Bool) → same_link l m ≡ c → Right n before m × T (links_of n (some m) ms)
          → (T (above (some m) l) → T (links_of n (some m) ms) → T (links_of n (some m) (insert l ms)))
          → T (links_of n before (cond b (l ∷ m ∷ ms) (cond c (m ∷ ms) (m ∷ insert l ms))))
      go true e c d q ih =
          let r = q.0 in
          wrote n before l (m ∷ ms) (rightly before a) (wrote n (some l) m ms (record { from = r.from; role = r.role; to = r.to; rises = holds e }) q.1)
      go false e true d q ih = t
      go false e false d q ih = wrote n before m (insert l ms) q.0 (ih (flipped l m e d) q.1)

raised : (n : ℕ) (before : Option Link) (l : Link) (ls : List Link) → T (above before l) → T (links_of n (some l) ls) → T (links_of n before ls)
unfolding links_of
raised n before l [] a t = tt
raised n before l (m ∷ ms) a t =
    let q = right n (some l) m ms t in
    let r = q.0 in
    wrote n before m ms
    (record { from = r.from; role = r.role; to = r.to; rises = above-below before l m a (rises-below l m r.rises) }) q.1

without-rises : (n : ℕ) (l : Link) (before : Option Link) (ls : List Link) → T (links_of n before ls) → T (links_of n before (without l ls))
unfolding without links_of
without-rises n l before [] t = tt
without-rises n l before (m ∷ ms) t = go (same_link l m) (right n before m ms t) (λ u. without-rises n l (some m) ms u)
  where
    go : (c : Bool) → Right n before m × T (links_of n (some m) ms) → (T (links_of n (some m) ms) → T (links_of n (some m) (without l ms)))
        → T (links_of n before (cond c ms (m ∷ without l ms)))
    go true q ih = raised n before m ms q.0.rises q.1
    go false q ih = wrote n before m (without l ms) q.0 (ih q.1)

pub with-rises : (v : Bool) (n : ℕ) (l : Link) (ls : List Link) → Sound n l → T (links_of n nowhere ls) → T (links_of n nowhere (with_link v l ls))
with-rises true n l ls s t = insert-rises n l s nowhere ls tt t
with-rises false n l ls s t = without-rises n l nowhere ls t

-- that link is among them or not, and every other as it was
same-sym : (l m : Link) → same_link l m ≡ same_link m l
same-sym l m =
    bool_eq (same_link l m) (same_link m l)
    (λ t. subst (λ (z : Link). T (same_link z l)) (same-link l m t) (link-same l))
    (λ t. subst (λ (z : Link). T (same_link z m)) (same-link m l t) (link-same m))

insert-has : (l : Link) (ls : List Link) → T (among l (insert l ls))
unfolding insert any_link
insert-has l [] = or_left (same_link l l) false (link-same l)
insert-has l (m ∷ ms) = go (rises l m) (same_link l m) refl (insert-has l ms)
  where
    go : (b c : Bool) → same_link l m ≡ c → T (among l (insert l ms)) → T (among l (cond b (l ∷ m ∷ ms) (cond c (m ∷ ms) (m ∷ insert l ms))))
    go true c d ih = or_left (same_link l l) _ (link-same l)
    go false true d ih = or_left (same_link l m) _ (holds d)
    go false false d ih = or_right (same_link l m) _ ih

insert-other : (l x : Link) (ls : List Link) → same_link x l ≡ false → among x (insert l ls) ≡ among x ls
unfolding insert any_link
insert-other l x [] e = rw e
insert-other l x (m ∷ ms) e = go (rises l m) (same_link l m) (insert-other l x ms e)
  where
    go : (b c : Bool) → among x (insert l ms) ≡ among x ms → among x (cond b (l ∷ m ∷ ms) (cond c (m ∷ ms) (m ∷ insert l ms))) ≡ (same_link x m || among x ms)
    go true c ih = rw e
    go false true ih = refl
    go false false ih = ap (λ (z : Bool). same_link x m || z) ih

without-has : (n : ℕ) (before : Option Link) (l : Link) (ls : List Link) → T (links_of n before ls) → T (among l (without l ls)) → ⊥
unfolding without any_link
without-has n before l [] t u = u
without-has n before l (m ∷ ms) t u = go (same_link l m) refl (rest n before m ms t).1 u (λ a b. without-has n (some m) l ms a b)
  where
    go : (c : Bool) → same_link l m ≡ c → T (links_of n (some m) ms) → T (among l (cond c ms (m ∷ without l ms)))
        → (T (links_of n (some m) ms) → T (among l (without l ms)) → ⊥) → ⊥
    go true d t u ih = not-above n m ms t (subst (λ (z : Link). Memᴰ z ms) (same-link l m (holds d)) (among-member l ms u))
    go false d t u ih = rest_of (or_cases (same_link l m) (among l (without l ms)) u)
      where
        rest_of : T (same_link l m) ⊎ T (among l (without l ms)) → ⊥
        rest_of (inl a) = subst T d a
        rest_of (inr b) = ih t b

without_other : (l x : Link) (ls : List Link) → same_link x l ≡ false → among x (without l ls) ≡ among x ls
unfolding without any_link
without_other l x [] e = refl
without_other l x (m ∷ ms) e = go (same_link l m) refl (without_other l x ms e)
  where
    go : (c : Bool) → same_link l m ≡ c → among x (without l ms) ≡ among x ms → among x (cond c ms (m ∷ without l ms)) ≡ (same_link x m || among x ms)
    go true d ih =
        let z : same_link x m ≡ false = subst (λ (z : Link). same_link x z ≡ false) (same-link l m (holds d)) e in
        rw z
    go false d ih = ap (λ (z : Bool). same_link x m || z) ih

pub with-among : (v : Bool) (n : ℕ) (l x : Link) (ls : List Link) → T (links_of n nowhere ls) → among x (with_link v l ls) ≡ cond (same_link l x) v (among x ls)
with-among v n l x ls t = go v (same_link l x) refl
  where
    go : (v c : Bool) → same_link l x ≡ c → among x (with_link v l ls) ≡ cond c v (among x ls)
    go true true e = subst (λ (z : Link). among z (insert l ls) ≡ true) (same-link l x (holds e)) (is_true (among l (insert l ls)) (insert-has l ls))
    go false true e =
        subst (λ (z : Link). among z (without l ls) ≡ false) (same-link l x (holds e)) (is_false (among l (without l ls)) (without-has n nowhere l ls t))
    go true false e = insert-other l x ls (same-sym x l ∙ e)
    go false false e = without_other l x ls (same-sym x l ∙ e)

-- one more, one fewer, or as they were
insert-new : (l : Link) (ls : List Link) → among l ls ≡ false → length (insert l ls) ≡ suc (length ls)
unfolding insert any_link
insert-new l [] e = refl
insert-new l (m ∷ ms) e = go (rises l m) (same_link l m) refl e (λ d. insert-new l ms d)
  where
    go : (b c : Bool) → same_link l m ≡ c → (c || among l ms) ≡ false → (among l ms ≡ false → length (insert l ms) ≡ suc (length ms))
        → length (cond b (l ∷ m ∷ ms) (cond c (m ∷ ms) (m ∷ insert l ms))) ≡ suc (suc (length ms))
    go true c d e ih = refl
    go false true d e ih = absurd (true-false refl e)
    go false false d e ih = ap suc (ih e)

without-old : (l : Link) (ls : List Link) → among l ls ≡ true → suc (length (without l ls)) ≡ length ls
unfolding without any_link
without-old l [] e = absurd (true-false e refl)
without-old l (m ∷ ms) e = go (same_link l m) e (λ d. without-old l ms d)
  where
    go : (c : Bool) → (c || among l ms) ≡ true → (among l ms ≡ true → suc (length (without l ms)) ≡ length ms)
        → suc (length (cond c ms (m ∷ without l ms))) ≡ suc (length ms)
    go true e ih = refl
    go false e ih = ap suc (ih e)

pub insert-length : (l : Link) (ls : List Link) → among l ls ≡ false → length (with_link true l ls) ≡ suc (length ls)
insert-length = insert-new

pub without-length : (l : Link) (ls : List Link) → among l ls ≡ true → suc (length (with_link false l ls)) ≡ length ls
without-length = without-old

pub with-same : (v : Bool) (n : ℕ) (l : Link) (ls : List Link) → Sound n l → T (links_of n nowhere ls) → among l ls ≡ v → with_link v l ls ≡ ls
with-same v n l ls s t e =
    same-links n nowhere nowhere (with_link v l ls) ls (with-rises v n l ls s t) t
    (λ x m. among-member x ls (subst T (agree x) (member-among x (with_link v l ls) m)))
    (λ x m. among-member x (with_link v l ls) (subst T (sym (agree x)) (member-among x ls m)))
  where
    agree : (x : Link) → among x (with_link v l ls) ≡ among x ls
    agree x = with-among v n l x ls t ∙ go (same_link l x) refl
      where
        go : (c : Bool) → same_link l x ≡ c → cond c v (among x ls) ≡ among x ls
        go true d = sym e ∙ ap (λ (z : Link). among z ls) (same-link l x (holds d))
        go false d = refl
