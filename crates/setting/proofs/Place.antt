-- Where a link stands, or is to stand, in the order.
-- Assumes nothing.
use mathlib.Core.Path.{◌≡◌, refl, sym, ap, ◌∙◌, subst}
use mathlib.Core.Logic.{◌⊎◌, inl, inr}
use mathlib.Core.Bool.{Bool, true, false, ◌&&◌, ◌||◌, cond}
use mathlib.Core.List.Memᴰ
use mathlib.Core.List.{List, [], ◌∷◌, ◌++◌, Memᴰ}
use mathlib.Core.Option.{Option, some}
use Prim.Native.Nat.{ℕ, zero, suc, ◌+◌, ◌*◌, ◌≤◌, ◌<◌}
use native.Mathlib.Omega.{arith}
use lib.Dec.{T, ltb, eqb, eqb→eq, lt→ltb, ltb→lt}
use lib.ListN.{length, get_or, take, drop}
use Rattle.meaning.specs.Bounds.{most_items, most_role}
use Rattle.meaning.specs.Register.{Link, same_link, any_link, rises, links_of}
use Rattle.meaning.specs.Session.{insert, without}
use Rattle.meaning.proofs.Tests.{holds, is_true, is_false, true-false, bool_eq, is-eqb, both-and}
use Rattle.meaning.proofs.Reading.{at_most, not-le, below, not-below}
use Rattle.meaning.proofs.Image.{right}
use Rattle.meaning.proofs.Links.{same-link, Below, rises-below, all-below}
use Rattle.meaning.proofs.SessionLinks.{among, among-member, below_both}
use Rattle.register.specs.Reading.{key, Small}
use Rattle.register.specs.Image.{no_link}
use Rattle.links.proofs.Rising.{rises-key}
use Rattle.setting.specs.Setting.{PlaceOf}

-- a link's number says which it is
key-parts : (a r b c q d : ℕ) → r ≤ most_role → b < 65536 → q ≤ most_role → d < 65536 → (a * 256 + r) * 65536 + b ≡ (c * 256 + q) * 65536 + d → (a ≡ c) × (r ≡ q) × (b ≡ d)
key-parts a r b c q d h i j k e = (omega arith, omega arith, omega arith)

pub same_key : (l m : Link) → Small l → Small m → same_link l m ≡ eqb (key l) (key m)
same_key l m a b = bool_eq (same_link l m) (eqb (key l) (key m)) to from
  where
    to : T (same_link l m) → T (eqb (key l) (key m))
    to t = is-eqb (ap key (same-link l m t))

    from : T (eqb (key l) (key m)) → T (same_link l m)
    from t =
        let q = key-parts l.from l.role l.to m.from m.role m.to a.0 a.1 b.0 b.1 (eqb→eq (key l) (key m) t) in
        both-and (eqb l.from m.from && eqb l.role m.role) _ (both-and (eqb l.from m.from) _ (is-eqb q.0) (is-eqb q.1)) (is-eqb q.2)

-- the first of the links, and the rest
place_rest : (m : Link) (ms : List Link) (number k : ℕ) → PlaceOf (m ∷ ms) number (suc k) → PlaceOf ms number k
place_rest m ms number k p = record {
  within = omega (arith, p.within);
  below = λ j h. p.below (suc j) (omega arith);
  next = λ h. p.next (omega arith);
}

module _ (n : ℕ) (few : n ≤ most_items) (l : Link) (s : Small l) where
  small : (before : Option Link) (m : Link) (ms : List Link) → T (links_of n before (m ∷ ms)) → Small m
  small before m ms t = let q = (right n before m ms t).0 in (q.role, omega (arith, q.to))

  -- the k-th is the link, or it is not
  abbrev At : List Link → ℕ → Bool
  At ls k = ltb k (length ls) && eqb (key (get_or ls k no_link)) (key l)

  at_first : (m : Link) (ms : List Link) → At (m ∷ ms) 0 ≡ eqb (key m) (key l)
  at_first m ms = ap (λ (b : Bool). b && eqb (key m) (key l)) (below 0 (suc (length ms)) (omega arith))

  not_first : (m : Link) (ms : List Link) → At (m ∷ ms) 0 ≡ false → key m ≡ key l → ⊥
  not_first m ms e d = true-false (is_true (eqb (key m) (key l)) (is-eqb d)) (sym (at_first m ms) ∙ e)

  at_rest : (m : Link) (ms : List Link) (k : ℕ) → At (m ∷ ms) (suc k) ≡ At ms k
  at_rest m ms k =
      ap (λ (b : Bool). b && eqb (key (get_or ms k no_link)) (key l))
      (bool_eq (ltb (suc k) (suc (length ms))) (ltb k (length ms))
      (λ t. let h = ltb→lt (suc k) (suc (length ms)) t in lt→ltb k (length ms) (omega arith))
      (λ t. let h = ltb→lt k (length ms) t in lt→ltb (suc k) (suc (length ms)) (omega arith)))

  -- a link below the first is none of them
  none_above : (before : Option Link) (m : Link) (ms : List Link) → T (links_of n before (m ∷ ms)) → T (rises l m) → among l (m ∷ ms) ≡ false
  none_above before m ms t r = is_false (among l (m ∷ ms)) (λ u. go (Memᴰ.cases_cons (among-member l (m ∷ ms) u)))
    where
      b : Below l m
      b = rises-below l m r

      go : (l ≡ m) ⊎ Memᴰ l ms → ⊥
      go (inl e) = let c : Below m m = subst (λ (z : Link). Below z m) e b in below_both c c
      go (inr d) = below_both b (all-below n m ms (right n before m ms t).1 l d)

  first-rises : (before : Option Link) (m : Link) (ms : List Link) → T (links_of n before (m ∷ ms)) → key l < key m → rises l m ≡ true
  first-rises before m ms t h = rises-key l m s (small before m ms t) ∙ at_most (key l + 1) (key m) (omega arith)

  first-passed : (before : Option Link) (m : Link) (ms : List Link) → T (links_of n before (m ∷ ms)) → key m < key l → (rises l m ≡ false) × (same_link l m ≡ false)
  first-passed before m ms t h =
      let b = small before m ms t in (
        rises-key l m s b ∙ not-le (key l + 1) (key m) (omega arith),
        same_key l m s b ∙ is_false (eqb (key l) (key m)) (λ u. let e = eqb→eq (key l) (key m) u in omega arith),
      )

  pub place-among : (before : Option Link) (ls : List Link) (k : ℕ) → T (links_of n before ls) → PlaceOf ls (key l) k → among l ls ≡ At ls k
  unfolding any_link
  place-among before [] k t p = sym (ap (λ (b : Bool). b && eqb (key no_link) (key l)) (not-below k 0 (omega arith)) ∙ refl)
  place-among before (m ∷ ms) zero t p = go (eqb (key m) (key l)) refl ∙ sym (at_first m ms)
    where
      go : (b : Bool) → eqb (key m) (key l) ≡ b → among l (m ∷ ms) ≡ b
      go true e =
          ap (λ (b : Bool). b || among l ms) (same_key l m s (small before m ms t) ∙ is_true (eqb (key l) (key m)) (is-eqb (sym (eqb→eq (key m) (key l) (holds e)))))
      go false e =
          let d : key m ≡ key l → ⊥ = λ d. true-false (is_true (eqb (key m) (key l)) (is-eqb d)) e in
          none_above before m ms t (holds (first-rises before m ms t (omega (arith, p.next (omega arith), d))))
  place-among before (m ∷ ms) (suc k) t p =
      ap (λ (b : Bool). b || among l ms) (first-passed before m ms t (p.below 0 (omega arith))).1
      ∙ place-among (some m) ms k (right n before m ms t).1 (place_rest m ms (key l) k p) ∙ sym (at_rest m ms k)

  pub place-insert : (before : Option Link) (ls : List Link) (k : ℕ) → T (links_of n before ls) → PlaceOf ls (key l) k → At ls k ≡ false
      → insert l ls ≡ take k ls ++ l ∷ drop k ls
  unfolding insert
  place-insert before [] k t p e = let z : k ≡ 0 = omega (arith, p.within) in subst (λ (j : ℕ). l ∷ [] ≡ take j [] ++ l ∷ drop j []) (sym z) refl
  place-insert before (m ∷ ms) zero t p e =
      let d = not_first m ms e in
      ap (λ (b : Bool). cond b (l ∷ m ∷ ms) (cond (same_link l m) (m ∷ ms) (m ∷ insert l ms)))
      (first-rises before m ms t (omega (arith, p.next (omega arith), d)))
  place-insert before (m ∷ ms) (suc k) t p e =
      let q = first-passed before m ms t (p.below 0 (omega arith)) in
      ap (λ (b : Bool). cond b (l ∷ m ∷ ms) (cond (same_link l m) (m ∷ ms) (m ∷ insert l ms))) q.0
      ∙ ap (λ (b : Bool). cond b (m ∷ ms) (m ∷ insert l ms)) q.1
      ∙ ap (λ (z : List Link). m ∷ z) (place-insert (some m) ms k (right n before m ms t).1 (place_rest m ms (key l) k p) (sym (at_rest m ms k) ∙ e))

  pub place-without : (before : Option Link) (ls : List Link) (k : ℕ) → T (links_of n before ls) → PlaceOf ls (key l) k → At ls k ≡ true
      → without l ls ≡ take k ls ++ drop (suc k) ls
  unfolding without
  place-without before [] k t p e = absurd (true-false e (ap (λ (b : Bool). b && eqb (key no_link) (key l)) (not-below k 0 (omega arith))))
  place-without before (m ∷ ms) zero t p e =
      ap (λ (b : Bool). cond b ms (m ∷ without l ms))
      (same_key l m s (small before m ms t) ∙ is_true (eqb (key l) (key m)) (is-eqb (sym (eqb→eq (key m) (key l) (holds (sym (at_first m ms) ∙ e))))))
  place-without before (m ∷ ms) (suc k) t p e =
      let q = first-passed before m ms t (p.below 0 (omega arith)) in
      ap (λ (b : Bool). cond b ms (m ∷ without l ms)) q.1
      ∙ ap (λ (z : List Link). m ∷ z) (place-without (some m) ms k (right n before m ms t).1 (place_rest m ms (key l) k p) (sym (at_rest m ms k) ∙ e))
