-- One pass over a run of links: the greatest value of an end that is not out, and the first link whose end has it.
-- Assumes nothing.
use mathlib.Core.Path.{◌≡◌, refl, sym, ap, subst, ◌∙◌}
use mathlib.Core.Bool.{Bool, true, false, cond}
use mathlib.Core.Logic.{◌⊎◌, inl, inr}
use mathlib.Core.List.{List, [], ◌∷◌}
use mathlib.Core.Option.{some}
use mathlib.Core.Option.{none as nowhere}
use Prim.Native.Nat.{ℕ, ◌+◌, ◌-◌, ◌≤◌, ◌<◌}
use native.Mathlib.Nat.{le_refl}
use native.Mathlib.Omega.{arith}
use borrow.Author.Tests.{lt-ltb, le-ltb}
use Rattle.std.specs.Prelude.{Option, Some, None, is_some}
use Rattle.std.proofs.lemmas.Option.{none-some, same_Some}
use Rattle.meaning.specs.Register.{Register, withdrawn, except}
use Rattle.meaning.specs.Degree.{best}
use Rattle.meaning.specs.Shown.{first_best, pick}
use Rattle.meaning.proofs.Best.{pick-none, pick_some}
use Rattle.meaning.proofs.Tests.{true-false}
use Rattle.meaning.proofs.Same.{Alike, best-same, pick_same}
use Rattle.graph.specs.Judged.{role_no, end_no, spanned}
use Rattle.graph.proofs.Rising.{one_on}
use Rattle.graph.proofs.Spans.{kept, kept_step, kept-end}
use Rattle.folds.specs.declared.Best.{Best}
use Rattle.folds.specs.Folded.{Top, Chosen}

pub there_is : {A : Type 0} (o : Option A) → is_some o ≡ true → o ≡ None → ⊥
there_is o e z = true-false e (ap is_some z)

pub there_is_none : {A : Type 0} (o : Option A) → is_some o ≡ false → o ≡ None
there_is_none None e = refl
there_is_none (Some x) e = absurd (true-false refl e)

module _ (out : ℕ → Bool) (v e : ℕ → ℕ) where
  -- the ends of the links from k up to `end` that are not out
  abbrev ends : ℕ → ℕ → List ℕ
  ends = kept out e

  -- the best is that of link l
  pub record At (first : ℕ) (b : Best) (k l : ℕ) : Type 0 where
    pub low : first ≤ l
    pub high : l < k
    pub value : b.value ≡ v (e l)
    pub rest : (end : ℕ) → k ≤ end → pick v (ends first end) ≡ some (first_best v (e l) (ends k end))

  -- the links before the k-th are looked at; wherever they end, the best of the others is compared with the best so far
  pub record Scan (first : ℕ) (b : Best) (k : ℕ) : Type 0 where
    pub none : b.link ≡ None → (b.value ≡ 0) × ((end : ℕ) → k ≤ end → pick v (ends first end) ≡ pick v (ends k end))
    pub at : (l : ℕ) → b.link ≡ Some l → At first b k l

  pub scan-start : (first : ℕ) → Scan first (record { value = 0; link = None }) first
  scan-start first = record { none = λ _. (refl, λ end l. refl); at = λ l z. absurd (none-some l z) }

  module _ {first : ℕ} {b : Best} {k : ℕ} (s : Scan first b k) where
    -- the k-th end does not count
    past : ((end : ℕ) → k + 1 ≤ end → (b.link ≡ None → pick v (ends k end) ≡ pick v (ends (k + 1) end))
        × ((l : ℕ) → b.link ≡ Some l → first_best v (e l) (ends k end) ≡ first_best v (e l) (ends (k + 1) end))) → Scan first b (k + 1)
    past h = record {
      none = λ z. let q = s.none z in (q.0, λ end l. q.1 end (omega arith) ∙ (h end l).0 z);
      at = λ l z.
          let q = s.at l z in
          record { low = q.low; high = omega (arith, q.high); value = q.value; rest = λ end m. q.rest end (omega arith) ∙ ap some ((h end m).1 l z) };
    }

    -- it is out
    pub scan-out : out (e k) ≡ true → Scan first b (k + 1)
    scan-out o = past (λ end l. (λ z. ap (pick v) (gone end l), λ m z. ap (first_best v (e m)) (gone end l)))
      where
        gone : (end : ℕ) → k + 1 ≤ end → ends k end ≡ ends (k + 1) end
        gone end l = kept_step out e k end (omega arith) ∙ ap (λ (d : Bool). cond d (ends (k + 1) end) (e k ∷ ends (k + 1) end)) o

    -- its value is no better than one before
    pub scan-pass : v (e k) ≤ b.value → (b.link ≡ None → ⊥) → Scan first b (k + 1)
    unfolding first_best
    scan-pass h some-is = past (λ end l. (λ z. absurd (some-is z), λ m z. ap (first_best v (e m)) (kept_step out e k end (omega arith)) ∙ go m z (out (e k)) end))
      where
        go : (m : ℕ) → b.link ≡ Some m → (c : Bool) (end : ℕ)
            → first_best v (e m) (cond c (ends (k + 1) end) (e k ∷ ends (k + 1) end)) ≡ first_best v (e m) (ends (k + 1) end)
        go m z true end = refl
        go m z false end =
            ap (λ (c : Bool). first_best v (cond c (e k) (e m)) (ends (k + 1) end)) (le-ltb (v (e m)) (v (e k)) (let q = (s.at m z).value in omega (arith, h, q)))

    -- it is not out, and better, or the first
    pub scan-take : {w : ℕ} → first ≤ k → w ≡ v (e k) → (b.link ≡ None) ⊎ (b.value < w) → out (e k) ≡ false → Scan first (record { value = w; link = Some k }) (k + 1)
    unfolding pick first_best
    scan-take {w} low ew h o = record {
      none = λ z. absurd (none-some k (sym z));
      at = λ l z.
          subst (λ (m : ℕ). At first (record { value = w; link = Some k }) (k + 1) m) (same_Some k l z)
          (record { low = low; high = omega arith; value = ew; rest = λ end m. go b.link refl end (omega arith) });
    }
      where
        there : (end : ℕ) → k < end → ends k end ≡ e k ∷ ends (k + 1) end
        there end l = kept_step out e k end l ∙ ap (λ (d : Bool). cond d (ends (k + 1) end) (e k ∷ ends (k + 1) end)) o

        greater : (b.link ≡ None) ⊎ (b.value < w) → (l : ℕ) → b.link ≡ Some l → b.value < w
        greater (inl z) l y = absurd (none-some l (sym z ∙ y))
        greater (inr z) l y = z

        go : (x : Option ℕ) → b.link ≡ x → (end : ℕ) → k < end → pick v (ends first end) ≡ some (first_best v (e k) (ends (k + 1) end))
        go None z end l = (s.none z).1 end (omega arith) ∙ ap (pick v) (there end l)
        go (Some m) z end l =
            (s.at m z).rest end (omega arith) ∙ ap some (ap (first_best v (e m)) (there end l)
            ∙ ap (λ (c : Bool). first_best v (cond c (e k) (e m)) (ends (k + 1) end))
            (lt-ltb (v (e m)) (v (e k)) (let q = (s.at m z).value in let y = greater h m z in omega (arith, ew))))

-- where they end
pub scan-end : {v : ℕ → ℕ} (g : Register) {first end : ℕ} {b : Best} → Scan (withdrawn g) v (end_no g) first b end
    → Top g v (except (withdrawn g) (spanned (end_no g) first end)) first end b
unfolding except pick first_best
scan-end {v} g {first} {end} {b} s = record {
  value = go b.link refl;
  link = λ k z. let q = s.at k z in (q.low, q.high, chosen k z);
  none = λ z. (s.none z).1 end (le_refl end) ∙ empty _ nothing;
}
  where
    nothing : except (withdrawn g) (spanned (end_no g) end end) ≡ []
    nothing = kept-end (withdrawn g) (end_no g) end end (le_refl end)

    last : (x : ℕ) (zs : List ℕ) → zs ≡ [] → first_best v x zs ≡ x
    last x zs e = rw e refl

    empty : (zs : List ℕ) → zs ≡ [] → pick v zs ≡ nowhere
    empty zs e = rw e refl

    chosen : (k : ℕ) → b.link ≡ Some k → pick v (except (withdrawn g) (spanned (end_no g) first end)) ≡ some (end_no g k)
    chosen k z = (s.at k z).rest end (le_refl end) ∙ ap some (last (end_no g k) _ nothing)

    go : (x : Option ℕ) → b.link ≡ x → b.value ≡ best v (except (withdrawn g) (spanned (end_no g) first end))
    go None z = (s.none z).0 ∙ sym (pick-none v _ ((s.none z).1 end (le_refl end) ∙ empty _ nothing))
    go (Some k) z = (s.at k z).value ∙ (pick_some v _ (end_no g k) (chosen k z)).1

-- ---- the run of links of no higher role

pub record Passing (g : Register) (role : ℕ) (v : ℕ → ℕ) (first : ℕ) (b : Best) (k : ℕ) : Type 0 where
  pub before : first < k → role_no g (k - 1) < role + 1
  pub scan : Scan (withdrawn g) v (end_no g) first b k

pub passing-start : (g : Register) (role : ℕ) (v : ℕ → ℕ) (first : ℕ) → Passing g role v first (record { value = 0; link = None }) first
passing-start g role v first = record { before = λ l. absurd (omega arith); scan = scan-start (withdrawn g) v (end_no g) first }

module _ {g : Register} {role : ℕ} {v : ℕ → ℕ} {first : ℕ} {b : Best} {k : ℕ} (p : Passing g role v first b k) where
  pub passing-end : {stop : ℕ} → first ≤ k → k ≤ stop → (k < stop → role < role_no g k) → Chosen g role first stop v b
  passing-end l m h = record {
    end = k;
    parted = record { behind = l; within = m; before = p.before; here = λ n. let z = h n in omega arith };
    top = scan-end g p.scan;
  }

  module _ (r : role_no g k ≤ role) where
    onward : first < k + 1 → role_no g (k + 1 - 1) < role + 1
    onward l = one_on g k (role + 1) (omega arith)

    pub passing-out : withdrawn g (end_no g k) ≡ true → Passing g role v first b (k + 1)
    passing-out o = record { before = onward; scan = scan-out (withdrawn g) v (end_no g) p.scan o }

    pub passing-by : v (end_no g k) ≤ b.value → (b.link ≡ None → ⊥) → Passing g role v first b (k + 1)
    passing-by h n = record { before = onward; scan = scan-pass (withdrawn g) v (end_no g) p.scan h n }

    pub passing-take : {w : ℕ} → first ≤ k → w ≡ v (end_no g k) → (b.link ≡ None) ⊎ (b.value < w) → withdrawn g (end_no g k) ≡ false
        → Passing g role v first (record { value = w; link = Some k }) (k + 1)
    passing-take l e h o = record { before = onward; scan = scan-take (withdrawn g) v (end_no g) p.scan l e h o }

-- for values that are the same at the ends
pub top-same : (g : Register) (v v' : ℕ → ℕ) (ys : List ℕ) (first end : ℕ) (b : Best) → Alike v v' ys → Top g v ys first end b → Top g v' ys first end b
top-same g v v' ys first end b e t = record {
  value = t.value ∙ best-same v v' ys e;
  link = λ k z. let q = t.link k z in (q.0, q.1, sym (pick_same v v' ys e) ∙ q.2);
  none = λ z. sym (pick_same v v' ys e) ∙ t.none z;
}
