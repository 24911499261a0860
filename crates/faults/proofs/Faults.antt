-- What reading would refuse: a number told is that of the first test that fails.
-- Assumes nothing.
use mathlib.Core.Path.{◌≡◌, refl, sym, ap, ap₂, ◌∙◌}
use mathlib.Core.Bool.{Bool, true, false, ◌&&◌, not}
use mathlib.Core.List.{List}
use Prim.Native.Nat.{ℕ, suc, ◌+◌, ◌≤◌, ◌<◌}
use native.Mathlib.Omega.{arith}
use lib.Dec.{leb, ltb}
use Rattle.std.specs.Prelude.{Err}
use Rattle.meaning.specs.declared.Rule.{Rule}
use Rattle.meaning.specs.Rules.{number_of}
use Rattle.meaning.specs.Refusal.{Answer, good, refused, on_call, refuse_if, ◌>>◌}
use Rattle.meaning.specs.Bounds.{most_role, most_levels, most_nodes, most_thresholds, most_size}
use Rattle.meaning.specs.Fraction.{wrong_with, lawful}
use Rattle.meaning.specs.Reduce.{reduce, size}
use Rattle.meaning.specs.Lists.{Listed, Limit, concept}
use Rattle.meaning.specs.Writing.{node_at, node_fits, nodes_fit, limit_fits}
use Rattle.meaning.proofs.Reading.{pass, stop, halted, went, not-below, below, at_most, not-le}
use Rattle.meaning.proofs.FractionRows.{found_none, found_some}
use Rattle.meaning.proofs.ListsFit.{test-role, fits-node}
use Rattle.lists.specs.Handed.{nodes_to}
use Rattle.faults.specs.Faulty.{told}
use Rattle.lists.proofs.Peeled.{node-first, node-none}

-- ---- a rule told, and what follows

pub told-stop : (r : Rule) (a b : Answer (Unit {0})) → told {A = Unit {0}} (Err r) ≡ a → told {A = Unit {0}} (Err r) ≡ (a >> b)
told-stop r a b e = sym (halted a b (on_call (number_of r)) (sym e))

pub told-go : (a b : Answer (Unit {0})) → good tt ≡ a → (a >> b) ≡ b
told-go a b e = went a b (sym e)

number-some : (r : Rule) → number_of r ≡ 0 → ⊥
number-some r e = grind arith

last-stop : (b : Bool) (n : ℕ) → b ≡ true → refuse_if b (on_call n) ≡ refused (on_call n)
unfolding refuse_if
last-stop b n e = rw e refl

last-pass : (b : Bool) (n : ℕ) → b ≡ false → refuse_if b (on_call n) ≡ good tt
unfolding refuse_if
last-pass b n e = rw e refl

-- ---- a node

module _ (i : ℕ) (x : Listed ℕ) where
  pub node-role : 0 < i → most_role < x.role → refused (on_call 7) ≡ node_fits i x
  unfolding node_fits
  node-role h l = sym (stop (ltb 0 i && ltb most_role x.role) _ _ (rw (below 0 i h, below most_role x.role l) refl))

  pub node-level : (0 < i → x.role ≤ most_role) → most_levels ≤ x.depth → refused (on_call 9) ≡ node_fits i x
  unfolding node_fits
  node-level r l = sym (pass _ _ _ (test-role i x.role r) ∙ stop (leb most_levels x.depth) _ _ (at_most most_levels x.depth l))

  pub node-many : (0 < i → x.role ≤ most_role) → x.depth < most_levels → most_nodes ≤ i → refused (on_call 10) ≡ node_fits i x
  unfolding node_fits
  node-many r l m =
      sym (pass _ _ _ (test-role i x.role r) ∙ pass (leb most_levels x.depth) _ _ (not-le most_levels x.depth l)
      ∙ last-stop (leb most_nodes i) 10 (at_most most_nodes i m))

  pub node-good : (0 < i → x.role ≤ most_role) → x.depth < most_levels → i < most_nodes → good tt ≡ node_fits i x
  node-good r l m = sym (fits-node i x (r, l, m))

-- ---- nodes

module _ (list : List ℕ) (k end : ℕ) where
  pub nodes-none : end ≤ k → good tt ≡ nodes_fit k (nodes_to list k end)
  unfolding nodes_fit
  nodes-none h = sym (ap (nodes_fit k) (node-none list k end h))

  pub nodes-stop : (r : Rule) → k < end → told {A = Unit {0}} (Err r) ≡ node_fits k (node_at list k)
      → told {A = Unit {0}} (Err r) ≡ nodes_fit k (nodes_to list k end)
  unfolding nodes_fit
  nodes-stop r h e = told-stop r _ _ e ∙ sym (ap (nodes_fit k) (node-first list k end h))

  pub nodes-next : k < end → good tt ≡ node_fits k (node_at list k) → nodes_fit k (nodes_to list k end) ≡ nodes_fit (k + 1) (nodes_to list (k + 1) end)
  unfolding nodes_fit
  nodes-next h e =
      let n : suc k ≡ k + 1 = omega arith in
      ap (nodes_fit k) (node-first list k end h) ∙ told-go (node_fits k (node_at list k)) _ e ∙ ap (λ (z : ℕ). nodes_fit z (nodes_to list (k + 1) end)) n

-- ---- a threshold

-- the tests before that of its inner list are passed
pub record Begun (k : ℕ) (h : Limit) : Type 0 where
  pub few : k < most_thresholds
  pub kind : h.how ≤ 3
  pub right : wrong_with h.p h.q ≡ 0

pub begun : {p q : ℕ} (k : ℕ) (h : Limit) → k < most_thresholds → h.how ≤ 3 → p ≡ h.p → q ≡ h.q → 0 ≡ wrong_with p q → Begun k h
begun k h f l ep eq z = record { few = f; kind = l; right = sym (z ∙ ap₂ wrong_with ep eq) }

module _ (k : ℕ) (h : Limit) where
  pub limit-many : most_thresholds ≤ k → refused (on_call 12) ≡ limit_fits k h
  unfolding limit_fits
  limit-many l = sym (stop (leb most_thresholds k) _ _ (at_most most_thresholds k l))

  pub limit-how : k < most_thresholds → 3 < h.how → refused (on_call 13) ≡ limit_fits k h
  unfolding limit_fits
  limit-how f l = sym (pass (leb most_thresholds k) _ _ (not-le most_thresholds k f) ∙ stop (ltb 3 h.how) _ _ (below 3 h.how l))

  pub limit-wrong : k < most_thresholds → h.how ≤ 3 → (r : Rule) → number_of r ≡ wrong_with h.p h.q → told {A = Unit {0}} (Err r) ≡ limit_fits k h
  unfolding limit_fits
  limit-wrong f l r is =
      ap (λ (m : ℕ). refused (on_call m)) is
      ∙ sym (pass (leb most_thresholds k) _ _ (not-le most_thresholds k f) ∙ pass (ltb 3 h.how) _ _ (not-below 3 h.how l)
      ∙ stop (not (lawful h.p h.q)) _ _ (found_some (number_of r) h.p h.q is (number-some r)))

  module _ (b : Begun k h) where
    left : limit_fits k h ≡ (nodes_fit 0 h.inner >> refuse_if (ltb most_size (size (reduce (concept h.inner)))) (on_call 14))
    unfolding limit_fits
    left =
        pass (leb most_thresholds k) _ _ (not-le most_thresholds k b.few) ∙ pass (ltb 3 h.how) _ _ (not-below 3 h.how b.kind)
        ∙ pass (not (lawful h.p h.q)) _ _ (found_none _ h.p h.q refl b.right)

    -- what the tests of its inner list say, which is xs
    module _ (xs : List (Listed ℕ)) (same : xs ≡ h.inner) where
      pub limit-nodes : (r : Rule) → told {A = Unit {0}} (Err r) ≡ nodes_fit 0 xs → told {A = Unit {0}} (Err r) ≡ limit_fits k h
      limit-nodes r e = told-stop r _ _ (e ∙ ap (nodes_fit 0) same) ∙ sym left

      module _ (e : good tt ≡ nodes_fit 0 xs) (s : ℕ) (d : s ≡ size (reduce (concept xs))) where
        sized : s ≡ size (reduce (concept h.inner))
        sized = d ∙ ap (λ (y : List (Listed ℕ)). size (reduce (concept y))) same

        last : limit_fits k h ≡ refuse_if (ltb most_size (size (reduce (concept h.inner)))) (on_call 14)
        last = left ∙ told-go (nodes_fit 0 h.inner) _ (e ∙ ap (nodes_fit 0) same)

        pub limit-size : most_size < s → refused (on_call 14) ≡ limit_fits k h
        limit-size l = sym (last ∙ last-stop _ 14 (below most_size (size (reduce (concept h.inner))) (omega (arith, sized, l))))

        pub limit-good : s ≤ most_size → good tt ≡ limit_fits k h
        limit-good l = sym (last ∙ last-pass _ 14 (not-below most_size (size (reduce (concept h.inner))) (omega (arith, sized, l))))
