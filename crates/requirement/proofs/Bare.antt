-- Reading a requirement and forgetting its thresholds is reading its names alone: the readers with `label_in` answer for the tree without thresholds.
-- Assumes nothing.
use mathlib.Core.Path.{◌≡◌, refl, sym, ap, ◌∙◌}
use mathlib.Core.Bool.{false}
use mathlib.Core.List.{List, [], ◌∷◌}
use Prim.Native.Nat.{ℕ, zero, suc, ◌+◌}
use lib.Dec.{ltb, leb}
use Rattle.meaning.specs.declared.Side.TheVariants.{Requirement as requirement}
use Rattle.meaning.specs.declared.Refusal.{Refusal}
use Rattle.meaning.specs.Refusal.{Answer, good, refused, at, refuse_if, ◌>>=◌, ◌>>◌}
use Rattle.meaning.specs.Bytes.{number, fields}
use Rattle.meaning.specs.Tree.{Tree, node, Forest, none, more, Concept, relabel, relabel_f}
use Rattle.meaning.specs.Requirement.{Label}
use Rattle.meaning.specs.Message.{Spot, passed, read_children, read_node, with_thresholds}
use Rattle.meaning.specs.Bounds.{most_nodes}
use Rattle.fixed.specs.Spots.{label_in, node_in}

-- ---- steps put together otherwise

test-over : {A B : Type 0} (a : Answer (Unit {0})) (k : Answer A) (f : A → Answer B) → ((a >> k) >>= f) ≡ (a >> (k >>= f))
unfolding ◌>>=◌ ◌>>◌
test-over (good u) k f = refl
test-over (refused r) k f = refl

step-over : {A B C : Type 0} (a : Answer A) (k : A → Answer B) (f : B → Answer C) → ((a >>= k) >>= f) ≡ (a >>= λ x. (k x >>= f))
unfolding ◌>>=◌
step-over (good x) k f = refl
step-over (refused r) k f = refl

step_same : {A B : Type 0} (a : Answer A) (k l : A → Answer B) → ((x : A) → k x ≡ l x) → (a >>= k) ≡ (a >>= l)
unfolding ◌>>=◌
step_same (good x) k l h = h x
step_same (refused r) k l h = refl

good-step : {A B : Type 0} (x : A) (f : A → Answer B) → (good x >>= f) ≡ f x
unfolding ◌>>=◌
good-step x f = refl

refused-step : {A B : Type 0} (r : Refusal) (f : A → Answer B) → (refused r >>= f) ≡ refused r
unfolding ◌>>=◌
refused-step r f = refl

-- ---- without thresholds

abbrev pub names : Label → ℕ
names a = a.names

abbrev pub bare_tree : Tree Label × Spot → Answer (Concept × Spot)
bare_tree x = good (relabel names x.0, x.1)

abbrev bare_forest : Forest Label × Spot → Answer (Forest ℕ × Spot)
bare_forest x = good (relabel_f names x.0, x.1)

module _ (s : List ℕ) (end : ℕ) where
  abbrev lab : Spot → Answer (Label × Spot)
  lab = with_thresholds s end

  bare-children : (read : Spot → Answer (Tree Label × Spot)) (read' : Spot → Answer (Concept × Spot)) → ((z : Spot) → read' z ≡ (read z >>= bare_tree)) → (k : ℕ) (w : Spot)
      → read_children (label_in false s end) s end read' k w ≡ (read_children lab s end read k w >>= bare_forest)
  unfolding read_children relabel
  bare-children read read' h zero w = sym (good-step (none, w) bare_forest)
  bare-children read read' h (suc k) w =
      let role = number s w.next 1 in
      ap (λ a. fields requirement end (◌∷◌ 1 []) w.next >> (refuse_if (ltb 31 role) (at requirement 7 w.next) >> a))
      (
      ap (λ a. a >>= λ x. (read_children (label_in false s end) s end read' k x.1 >>= λ y. good (more role x.0 y.0, y.1))) (h (passed 1 w))
      ∙ step-over (read (passed 1 w)) bare_tree _
      ∙ step_same (read (passed 1 w)) _ _ (λ x.
      good-step (relabel names x.0, x.1) _
      ∙ ap (λ a. a >>= λ y. good (more role (relabel names x.0) y.0, y.1)) (bare-children read read' h k x.1)
      ∙ step-over (read_children lab s end read k x.1) bare_forest _
      ∙ step_same (read_children lab s end read k x.1) _ _ (λ y. good-step (relabel_f names y.0, y.1) _ ∙ sym (good-step (more role x.0 y.0, y.1) bare_forest))
      ∙ sym (step-over (read_children lab s end read k x.1) _ bare_forest))
      ∙ sym (step-over (read (passed 1 w)) _ bare_forest)
      )
      ∙ sym (
      test-over (fields requirement end (◌∷◌ 1 []) w.next) _ bare_forest
      ∙ ap (λ a. fields requirement end (◌∷◌ 1 []) w.next >> a) (test-over (refuse_if (ltb 31 role) (at requirement 7 w.next)) _ bare_forest))

  pub bare-node : (left : ℕ) (w : Spot) → node_in false s end left w ≡ (read_node lab s end left w >>= bare_tree)
  unfolding read_node relabel
  bare-node zero w =
      let head = fields requirement end (◌∷◌ 8 (◌∷◌ 1 (◌∷◌ 1 []))) w.next in
      sym (test-over head _ bare_tree ∙ ap (λ a. head >> a) (refused-step _ bare_tree))
  bare-node (suc left) w =
      let head = fields requirement end (◌∷◌ 8 (◌∷◌ 1 (◌∷◌ 1 []))) w.next in
      let many = refuse_if (leb most_nodes w.nodes) (at requirement 10 w.next) in
      let count = number s (w.next + 9) 1 in
      ap (λ a. head >> (many >> a))
      (
      step-over (lab w) (λ x. good (x.0.names, x.1)) _
      ∙ step_same (lab w) _ _ (λ x.
      good-step (x.0.names, x.1) _
      ∙ ap (λ a. a >>= λ y. good (node x.0.names y.0, y.1)) (bare-children (λ z. read_node lab s end left z) (λ z. node_in false s end left z) (λ z. bare-node left z) count x.1)
      ∙ step-over (read_children lab s end (λ z. read_node lab s end left z) count x.1) bare_forest _
      ∙ step_same (read_children lab s end (λ z. read_node lab s end left z) count x.1) _ _ (λ y. good-step (relabel_f names y.0, y.1) _ ∙ sym (good-step (node x.0 y.0, y.1) bare_tree))
      ∙ sym (step-over (read_children lab s end (λ z. read_node lab s end left z) count x.1) _ bare_tree))
      ∙ sym (step-over (lab w) _ bare_tree)
      )
      ∙ sym (test-over head _ bare_tree ∙ ap (λ a. head >> a) (test-over many _ bare_tree))
