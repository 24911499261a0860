-- A message is its head, its tree, and nothing behind it.
-- Assumes nothing.
use mathlib.Core.Path.{◌≡◌, refl, sym, ap, ◌∙◌, subst}
use mathlib.Core.Bool.{false}
use mathlib.Core.List.{List, []}
use Prim.Native.Nat.{ℕ, suc, ◌+◌, ◌≤◌, ◌<◌}
use native.Mathlib.Omega.{arith}
use lib.Dec.{ltb}
use lib.ListN.{length}
use Rattle.meaning.specs.declared.Side.TheVariants.{Requirement as requirement}
use Rattle.meaning.specs.declared.Refusal.{Refusal}
use Rattle.meaning.specs.Refusal.{Answer, good, refused, at, ◌>>=◌}
use Rattle.meaning.specs.Bytes.{Bytes, read_head, unequal}
use Rattle.meaning.proofs.Head.{read-head}
use Rattle.meaning.specs.Tree.{Tree, node, Forest, none, more, Concept, nodes, nodes_f, relabel, relabel_f}
use Rattle.meaning.specs.Requirement.{Label, Requirement, bare}
use Rattle.meaning.specs.Message.{Part, Spot, read_node, with_thresholds, read_requirement}
use Rattle.meaning.specs.Rows.{Holds, HoldsF}
use Rattle.meaning.proofs.Reading.{number-below, pass, stop, stopped, took, taken, below, not-below, good-inj}
use Rattle.readers.specs.declared.Reached.{Reached}
use Rattle.requirement.specs.declared.Message.{Message}
use Rattle.std.specs.Prelude.{Result, Ok, Err}
use Rattle.meaning.specs.declared.Fault.{Fault}
use Rattle.meaning.specs.Rules.{refusal_on}
use Rattle.rows.specs.Packed.{names_in, roles_in, ends_in}
use Rattle.readers.specs.Reading.{reached, spot, PartsHeld, node_in, Outcome, ReadGood, NodeHeld, NodeDone}
use Rattle.requirement.specs.Message.{MessageOutcome, MessageDone, paper_message, counted}
use Rattle.readers.proofs.Outcomes.{outcome-refused, outcome-good}
use Rattle.readers.proofs.Places.{no-parts}
use Rattle.requirement.proofs.Bare.{names, bare_tree, bare-node}

-- a tree without its thresholds has as many nodes
mutual
  unfolding nodes relabel

  pub bare-nodes : (t : Requirement) → nodes (bare t) ≡ nodes t
  bare-nodes (node a f) = ap suc (bare-nodes_f f)

  bare-nodes_f : (f : Forest Label) → nodes_f (relabel_f names f) ≡ nodes_f f
  bare-nodes_f none = refl
  bare-nodes_f (more r t f) = let a = bare-nodes t in let b = bare-nodes_f f in omega arith

-- a tree takes as many rows as it has nodes
module _ (N R E : List ℕ) where
  mutual
    unfolding Holds nodes

    pub tree-rows : (t : Concept) (left i e : ℕ) → Holds N R E t left i e → e ≡ i + nodes t
    tree-rows (node a f) left i e h = omega (arith, forest-rows f _ (i + 1) e h.4)

    forest-rows : (f : Forest ℕ) (left i e : ℕ) → HoldsF N R E f left i e → e ≡ i + nodes_f f
    forest-rows none left i e h = omega (arith, h)
    forest-rows (more r t f) left i e h = omega (arith, tree-rows t left i _ h.2, forest-rows f left _ e h.3)

-- the end that a head gives is that of a length in two bytes
pub head-short : (s : List ℕ) (end : ℕ) → Bytes s → read_head requirement unequal s ≡ good end → end ≤ 65538
head-short s end b e = let h = read-head requirement unequal s end e in omega (arith, h.ends, number-below s 1 2 b)

module _ (s : List ℕ) (B : List ℕ) where
  pub head-refused : (e : Refusal) → read_head requirement unequal s ≡ refused e → MessageDone s B (Err e)
  unfolding read_requirement
  head-refused f e = subst (λ a. MessageOutcome B a (Err f)) (sym (stopped (read_head requirement unequal s) _ _ e)) refl

  module _ (A : List ℕ) (end : ℕ) (h : read_head requirement unequal s ≡ good end) (r : Result Reached Fault) (done : NodeDone false s end 17 0 3 0 0 A B r) where
    abbrev tree : Answer (Tree Label × Spot)
    tree = read_node (with_thresholds s end) s end 17 (spot 3 0 [])

    abbrev here : Outcome (NodeHeld B 17 0 0) end 3 0 A B (node_in false s end 17 (spot 3 0 [])) r
    here = done [] refl (no-parts A)

    tree-refused : (a : Answer (Tree Label × Spot)) (e : Refusal) → (a >>= bare_tree) ≡ refused e → a ≡ refused e
    unfolding ◌>>=◌
    tree-refused (good x) e d = let z : ◌≡◌ {A = ℕ} 0 1 = cc in absurd (omega arith)
    tree-refused (refused f) e d = let z : ◌≡◌ {A = Answer (Concept × Spot)} (refused f) (refused e) = d in cc

    pub whole-refused : (g : Fault) → r ≡ Err g → MessageDone s B (Err (refusal_on requirement g))
    unfolding read_requirement
    whole-refused g e =
        let d = outcome-refused (NodeHeld B 17 0 0) end 3 0 A B (node_in false s end 17 (spot 3 0 [])) r g here e in
        let f = tree-refused tree _ (sym (bare-node s end 17 (spot 3 0 [])) ∙ d) in
        subst (λ a. MessageOutcome B a (Err (refusal_on requirement g))) (sym (took (read_head requirement unequal s) _ end h ∙ stopped tree _ _ f)) refl

    module _ (i j m : ℕ) (e : r ≡ reached i j m) where
      x : (x : Concept × Spot) × (node_in false s end 17 (spot 3 0 []) ≡ good x) × ReadGood (NodeHeld B 17 0 0) end 3 0 A B x.0 x.1 r
          × (x.1.next ≡ i) × (x.1.nodes ≡ j) × (length x.1.parts ≡ m)
      x = outcome-good (NodeHeld B 17 0 0) end 3 0 A B (node_in false s end 17 (spot 3 0 [])) r i j m here e

      y : (y : Tree Label × Spot) × (tree ≡ good y) × (bare_tree y ≡ good x.0)
      y = taken tree bare_tree (sym (bare-node s end 17 (spot 3 0 [])) ∙ x.1)

      same : (bare y.0.0, y.0.1) ≡ x.0
      same = good-inj y.2

      spots : y.0.1 ≡ x.0.1
      spots = ap (λ (z : Concept × Spot). z.1) same

      pub whole-left : i < end → MessageDone s B (Err (at requirement 8 i))
      unfolding read_requirement
      whole-left l =
          let n : y.0.1.next ≡ i = ap (λ (z : Spot). z.next) spots ∙ x.3 in
          subst (λ a. MessageOutcome B a (Err (at requirement 8 i)))
          (sym (took (read_head requirement unequal s) _ end h ∙ took tree _ y.0 y.1 ∙ stop (ltb y.0.1.next end) _ _ (below y.0.1.next end (omega arith))))
          (ap (λ (k : ℕ). Err (at requirement 8 k)) (sym n))

      pub whole-good : end ≤ i → MessageDone s B (Ok (record { nodes = j; parts = m }))
      unfolding read_requirement
      whole-good l =
          let n : y.0.1.next ≡ i = ap (λ (z : Spot). z.next) spots ∙ x.3 in
          let tree' = subst (λ (k : ℕ). Holds (names_in B) (roles_in B) (ends_in B) x.0.0 17 0 k) x.4 x.2.held.tree in
          let held = subst (λ (t : Concept). Holds (names_in B) (roles_in B) (ends_in B) t 17 0 j) (ap (λ (z : Concept × Spot). z.0) (sym same)) tree' in
          let rows : j ≡ nodes y.0.0 = tree-rows (names_in B) (roles_in B) (ends_in B) (bare y.0.0) 17 0 j held ∙ omega (arith, bare-nodes y.0.0) in
          let ps : y.0.1.parts ≡ x.0.1.parts = ap (λ (z : Spot). z.parts) spots in
          subst (λ a. MessageOutcome B a (Ok (record { nodes = j; parts = m })))
          (sym (took (read_head requirement unequal s) _ end h ∙ took tree _ y.0 y.1 ∙ pass (ltb y.0.1.next end) _ _ (not-below y.0.1.next end (omega arith))))
          (record {
            answer = ap (λ (k : ℕ). Ok (record { nodes = k; parts = m })) rows ∙ ap (λ (k : ℕ). Ok (record { nodes = nodes y.0.0; parts = k })) (sym (ap length ps ∙ x.5));
            tree = subst (λ (k : ℕ). Holds (names_in B) (roles_in B) (ends_in B) (bare y.0.0) 17 0 k) rows held;
            few = omega (arith, x.2.further.few, x.4);
            room = omega (arith, x.2.further.room, ap length ps);
            parted = subst (PartsHeld B) (sym ps) x.2.parted;
          })

-- ---- without the rows

pub message-counted : (s B : List ℕ) (r : Result Message Refusal) → MessageDone s B r → paper_message r ≡ counted (read_requirement s)
message-counted s B r h = go (read_requirement s) h
  where
    go : (a : Answer (Requirement × List Part)) → MessageOutcome B a r → paper_message r ≡ counted a
    go (good x) m = ap paper_message m.answer
    go (refused e) m = ap paper_message m
