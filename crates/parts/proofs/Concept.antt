-- An inner concept that was read again: the rows hold it.
-- Assumes nothing.
use mathlib.Core.Path.{◌≡◌, refl, subst}
use mathlib.Core.Bool.{true}
use mathlib.Core.List.{List, []}
use Prim.Native.Nat.{ℕ}
use native.Mathlib.Omega.{arith}
use Rattle.meaning.specs.Refusal.{Answer}
use Rattle.meaning.specs.Tree.{Concept, nodes}
use Rattle.meaning.specs.Message.{Spot}
use Rattle.meaning.specs.Rows.{Holds}
use Rattle.std.specs.Prelude.{Result}
use Rattle.meaning.specs.declared.Fault.{Fault}
use Rattle.readers.specs.declared.Reached.{Reached}
use Rattle.rows.specs.Packed.{names_in, roles_in, ends_in}
use Rattle.readers.specs.Reading.{Outcome, ReadGood, NodeHeld, NodeDone}
use Rattle.readers.proofs.Places.{no-parts}
use Rattle.requirement.proofs.Whole.{tree-rows}
use Rattle.parts.specs.Inner.{ConceptDone}

pub concept-done : (s : List ℕ) (stop p : ℕ) (A B : List ℕ) (r : Result Reached Fault) → NodeDone true s stop 17 0 p 0 0 A B r
    → ConceptDone s stop p (names_in B) (roles_in B) (ends_in B)
concept-done s stop p A B r done t v e =
    let read : ReadGood (NodeHeld B 17 0 0) stop p 0 A B t v r =
    subst (λ (a : Answer (Concept × Spot)). Outcome (NodeHeld B 17 0 0) stop p 0 A B a r) e (done [] refl (no-parts A)) in
    let rows : v.nodes ≡ nodes t = omega (arith, tree-rows (names_in B) (roles_in B) (ends_in B) t 17 0 v.nodes read.held.tree) in (
      subst (λ (n : ℕ). Holds (names_in B) (roles_in B) (ends_in B) t 17 0 n) rows read.held.tree,
      omega (arith, read.further.few),
    )
