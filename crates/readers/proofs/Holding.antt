-- What the rows hold, from what they held before a node was written: a node over its children, a child and the others behind it.
-- Assumes nothing.
use mathlib.Core.Path.{◌≡◌, sym, ap, ◌∙◌, subst}
use mathlib.Core.List.{List}
use Prim.Native.Nat.{ℕ, ◌+◌, ◌*◌, ◌-◌, ◌/◌, ◌%◌, ◌≤◌, ◌<◌}
use native.Mathlib.Omega.{arith}
use lib.ListN.{length, get_or, set}
use lib.Seq.{get_or-set_same}
use Rattle.meaning.specs.Tree.{node, Forest, more, Concept}
use Rattle.meaning.specs.Rows.{Holds, HoldsF}
use Rattle.rows.specs.Packed.{low, high, names_in, roles_in, ends_in}
use Rattle.readers.specs.Reading.{Kept, RowsKept, NodeHeld, ForestHeld}
use Rattle.readers.proofs.Same.{tree-some, tree-same, forest-same}
use Rattle.rows.proofs.At.{name-at, role-at, end-at}
use Rattle.readers.proofs.Places.{set-above, set_below, names-alike, roles-alike, ends-alike}

pub tree-ends : (B : List ℕ) (left n m : ℕ) (t : Concept) → Holds (names_in B) (roles_in B) (ends_in B) t left n m → get_or (ends_in B) n 0 ≡ m
unfolding Holds
tree-ends B left n m (node a f) h = h.3

-- a child, and the others behind it
pub forest-held : (B C : List ℕ) (left role n m e : ℕ) (t : Concept) (f : Forest ℕ) → m ≤ 64 → NodeHeld B left role n t m → RowsKept m B C
    → ForestHeld C left m f e → m ≤ e → ForestHeld C left n (more role t f) e
unfolding Holds
forest-held B C left role n m e t f few h k g l =
    let some' = tree-some (names_in B) (roles_in B) (ends_in B) t left n m h.tree in
    let ns = names-alike B C n m few (λ i a b. k.names i b) in
    let rs = roles-alike B C n m few (λ i a b. k.edges i b) in
    let es = ends-alike B C n m few (λ i a b. k.edges i b) in
    let same : get_or (ends_in C) n 0 ≡ m = es n (omega arith) some' ∙ tree-ends B left n m t h.tree in
    let here = tree-same (names_in B) (roles_in B) (ends_in B) (names_in C) (roles_in C) (ends_in C) t left n m ns rs es h.tree in (
      rs n (omega arith) some' ∙ h.under,
      omega arith,
      subst (λ (z : ℕ). Holds (names_in C) (roles_in C) (ends_in C) t left n z) (sym same) here,
      subst (λ (z : ℕ). HoldsF (names_in C) (roles_in C) (ends_in C) f left z e) (sym same) g,
    )

-- A node n of names a. Its names are stored; then its thresholds are read, which leaves Q, and its children, which leaves C; then its role and end are stored.
module _ (A Q C : List ℕ) (n a role m : ℕ) (room : n < 64) (low' : role < 256) (few : m ≤ 64) (long : 144 ≤ length A) (long' : 144 ≤ length C)
    (thresholds : Kept 128 (set A n a) Q) (children : RowsKept (n + 1) Q C) where
  abbrev v : ℕ
  v = role + 256 * m

  abbrev D : List ℕ
  D = set C (64 + n) v

  stored : get_or D (64 + n) 0 ≡ v
  stored = get_or-set_same C (64 + n) v 0 (omega arith)

  pub node-held : (left : ℕ) (f : Forest ℕ) → 0 < left → n + 1 ≤ m → ForestHeld C (left - 1) (n + 1) f m → NodeHeld D left role n (node a f) m
  unfolding Holds
  node-held left f l u h =
      let whole : v / 256 ≡ m = omega arith in
      let ended : high v ≡ m = ap (λ (z : ℕ). z % 256) whole ∙ omega arith in
      let under' : low v ≡ role = omega arith in
      record {
        tree = (
          l,
          omega arith,
          name-at D n room ∙ set-above C (64 + n) n v (omega arith) ∙ children.names n (omega arith) ∙ thresholds n (omega arith) ∙ get_or-set_same A n a 0 (omega arith),
          end-at D n room ∙ ap high stored ∙ ended,
          forest-same (names_in C) (roles_in C) (ends_in C) (names_in D) (roles_in D) (ends_in D) f (left - 1) (n + 1) m
              (names-alike C D (n + 1) m few (λ i x y. set-above C (64 + n) i v (omega arith)))
              (roles-alike C D (n + 1) m few (λ i x y. set_below C (64 + n) (64 + i) v (omega arith)))
              (ends-alike C D (n + 1) m few (λ i x y. set_below C (64 + n) (64 + i) v (omega arith)))
              h,
        );
        under = role-at D n room ∙ ap low stored ∙ under';
      }

  pub node_kept : RowsKept n A D
  node_kept = record {
    names = λ i b.
        set-above C (64 + n) i v (omega arith) ∙ children.names i (omega arith) ∙ thresholds i (omega arith) ∙ set-above A n i a b;
    edges = λ i b.
        set-above C (64 + n) (64 + i) v (omega arith) ∙ children.edges i (omega arith) ∙ thresholds (64 + i) (omega arith) ∙ set_below A n (64 + i) a (omega arith);
  }
