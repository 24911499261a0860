-- The thresholds of a requirement in reading order, each with the written node that it is of: those of node i are its label's.
-- Assumes nothing.
use mathlib.Core.Path.{◌≡◌, sym, ap, ap₂, subst, ◌∙◌}
use mathlib.Core.Bool.{Bool, ◌&&◌, ◌||◌, not, and-true}
use mathlib.Core.List.{List, [], ◌∷◌}
use Prim.Native.Nat.{ℕ, zero, suc, ◌+◌, ◌-◌, ◌≤◌, ◌<◌}
use native.Mathlib.Decide.{dec_lt}
use native.Mathlib.Omega.{arith}
use lib.ListN.{length, get_or}
use borrow.Author.Tests.{eq-eqb, ne_eqb}
use Rattle.meaning.specs.Tree.{node, Forest, none, more, relabel, nodes, nodes_f}
use Rattle.meaning.specs.Graph.{Graph}
use Rattle.meaning.specs.Requirement.{Threshold, Label, Requirement, every, passes, bare}
use Rattle.meaning.specs.Rows.{Holds, HoldsF}
use Rattle.screening.specs.Standing.{no_threshold, ruled_at, Ruled, RuledF}
use Rattle.screening.proofs.Through.{and_assoc}
use Rattle.trails.proofs.Trail.{bare_f, holds-nodes}

-- how many thresholds a tree has
unfoldable mutual
  pub many : Requirement → ℕ
  many (node a f) = length a.thresholds + many_f f

  pub many_f : Forest Label → ℕ
  many_f none = 0
  many_f (more r t f) = many t + many_f f

-- a place is before another one, or not
sided : {P : Type 0} (j k : ℕ) → (j < k → P) → (k ≤ j → P) → P
sided {P} j k a b = go (dec_lt j k)
  where
    go : Dec (j < k) → P
    go (yes l) = a l
    go (no l) = b (omega (arith, l))

module _ (G : Graph ℕ) (owners : List ℕ) (all : List Threshold) where
  -- the thresholds from the k-th on are these, of the written node i
  unfoldable pub Own : List Threshold → ℕ → ℕ → Type 0
  Own [] i k = Unit {0}
  Own (h ∷ hs) i k = (get_or owners k 0 ≡ i) × (get_or all k no_threshold ≡ h) × Own hs i (suc k)

  -- those of a tree whose root is the i-th written node
  unfoldable mutual
    unfolding Own many nodes

    pub Listed : Requirement → ℕ → ℕ → Type 0
    Listed (node a f) i k = Own a.thresholds i k × ListedF f (i + 1) (k + length a.thresholds)

    pub ListedF : Forest Label → ℕ → ℕ → Type 0
    ListedF none i k = Unit {0}
    ListedF (more r t f) i k = Listed t i k × ListedF f (i + nodes t) (k + many t)

  -- ---- whose they are

  own-owner : (hs : List Threshold) (i k j : ℕ) → Own hs i k → k ≤ j → j < k + length hs → get_or owners j 0 ≡ i
  unfolding Own
  own-owner [] i k j w l m = absurd (omega arith)
  own-owner (h ∷ hs) i k j w l m =
      sided j (suc k) (λ p. let z : j ≡ k = omega arith in rw z w.0) (λ p. own-owner hs i (suc k) j w.2 p (omega arith))

  abbrev Among : ℕ → ℕ → ℕ → Type 0
  Among i e j = (i ≤ get_or owners j 0) × (get_or owners j 0 < e)

  mutual
    unfolding Listed many nodes

    listed-among : (t : Requirement) (i k j : ℕ) → Listed t i k → k ≤ j → j < k + many t → Among i (i + nodes t) j
    listed-among (node a f) i k j w l m =
        let own = k + length a.thresholds in
        sided j own (λ p. let q = own-owner a.thresholds i k j w.0 l p in (omega arith, omega arith))
        (λ p. let q = listed_f-among f (i + 1) own j w.1 p (omega arith) in (omega arith, omega arith))

    listed_f-among : (f : Forest Label) (i k j : ℕ) → ListedF f i k → k ≤ j → j < k + many_f f → Among i (i + nodes_f f) j
    listed_f-among none i k j w l m = absurd (omega arith)
    listed_f-among (more r t f) i k j w l m =
        sided j (k + many t) (λ p. let q = listed-among t i k j w.0 l p in (omega arith, omega arith))
        (λ p. let q = listed_f-among f (i + nodes t) (k + many t) j w.1 p (omega arith) in (omega arith, omega arith))

  -- ---- what they say at an item

  -- thresholds of other nodes
  ruled-skip : (a d i x : ℕ) → ((j : ℕ) → a ≤ j → j < a + d → get_or owners j 0 ≡ i → ⊥) → ruled_at G owners all (a + d) i x ≡ ruled_at G owners all a i x
  unfolding ruled_at
  ruled-skip a zero i x h = let e : a + 0 ≡ a = omega arith in rw e
  ruled-skip a (suc d) i x h =
      let e : a + suc d ≡ suc (a + d) = omega arith in
      rw e (
      ap (λ (b : Bool). ruled_at G owners all (a + d) i x && (not b || passes G (get_or all (a + d) no_threshold) x)) (ne_eqb (get_or owners (a + d) 0) i (h (a + d) (omega arith) (omega arith)))
      ∙ and-true (ruled_at G owners all (a + d) i x)
      ∙ ruled-skip a d i x (λ j p q. h j p (omega arith)))

  -- the node's own
  ruled-own : (hs : List Threshold) (i k x : ℕ) → Own hs i k
      → ruled_at G owners all (k + length hs) i x ≡ (ruled_at G owners all k i x && every (λ h. passes G h x) hs)
  unfolding Own ruled_at every
  ruled-own [] i k x w = let e : k + 0 ≡ k = omega arith in rw e (sym (and-true (ruled_at G owners all k i x)))
  ruled-own (h ∷ hs) i k x w =
      let e : k + suc (length hs) ≡ suc k + length hs = omega arith in
      rw e (
      ruled-own hs i (suc k) x w.2
      ∙ ap₂ (λ (b c : Bool). (ruled_at G owners all k i x && (not b || c)) && every (λ z. passes G z x) hs) (eq-eqb (get_or owners k 0) i w.0) (ap (λ (z : Threshold). passes G z x) w.1)
      ∙ and_assoc (ruled_at G owners all k i x) (passes G h x) (every (λ z. passes G z x) hs))

  module _ (names roles ends : List ℕ) (n : ℕ) where
    -- of n thresholds those before the k-th are of nodes before i, and those from the m-th on of nodes from e on
    abbrev Around : ℕ → ℕ → ℕ → ℕ → Type 0
    Around k m i e = ((j : ℕ) → j < k → get_or owners j 0 < i) × ((j : ℕ) → m ≤ j → j < n → e ≤ get_or owners j 0) × (m ≤ n)

    ruled-node : (hs : List Threshold) (i k x : ℕ) → Own hs i k → Around k (k + length hs) i (i + 1) → ruled_at G owners all n i x ≡ every (λ h. passes G h x) hs
    unfolding ruled_at
    ruled-node hs i k x w z =
        let e : k + length hs + (n - (k + length hs)) ≡ n = omega (arith, z.2) in
        let f : 0 + k ≡ k = omega arith in
        ap (λ (z : ℕ). ruled_at G owners all z i x) (sym e)
        ∙ ruled-skip (k + length hs) (n - (k + length hs)) i x (λ j p q d. let y : get_or owners j 0 ≡ i = d in omega (arith, z.1 j p (omega arith)))
        ∙ ruled-own hs i k x w
        ∙ ap (λ (b : Bool). b && every (λ h. passes G h x) hs)
        (ap (λ (z : ℕ). ruled_at G owners all z i x) (sym f)
        ∙ ruled-skip 0 k i x (λ j p q d. let y : get_or owners j 0 ≡ i = d in omega (arith, z.0 j (omega arith))))

    mutual
      unfolding Holds relabel Listed many nodes Ruled

      listed-ruled : (t : Requirement) (left i e k : ℕ) → Holds names roles ends (bare t) left i e → Listed t i k
          → Around k (k + many t) i (i + nodes t) → Ruled G owners all ends n t i
      listed-ruled (node a f) left i e k h w z =
          let own : ℕ = k + length a.thresholds in
          let later : (j : ℕ) → own ≤ j → j < n → i + 1 ≤ get_or owners j 0 =
          λ j p q. sided j (own + many_f f) (λ r. omega (arith, (listed_f-among f (i + 1) own j w.1 p r).0)) (λ r. omega (arith, z.1 j (omega arith) q)) in
          let sooner : (j : ℕ) → j < own → get_or owners j 0 < i + 1 =
          λ j p. sided j k (λ r. omega (arith, z.0 j r)) (λ r. omega (arith, own-owner a.thresholds i k j w.0 r p)) in (
            (λ x. ruled-node a.thresholds i k x w.0 (z.0, later, omega (arith, z.2))),
            listed_f-ruled f (left - 1) (i + 1) e own h.4 w.1 (sooner, (λ j p q. omega (arith, z.1 j (omega arith) q)), omega (arith, z.2)),
          )

      listed_f-ruled : (f : Forest Label) (left i e k : ℕ) → HoldsF names roles ends (bare_f f) left i e → ListedF f i k
          → Around k (k + many_f f) i (i + nodes_f f) → RuledF G owners all ends n f i
      listed_f-ruled none left i e k h w z = tt
      listed_f-ruled (more r t f) left i e k h w z =
          let own : ℕ = k + many t in
          let later : (j : ℕ) → own ≤ j → j < n → i + nodes t ≤ get_or owners j 0 =
          λ j p q. sided j (own + many_f f) (λ r. (listed_f-among f (i + nodes t) own j w.1 p r).0) (λ r. omega (arith, z.1 j (omega arith) q)) in
          let sooner : (j : ℕ) → j < own → get_or owners j 0 < i + nodes t =
          λ j p. sided j k (λ r. omega (arith, z.0 j r)) (λ r. (listed-among t i k j w.0 r p).1) in
          let end = holds-nodes names roles ends t left i (get_or ends i 0) h.2 in (
            listed-ruled t left i (get_or ends i 0) k h.2 w.0 (z.0, later, omega (arith, z.2)),
            listed_f-ruled f left (get_or ends i 0) e own h.3 (subst (λ (z : ℕ). ListedF f z own) (sym end) w.1)
                ((λ j p. rw end (sooner j p)), (λ j p q. omega (arith, end, z.1 j (omega arith) q)), omega (arith, z.2)),
          )

    -- the whole requirement
    pub ruled-all : (q : Requirement) (left e : ℕ) → Holds names roles ends (bare q) left 0 e → Listed q 0 0 → n ≡ many q → Ruled G owners all ends n q 0
    ruled-all q left e h w m =
        listed-ruled q left 0 e 0 h w ((λ j p. absurd (let z : j < 0 = p in omega arith)), (λ j p c. absurd (omega arith)), omega arith)
