-- Whole maps. An item meets a tree when its label fits there and each child has a successor under its role that meets the child.
-- With `held` for the fit this is the homomorphism of LTCS-Report 15-09, Definition 3, and with thresholds (Requirement.antt) that of Definition 13.
-- Assumes nothing.
use Rattle.std.specs.Prelude.{◌≡◌, Bool, true, false, ◌&&◌, ◌||◌, ℕ, T}
use mathlib.Core.List.{List, [], ◌∷◌, ◌++◌, Memᴰ}
use Rattle.std.proofs.Math.Option.{some}
use Rattle.meaning.specs.Names.{within}
use Rattle.meaning.specs.Tree.{Tree, node, Forest, none, more, Concept, label_of, subtree, role_at}
use Rattle.meaning.specs.Graph.{Graph}

unfoldable pub any : {A : Type 0} → (A → Bool) → List A → Bool
any p [] = false
any p (x ∷ xs) = p x || any p xs

module _ {L N : Type 0} (fits : L → N → Bool) (G : Graph N) where
  unfoldable mutual
    unfolding any

    pub meets_by : Tree L → N → Bool
    meets_by (node a f) x = fits a x && meets_by_f f x

    pub meets_by_f : Forest L → N → Bool
    meets_by_f none x = true
    meets_by_f (more r t f) x = any (λ y. meets_by t y) (G.next x r) && meets_by_f f x

  -- Definitions 3 and 13 to the letter: every node is mapped, each label fits where its node goes, each edge goes along a link of its role
  pub record WholeMap (t : Tree L) (x : N) : Type 0 where
    pub map : List ℕ → N
    pub rooted : map [] ≡ x
    pub labels : (p : List ℕ) (s : Tree L) → subtree t p ≡ some s → T (fits (label_of s) (map p))
    pub edges : (p : List ℕ) (k r : ℕ) → role_at t p k ≡ some r → Memᴰ (map (p ++ k ∷ [])) (G.next (map p) r)

-- a set of names is held where each of them is
abbrev pub held : {N : Type 0} → Graph N → ℕ → N → Bool
held G a x = within a (G.names x)

-- plain concepts
abbrev pub meets : {N : Type 0} → Graph N → Concept → N → Bool
meets G = meets_by (held G) G

abbrev pub meets_f : {N : Type 0} → Graph N → Forest ℕ → N → Bool
meets_f G = meets_by_f (held G) G
