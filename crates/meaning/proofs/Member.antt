-- Membership: the test is true exactly where a threshold-respecting map exists. Without thresholds it is the test of the plain concept,
-- and "at least 1/1" of a plain concept is membership in that concept.
-- Assumes nothing.
use mathlib.Core.Path.{◌≡◌, refl, sym, ap₂, ◌∙◌, fun_ext}
use mathlib.Core.Logic.{◌↔◌}
use mathlib.Core.Bool.{Bool, ◌&&◌, and-true}
use mathlib.Core.List.{List, [], ◌∷◌, ◌++◌, append_assoc}
use Prim.Native.Nat.{ℕ, ◌*◌}
use native.Mathlib.Omega.{arith}
use lib.Dec.{T, leb, leb→le, le→leb}
use Rattle.meaning.specs.Tree.{node, Forest, none, more, Concept, written, written_f, relabel_f, relabel}
use Rattle.meaning.specs.Graph.{Graph}
use Rattle.meaning.specs.Fraction.{◌÷◌, at_least}
use Rattle.meaning.specs.Reduce.{reduce, scale}
use Rattle.meaning.specs.Degree.{degree}
use Rattle.meaning.specs.Whole.{any, meets_by, meets_by_f, meets, meets_f}
use Rattle.meaning.specs.Requirement.{Threshold, Label, Requirement, every, fulfils, member, RespectingMap, bare, plain}
use Rattle.meaning.specs.Message.{joined, thresholds_of}
use Rattle.meaning.proofs.Tests.{bool_eq}
use Rattle.meaning.proofs.Whole.{meets-whole}
use Rattle.meaning.proofs.Reduced.{reduce-meets}
use Rattle.meaning.proofs.Scale.{degree-le}
use Rattle.meaning.proofs.One.{degree-meets}

joined-append : (k l : List Label) → joined (k ++ l) ≡ joined k ++ joined l
unfolding joined
joined-append [] l = refl
joined-append (a ∷ k) l = rw (joined-append k l) (sym (append_assoc a.thresholds (joined k) (joined l)))

both-empty : (k l : List Threshold) → k ++ l ≡ [] → (k ≡ []) × (l ≡ [])
both-empty [] l e = (refl, e)
both-empty (h ∷ k) l e = let z : ◌≡◌ {A = ℕ} 0 1 = cc in absurd (omega arith)

module _ {N : Type 0} (G : Graph N) where
  pub member-map : (q : Requirement) (x : N) → T (member G q x) ↔ RespectingMap G q x
  member-map q x = meets-whole (fulfils G) G q x

  mutual
    unfolding meets_by relabel every

    pub plain-member : (t : Concept) (x : N) → member G (plain t) x ≡ meets G t x
    plain-member (node a f) x = rw (plain-member_f f x, and-true)

    plain-member_f : (f : Forest ℕ) (x : N) → meets_by_f (fulfils G) G (relabel_f (λ a. record { names = a; thresholds = [] }) f) x ≡ meets_f G f x
    plain-member_f none x = refl
    plain-member_f (more r t f) x =
        ap₂ (λ (p : N → Bool) (b : Bool). any p (G.next x r) && b) (fun_ext (λ y. plain-member t y)) (plain-member_f f x)

  mutual
    unfolding meets_by relabel every written joined

    pub bare-member : (q : Requirement) (x : N) → thresholds_of q ≡ [] → member G q x ≡ meets G (bare q) x
    bare-member (node a f) x e =
        let s = both-empty a.thresholds (joined (written_f f)) e in
        rw (s.0, bare-member_f f x s.1, and-true)

    bare-member_f : (f : Forest Label) (x : N) → joined (written_f f) ≡ [] → meets_by_f (fulfils G) G f x ≡ meets_f G (relabel_f (λ a. a.names) f) x
    bare-member_f none x e = refl
    bare-member_f (more r t f) x e =
        let s = both-empty (joined (written t)) (joined (written_f f)) (sym (joined-append (written t) (written_f f)) ∙ e) in
        ap₂ (λ (p : N → Bool) (b : Bool). any p (G.next x r) && b) (fun_ext (λ y. bare-member t y s.0)) (bare-member_f f x s.1)

  -- the degree is at least 1 exactly where the concept is met
  full_meets : (t : Concept) (x : N) → leb (1 * scale (reduce t)) (degree G (reduce t) x * 1) ≡ meets G t x
  full_meets t x =
      bool_eq (leb (1 * S) (D * 1)) (meets G t x)
      (λ h. rw (← reduce-meets G t x) ((degree-meets G (reduce t) x).0 (omega (arith, leb→le (1 * S) (D * 1) h, degree-le G (reduce t) x))))
      (λ h. le→leb (1 * S) (D * 1) (omega (arith, (degree-meets G (reduce t) x).1 (rw (reduce-meets G t x) h))))
    where
      S : ℕ
      S = scale (reduce t)

      D : ℕ
      D = degree G (reduce t) x

  -- "at least 1/1" of a plain concept is membership in that concept
  pub one-member : (t : Concept) (x : N)
      → member G (node (record { names = 0; thresholds = record { how = at_least; limit = 1 ÷ 1; inner = t } ∷ [] }) none) x ≡ meets G t x
  unfolding meets_by every
  one-member t x = simp and-true (full_meets t x)
