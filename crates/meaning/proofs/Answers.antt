-- What an accepted degree, margin or yes/no answers, in the words of the definitions: of the register and the requirement that were read, the greatest
-- value of a partial map, in lowest terms; the margin of that number; yes exactly where a threshold-respecting map exists.
-- And the lent map afterwards: in front stands the map, one number for each written node; "Places after the last node keep their contents".
-- Assumes nothing.
use mathlib.Core.Path.{◌≡◌, refl, sym, ap, ◌∙◌, subst}
use mathlib.Core.Bool.{Bool, true, false}
use mathlib.Core.List.{List, ◌++◌}
use mathlib.Core.Option.{some}
use Prim.Native.Nat.{ℕ, ◌≤◌, ◌<◌}
use native.Mathlib.Nat.{zero-add}
use native.Mathlib.Omega.{arith}
use lib.Dec.{T, ltb}
use lib.ListN.{length, drop, length-map}
use lib.Seq.{sets, sets-eq}
use Rattle.meaning.specs.Refusal.{Answer, good, ◌>>=◌, ◌>>◌}
use Rattle.meaning.specs.Tree.{Concept, nodes}
use Rattle.meaning.specs.Fraction.{Frac, ◌÷◌, lawful, Lowest, margin, margin_over}
use Rattle.meaning.specs.Register.{Register, withdrawn, judged, read_register}
use Rattle.meaning.specs.Partial.{IsDegree}
use Rattle.meaning.specs.Degree.{degree_of, answered}
use Rattle.meaning.specs.Requirement.{Requirement, fulfils, member, RespectingMap}
use Rattle.meaning.specs.Message.{Part, read_requirement}
use Rattle.meaning.specs.Shown.{shown, mark_number, degree_map, yes_map}
use Rattle.meaning.specs.Calls.{read_plain, asked_for, Found, degree_call, after_degree, Against, margin_call, Decision, met, unmet, decide, member_call, after_member}
use Rattle.meaning.proofs.Tests.{of-not}
use Rattle.meaning.proofs.Reading.{good-inj, passed, taken, le-of-not-below}
use Rattle.meaning.proofs.Asked.{asks-went}
use Rattle.meaning.proofs.Degree.{answered-is, answered-lowest}
use Rattle.meaning.proofs.Member.{member-map}
use Rattle.meaning.proofs.Shown.{degree-shows}
use Rattle.meaning.proofs.YesShown.{yes-shows}

-- a map written in front
pub lent : (old m : List ℕ) → length m ≤ length old → sets old 0 m ≡ m ++ drop (length m) old
lent old m h = sets-eq m old 0 (omega arith) ∙ ap (λ (k : ℕ). m ++ drop k old) (zero-add (length m))

-- ---- what was read, of the degree and the margin: a register, a plain requirement, and an item of the register that is in service

pub record Read (image message : List ℕ) (item : ℕ) : Type 0 where
  pub register : Register
  pub tree : Concept
  pub image-is : read_register image ≡ good register
  pub message-is : read_plain message ≡ good tree
  pub inside : item < length register.names
  pub serves : withdrawn register item ≡ false

module _ {C : Type 0} (image message : List ℕ) (item : ℕ) (next : Register → Concept → Answer C) (c : C) where
  read-both : (read_register image >>= λ g. (read_plain message >>= λ t. (asked_for g item >> next g t))) ≡ good c
      → (x : Read image message item) × (next x.register x.tree ≡ good c)
  read-both h =
      let q = taken (read_register image) _ h in
      let r = taken (read_plain message) _ q.2 in
      let i = asks-went q.0 item _ r.2 in (
        record {
          register = q.0;
          tree = r.0;
          image-is = q.1;
          message-is = r.1;
          inside = i.0.inside;
          serves = i.0.serves;
        },
        i.1,
      )

-- ---- the degree

pub record DegreeAnswers (image message old : List ℕ) (item : ℕ) (a : Found) : Type 0 where
  pub read : Read image message item
  pub greatest : IsDegree (judged read.register) read.tree item a.degree
  pub lowest : Lowest (degree_of (judged read.register) read.tree item) a.degree
  pub map_is : a.map ≡ degree_map (judged read.register) read.tree item
  pub places : length a.map ≡ nodes read.tree
  pub written : after_degree old (good a) ≡ a.map ++ drop (length a.map) old

pub degree-answers : (image message old : List ℕ) (item : ℕ) (a : Found) → degree_call image message item (length old) ≡ good a
    → DegreeAnswers image message old item a
unfolding degree_call
degree-answers image message old item a h =
    let q = read-both image message item _ a h in
    let x = q.0 in
    let G = judged x.register in
    let t = x.tree in
    let f = passed (ltb (length old) (nodes t)) _ _ q.1 in
    let e : record { degree = answered G t item; map = degree_map G t item } ≡ a = good-inj f.1 in
    let d : answered G t item ≡ a.degree = ap (λ (z : Found). z.degree) e in
    let m : degree_map G t item ≡ a.map = ap (λ (z : Found). z.map) e in
    let long : length a.map ≡ nodes t =
    ap length (sym m) ∙ length-map (shown G t (some item)) mark_number ∙ (degree-shows G t item).long in
    record {
      read = x;
      greatest = subst (IsDegree G t item) d (answered-is G t item);
      lowest = subst (Lowest (degree_of G t item)) d (answered-lowest G t item);
      map_is = sym m;
      places = long;
      written = lent old a.map (omega (arith, long, le-of-not-below (length old) (nodes t) f.0));
    }

-- ---- the margin: of the degree in lowest terms

pub record MarginAnswers (image message : List ℕ) (item p q : ℕ) (a : Against) : Type 0 where
  pub read : Read image message item
  pub allowed : T (lawful p q)
  pub degree : Frac
  pub lowest : Lowest (degree_of (judged read.register) read.tree item) degree
  pub margin-is : a.margin ≡ margin degree (p ÷ q)
  pub over-is : a.over ≡ margin_over degree (p ÷ q)

pub margin-answers : (image message : List ℕ) (item p q : ℕ) (a : Against) → margin_call image message item p q ≡ good a
    → MarginAnswers image message item p q a
unfolding margin_call
margin-answers image message item p q a h =
    let r = read-both image message item _ a h in
    let x = r.0 in
    let G = judged x.register in
    let f = passed _ _ _ r.1 in
    let e = good-inj f.1 in
    record {
      read = x;
      allowed = of-not (lawful p q) f.0;
      degree = answered G x.tree item;
      lowest = answered-lowest G x.tree item;
      margin-is = sym (ap (λ (z : Against). z.margin) e);
      over-is = sym (ap (λ (z : Against). z.over) e);
    }

-- ---- yes or no

pub record MemberRead (image message : List ℕ) (item : ℕ) : Type 0 where
  pub register : Register
  pub tree : Requirement
  pub parts : List Part
  pub image-is : read_register image ≡ good register
  pub message-is : read_requirement message ≡ good (tree, parts)
  pub inside : item < length register.names
  pub serves : withdrawn register item ≡ false

module _ (image message old : List ℕ) (item : ℕ) where
  pub record YesAnswers (m : List ℕ) : Type 0 where
    pub read : MemberRead image message item
    pub holds : RespectingMap (judged read.register) read.tree item
    pub map_is : m ≡ yes_map (judged read.register) read.tree item
    pub places : length m ≡ nodes read.tree
    pub written : after_member old (good (met m)) ≡ m ++ drop (length m) old

  pub record NoAnswers : Type 0 where
    pub read : MemberRead image message item
    pub fails : RespectingMap (judged read.register) read.tree item → ⊥
    pub kept : after_member old (good unmet) ≡ old

  abbrev DecisionAnswers : Decision → Type 0
  DecisionAnswers (met m) = YesAnswers m
  DecisionAnswers unmet = NoAnswers

  decided : (x : MemberRead image message item) (b : Bool) → member (judged x.register) x.tree item ≡ b → nodes x.tree ≤ length old
      → DecisionAnswers (decide b (yes_map (judged x.register) x.tree item))
  decided x true e l =
      let G = judged x.register in
      let yes : T (member G x.tree item) = subst T (sym e) tt in
      let long = (yes-shows (fulfils G) G x.tree item yes).long in
      record {
        read = x;
        holds = (member-map G x.tree item).0 yes;
        map_is = refl;
        places = long;
        written = lent old (yes_map G x.tree item) (omega (arith, long));
      }
  decided x false e l = record { read = x; fails = λ r. subst T e ((member-map (judged x.register) x.tree item).1 r); kept = refl }

  pub member-answers : (d : Decision) → member_call image message item (length old) ≡ good d → DecisionAnswers d
  unfolding member_call
  member-answers d h =
      let q = taken (read_register image) _ h in
      let r = taken (read_requirement message) _ q.2 in
      let i = asks-went q.0 item _ r.2 in
      let f = passed (ltb (length old) (nodes r.0.0)) _ _ i.1 in
      let x : MemberRead image message item = record {
        register = q.0;
        tree = r.0.0;
        parts = r.0.1;
        image-is = q.1;
        message-is = r.1;
        inside = i.0.inside;
        serves = i.0.serves;
      } in
      let few = le-of-not-below (length old) (nodes x.tree) f.0 in
      subst DecisionAnswers (good-inj f.1) (decided x (member (judged x.register) x.tree item) refl few)
