-- The two calls, of a register and a plain requirement that were read or refused: each test's refusal in the document's order, and the answers.
-- Assumes nothing.
use mathlib.Core.Path.{◌≡◌, refl, sym, ap, ap₂, ◌∙◌}
use mathlib.Core.Bool.{false, not}
use mathlib.Core.List.{List}
use mathlib.Core.Option.{some}
use Prim.Native.Nat.{ℕ, ◌≤◌, ◌<◌}
use native.Mathlib.Omega.{arith}
use lib.Dec.{ltb}
use Rattle.std.specs.Prelude.{Some, Result, Ok, Err, MatchResult, IsErrAnd}
use lib.IntN.{ℤ}
use mir.Syntax.{w64}
use mir.Val.{SFits, to_z, of_z}
use mir.Facts.{to_z-of_z}
use lib.ListN.{length, get_or, length-map}
use lib.Seq.{sets}
use Rattle.meaning.specs.declared.Rule.{Rule}
use Rattle.meaning.specs.declared.Refusal.{Refusal}
use Rattle.meaning.specs.Rules.{number_of, told as told_by}
use Rattle.meaning.specs.Refusal.{Answer, good, refused, on_call, refuse_if, ◌>>=◌, ◌>>◌}
use Rattle.meaning.specs.Tree.{Concept, nodes}
use Rattle.meaning.specs.Register.{Register, judged}
use Rattle.meaning.specs.Fraction.{Frac, ◌÷◌, lowest, wrong_with, lawful, fraction, margin, margin_over}
use Rattle.meaning.specs.Degree.{degree_of, answered}
use Rattle.meaning.specs.Shown.{degree_map, shown, mark_number}
use Rattle.meaning.specs.Calls.{asked_for, Found, degree_call, after_degree, Against, margin_call}
use Rattle.meaning.proofs.Tests.{of-not}
use Rattle.meaning.proofs.FractionRows.{lawful-takes, found_none, found_some}
use Rattle.meaning.proofs.Reading.{took, stopped, pass, stop, below, not-below}
use Rattle.meaning.proofs.Asked.{Asks, asks-goes, asks-halts}
use Rattle.meaning.proofs.Agreeing.{answered-agrees, degree_map-agrees}
use Rattle.meaning.proofs.Image.{whole-buffer}
use Rattle.meaning.proofs.Lowest.{lowest-le}
use Rattle.meaning.proofs.Degree.{answered-at-most-one}
use Rattle.meaning.proofs.InPlace.{scale_in_lem}
use Rattle.meaning.proofs.Kept.{shown-length}
use Rattle.shown.specs.declared.Degree.{Degree}
use Rattle.fractions.specs.declared.Fraction.{Fraction}
use Rattle.fractions.specs.declared.Signed.{Signed}
use Rattle.plain.specs.declared.Both.{Both}
use Rattle.asking.specs.declared.Answered.{Answered}
use Rattle.asking.specs.declared.Margin.{Margin}
use Rattle.register.specs.Image.{Asked, OfSize, Image}
use Rattle.register.specs.Held.{IsRead}
use Rattle.register.proofs.Holding.{is_read}
use Rattle.graph.specs.Walked.{numbered}
use Rattle.graph.proofs.Asked.{number-asks, number-halts}
use Rattle.graph.proofs.Walked.{walked-judged}
use Rattle.degrees.specs.Gradable.{Gradable}
use Rattle.meaning.specs.Bounds.{most_scale, most_q}
use Rattle.shown.specs.Given.{drawn, Graded}
use Rattle.plain.specs.Reading.{read_both, BothDone}
use Rattle.plain.proofs.Known.{both_first, both-no, Known, ended}
use Rattle.asking.specs.Answers.{Told, paper_degree, told, paper_margin}
use Rattle.asking.specs.Refusing.{DegreePromise, MarginPromise}
use Rattle.shown.proofs.Entry.{gradable-of, scale_small, graded-answer}

-- what is tested and answered after 15 and 26, and with them
abbrev pub degree_then : ℕ → ℕ → Register → Concept → Answer Found
degree_then item room g t =
    refuse_if (ltb room (nodes t)) (on_call 16) >> good (record { degree = answered (judged g) t item; map = degree_map (judged g) t item })

abbrev pub margin_then : ℕ → ℕ → ℕ → Register → Concept → Answer Against
margin_then item p q g t =
    let d = answered (judged g) t item in
    fraction on_call p q >> good (record { margin = margin d (p ÷ q); over = margin_over d (p ÷ q) })

abbrev degree_next : ℕ → ℕ → Register → Concept → Answer Found
degree_next item room g t = asked_for g item >> degree_then item room g t

abbrev margin_next : ℕ → ℕ → ℕ → Register → Concept → Answer Against
margin_next item p q g t = asked_for g item >> margin_then item p q g t

-- ---- a test that answers a rule, which becomes a refusal on the call's side

abbrev pub Mapped : Result (Unit {0}) Rule → Result (Unit {0}) Refusal → Type 0
Mapped r z = MatchResult r (λ x. z ≡ Ok x) (λ e. IsErrAnd z (λ f. f ≡ on_call (number_of e)))

number-some : (r : Rule) → number_of r ≡ 0 → ⊥
number-some r e = grind arith

pub told-no : (r : Result (Unit {0}) Rule) (f : Refusal) → Mapped r (Err f) → (told_by r ≡ 0 → ⊥) × (f ≡ on_call (told_by r))
told-no (Ok u) f h = absurd (let y : ◌≡◌ {A = ℕ} 0 1 = cc in omega arith)
told-no (Err e) f h = (number-some e, h)

pub told-yes : (r : Result (Unit {0}) Rule) (u : Unit {0}) → Mapped r (Ok u) → told_by r ≡ 0
told-yes (Ok v) u h = refl
told-yes (Err e) u h = absurd h

module _ {image message : List ℕ} {b : Both} (w : Known image message b) where
  -- the tree is gradable over the register, and the image was read
  abbrev pub gradable : Gradable (OfSize image b.size.items b.size.links) b.plain.reduced.tree.names b.plain.reduced.tree.roles b.plain.reduced.tree.ends
      b.plain.reduced.marks 0 17
  gradable =
      let h = w.held.held in
      gradable-of w.register w.tree (whole-buffer image w.register w.bytes h.posed.graph) w.held.items w.held.links
      h.posed.held h.marked h.posed.few h.small

  pub was_read : IsRead image b.size.items b.size.links
  was_read = is_read image b.size.items b.size.links w.bytes gradable.posed.graph

  pub counted : Asked image (λ g. b.size.items ≡ length g.names)
  counted = record { register = w.register; read = whole-buffer image w.register w.bytes w.held.held.posed.graph; holds = w.held.items }

  pub room : {long : ℕ} → b.plain.nodes ≤ long → get_or b.plain.reduced.tree.ends 0 0 ≤ long
  room l = omega (arith, ended w, w.held.written)

module _ (image message : List ℕ) (item : ℕ) where
  -- the answer and the lent map afterwards
  abbrev DegreeDone : Result Answered Refusal → List ℕ → List ℕ → Type 0
  DegreeDone r old new = DegreePromise image message item old new r

  abbrev MarginDone : ℕ → ℕ → Result Margin Refusal → Type 0
  MarginDone p q r = MarginPromise image message item p q r

  degree-no : (old : List ℕ) (f : Refusal) (r : Result Answered Refusal) → degree_call image message item (length old) ≡ refused f → r ≡ Err f → DegreeDone r old old
  unfolding told ◌>>=◌
  degree-no old f r e is = (ap paper_degree is ∙ sym (ap told e), sym (ap (after_degree old) e))

  degree-both : (room : ℕ) → degree_call image message item room ≡ (read_both image message >>= λ x. degree_next item room x.0 x.1)
  unfolding degree_call
  degree-both room = both_first (degree_next item room) image message

  margin-both : (p q : ℕ) → margin_call image message item p q ≡ (read_both image message >>= λ x. margin_next item p q x.0 x.1)
  unfolding margin_call
  margin-both p q = both_first (margin_next item p q) image message

  -- ---- refused by a reader

  pub degree-stopped : (old : List ℕ) (f : Refusal) → BothDone image message (Err f) → DegreeDone (Err f) old old
  degree-stopped old f done = degree-no old f _ (degree-both (length old) ∙ stopped (read_both image message) _ f (both-no image message f done)) refl

  pub margin-stopped : (p q : ℕ) (f : Refusal) → BothDone image message (Err f) → MarginDone p q (Err f)
  margin-stopped p q f done = sym (margin-both p q ∙ stopped (read_both image message) _ f (both-no image message f done))

  module _ {b : Both} (w : Known image message b) where
    -- ---- the degree

    degree-then : (room : ℕ) → degree_call image message item room ≡ degree_next item room w.register w.tree
    degree-then room = degree-both room ∙ took (read_both image message) _ _ w.both

    -- the register is the one that the number is told of
    abbrev Tells : ℕ → Type 0
    Tells number = Image image (λ g. asked_for g item ≡ numbered number)

    told_of : (number : ℕ) → Tells number → asked_for w.register item ≡ numbered number
    told_of number e = e w.register (whole-buffer image w.register w.bytes w.held.held.posed.graph)

    pub asks : (number : ℕ) → Tells number → number ≡ 0 → Asks w.register item
    asks number e z = number-asks w.register item number (told_of number e) z

    -- 15, or 26
    pub degree-no-item : (number : ℕ) → Tells number → (number ≡ 0 → ⊥) → (old : List ℕ) (r : Result Answered Refusal) → r ≡ Err (on_call number) → DegreeDone r old old
    degree-no-item number e d old r is =
        degree-no old _ r (degree-then (length old) ∙ asks-halts w.register item _ (number-halts w.register item number (told_of number e) d)) is

    -- 16
    pub degree-no-room : Asks w.register item → (old : List ℕ) → length old < b.plain.nodes → (r : Result Answered Refusal) → r ≡ Err (on_call 16) → DegreeDone r old old
    degree-no-room i old l r is =
        degree-no old _ r
        (degree-then (length old) ∙ asks-goes w.register item _ i ∙ stop (ltb (length old) (nodes w.tree)) _ _ (below (length old) _ (omega (arith, w.held.written)))) is

    -- what was worked out, in lowest terms, is what is answered
    lowest-answer : Asks w.register item → (d : Degree) (f : Fraction) → Graded w.register w.tree item d
        → (f.num ≡ (lowest (d.number ÷ d.scale)).num) × (f.den ≡ (lowest (d.number ÷ d.scale)).den)
        → (f.num ÷ f.den) ≡ answered (judged w.register) w.tree item
    lowest-answer i d f h l =
        ap₂ ◌÷◌ l.0 l.1 ∙ graded-answer w.register w.tree item d h ∙ answered-agrees (walked-judged w.register) w.tree item i.serves

    pub degree-answer : Asks w.register item → (old new : List ℕ) → b.plain.nodes ≤ length old → (d : Degree) (f : Fraction) → Graded w.register w.tree item d
        → (f.num ≡ (lowest (d.number ÷ d.scale)).num) × (f.den ≡ (lowest (d.number ÷ d.scale)).den)
        → new ≡ drawn w.register w.tree 0 (Some item) old → DegreeDone (Ok (record { num = f.num; den = f.den; nodes = b.plain.nodes })) old new
    unfolding told ◌>>=◌
    degree-answer i old new l d f h low is =
        let t = w.tree in
        let G = judged w.register in
        let found : Found = record { degree = answered G t item; map = degree_map G t item } in
        let c : degree_call image message item (length old) ≡ good found =
        degree-then (length old) ∙ asks-goes w.register item _ i ∙ pass (ltb (length old) (nodes t)) _ _ (not-below (length old) _ (omega (arith, w.held.written))) in
        let places : b.plain.nodes ≡ length (degree_map G t item) = w.held.written ∙ sym (length-map (shown G t (some item)) mark_number ∙ shown-length G t (some item)) in
        let answer : ◌≡◌ {A = Told} (record { degree = f.num ÷ f.den; places = b.plain.nodes }) (record { degree = answered G t item; places = length (degree_map G t item) }) =
        ap₂ (λ (x : Frac) (y : ℕ). record { degree = x; places = y }) (lowest-answer i d f h low) places in
        let drawn-is : new ≡ sets old 0 (degree_map G t item) = is ∙ ap (sets old 0) (degree_map-agrees (walked-judged w.register) t item i.serves) in
        (ap good answer ∙ sym (ap told c), drawn-is ∙ sym (ap (after_degree old) c))

    -- ---- the margin

    margin-then : (p q : ℕ) → margin_call image message item p q ≡ margin_next item p q w.register w.tree
    margin-then p q = margin-both p q ∙ took (read_both image message) _ _ w.both

    -- 15, or 26
    pub margin-no-item : (number : ℕ) → Tells number → (number ≡ 0 → ⊥) → (p q : ℕ) (r : Result Margin Refusal) → r ≡ Err (on_call number) → MarginDone p q r
    margin-no-item number e d p q r is =
        ap paper_margin is ∙ sym (margin-then p q ∙ asks-halts w.register item _ (number-halts w.register item number (told_of number e) d))

    -- what is wrong with the fraction
    pub margin-no-threshold : Asks w.register item → (p q number : ℕ) → number ≡ wrong_with p q → (number ≡ 0 → ⊥) → (r : Result Margin Refusal) → r ≡ Err (on_call number) → MarginDone p q r
    margin-no-threshold i p q number says l r is =
        ap paper_margin is ∙ ap (λ (z : ℕ). refused (on_call z)) says
        ∙ sym (margin-then p q ∙ asks-goes w.register item _ i ∙ stop (not (lawful p q)) _ _ (found_some number p q says l))

    module _ (p q number : ℕ) (says : number ≡ wrong_with p q) (left : number ≡ 0) (i : Asks w.register item) (d : Degree) (f : Fraction)
        (h : Graded w.register w.tree item d)
        (low : (f.num ≡ (lowest (d.number ÷ d.scale)).num) × (f.den ≡ (lowest (d.number ÷ d.scale)).den)) where
      ok : not (lawful p q) ≡ false
      ok = found_none number p q says left

      -- the two numbers of the degree and of the threshold are small
      pub margin-small : (f.num ≤ f.den) × (f.den ≤ most_scale) × (p ≤ q) × (q ≤ most_q)
      margin-small =
          let G = judged w.register in
          let t = w.tree in
          let same = lowest-answer i d f h low in
          let num : f.num ≡ (answered G t item).num = ap (λ (z : Frac). z.num) same in
          let den : f.den ≡ (answered G t item).den = ap (λ (z : Frac). z.den) same in
          let small = scale_small t w.held.held.small in
          let fit = lawful-takes p q (of-not (lawful p q) ok) in
          (omega (arith, answered-at-most-one G t item), omega (arith, (lowest-le (degree_of G t item)).1, scale_in_lem t), fit.most, fit.small)

      pub margin-answer : (m : Signed) → (m.num ≡ margin (f.num ÷ f.den) (p ÷ q)) × (m.den ≡ margin_over (f.num ÷ f.den) (p ÷ q))
          → SFits w64 m.num → MarginDone p q (Ok (record { margin = to_z w64 (of_z w64 m.num); over = m.den }))
      margin-answer m is fits =
          ap₂ (λ (x : ℤ) (y : ℕ). paper_margin (Ok (record { margin = x; over = y }))) (to_z-of_z fits ∙ is.0) is.1
          ∙ ap (λ (z : Frac). paper_margin (Ok (record { margin = margin z (p ÷ q); over = margin_over z (p ÷ q) }))) (lowest-answer i d f h low)
          ∙ sym (margin-then p q ∙ asks-goes w.register item _ i ∙ pass (not (lawful p q)) _ _ ok)
