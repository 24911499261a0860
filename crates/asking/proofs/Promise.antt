-- What the promises of the degree call and of the margin call say, of any result that they allow: which inputs are taken and which refused with
-- what; that a good answer is the greatest value of a partial map, in lowest terms, with a map that reaches it; that it is 1/1 exactly when
-- a whole map exists; that the margin's sign is the comparison; and that no two results are allowed.
-- Assumes nothing.
use mathlib.Core.Path.{◌≡◌, refl, sym, ap, ap₂, subst, ◌∙◌}
use mathlib.Core.Logic.{◌↔◌, ◌⊎◌, inl, inr}
use mathlib.Core.Bool.{Bool, true, false}
use mathlib.Core.List.{List, [], ◌∷◌, ◌++◌}
use mathlib.Core.Option.{some}
use Prim.Native.Nat.{ℕ, ◌≤◌, ◌∣◌}
use native.Mathlib.Nat.{dvd_refl}
use native.Mathlib.Omega.{arith}
use lib.Dec.{ltb, ltb→lt}
use Rattle.std.specs.Prelude.{Result, Ok, Err}
use lib.IntN.{ℤ, pos, nat_abs}
use lib.ListN.{length, length-map}
use lib.Seq.{sets}
use Rattle.meaning.specs.declared.Refusal.{Refusal}
use Rattle.meaning.specs.Refusal.{Answer, good, refused, on_call, ◌>>=◌}
use Rattle.meaning.specs.Bytes.{Bytes}
use Rattle.meaning.specs.Tree.{Concept, nodes, role_at, subtree}
use Rattle.meaning.specs.Graph.{Graph}
use Rattle.meaning.specs.Register.{judged}
use Rattle.meaning.specs.Judged.{Judges}
use Rattle.meaning.specs.Whole.{WholeMap, held}
use Rattle.meaning.specs.Fraction.{Frac, ◌÷◌, Same, Lowest, fraction, margin, margin_over, Comparison, compares}
use Rattle.meaning.specs.FractionRows.{FractionTakes, FractionRow}
use Rattle.meaning.specs.Partial.{IsDegree}
use Rattle.meaning.specs.Degree.{degree, degree_of, answered}
use Rattle.meaning.specs.Reduce.{reduce}
use Rattle.meaning.specs.Shown.{degree_map, shown, mark_number}
use Rattle.meaning.specs.Calls.{Found, degree_call, after_degree, Against, margin_call}
use Rattle.meaning.specs.MayRefuse.{same_side, one_of, among, of_question}
use Rattle.meaning.proofs.Tests.{holds}
use Rattle.meaning.proofs.Reading.{pass, stop, halted, went, below, not-below, le-of-not-below}
use Rattle.meaning.proofs.Image.{read-image}
use Rattle.meaning.proofs.Judged.{judged-is}
use Rattle.meaning.proofs.Degree.{answered-is, answered-lowest}
use Rattle.meaning.proofs.FractionRows.{fraction-decided}
use Rattle.meaning.proofs.MayRefuse.{margin-gives}
use Rattle.meaning.proofs.One.{answered-one}
use Rattle.meaning.proofs.Shown.{Shows, degree-shows, degree-lowest}
use Rattle.meaning.proofs.Picked.{Greatest}
use Rattle.meaning.proofs.Rising.{LowestOf}
use Rattle.meaning.proofs.Margin.{sign, margin-sign, margin-zero, margin-fits}
use Rattle.fields.proofs.Once.{Apart, told_back, once, once-left}
use Rattle.asking.specs.declared.Answered.{Answered}
use Rattle.asking.specs.declared.Margin.{Margin}
use Rattle.asking.specs.Answers.{Told, paper_degree, told, paper_margin}
use Rattle.meaning.specs.Bounds.{most_margin}
use Rattle.asking.specs.Refusing.{Askable, Early, concept_of, DegreeTakes, DegreeRow, earlier, no_room, DegreePromise, MarginTakes, MarginRow, before, no_threshold, MarginPromise}
use Rattle.asking.proofs.Refusing.{asked, early-stops, askable-goes, early-or-askable}
use Rattle.asking.proofs.Calls.{degree_then, margin_then}

-- ---- the document's words tell all results apart

-- what two equal answers hold is equal
one-answer : {A : Type 0} {x y : A} → ◌≡◌ {A = Result A Refusal} (Ok x) (Ok y) → x ≡ y
one-answer e = cc

-- a good answer to each call
abbrev pub answer : ℕ → ℕ → ℕ → Result Answered Refusal
answer n d k = Ok (record { num = n; den = d; nodes = k })

abbrev pub offset : ℤ → ℕ → Result Margin Refusal
offset m o = Ok (record { margin = m; over = o })

abbrev back_degree : Answer Told → Result Answered Refusal
back_degree (good x) = answer x.degree.num x.degree.den x.places
back_degree (refused f) = Err f

pub degree-told : Apart paper_degree
degree-told = told_back paper_degree back_degree go
  where
    go : (r : Result Answered Refusal) → back_degree (paper_degree r) ≡ r
    go (Ok a) = refl
    go (Err f) = refl

abbrev back_margin : Answer Against → Result Margin Refusal
back_margin (good x) = offset x.margin x.over
back_margin (refused f) = Err f

pub margin-told : Apart paper_margin
margin-told = told_back paper_margin back_margin go
  where
    go : (r : Result Margin Refusal) → back_margin (paper_margin r) ≡ r
    go (Ok m) = refl
    go (Err f) = refl

-- a fraction in lowest terms that is 1 is 1/1
one-over-one : (d low : Frac) → Lowest d low → low.num ≡ low.den → (low.num ≡ 1) × (low.den ≡ 1)
one-over-one d low h e =
    let l : low.den ≤ 1 = h.bare low.den (subst (λ (z : ℕ). low.den ∣ z) (sym e) (dvd_refl low.den)) (dvd_refl low.den) in
    (omega (arith, h.positive), omega (arith, h.positive))

module _ (image message : List ℕ) (item : ℕ) where
  -- ---- the degree, of what is handed in

  module _ (room : ℕ) where
    degree-asked : degree_call image message item room ≡ asked image message item (degree_then item room)
    unfolding degree_call
    degree-asked = refl

    degree-row : (f : Refusal) → DegreeRow image message item room f → degree_call image message item room ≡ refused f
    degree-row f (earlier x) = degree-asked ∙ early-stops image message item (degree_then item room) f x
    degree-row f (no_room x l is) =
        degree-asked ∙ askable-goes image message item (degree_then item room) x
        ∙ stop (ltb room (nodes (concept_of x))) _ _ (below room (nodes (concept_of x)) l) ∙ ap refused (sym is)

    abbrev found : Askable image message item → Found
    found x = record {
      degree = answered (judged x.readable.register) (concept_of x) item;
      map = degree_map (judged x.readable.register) (concept_of x) item;
    }

    degree-taken : (x : DegreeTakes image message item room) → degree_call image message item room ≡ good (found x.asked)
    degree-taken x =
        let t = concept_of x.asked in
        degree-asked ∙ askable-goes image message item (degree_then item room) x.asked ∙ pass (ltb room (nodes t)) _ _ (not-below room (nodes t) x.fits)

    -- nothing is left out
    degree-either : ((f : Refusal) × DegreeRow image message item room f) ⊎ DegreeTakes image message item room
    degree-either = go (early-or-askable image message item)
      where
        fit : (x : Askable image message item) (b : Bool) → ltb room (nodes (concept_of x)) ≡ b
            → ((f : Refusal) × DegreeRow image message item room f) ⊎ DegreeTakes image message item room
        fit x true d = inl (on_call 16, no_room x (ltb→lt room (nodes (concept_of x)) (holds d)) refl)
        fit x false d = inr (record { asked = x; fits = le-of-not-below room (nodes (concept_of x)) d })

        go : ((f : Refusal) × Early image message item f) ⊎ Askable image message item
            → ((f : Refusal) × DegreeRow image message item room f) ⊎ DegreeTakes image message item room
        go (inl x) = inl (x.0, earlier x.1)
        go (inr x) = fit x (ltb room (nodes (concept_of x))) refl

  -- ---- the degree, of a result

  -- what a good answer n/d is, of a graph, a concept and an item
  pub record DegreeSays (G : Graph ℕ) (t : Concept) (n d k : ℕ) : Type 0 where
    pub greatest : IsDegree G t item (n ÷ d)
    pub lowest : Lowest (degree_of G t item) (n ÷ d)
    pub whole : ((n ≡ 1) × (d ≡ 1)) ↔ WholeMap (held G) G t item
    pub places : k ≡ nodes t

  module _ (old new : List ℕ) (r : Result Answered Refusal) (h : DegreePromise image message item old new r) where
    row-result : (f : Refusal) → DegreeRow image message item (length old) f → r ≡ Err f
    unfolding told ◌>>=◌
    row-result f x = degree-told r (Err f) (h.0 ∙ ap told (degree-row (length old) f x))

    taken-result : (x : DegreeTakes image message item (length old))
        → r ≡ answer (found (length old) x.asked).degree.num (found (length old) x.asked).degree.den (nodes (concept_of x.asked))
    unfolding told ◌>>=◌
    taken-result x =
        let G = judged x.asked.readable.register in
        let t = concept_of x.asked in
        let places : length (degree_map G t item) ≡ nodes t = length-map (shown G t (some item)) mark_number ∙ (degree-shows G t item).long in
        degree-told r _ (h.0 ∙ ap told (degree-taken (length old) x) ∙ ap (λ (k : ℕ). good (record { degree = answered G t item; places = k })) places)

    -- it is refused exactly when a row of the table holds, and then with that row's number and place; and the map is untouched
    pub refused-exactly : (f : Refusal) → (r ≡ Err f) ↔ DegreeRow image message item (length old) f
    refused-exactly f = (λ e. go e (degree-either (length old)), row-result f)
      where
        go : r ≡ Err f → ((f' : Refusal) × DegreeRow image message item (length old) f') ⊎ DegreeTakes image message item (length old)
            → DegreeRow image message item (length old) f
        go e (inl x) =
            let z : Err x.0 ≡ Err f = sym (row-result x.0 x.1) ∙ e in
            let y : x.0 ≡ f = cc in
            subst (DegreeRow image message item (length old)) y x.1
        go e (inr x) = let z = sym (taken-result x) ∙ e in let y : ◌≡◌ {A = ℕ} 0 1 = cc in absurd (omega arith)

    pub refused-keeps : (f : Refusal) → r ≡ Err f → new ≡ old
    refused-keeps f e = h.1 ∙ ap (after_degree old) (degree-row (length old) f ((refused-exactly f).0 e))

    -- and taken exactly when none does
    pub good-exactly : ((n : ℕ) × (d : ℕ) × (k : ℕ) × (r ≡ answer n d k)) ↔ DegreeTakes image message item (length old)
    good-exactly = (λ x. go x.3 (degree-either (length old)), λ x. (_, _, _, taken-result x))
      where
        go : {n d k : ℕ} → r ≡ answer n d k → ((f : Refusal) × DegreeRow image message item (length old) f) ⊎ DegreeTakes image message item (length old)
            → DegreeTakes image message item (length old)
        go e (inl x) = let z = sym (row-result x.0 x.1) ∙ e in let y : ◌≡◌ {A = ℕ} 0 1 = cc in absurd (omega arith)
        go e (inr x) = x

    module _ (x : DegreeTakes image message item (length old)) where
      abbrev G : Graph ℕ
      G = judged x.asked.readable.register

      abbrev t : Concept
      t = concept_of x.asked

      -- what is judged: "the register without withdrawn items and the links at them"
      pub graph-says : Judges x.asked.readable.register G
      graph-says = judged-is x.asked.readable.register

      -- "The degree is the greatest root value over all partial maps", "answered in lowest terms", and 1/1 exactly when a whole map exists
      pub degree-says : (n d k : ℕ) → r ≡ answer n d k → DegreeSays G t n d k
      degree-says n d k e =
          let z : answer (answered G t item).num (answered G t item).den (nodes t) ≡ answer n d k = sym (taken-result x) ∙ e in
          let a : (answered G t item).num ≡ n = ap (λ (v : Answered). v.num) (one-answer z) in
          let b : (answered G t item).den ≡ d = ap (λ (v : Answered). v.den) (one-answer z) in
          let same : answered G t item ≡ n ÷ d = ap₂ ◌÷◌ a b in
          let low : Lowest (degree_of G t item) (n ÷ d) = subst (Lowest (degree_of G t item)) same (answered-lowest G t item) in
          record {
            greatest = subst (IsDegree G t item) same (answered-is G t item);
            lowest = low;
            whole = (
              (λ o. (answered-one G t item).0 (a ∙ o.0 ∙ sym o.1 ∙ sym b)),
              (λ m. one-over-one (degree_of G t item) (n ÷ d) low (sym a ∙ (answered-one G t item).1 m ∙ b)),
            );
            places = sym (ap (λ (v : Answered). v.nodes) (one-answer z));
          }

      -- the map shown is a partial map that reaches it, each child at the first successor of greatest degree; places behind it stay
      pub map-says : (new ≡ sets old 0 (degree_map G t item)) × Shows G t item
      map-says = (h.1 ∙ ap (after_degree old) (degree-taken (length old) x), degree-shows G t item)

      -- "A child goes to the lowest-numbered among the successors of greatest degree": the links of an image rise
      pub map-lowest : Bytes image → (p : List ℕ) (k role : ℕ) (s : Concept) (z y : ℕ) → role_at (reduce t) p k ≡ some role
          → subtree (reduce t) (p ++ k ∷ []) ≡ some s → map-says.1.partial.map p ≡ some z → map-says.1.partial.map (p ++ k ∷ []) ≡ some y
          → LowestOf (Greatest (λ w. degree G s w) (G.next z role)) (G.next z role) y
      map-lowest b = degree-lowest x.asked.readable.register (read-image image x.asked.readable.register b x.asked.readable.read).0 t item map-says.1

  -- any two results that the promise allows are equal
  pub one-degree-result : (old new new' : List ℕ) (r s : Result Answered Refusal) → DegreePromise image message item old new r → DegreePromise image message item old new' s
      → (r ≡ s) × (new ≡ new')
  one-degree-result old new new' r s = once-left paper_degree degree-told _ _ r s new new'

  -- ---- the margin

  module _ (p q : ℕ) where
    margin-asked : margin_call image message item p q ≡ asked image message item (margin_then item p q)
    unfolding margin_call
    margin-asked = refl

    margin-row : (f : Refusal) → MarginRow image message item p q f → margin_call image message item p q ≡ refused f
    margin-row f (before x) = margin-asked ∙ early-stops image message item (margin_then item p q) f x
    margin-row f (no_threshold x r) =
        margin-asked ∙ askable-goes image message item (margin_then item p q) x ∙ halted (fraction on_call p q) _ f ((fraction-decided p q on_call).refused-where f r)

    abbrev against : Askable image message item → Against
    against x =
        let d = answered (judged x.readable.register) (concept_of x) item in
        record { margin = margin d (p ÷ q); over = margin_over d (p ÷ q) }

    margin-taken : (x : MarginTakes image message item p q) → margin_call image message item p q ≡ good (against x.asked)
    margin-taken x =
        margin-asked ∙ askable-goes image message item (margin_then item p q) x.asked
        ∙ went (fraction on_call p q) _ ((fraction-decided p q on_call).good-where x.rule).1

    margin-either : ((f : Refusal) × MarginRow image message item p q f) ⊎ MarginTakes image message item p q
    margin-either = go (early-or-askable image message item)
      where
        ruled : Askable image message item → FractionTakes p q ⊎ ((f : Refusal) × FractionRow on_call p q f)
            → ((f : Refusal) × MarginRow image message item p q f) ⊎ MarginTakes image message item p q
        ruled x (inl t) = inr (record { asked = x; rule = t })
        ruled x (inr r) = inl (r.0, no_threshold x r.1)

        go : ((f : Refusal) × Early image message item f) ⊎ Askable image message item → ((f : Refusal) × MarginRow image message item p q f) ⊎ MarginTakes image message item p q
        go (inl x) = inl (x.0, before x.1)
        go (inr x) = ruled x (fraction-decided p q on_call).either

    -- what a good answer m over o is, of a degree
    pub record MarginSays (d : Frac) (m : ℤ) (o : ℕ) : Type 0 where
      pub margin-is : m ≡ margin d (p ÷ q)
      pub over-is : o ≡ margin_over d (p ÷ q)
      pub sign-is : (c : Comparison) → compares c d (p ÷ q) ≡ sign c m
      pub zero_is : (m ≡ pos 0) ↔ Same d (p ÷ q)
      pub within : (nat_abs m ≤ most_margin) × (o ≤ most_margin)

    module _ (r : Result Margin Refusal) (h : MarginPromise image message item p q r) where
      margin-row-result : (f : Refusal) → MarginRow image message item p q f → r ≡ Err f
      margin-row-result f x = margin-told r (Err f) (h ∙ margin-row f x)

      margin-result : (x : MarginTakes image message item p q) → r ≡ offset (against x.asked).margin (against x.asked).over
      margin-result x = margin-told r _ (h ∙ margin-taken x)

      pub margin-refused-exactly : (f : Refusal) → (r ≡ Err f) ↔ MarginRow image message item p q f
      margin-refused-exactly f = (λ e. go e margin-either, margin-row-result f)
        where
          go : r ≡ Err f → ((f' : Refusal) × MarginRow image message item p q f') ⊎ MarginTakes image message item p q → MarginRow image message item p q f
          go e (inl x) =
              let z : Err x.0 ≡ Err f = sym (margin-row-result x.0 x.1) ∙ e in
              let y : x.0 ≡ f = cc in
              subst (MarginRow image message item p q) y x.1
          go e (inr x) = let z = sym (margin-result x) ∙ e in let y : ◌≡◌ {A = ℕ} 0 1 = cc in absurd (omega arith)

      pub margin-good-exactly : ((m : ℤ) × (o : ℕ) × (r ≡ offset m o)) ↔ MarginTakes image message item p q
      margin-good-exactly = (λ x. go x.2 margin-either, λ x. (_, _, margin-result x))
        where
          go : {m : ℤ} {o : ℕ} → r ≡ offset m o → ((f : Refusal) × MarginRow image message item p q f) ⊎ MarginTakes image message item p q
              → MarginTakes image message item p q
          go e (inl x) = let z = sym (margin-row-result x.0 x.1) ∙ e in let y : ◌≡◌ {A = ℕ} 0 1 = cc in absurd (omega arith)
          go e (inr x) = x

      -- "negative below the threshold, zero at it, positive above, never beyond 3,486,784,401,000 either way"
      pub margin-says : (x : MarginTakes image message item p q) (m : ℤ) (o : ℕ) → r ≡ offset m o
          → MarginSays (answered (judged x.asked.readable.register) (concept_of x.asked) item) m o
      margin-says x m o e =
          let G = judged x.asked.readable.register in
          let t = concept_of x.asked in
          let d = answered G t item in
          let z : offset (margin d (p ÷ q)) (margin_over d (p ÷ q)) ≡ offset m o = sym (margin-result x) ∙ e in
          let a : margin d (p ÷ q) ≡ m = ap (λ (v : Margin). v.margin) (one-answer z) in
          let b : margin_over d (p ÷ q) ≡ o = ap (λ (v : Margin). v.over) (one-answer z) in
          let small = margin-fits G t item p q x.asked.readable.small x.rule.most x.rule.small in
          record {
            margin-is = sym a;
            over-is = sym b;
            sign-is = λ c. margin-sign c d (p ÷ q) ∙ ap (sign c) a;
            zero_is = subst (λ (y : ℤ). (y ≡ pos 0) ↔ Same d (p ÷ q)) a (margin-zero d (p ÷ q));
            within = (subst (λ (y : ℤ). nat_abs y ≤ most_margin) a small.0, subst (λ (y : ℕ). y ≤ most_margin) b small.1);
          }

      -- document 02, §2: 13 is for a comparison, and a margin has none
      pub never-thirteen : r ≡ Err (on_call 13) → ⊥
      unfolding of_question among one_of same_side
      never-thirteen e = (margin-gives image message item p q).only (on_call 13) (sym h ∙ ap paper_margin e)

      pub margin-within : (m : ℤ) (o : ℕ) → r ≡ offset m o → nat_abs m ≤ most_margin
      margin-within m o e = (margin-says (margin-good-exactly.0 (m, o, e)) m o e).within.0

    pub one-margin-result : (r s : Result Margin Refusal) → MarginPromise image message item p q r → MarginPromise image message item p q s → r ≡ s
    one-margin-result = once paper_margin margin-told _
