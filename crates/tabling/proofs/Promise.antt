-- What the promise of the list call says, of any result that it allows: which inputs are taken and which refused with what; what each place of the
-- table holds afterwards, and that it is 0 in every row at a withdrawn item; that the degree call gives the same for each item in service; and that no
-- two results are allowed.
-- Assumes nothing.
use mathlib.Core.Path.{◌≡◌, refl, sym, ap, ap₂, subst, ◌∙◌}
use mathlib.Core.Logic.{◌↔◌, ◌⊎◌, inl, inr}
use mathlib.Core.Bool.{Bool, true, false, cond}
use mathlib.Core.List.{List}
use Prim.Native.Nat.{ℕ, ◌+◌, ◌*◌, ◌≤◌, ◌<◌}
use native.Mathlib.Nat.{mul-le-mul_right}
use native.Mathlib.Omega.{arith}
use lib.ListN.{length, get_or}
use lib.Seq.{sets}
use Rattle.std.specs.Prelude.{Result, Ok, Err}
use Rattle.meaning.specs.declared.Refusal.{Refusal}
use Rattle.meaning.specs.Refusal.{Answer, good, refused, ◌>>=◌}
use Rattle.meaning.specs.Tree.{node, Concept, nodes}
use Rattle.meaning.specs.Graph.{Graph}
use Rattle.meaning.specs.Register.{withdrawn, judged}
use Rattle.meaning.specs.Reduce.{reduce, kept, scale}
use Rattle.meaning.specs.Requirement.{bare}
use Rattle.meaning.specs.Fraction.{◌÷◌, lowest}
use Rattle.meaning.specs.Degree.{degree}
use Rattle.meaning.specs.Calls.{degree_call}
use Rattle.meaning.specs.Table.{trees, table, after_list}
use Rattle.meaning.specs.ListRows.{ListTakes, ListRow}
use Rattle.meaning.proofs.Stores.{sets-at, sets-beyond}
use Rattle.meaning.proofs.Table.{table-long, table_at, table-out, list-degree}
use Rattle.meaning.proofs.ListRows.{list-taken, list-row, list-decided}
use Rattle.fields.proofs.Once.{Apart, told_back, once-left}
use Rattle.tabling.specs.declared.Listed.{Listed}
use Rattle.tabling.specs.Answers.{Told, paper_list, told, ListPromise}

-- a good answer
abbrev pub listed : ℕ → ℕ → ℕ → Result Listed Refusal
listed n k d = Ok (record { items = n; nodes = k; scale = d })

-- what two equal answers hold is equal
one-answer : {x y : Listed} → ◌≡◌ {A = Result Listed Refusal} (Ok x) (Ok y) → x ≡ y
one-answer e = cc

-- the document's words tell all results apart
abbrev back : Answer Told → Result Listed Refusal
back (good x) = listed x.items x.nodes x.scale
back (refused f) = Err f

pub list-told : Apart paper_list
list-told = told_back paper_list back go
  where
    go : (r : Result Listed Refusal) → back (paper_list r) ≡ r
    go (Ok l) = refl
    go (Err f) = refl

some-nodes : (t : Concept) → 1 ≤ nodes t
unfolding nodes
some-nodes (node a f) = omega arith

module _ (image message : List ℕ) where
  module _ (old new : List ℕ) (r : Result Listed Refusal) (h : ListPromise image message old new r) where
    row-result : (f : Refusal) → ListRow image message (length old) f → r ≡ Err f
    unfolding told ◌>>=◌
    row-result f x = list-told r (Err f) (h.0 ∙ ap told (list-row image message (length old) f x))

    taken-result : (x : ListTakes image message (length old))
        → r ≡ listed (length x.readable.register.names) (nodes (bare x.readable.tree)) (scale (reduce (bare x.readable.tree)))
    unfolding told ◌>>=◌
    taken-result x = list-told r _ (h.0 ∙ ap told (list-taken image message (length old) x))

    -- it is refused exactly when a row of the table of refusals holds, and then with that row's number and place; and the table is untouched
    pub refused-exactly : (f : Refusal) → (r ≡ Err f) ↔ ListRow image message (length old) f
    refused-exactly f = (λ e. go e (list-decided image message (length old)).either, row-result f)
      where
        go : r ≡ Err f → ListTakes image message (length old) ⊎ ((f' : Refusal) × ListRow image message (length old) f') → ListRow image message (length old) f
        go e (inl x) = let z = sym (taken-result x) ∙ e in let y : ◌≡◌ {A = ℕ} 0 1 = cc in absurd (omega arith)
        go e (inr x) =
            let z : Err x.0 ≡ Err f = sym (row-result x.0 x.1) ∙ e in
            let y : x.0 ≡ f = cc in
            subst (ListRow image message (length old)) y x.1

    pub refused-keeps : (f : Refusal) → r ≡ Err f → new ≡ old
    refused-keeps f e = h.1 ∙ ap (after_list old) (list-row image message (length old) f ((refused-exactly f).0 e))

    -- and taken exactly when none does
    pub good-exactly : ((n : ℕ) × (k : ℕ) × (d : ℕ) × (r ≡ listed n k d)) ↔ ListTakes image message (length old)
    good-exactly = (λ x. go x.3 (list-decided image message (length old)).either, λ x. (_, _, _, taken-result x))
      where
        go : {n k d : ℕ} → r ≡ listed n k d → ListTakes image message (length old) ⊎ ((f : Refusal) × ListRow image message (length old) f)
            → ListTakes image message (length old)
        go e (inl x) = x
        go e (inr x) = let z = sym (row-result x.0 x.1) ∙ e in let y : ◌≡◌ {A = ℕ} 0 1 = cc in absurd (omega arith)

    module _ (x : ListTakes image message (length old)) where
      abbrev G : Graph ℕ
      G = judged x.readable.register

      abbrev out : ℕ → Bool
      out = withdrawn x.readable.register

      abbrev t : Concept
      t = bare x.readable.tree

      abbrev items : ℕ
      items = length x.readable.register.names

      filled : new ≡ sets old 0 (table G out items t)
      filled = h.1 ∙ ap (after_list old) (list-taken image message (length old) x)

      long : length (table G out items t) ≡ nodes t * items
      long = table-long G out items t

      front : (p : ℕ) → p < nodes t * items → get_or new p 0 ≡ get_or (table G out items t) p 0
      front p l = ap (λ (z : List ℕ). get_or z p 0) filled ∙ here ∙ sets-at old 0 (table G out items t) p (omega (arith, long)) (omega (arith, long, x.fits))
        where
          here : get_or (sets old 0 (table G out items t)) p 0 ≡ get_or (sets old 0 (table G out items t)) (0 + p) 0
          here = let z : p ≡ 0 + p = omega arith in ap (λ (y : ℕ). get_or (sets old 0 (table G out items t)) y 0) z

      placed-front : (n y : ℕ) → n < nodes t → y < items → get_or new (n * items + y) 0 ≡ get_or (table G out items t) (n * items + y) 0
      placed-front n y l m =
          let one : n + 1 ≤ nodes t = omega arith in
          front (n * items + y) (omega (arith, mul-le-mul_right items one))

      -- "the whole number over its scale that is a kept node's degree, 0 for a dropped node"; and 0 at a withdrawn item
      pub place-says : (n y : ℕ) → n < nodes t → y < items
          → get_or new (n * items + y) 0 ≡ cond (get_or (kept t) n false) (cond (out y) 0 (degree G (reduce (get_or (trees t) n t)) y)) 0
      place-says n y l m = placed-front n y l m ∙ table_at G out items t n y l m

      -- document 02, §5: the "table holds 0 at a withdrawn item", in every row
      pub withdrawn-says : (n y : ℕ) → n < nodes t → y < items → out y ≡ true → get_or new (n * items + y) 0 ≡ 0
      withdrawn-says n y l m o = placed-front n y l m ∙ table-out G out items t n y l m o

      -- "places behind stay"
      pub behind-stays : (p : ℕ) → nodes t * items ≤ p → get_or new p 0 ≡ get_or old p 0
      behind-stays p l = ap (λ (z : List ℕ). get_or z p 0) filled ∙ sets-beyond old 0 (table G out items t) p (inr (omega (arith, long)))

      -- "Its degrees equal the single calls' for each item" in service
      pub degree-says : (n k d : ℕ) → r ≡ listed n k d → (item places : ℕ) → item < n → out item ≡ false → k ≤ places
          → (m : List ℕ) × (degree_call image message item places ≡ good (record { degree = lowest (get_or new item 0 ÷ d); map = m }))
      degree-says n k d e item places l o m =
          let z : listed items (nodes t) (scale (reduce t)) ≡ listed n k d = sym (taken-result x) ∙ e in
          let en : items ≡ n = ap (λ (v : Listed). v.items) (one-answer z) in
          let ek : nodes t ≡ k = ap (λ (v : Listed). v.nodes) (one-answer z) in
          let ed : scale (reduce t) ≡ d = ap (λ (v : Listed). v.scale) (one-answer z) in
          let inside : item < items = omega arith in
          let within : item < nodes t * items = omega (arith, mul-le-mul_right items (some-nodes t)) in
          let call = list-degree image message (length old) _ (list-taken image message (length old) x) item inside _ x.readable.read o places (omega arith) in
          let same : get_or (table G out items t) item 0 ≡ get_or new item 0 = sym (front item within) in
          (call.0, call.1 ∙ ap₂ (λ (y v : ℕ). good (record { degree = lowest (y ÷ v); map = call.0 })) same ed)

  -- any two results that the promise allows are equal
  pub one-list-result : (old new new' : List ℕ) (r s : Result Listed Refusal) → ListPromise image message old new r → ListPromise image message old new' s → (r ≡ s) × (new ≡ new')
  one-list-result old new new' r s = once-left paper_list list-told _ _ r s new new'
