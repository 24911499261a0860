-- The table of a list (document 02, §3): how long it is, what stands in each place of it, that its first row over the scale is the degree call's
-- answer for each item in service and 0 for one that is withdrawn, and that it is what is worked out over the tree as it is written.
-- Assumes nothing.
use mathlib.Core.Path.{◌≡◌, refl, sym, ap, ap₂, subst, ◌∙◌}
use mathlib.Core.Bool.{Bool, true, false, cond}
use mathlib.Core.List.{List, [], ◌∷◌, ◌++◌, append_assoc}
use Prim.Native.Nat.{ℕ, zero, suc, ◌+◌, ◌*◌, ◌≤◌, ◌<◌}
use native.Mathlib.Nat.{zero-add}
use native.Mathlib.Omega.{arith}
use native.Mathlib.Decide.{dec_lt}
use lib.Dec.{ltb}
use lib.ListN.{length, get_or, drop, length-append, replicate, length-replicate, replicate-append-replicate, get_or-append}
use lib.Seq.{get_or-append-add, get_or-append_seam, sets-eq}
use Rattle.meaning.specs.Refusal.{Answer, good, on_call, refuse_if, ◌>>◌}
use Rattle.meaning.specs.Tree.{node, Forest, none, more, Concept, under, nodes, nodes_f}
use Rattle.meaning.specs.Graph.{Graph}
use Rattle.meaning.specs.Register.{Register, withdrawn, judged, read_register}
use Rattle.meaning.specs.Reduce.{dropped, reduce, kept, kept_f, scale}
use Rattle.meaning.specs.Requirement.{bare}
use Rattle.meaning.specs.Fraction.{◌÷◌, lowest}
use Rattle.meaning.specs.Partial.{IsDegree}
use Rattle.meaning.specs.Degree.{degree, answered}
use Rattle.meaning.specs.Shown.{degree_map}
use Rattle.meaning.specs.Calls.{asked_for, Found, degree_call}
use Rattle.meaning.specs.InPlace.{placed_in, table_in, table_in_f}
use Rattle.meaning.specs.Table.{trees, trees_f, up_to, placed, rows_of, table, Tabled, list_call, after_list}
use Rattle.meaning.specs.ListRows.{ListTakes}
use Rattle.meaning.proofs.Reading.{pass, not-below}
use Rattle.meaning.proofs.Asked.{asks-goes}
use Rattle.meaning.proofs.ListRows.{readable-goes, list-taken, list-exactly}
use Rattle.meaning.proofs.Degree.{answered-is}
use Rattle.meaning.proofs.Written.{kept-written}
use Rattle.meaning.proofs.InPlace.{degree-in}
use Rattle.meaning.proofs.Kept.{kept-length}

-- ---- a row

pub up_to-long : (n : ℕ) (f : ℕ → ℕ) → length (up_to n f) ≡ n
unfolding up_to
up_to-long zero f = refl
up_to-long (suc n) f = length-append (up_to n f) (f n ∷ []) ∙ omega (arith, up_to-long n f)

pub up_to-at : (n : ℕ) (f : ℕ → ℕ) (x : ℕ) → x < n → get_or (up_to n f) x 0 ≡ f x
unfolding up_to
up_to-at zero f x l = absurd (omega arith)
up_to-at (suc n) f x l = go (dec_lt x n) (up_to-at n f x)
  where
    go : Dec (x < n) → (x < n → get_or (up_to n f) x 0 ≡ f x) → get_or (up_to n f ++ (f n ∷ [])) x 0 ≡ f x
    go (yes k) h = get_or-append (up_to n f) (f n ∷ []) 0 x (rw (up_to-long n f) k) ∙ h k
    go (no k) h =
        let same : x ≡ length (up_to n f) = omega (arith, k, up_to-long n f) in
        let last : x ≡ n = omega (arith, k) in
        ap (λ (z : ℕ). get_or (up_to n f ++ (f n ∷ [])) z 0) same ∙ get_or-append_seam (up_to n f) (f n) [] 0 ∙ ap f (sym last)

-- only what f gives up to n matters
pub up_to-same : (n : ℕ) (f g : ℕ → ℕ) → ((x : ℕ) → x < n → f x ≡ g x) → up_to n f ≡ up_to n g
unfolding up_to
up_to-same zero f g h = refl
up_to-same (suc n) f g h = ap₂ {C = List ℕ} (λ u v. u ++ (v ∷ [])) (up_to-same n f g (λ x l. h x (omega arith))) (h n (omega arith))

pub up_to-none : (n : ℕ) → up_to n (λ x. 0) ≡ replicate n 0
unfolding up_to
up_to-none zero = refl
up_to-none (suc n) =
    let one : n + 1 ≡ suc n = omega arith in
    ap (λ (z : List ℕ). z ++ (0 ∷ [])) (up_to-none n) ∙ replicate-append-replicate n 1 0 ∙ ap (λ (k : ℕ). replicate k 0) one

-- ---- the trees at the written nodes

mutual
  unfolding trees nodes

  pub trees-length : (t : Concept) → length (trees t) ≡ nodes t
  trees-length (node a f) = ap suc (trees_f-length f)

  trees_f-length : (f : Forest ℕ) → length (trees_f f) ≡ nodes_f f
  trees_f-length none = refl
  trees_f-length (more r t f) = length-append (trees t) (trees_f f) ∙ ap₂ ◌+◌ (trees-length t) (trees_f-length f)

module _ (G : Graph ℕ) (out : ℕ → Bool) (items : ℕ) where
  -- ---- the rows of nodes, one after the other

  rows_append : (ks ls : List Bool) (ts us : List Concept) → length ks ≡ length ts
      → rows_of G out items (ks ++ ls) (ts ++ us) ≡ rows_of G out items ks ts ++ rows_of G out items ls us
  unfolding rows_of
  rows_append [] ls [] us e = refl
  rows_append [] ls (t ∷ ts) us e = absurd (omega arith)
  rows_append (k ∷ ks) ls [] us e = absurd (omega arith)
  rows_append (k ∷ ks) ls (t ∷ ts) us e =
      ap (λ (z : List ℕ). up_to items (λ x. cond k (placed G out items t x) 0) ++ z) (rows_append ks ls ts us (omega arith))
      ∙ sym (append_assoc (up_to items (λ x. cond k (placed G out items t x) 0)) (rows_of G out items ks ts) (rows_of G out items ls us))

  rows_dropped : (n : ℕ) (ts : List Concept) → length ts ≡ n → rows_of G out items (replicate n false) ts ≡ replicate (n * items) 0
  unfolding rows_of
  rows_dropped zero [] e = let z : 0 ≡ 0 * items = omega arith in ap (λ (k : ℕ). replicate k 0) z
  rows_dropped zero (t ∷ ts) e = absurd (omega arith)
  rows_dropped (suc n) [] e = absurd (omega arith)
  rows_dropped (suc n) (t ∷ ts) e =
      let all : items + n * items ≡ suc n * items = omega arith in
      ap₂ {C = List ℕ} ◌++◌ (up_to-none items) (rows_dropped n ts (omega arith)) ∙ replicate-append-replicate items (n * items) 0
      ∙ ap (λ (k : ℕ). replicate k 0) all

  rows_long : (ks : List Bool) (ts : List Concept) → length ks ≡ length ts → length (rows_of G out items ks ts) ≡ length ts * items
  unfolding rows_of
  rows_long [] [] e = omega arith
  rows_long [] (t ∷ ts) e = absurd (omega arith)
  rows_long (k ∷ ks) [] e = absurd (omega arith)
  rows_long (k ∷ ks) (t ∷ ts) e =
      length-append (up_to items (λ x. cond k (placed G out items t x) 0)) _
      ∙ omega (arith, up_to-long items (λ x. cond k (placed G out items t x) 0), rows_long ks ts (omega arith))

  -- the place of the n-th node at an item
  rows_at : (ks : List Bool) (ts : List Concept) (n x : ℕ) (k₀ : Bool) (t₀ : Concept) → length ks ≡ length ts → n < length ts → x < items
      → get_or (rows_of G out items ks ts) (n * items + x) 0 ≡ cond (get_or ks n k₀) (placed G out items (get_or ts n t₀) x) 0
  unfolding rows_of
  rows_at [] [] n x k₀ t₀ e l m = absurd (omega arith)
  rows_at [] (t ∷ ts) n x k₀ t₀ e l m = absurd (omega arith)
  rows_at (k ∷ ks) [] n x k₀ t₀ e l m = absurd (omega arith)
  rows_at (k ∷ ks) (t ∷ ts) zero x k₀ t₀ e l m =
      let here : List ℕ = up_to items (λ y. cond k (placed G out items t y) 0) in
      let at : zero * items + x ≡ x = omega arith in
      let long : length here ≡ items = up_to-long items (λ y. cond k (placed G out items t y) 0) in
      ap (λ (z : ℕ). get_or (here ++ rows_of G out items ks ts) z 0) at
      ∙ get_or-append here (rows_of G out items ks ts) 0 x (rw long m)
      ∙ up_to-at items (λ y. cond k (placed G out items t y) 0) x m
  rows_at (k ∷ ks) (t ∷ ts) (suc n) x k₀ t₀ e l m =
      let here : List ℕ = up_to items (λ y. cond k (placed G out items t y) 0) in
      let long : length here ≡ items = up_to-long items (λ y. cond k (placed G out items t y) 0) in
      let at : suc n * items + x ≡ length here + (n * items + x) = omega (arith, long) in
      ap (λ (z : ℕ). get_or (here ++ rows_of G out items ks ts) z 0) at
      ∙ get_or-append-add here (rows_of G out items ks ts) (n * items + x) 0
      ∙ rows_at ks ts n x k₀ t₀ (omega arith) (omega arith) m

  -- ---- the table

  same_length : (t : Concept) → length (kept t) ≡ length (trees t)
  same_length t = kept-length t ∙ sym (trees-length t)

  pub table-long : (t : Concept) → length (table G out items t) ≡ nodes t * items
  table-long t = rows_long (kept t) (trees t) (same_length t) ∙ ap (λ (k : ℕ). k * items) (trees-length t)

  -- "the whole number over its scale that is a kept node's degree, 0 for a dropped node": of the n-th written node at item x
  pub table_at : (t : Concept) (n x : ℕ) → n < nodes t → x < items
      → get_or (table G out items t) (n * items + x) 0 ≡ cond (get_or (kept t) n false) (placed G out items (get_or (trees t) n t) x) 0
  table_at t n x l m = rows_at (kept t) (trees t) n x false t (same_length t) (rw (trees-length t) l) m

  -- the first row is the root's
  pub table-first : (t : Concept) (x : ℕ) → x < items → get_or (table G out items t) x 0 ≡ placed G out items t x
  unfolding kept trees rows_of
  table-first (node a f) x m =
      get_or-append (up_to items (λ y. placed G out items (node a f) y)) _ 0 x (rw (up_to-long items (λ y. placed G out items (node a f) y)) m)
      ∙ up_to-at items (λ y. placed G out items (node a f) y) x m

  -- ---- over the tree as it is written

  mutual
    unfolding table_in kept trees rows_of nodes

    pub table-in : (t : Concept) → table G out items t ≡ table_in G out items t
    table-in (node a f) =
        ap₂ {C = List ℕ} ◌++◌ (up_to-same items (λ y. placed G out items (node a f) y) (λ y. placed_in G out items (node a f) y) (λ y l. ap (λ (n : ℕ). cond (out y) 0 n) (degree-in G (node a f) y)))
        (table_f-in f none)

    table_f-in : (f b : Forest ℕ) → rows_of G out items (kept_f f b) (trees_f f) ≡ table_in_f G out items f b
    table_f-in none b = refl
    table_f-in (more r t f) b =
        ap (λ (ks : List Bool). rows_of G out items ks (trees t ++ trees_f f)) (kept-written r t f b)
        ∙ go (dropped (under r b) t (under r f)) (table-in t) (table_f-in f (more r t b))
      where
        go : (d : Bool) → table G out items t ≡ table_in G out items t → rows_of G out items (kept_f f (more r t b)) (trees_f f) ≡ table_in_f G out items f (more r t b)
            → rows_of G out items (cond d (replicate (nodes t) false) (kept t) ++ kept_f f (more r t b)) (trees t ++ trees_f f)
            ≡ cond d (replicate (nodes t * items) 0) (table_in G out items t) ++ table_in_f G out items f (more r t b)
        go true h e =
            rows_append (replicate (nodes t) false) (kept_f f (more r t b)) (trees t) (trees_f f) (length-replicate (nodes t) false ∙ sym (trees-length t))
            ∙ ap₂ {C = List ℕ} ◌++◌ (rows_dropped (nodes t) (trees t) (trees-length t)) e
        go false h e = rows_append (kept t) (kept_f f (more r t b)) (trees t) (trees_f f) (same_length t) ∙ ap₂ {C = List ℕ} ◌++◌ h e

  -- ---- a node's degree

  -- each kept node's row is that node's degree: of the n-th written node at item x, over the scale of the tree at that node
  pub kept-degree : (t : Concept) (n x : ℕ) → n < nodes t → x < items → get_or (kept t) n false ≡ true → out x ≡ false
      → IsDegree G (get_or (trees t) n t) x (lowest (get_or (table G out items t) (n * items + x) 0 ÷ scale (reduce (get_or (trees t) n t))))
  kept-degree t n x l m k o =
      let u = get_or (trees t) n t in
      let number : get_or (table G out items t) (n * items + x) 0 ≡ degree G (reduce u) x =
      table_at t n x l m ∙ ap₂ (λ (b c : Bool). cond b (cond c 0 (degree G (reduce u) x)) 0) k o in
      rw number (answered-is G u x)

  -- document 02, §5: in every row 0 stands at an item that is out
  pub table-out : (t : Concept) (n x : ℕ) → n < nodes t → x < items → out x ≡ true → get_or (table G out items t) (n * items + x) 0 ≡ 0
  table-out t n x l m o =
      table_at t n x l m ∙ ap (λ (c : Bool). cond (get_or (kept t) n false) (cond c 0 (degree G (reduce (get_or (trees t) n t)) x)) 0) o
      ∙ go (get_or (kept t) n false)
    where
      go : (b : Bool) → ◌≡◌ {A = ℕ} (cond b 0 0) 0
      go true = refl
      go false = refl

-- ---- the list and the single calls

good-inj : {A : Type 0} {a b : A} → good a ≡ good b → a ≡ b
good-inj e = cc

module _ (image message : List ℕ) (room : ℕ) (a : Tabled) (e : list_call image message room ≡ good a) (item : ℕ) (inside : item < a.items) where
  x : ListTakes image message room
  x = (list-exactly image message room).takes.0 (a, e)

  abbrev g : Register
  g = x.readable.register

  abbrev G : Graph ℕ
  G = judged g

  abbrev t : Concept
  t = bare x.readable.tree

  same : a ≡ record { items = length g.names; nodes = nodes t; scale = scale (reduce t); table = table G (withdrawn g) (length g.names) t }
  same = good-inj (sym e ∙ list-taken image message room x)

  among : item < length g.names
  among = subst (λ (z : ℕ). item < z) (ap (λ (z : Tabled). z.items) same) inside

  module _ (h : Register) (read : read_register image ≡ good h) where
    is : h ≡ g
    is = good-inj (sym read ∙ x.readable.read)

    -- "Its degrees equal the single calls' for each item" in service: the first row over the scale, in lowest terms, is the degree call's answer
    pub list-degree : withdrawn h item ≡ false → (places : ℕ) → a.nodes ≤ places
        → (m : List ℕ) × (degree_call image message item places ≡ good (record { degree = lowest (get_or a.table item 0 ÷ a.scale); map = m }))
    unfolding degree_call
    list-degree w places m = (degree_map G t item, call ∙ ap good answer)
      where
        serves : withdrawn g item ≡ false
        serves = ap (λ (z : Register). withdrawn z item) (sym is) ∙ w

        fits : nodes t ≤ places
        fits = subst (λ (z : ℕ). z ≤ places) (ap (λ (z : Tabled). z.nodes) same) m

        next : Register → Concept → Answer Found
        next k u = asked_for k item >> (refuse_if (ltb places (nodes u)) (on_call 16) >> good (record { degree = answered (judged k) u item; map = degree_map (judged k) u item }))

        call : degree_call image message item places ≡ good (record { degree = answered G t item; map = degree_map G t item })
        call =
            readable-goes image message next x.readable ∙ asks-goes g item _ (record { inside = among; serves = serves })
            ∙ pass (ltb places (nodes t)) _ _ (not-below places (nodes t) fits)

        number : get_or a.table item 0 ≡ degree G (reduce t) item
        number =
            ap (λ (z : Tabled). get_or z.table item 0) same ∙ table-first G (withdrawn g) (length g.names) t item among
            ∙ ap (λ (b : Bool). cond b 0 (degree G (reduce t) item)) serves

        answer : ◌≡◌ {A = Found} (record { degree = answered G t item; map = degree_map G t item })
            (record { degree = lowest (get_or a.table item 0 ÷ a.scale); map = degree_map G t item })
        answer = ap₂ (λ (n d : ℕ). record { degree = lowest (n ÷ d); map = degree_map G t item }) (sym number) (sym (ap (λ (z : Tabled). z.scale) same))

    -- and where the degree call would refuse a withdrawn item with 26, each row of the table holds 0
    pub list-withdrawn : withdrawn h item ≡ true → (n : ℕ) → n < a.nodes → get_or a.table (n * a.items + item) 0 ≡ 0
    list-withdrawn w n l =
        ap (λ (z : Tabled). get_or z.table (n * z.items + item) 0) same
        ∙ table-out G (withdrawn g) (length g.names) t n item (subst (λ (z : ℕ). n < z) (ap (λ (z : Tabled). z.nodes) same) l) among
        (ap (λ (z : Register). withdrawn z item) (sym is) ∙ w)

-- after a good call the table stands at the front, and "places behind stay"
pub list-leaves : (image message old : List ℕ) (a : Tabled) → list_call image message (length old) ≡ good a
    → after_list old (list_call image message (length old)) ≡ a.table ++ drop (length a.table) old
list-leaves image message old a e =
    ap (after_list old) e ∙ sets-eq a.table old 0 (omega (arith, long, x.fits)) ∙ ap (λ (k : ℕ). a.table ++ drop k old) (zero-add (length a.table))
  where
    x : ListTakes image message (length old)
    x = (list-exactly image message (length old)).takes.0 (a, e)

    long : length a.table ≡ nodes (bare x.readable.tree) * length x.readable.register.names
    long =
        ap (λ (z : Tabled). length z.table) (good-inj (sym e ∙ list-taken image message (length old) x))
        ∙ table-long (judged x.readable.register) (withdrawn x.readable.register) (length x.readable.register.names) (bare x.readable.tree)
