-- The rows of a tree while they are filled: the root's row with the children so far folded in, and behind it the rows of these children.
-- Assumes nothing.
use mathlib.Core.Path.{◌≡◌, refl, sym, ap, ap₂, subst, ◌∙◌}
use mathlib.Core.Bool.{Bool, true, false, cond}
use mathlib.Core.List.{List, [], ◌++◌, append_assoc, append-nil, Memᴰ}
use Prim.Native.Nat.{ℕ, ◌+◌, ◌-◌, ◌*◌, ◌≤◌, ◌<◌, max}
use native.Mathlib.Nat.{mul-le-mul_right}
use native.Mathlib.Omega.{arith}
use lib.Dec.{eqb}
use lib.ListN.{length, get_or, length-append, replicate, length-replicate, get_or-append}
use lib.Seq.{sets, length-sets}
use borrow.Author.Tests.{eq-eqb, ne_eqb}
use Rattle.meaning.specs.Names.{common}
use Rattle.meaning.specs.Names.{names as many}
use Rattle.meaning.specs.Tree.{node, Forest, none, more, Concept, children, under, nodes}
use Rattle.meaning.specs.Graph.{Graph}
use Rattle.meaning.specs.Register.{except}
use Rattle.meaning.specs.Reduce.{dropped}
use Rattle.meaning.specs.Degree.{or_one, best}
use Rattle.meaning.specs.Table.{up_to}
use Rattle.meaning.specs.InPlace.{scale_in, degree_in, placed_in, table_in, table_in_f}
use Rattle.meaning.specs.Rows.{Holds, HoldsF, mark, Marked, MarkedF}
use Rattle.meaning.proofs.Stores.{sets-append, sets-at, sets_over}
use Rattle.meaning.proofs.Rows.{first, ran_out, holds-nodes, holds-one, holds_f-one}
use Rattle.meaning.proofs.Table.{up_to-long, up_to-at, up_to-same, up_to-none, table-long, table-in}
use Rattle.meaning.proofs.Same.{best-same}
use Rattle.graph.proofs.Walked.{best-struck}
use Rattle.degrees.proofs.But.{but-all}
use Rattle.degrees.proofs.Folding.{Rest, Child, full_count, full_scale, full_sum, rest-skip, rest-child, rest-next, rest-whole}

module _ (G : Graph ℕ) (out : ℕ → Bool) (items : ℕ) where
  -- ---- the rows of a tree

  pub table-size : (t : Concept) → length (table_in G out items t) ≡ nodes t * items
  table-size t = ap length (sym (table-in G out items t)) ∙ table-long G out items t

  -- the first of them is the root's
  pub table-root : (t : Concept) (x : ℕ) → x < items → get_or (table_in G out items t) x 0 ≡ placed_in G out items t x
  unfolding table_in
  table-root (node a f) x l =
      get_or-append (up_to items (λ y. placed_in G out items (node a f) y)) _ 0 x (rw (up_to-long items (λ y. placed_in G out items (node a f) y)) l)
      ∙ up_to-at items (λ y. placed_in G out items (node a f) y) x l

  -- the root's row, and behind it those of its children
  pub table-whole : (t : Concept) (row : ℕ → ℕ) → ((x : ℕ) → x < items → placed_in G out items t x ≡ row x)
      → up_to items row ++ table_in_f G out items (children t) none ≡ table_in G out items t
  unfolding table_in
  table-whole (node a f) row h = ap (λ (z : List ℕ). z ++ table_in_f G out items f none) (up_to-same items row (λ x. placed_in G out items (node a f) x) (λ x l. sym (h x l)))

  -- a tree's scale and degree, of what is counted and summed at its root
  full-scale : (t : Concept) → scale_in t ≡ max 1 (full_count t) * full_scale t
  unfolding scale_in
  full-scale (node a f) = refl

  full-degree : (t : Concept) (x : ℕ) → degree_in G t x ≡ or_one (full_count t) (full_sum G t x)
  unfolding degree_in
  full-degree (node a f) x = refl

  module _ (ends marks : List ℕ) where
    -- the rows of children from row i on, where the marks say which are dropped
    unfoldable pub marked : Forest ℕ → ℕ → List ℕ
    unfolding table_in nodes
    marked none i = []
    marked (more r t f) i = cond (eqb (get_or marks i 0) 0) (replicate (nodes t * items) 0) (table_in G out items t) ++ marked f (get_or ends i 0)

    pub marked-in : (f b : Forest ℕ) (i : ℕ) → MarkedF ends marks f b i → marked f i ≡ table_in_f G out items f b
    unfolding Marked marked table_in
    marked-in none b i m = refl
    marked-in (more r t f) b i m = go (dropped (under r b) t (under r f)) m.0 (marked-in f (more r t b) (get_or ends i 0) m.2)
      where
        go : (d : Bool) → get_or marks i 0 ≡ mark d → marked f (get_or ends i 0) ≡ table_in_f G out items f (more r t b)
            → cond (eqb (get_or marks i 0) 0) (replicate (nodes t * items) 0) (table_in G out items t) ++ marked f (get_or ends i 0)
            ≡ cond d (replicate (nodes t * items) 0) (table_in G out items t) ++ table_in_f G out items f (more r t b)
        go true e h = rw (e, h) refl
        go false e h = rw (e, h) refl

    -- one child, and those behind it
    marked-one : (f : Forest ℕ) (r i : ℕ) (t : Concept) (b : Bool) → eqb (get_or marks i 0) 0 ≡ b
        → marked (more r t f) i ≡ cond b (replicate (nodes t * items) 0) (table_in G out items t) ++ marked f (get_or ends i 0)
    unfolding marked
    marked-one f r i t b e = rw e refl

  module _ (names roles ends marks : List ℕ) (t : Concept) (left root : ℕ) (old : List ℕ) where
    abbrev Left : ℕ → ℕ → ℕ → (ℕ → ℕ) → Type 0
    Left c n p acc = Rest names roles ends marks G t (left - 1) (get_or ends root 0) root c n p acc (λ x. x < items)

    -- the children from row c on are left; so far n is counted, and the scales' product is p
    pub record Sofar (table : List ℕ) (n p c : ℕ) : Type 0 where
      pub acc : ℕ → ℕ
      pub done : List ℕ
      pub behind : root < c
      pub rest : Left c n p acc
      pub made : done ++ marked ends marks rest.rest c ≡ marked ends marks (children t) (root + 1)
      pub place : root * items + items + length done ≡ c * items
      pub table_is : table ≡ sets old (root * items) (up_to items acc ++ done)

    module _ {table : List ℕ} {n p c : ℕ} (w : Sofar table n p c) where
      front : root * items + length (up_to items w.acc ++ w.done) ≡ c * items
      front = let q = length-append (up_to items w.acc) w.done in omega (arith, q, up_to-long items w.acc, w.place)

      -- the root's row, with any rows behind it
      root-row : (now behind : List ℕ) → now ≡ sets old (root * items) (up_to items w.acc ++ behind) → root * items + items + length behind ≤ length old
          → (x : ℕ) → x < items → get_or now (root * items + x) 0 ≡ w.acc x
      root-row now behind e room x i =
          let row : List ℕ = up_to items w.acc in
          let a : length row ≡ items = up_to-long items w.acc in
          let b = length-append row behind in
          ap (λ (z : List ℕ). get_or z (root * items + x) 0) e
          ∙ sets-at old (root * items) (row ++ behind) x (omega (arith, a, b)) (omega (arith, a, b, room))
          ∙ get_or-append row behind 0 x (omega (arith, a)) ∙ up_to-at items w.acc x i

      module _ (l : c < get_or ends root 0) where
        -- the next child's tree, and the children behind it
        abbrev pub kid : Concept
        kid = (first names roles ends w.rest.rest (left - 1) c (get_or ends root 0) w.rest.held l).tree

        pub kid-held : Holds names roles ends kid (left - 1) c (get_or ends c 0)
        kid-held = (first names roles ends w.rest.rest (left - 1) c (get_or ends root 0) w.rest.held l).here

        pub kid-ends : get_or ends c 0 * items ≡ c * items + nodes kid * items
        kid-ends =
            let e : c + nodes kid ≡ get_or ends c 0 = holds-nodes names roles ends kid (left - 1) c (get_or ends c 0) kid-held in
            ap (λ (z : ℕ). z * items) (sym e) ∙ omega arith

        -- its rows behind those so far
        grown : (xs : List ℕ) → sets table (c * items) xs ≡ sets old (root * items) (up_to items w.acc ++ (w.done ++ xs))
        grown xs =
            ap (λ (z : List ℕ). sets z (c * items) xs) w.table_is
            ∙ sym (sets-append old (root * items) (c * items) (up_to items w.acc ++ w.done) xs (sym front))
            ∙ ap (sets old (root * items)) (append_assoc (up_to items w.acc) w.done xs)

        -- what the next children's rows are to be, of rows xs for this one
        next-made : (n' p' : ℕ) (acc' : ℕ → ℕ) (r : Left (get_or ends c 0) n' p' acc') (b : Bool) → eqb (get_or marks c 0) 0 ≡ b
            → w.done ++ cond b (replicate (nodes kid * items) 0) (table_in G out items kid) ++ marked ends marks r.rest (get_or ends c 0)
            ≡ marked ends marks (children t) (root + 1)
        next-made n' p' acc' r b e =
            let F = first names roles ends w.rest.rest (left - 1) c (get_or ends root 0) w.rest.held l in
            let same : r.rest ≡ F.rest = holds_f-one names roles ends r.rest F.rest (left - 1) (left - 1) (get_or ends c 0) (get_or ends root 0) r.held F.after in
            append_assoc w.done (cond b (replicate (nodes kid * items) 0) (table_in G out items kid)) (marked ends marks r.rest (get_or ends c 0))
            ∙ ap (λ (f : Forest ℕ). w.done ++ (cond b (replicate (nodes kid * items) 0) (table_in G out items kid) ++ marked ends marks f (get_or ends c 0))) same
            ∙ ap (λ (z : List ℕ). w.done ++ z) (sym (marked-one ends marks F.rest (get_or roles c 0) c kid b e))
            ∙ ap (λ (f : Forest ℕ). w.done ++ marked ends marks f c) (sym F.same) ∙ w.made

        next_place : (xs : List ℕ) → length xs ≡ nodes kid * items → root * items + items + length (w.done ++ xs) ≡ get_or ends c 0 * items
        next_place xs e = let q = length-append w.done xs in omega (arith, q, e, kid-ends, w.place)

        -- a dropped child's rows are zeros
        pub sofar-skip : get_or marks c 0 ≡ 0 → (new : List ℕ) → new ≡ sets table (c * items) (up_to (get_or ends c 0 * items - c * items) (λ x. 0)) → Sofar new n p (get_or ends c 0)
        sofar-skip m new e =
            let zeros : List ℕ = replicate (nodes kid * items) 0 in
            let rest' = rest-skip w.rest l m in
            let many : get_or ends c 0 * items - c * items ≡ nodes kid * items = omega (arith, kid-ends) in
            record {
              acc = w.acc;
              done = w.done ++ zeros;
              behind = omega (arith, w.behind, (rest-next w.rest l).0);
              rest = rest';
              made = next-made n p w.acc rest' true (eq-eqb (get_or marks c 0) 0 m);
              place = next_place zeros (length-replicate (nodes kid * items) 0);
              table_is = e ∙ ap (λ (k : ℕ). sets table (c * items) (up_to k (λ x. 0))) many ∙ ap (sets table (c * items)) (up_to-none (nodes kid * items)) ∙ grown zeros;
            }

        -- ---- a kept child

        module _ (m : get_or marks c 0 ≡ 0 → ⊥) where
          pub child : Child names roles ends marks G t (left - 1) (get_or ends root 0) root c n p w.acc (λ x. x < items)
          child = rest-child w.rest l m (λ e. let z : c ≡ root = e in omega (arith, w.behind))

          abbrev pub tree : Concept
          tree = child.tree

          same : kid ≡ tree
          same = holds-one names roles ends kid tree (left - 1) (left - 1) c (get_or ends c 0) (get_or ends c 0) kid-held child.held

          size : length (table_in G out items tree) ≡ nodes kid * items
          size = table-size tree ∙ ap (λ (u : Concept). nodes u * items) (sym same)

          -- the root's number of an item with the child folded in
          abbrev pub turned : ℕ → ℕ
          turned x = w.acc x * scale_in tree + best (λ y. degree_in G tree y) (G.next x (get_or roles c 0)) * p

          -- the child's rows are filled, and there is room for them
          module _ (new : List ℕ) (filled : new ≡ sets table (c * items) (table_in G out items tree)) (room : get_or ends root 0 * items ≤ length old) where
            fits : c * items + length (table_in G out items tree) ≤ length old
            fits = omega (arith, size, kid-ends, mul-le-mul_right items (rest-next w.rest l).1)

            whole : new ≡ sets old (root * items) (up_to items w.acc ++ (w.done ++ table_in G out items tree))
            whole = filled ∙ grown (table_in G out items tree)

            child-row : (y : ℕ) → y < items → get_or new (c * items + y) 0 ≡ placed_in G out items tree y
            child-row y i =
                let some : 1 ≤ nodes kid = omega (arith, holds-nodes names roles ends kid (left - 1) c (get_or ends c 0) kid-held, (rest-next w.rest l).0) in
                let long : y < length (table_in G out items tree) = omega (arith, size, mul-le-mul_right items some) in
                let same_size : length table ≡ length old = ap length w.table_is ∙ length-sets old (root * items) (up_to items w.acc ++ w.done) in
                ap (λ (z : List ℕ). get_or z (c * items + y) 0) filled
                ∙ sets-at table (c * items) (table_in G out items tree) y long (omega (arith, same_size, fits)) ∙ table-root tree y i

            own_row : (x : ℕ) → x < items → get_or new (root * items + x) 0 ≡ w.acc x
            own_row = let d = length-append w.done (table_in G out items tree) in root-row new (w.done ++ table_in G out items tree) whole (omega (arith, d, w.place, fits))

            -- the sums that are made of both rows, of where the links under each role lead: those to an item that is out lead to 0
            pub sums : (ends_of : ℕ → ℕ → List ℕ) → ((x r : ℕ) → G.next x r ≡ except out (ends_of x r)) → ((x r y : ℕ) → Memᴰ y (ends_of x r) → y < items)
                → (role scale : ℕ) → role ≡ get_or roles c 0 → scale ≡ scale_in tree → (x : ℕ) → x < items
                → get_or new (root * items + x) 0 * scale + best (λ y. get_or new (c * items + y) 0) (ends_of x role) * p ≡ turned x
            sums ends_of led inside role scale er es x i =
                let tops : best (λ y. get_or new (c * items + y) 0) (ends_of x role) ≡ best (λ y. degree_in G tree y) (G.next x (get_or roles c 0)) =
                best-same (λ y. get_or new (c * items + y) 0) (λ y. placed_in G out items tree y) (ends_of x role) (λ y k. child-row y (inside x role y k))
                ∙ best-struck out (λ y. degree_in G tree y) (ends_of x role) ∙ ap (best (λ y. degree_in G tree y)) (sym (led x role))
                ∙ ap (λ (r : ℕ). best (λ y. degree_in G tree y) (G.next x r)) er in
                rw (own_row x i, tops, es) refl

            pub sofar-child : (f : ℕ → ℕ) → ((x : ℕ) → x < items → f x ≡ turned x) → (last : List ℕ) → last ≡ sets new (root * items) (up_to items f)
                → Sofar last (n + 1) (p * scale_in tree) (get_or ends c 0)
            sofar-child f is last e =
                let rest' = child.then turned (λ x i. refl) in
                record {
                  acc = turned;
                  done = w.done ++ table_in G out items tree;
                  behind = omega (arith, w.behind, (rest-next w.rest l).0);
                  rest = rest';
                  made = ap (λ (u : Concept). w.done ++ table_in G out items u ++ marked ends marks rest'.rest (get_or ends c 0)) (sym same)
                      ∙ next-made (n + 1) (p * scale_in tree) turned rest' false (ne_eqb (get_or marks c 0) 0 m);
                  place = next_place (table_in G out items tree) size;
                  table_is = e ∙ ap (λ (z : List ℕ). sets z (root * items) (up_to items f)) whole
                      ∙ sets_over old (root * items) (up_to items w.acc) (up_to items f) (w.done ++ table_in G out items tree) (up_to-long items w.acc ∙ sym (up_to-long items f))
                      ∙ ap (λ (z : List ℕ). sets old (root * items) (z ++ (w.done ++ table_in G out items tree))) (up_to-same items f turned is);
                }

      -- ---- no child is left

      module _ (l : get_or ends root 0 ≤ c) (m : Marked ends marks t root) where
        last-rows : w.done ≡ table_in_f G out items (children t) none
        unfolding marked Marked
        last-rows =
            sym (append-nil w.done)
            ∙ ap (λ (f : Forest ℕ). w.done ++ marked ends marks f c) (sym (ran_out names roles ends w.rest.rest (left - 1) c (get_or ends root 0) w.rest.held l))
            ∙ w.made ∙ all t m
          where
            all : (u : Concept) → Marked ends marks u root → marked ends marks (children u) (root + 1) ≡ table_in_f G out items (children u) none
            all (node a f) q = marked-in ends marks f none (root + 1) q

        pub sofar-scale : scale_in t ≡ max 1 n * p
        sofar-scale = let v = rest-whole w.rest l in full-scale t ∙ sym (rw (v.counted, v.scaled) refl)

        -- the rows so far end where the tree's do
        at-end : c ≡ get_or ends root 0
        unfolding Holds
        at-end =
            subst (λ (f : Forest ℕ). HoldsF names roles ends f (left - 1) c (get_or ends root 0))
            (ran_out names roles ends w.rest.rest (left - 1) c (get_or ends root 0) w.rest.held l) w.rest.held

        -- the root's row is closed: 0 at an item that is out, and 1 elsewhere if nothing is counted
        pub sofar-last : get_or ends root 0 * items ≤ length old → (last : List ℕ)
            → last ≡ sets table (root * items) (up_to items (λ x. cond (out x) 0 (or_one n (get_or table (root * items + x) 0))))
            → last ≡ sets old (root * items) (table_in G out items t)
        sofar-last room last e =
            let v = rest-whole w.rest l in
            let row : ℕ → ℕ = λ x. cond (out x) 0 (or_one n (get_or table (root * items + x) 0)) in
            let own : (x : ℕ) → x < items → get_or table (root * items + x) 0 ≡ w.acc x =
            root-row table w.done w.table_is (omega (arith, w.place, ap (λ (z : ℕ). z * items) at-end)) in
            let is : (x : ℕ) → x < items → placed_in G out items t x ≡ row x =
            λ x i. ap (λ (z : ℕ). cond (out x) 0 z)
            (full-degree t x ∙ ap₂ or_one (sym v.counted) (sym (v.summed x i) ∙ sym (own x i))) in
            e ∙ ap (λ (d : List ℕ). sets d (root * items) (up_to items row)) w.table_is
            ∙ sets_over old (root * items) (up_to items w.acc) (up_to items row) w.done (up_to-long items w.acc ∙ sym (up_to-long items row))
            ∙ ap (λ (d : List ℕ). sets old (root * items) (up_to items row ++ d)) last-rows
            ∙ ap (sets old (root * items)) (table-whole t row is)

    -- ---- at first

    -- all children are left
    all_left : (u : Concept) → Holds names roles ends u left root (get_or ends root 0) → Marked ends marks u root
        → (r : Rest names roles ends marks G u (left - 1) (get_or ends root 0) root (root + 1) (many (get_or names root 0)) 1 (λ x. common (get_or names root 0) (G.names x)) (λ x. x < items))
        × (r.rest ≡ children u)
    unfolding Holds Marked
    all_left (node a f) h m =
        let q = but-all ends root names roles marks G f none (left - 1) (root + 1) (get_or ends root 0) h.4 (λ j i l e. let z : j ≡ root = e in omega arith) in (
          record {
            rest = f;
            before = none;
            held = h.4;
            marked = m;
            counted = rw (h.2, q.count) refl;
            scaled = rw q.scale (omega arith);
            summed = λ x i. rw (h.2, q.scale, q.sum x) (omega arith);
          },
          refl,
        )

    pub sofar-start : Holds names roles ends t left root (get_or ends root 0) → Marked ends marks t root → (table : List ℕ)
        → table ≡ sets old (root * items) (up_to items (λ x. common (get_or names root 0) (G.names x))) → Sofar table (many (get_or names root 0)) 1 (root + 1)
    sofar-start h m table e =
        let r = all_left t h m in
        record {
          acc = λ x. common (get_or names root 0) (G.names x);
          done = [];
          behind = omega arith;
          rest = r.0;
          made = ap (λ (f : Forest ℕ). marked ends marks f (root + 1)) r.1;
          place = omega arith;
          table_is = e ∙ ap (sets old (root * items)) (sym (append-nil (up_to items (λ x. common (get_or names root 0) (G.names x)))));
        }
