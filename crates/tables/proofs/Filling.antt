-- Filling the rows of a tree, child by child: what is asked at each, and what its rows, and then the root's with it folded in, leave; and the root's row
-- closed at last.
-- Assumes nothing.
use mathlib.Core.Path.{◌≡◌, refl, sym, ap, ◌∙◌}
use mathlib.Core.Bool.{Bool}
use mathlib.Core.List.{List, Memᴰ}
use mathlib.Core.Option.{none as nowhere}
use Prim.Native.Nat.{ℕ, ◌+◌, ◌-◌, ◌*◌, ◌≤◌, ◌<◌, max}
use native.Mathlib.Nat.{le_refl, le_trans, mul-le-mul_right}
use native.Mathlib.Omega.{arith}
use lib.ListN.{length, get_or}
use lib.Seq.{sets, length-sets}
use Rattle.meaning.specs.Names.{common}
use Rattle.meaning.specs.Names.{names as many}
use Rattle.meaning.specs.Tree.{Concept, node as root, nodes}
use Rattle.meaning.specs.Rows.{Holds}
use Rattle.rows.specs.Rising.{Rising}
use Rattle.rows.proofs.Rising.{rising}
use Rattle.meaning.specs.Graph.{Graph}
use Rattle.meaning.specs.Register.{withdrawn, targets}
use Rattle.meaning.specs.InPlace.{scale_in, table_in}
use Rattle.meaning.specs.Table.{up_to}
use Rattle.meaning.proofs.Links.{targets-links, link}
use Rattle.meaning.proofs.Rows.{opened, holds-nodes}
use Rattle.meaning.proofs.Table.{up_to-long}
use Rattle.register.specs.Image.{Image}
use Rattle.graph.specs.Walked.{walked}
use Rattle.graph.proofs.Use.{link-inside}
use Rattle.sorted.specs.Order.{Sorted}
use Rattle.degrees.specs.Gradable.{Gradable}
use Rattle.degrees.proofs.Folding.{rest-next}
use Rattle.tables.specs.Rows.{Names, row_tops, folded, closed, Folding, Worked}
use Rattle.tables.proofs.Stored.{sets-again, own-names}
use Rattle.tables.proofs.Sofar.{table-size, Sofar, sofar-start, sofar-skip, child, turned, sums, sofar-child, sofar-scale, sofar-last}

-- what has a table: a tree in rows that are marked by the drop rule, put to a register whose links are in order
abbrev TreeOf : List ℕ → ℕ → List ℕ → List ℕ → List ℕ → List ℕ → List ℕ → List ℕ → ℕ → ℕ → Type 0
TreeOf s items begins order names roles ends marks node left = Gradable (Sorted s items begins order) names roles ends marks node left

module _ {s : List ℕ} {items : ℕ} {begins order names roles ends marks : List ℕ} {node left : ℕ} where
  abbrev graph : TreeOf s items begins order names roles ends marks node left → Graph ℕ
  graph k = walked k.posed.graph.register

  abbrev gone : TreeOf s items begins order names roles ends marks node left → ℕ → Bool
  gone k = withdrawn k.posed.graph.register

  -- the root's row is one of at most 64, and it has a level
  pub here : TreeOf s items begins order names roles ends marks node left → (0 < left) × (node < 64) × (node < get_or ends node 0)
  here k =
      let root = opened names roles ends k.tree left node (get_or ends node 0) k.posed.held in
      (root.deep, let l = root.inside in let m = k.posed.few in omega arith, root.inside)

  pub children-rise : TreeOf s items begins order names roles ends marks node left → Rising ends (node + 1) (get_or ends node 0)
  unfolding Holds
  children-rise k = go k.tree k.posed.held
    where
      go : (t : Concept) → Holds names roles ends t left node (get_or ends node 0) → Rising ends (node + 1) (get_or ends node 0)
      go (root a f) h = rising names roles ends f (left - 1) (node + 1) (get_or ends node 0) h.4 k.posed.few

  -- there is room for the root's row
  pub room-one : TreeOf s items begins order names roles ends marks node left → {long : ℕ} → get_or ends node 0 * items ≤ long → node * items + items ≤ long
  room-one k r = let one : node + 1 ≤ get_or ends node 0 = omega (arith, (here k).2) in omega (arith, mul-le-mul_right items one)

  -- where the links of an item under a role lead
  abbrev leads : TreeOf s items begins order names roles ends marks node left → ℕ → ℕ → List ℕ
  leads k = targets k.posed.graph.register.links

  inside : (k : TreeOf s items begins order names roles ends marks node left) (x r y : ℕ) → Memᴰ y (leads k x r) → y < items
  inside k x r y m = link-inside items nowhere k.posed.graph.register.links (link x r y) k.posed.graph.ends ((targets-links k.posed.graph.register.links x r y).0 m)

module _ (s : List ℕ) (items : ℕ) (begins order names roles ends marks : List ℕ) (node left : ℕ) (old : List ℕ) where
  abbrev Tree : Type 0
  Tree = TreeOf s items begins order names roles ends marks node left

  -- the children from row c on are left
  pub record Going (table : List ℕ) (n p c : ℕ) : Type 0 where
    pub asked : Tree
    pub room : get_or ends node 0 * items ≤ length old
    pub size : length table ≡ length old
    pub each : (k : Tree) → Sofar (graph k) (gone k) items names roles ends marks k.tree left node old table n p c

  -- the root's own names are stored, in what was the table before
  pub going_start : Tree → (before : List ℕ) → get_or ends node 0 * items ≤ length before → length old ≡ length before
      → (held : List ℕ) → Names s items held → old ≡ sets before (node * items) (up_to items (λ x. common (get_or names node 0) (get_or held x 0)))
      → Going old (many (get_or names node 0)) 1 (node + 1)
  going_start k before r long held own is = record {
    asked = k;
    room = omega arith;
    size = refl;
    each = λ j.
        let f : ℕ → ℕ = λ x. common (get_or names node 0) ((graph j).names x) in
        let stored : old ≡ sets before (node * items) (up_to items f) =
        own-names own (get_or names node 0) (node * items) before old is j.posed.graph.register j.posed.graph.read in
        sofar-start (graph j) (gone j) items names roles ends marks j.tree left node old j.posed.held j.marked old
        (stored ∙ sym (sets-again before (node * items) (up_to items f) (up_to items f) (le_refl (length (up_to items f))))
        ∙ ap (λ (z : List ℕ). sets z (node * items) (up_to items f)) (sym stored));
  }

-- what is left, of the table before
pub worked-before : {s : List ℕ} {items : ℕ} {begins order names roles ends marks : List ℕ} {node left : ℕ} (before old : List ℕ)
    → (held : List ℕ) → Names s items held → old ≡ sets before (node * items) (up_to items (λ x. common (get_or names node 0) (get_or held x 0))) → (scale : ℕ) (new : List ℕ)
    → ((k : TreeOf s items begins order names roles ends marks node left) → Worked k scale old new)
    → (k : TreeOf s items begins order names roles ends marks node left) → Worked k scale before new
worked-before {s} {items} {begins} {order} {names} {roles} {ends} {marks} {node} {left} before old held own is scale new w k =
    let f : ℕ → ℕ = λ x. common (get_or names node 0) ((graph k).names x) in
    let rows : List ℕ = table_in (graph k) (gone k) items k.tree in
    let some : 1 ≤ nodes k.tree = omega (arith, holds-nodes names roles ends k.tree left node (get_or ends node 0) k.posed.held, (here k).2) in
    let long : length (up_to items f) ≤ length rows =
    omega (arith, up_to-long items f, table-size (graph k) (gone k) items k.tree, mul-le-mul_right items some) in
    record {
      scaled = (w k).scaled;
      filled = (w k).filled ∙ ap (λ (z : List ℕ). sets z (node * items) rows)
          (own-names own (get_or names node 0) (node * items) before old is k.posed.graph.register k.posed.graph.read)
          ∙ sets-again before (node * items) (up_to items f) rows long;
    }

module _ {s : List ℕ} {items : ℕ} {begins order names roles ends marks : List ℕ} {node left : ℕ} {old : List ℕ} {table : List ℕ} {n p c : ℕ}
    (w : Going s items begins order names roles ends marks node left old table n p c) where
  abbrev Next : List ℕ → ℕ → ℕ → ℕ → Type 0
  Next = Going s items begins order names roles ends marks node left old

  abbrev so : (k : TreeOf s items begins order names roles ends marks node left) → Sofar (graph k) (gone k) items names roles ends marks k.tree left node old table n p c
  so = w.each

  module _ (below : c < get_or ends node 0) where
    pub bounds : (c < get_or ends c 0) × (get_or ends c 0 ≤ get_or ends node 0)
    bounds = rest-next (so w.asked).rest below

    -- where the child's rows end there is room, and they do not end before they begin
    pub going-rows : (j : ℕ) → j ≡ get_or ends c 0 → (c * items ≤ j * items) × (j * items ≤ length table)
    going-rows j ej =
        let a : c ≤ j = omega (arith, bounds.0) in
        let b : j ≤ get_or ends node 0 = omega (arith, bounds.1) in
        (mul-le-mul_right items a, omega (arith, mul-le-mul_right items b, w.room, w.size))

    -- a dropped child
    pub going-skip : get_or marks c 0 ≡ 0 → (j : ℕ) → j ≡ get_or ends c 0 → (new : List ℕ)
        → new ≡ sets table (c * items) (up_to (j * items - c * items) (λ x. 0)) → Next new n p j
    going-skip m j ej new is = record {
      asked = w.asked;
      room = w.room;
      size = ap length is ∙ length-sets table (c * items) (up_to (j * items - c * items) (λ x. 0)) ∙ w.size;
      each = λ k. rw ej (sofar-skip (graph k) (gone k) items names roles ends marks k.tree left node old (so k) below m new
          (is ∙ ap (λ (z : ℕ). sets table (c * items) (up_to (z * items - c * items) (λ x. 0))) ej));
    }

    -- a kept one
    module _ (m : get_or marks c 0 ≡ 0 → ⊥) where
      abbrev pub Kid : Type 0
      Kid = Gradable (Sorted s items begins order) names roles ends marks c (left - 1)

      abbrev pub kid-asked : TreeOf s items begins order names roles ends marks node left → Kid
      kid-asked k =
          let u = child (graph k) (gone k) items names roles ends marks k.tree left node old (so k) below m in
          record {
            tree = u.tree;
            posed = record { graph = k.posed.graph; held = u.held; few = let f = k.posed.few in let b = bounds.1 in omega arith };
            marked = u.marked;
            small = le_trans u.small k.small;
          }

      pub kid-room : get_or ends c 0 * items ≤ length table
      kid-room = (going-rows (get_or ends c 0) refl).1

      -- its rows are filled
      module _ (scale : ℕ) (mid : List ℕ) (long : length mid ≡ length table)
          (done : (q : Kid) → Worked q scale table mid) where
        scaled : (k : TreeOf s items begins order names roles ends marks node left) → scale ≡ scale_in (kid-asked k).tree
        scaled k = (done (kid-asked k)).scaled

        mixed : (role : ℕ) → role ≡ get_or roles c 0 → (k : TreeOf s items begins order names roles ends marks node left) (x : ℕ) → x < items
            → folded mid (node * items) scale p (row_tops k.posed.graph role (c * items) mid) x
            ≡ turned (graph k) (gone k) items names roles ends marks k.tree left node old (so k) below m x
        mixed role er k x i =
            sums (graph k) (gone k) items names roles ends marks k.tree left node old (so k) below m mid (done (kid-asked k)).filled w.room
            (leads k) (λ y r. refl) (inside k) role scale er (scaled k) x i

        pub kid-folding : (role : ℕ) → role ≡ get_or roles c 0 → Folding s items begins order role (c * items) (node * items) scale p mid
        kid-folding role er =
            let k = w.asked in
            let u = child (graph k) (gone k) items names roles ends marks k.tree left node old (so k) below m in
            let kid : c + 1 ≤ get_or ends node 0 = omega (arith, below) in
            record {
              in_order = k.posed.graph;
              from-fits = omega (arith, mul-le-mul_right items kid, long, w.size, w.room);
              at-fits = room-one k (omega (arith, long, w.size, w.room));
              sums-fit = λ x i. let top = u.sum_fits x i in let most = k.small in rw (mixed role er k x i) (omega arith);
            }

        pub kid-fits : (p * scale < 4294967296) × (n + 1 < 4294967296)
        kid-fits =
            let k = w.asked in
            let u = child (graph k) (gone k) items names roles ends marks k.tree left node old (so k) below m in
            let most = k.small in
            let a : p * scale_in u.tree ≤ scale_in k.tree = u.scale-fits in
            let b : n + 1 ≤ scale_in k.tree = u.count_fits in
            (rw (scaled k) (omega arith), omega arith)

        -- and the root's row has it folded in
        pub going_next : (role : ℕ) → role ≡ get_or roles c 0 → (j : ℕ) → j ≡ get_or ends c 0 → (new : List ℕ) → length new ≡ length mid
            → ((h : Sorted s items begins order) → new ≡ sets mid (node * items) (up_to items (folded mid (node * items) scale p (row_tops h role (c * items) mid))))
            → Next new (n + 1) (p * scale) j
        going_next role er j ej new same is = record {
          asked = w.asked;
          room = w.room;
          size = same ∙ long ∙ w.size;
          each = λ k. rw (ej, scaled k) (sofar-child (graph k) (gone k) items names roles ends marks k.tree left node old (so k) below m mid (done (kid-asked k)).filled w.room
              (folded mid (node * items) scale p (row_tops k.posed.graph role (c * items) mid)) (mixed role er k) new (is k.posed.graph));
        }

  -- ---- no child is left

  module _ (over : get_or ends node 0 ≤ c) where
    at-least : (m : ℕ) → m ≡ max n 1 → m ≡ max 1 n
    at-least m em = omega arith

    pub going-fits : (m : ℕ) → m ≡ max n 1 → m * p < 4294967296
    going-fits m em =
        let k = w.asked in
        let q = sofar-scale (graph k) (gone k) items names roles ends marks k.tree left node old (so k) over k.marked in
        let most = k.small in
        let same : m * p ≡ max 1 n * p = ap (λ (z : ℕ). z * p) (at-least m em) in
        omega arith

    pub going-last : (last : List ℕ) → Image s (λ g. last ≡ sets table (node * items) (up_to items (closed (withdrawn g) n table (node * items))))
        → (m : ℕ) → m ≡ max n 1 → (k : TreeOf s items begins order names roles ends marks node left) → Worked k (m * p) old last
    going-last last is m em k =
        let g = k.posed.graph in
        record {
          scaled = ap (λ (z : ℕ). z * p) (at-least m em) ∙ sym (sofar-scale (graph k) (gone k) items names roles ends marks k.tree left node old (so k) over k.marked);
          filled = sofar-last (graph k) (gone k) items names roles ends marks k.tree left node old (so k) over k.marked w.room last (is g.register g.read);
        }
