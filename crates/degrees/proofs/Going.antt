-- The kept children of a node but the heaviest, folded in one after the other.
-- Assumes nothing.
use mathlib.Core.Path.{◌≡◌, refl, sym, ◌∙◌}
use mathlib.Core.Bool.{Bool, true, false, ◌||◌}
use mathlib.Core.Logic.{◌⊎◌, inl, inr}
use mathlib.Core.List.{List}
use Prim.Native.Nat.{ℕ, ◌+◌, ◌-◌, ◌*◌, ◌≤◌, ◌<◌}
use native.Mathlib.Nat.{le_trans}
use native.Mathlib.Decide.{dec_lt}
use native.Mathlib.Omega.{arith}
use lib.Dec.{eqb}
use lib.ListN.{length, get_or}
use borrow.Author.Tests.{eqb-true, eqb-false}
use Rattle.meaning.specs.Bounds.{most_scale}
use Rattle.meaning.specs.Names.{names as many}
use Rattle.meaning.specs.Tree.{Concept, children}
use Rattle.meaning.specs.InPlace.{scale_in}
use Rattle.meaning.proofs.Tests.{true-false}
use Rattle.graph.specs.Judged.{Judged}
use Rattle.degrees.specs.Gradable.{Gradable, Member}
use Rattle.degrees.specs.Room.{Lent}
use Rattle.degrees.specs.Notes.{flag}
use Rattle.heaviest.specs.Heavy.{Stands}
use Rattle.degrees.specs.Headed.{Headed}
use Rattle.degrees.specs.Given.{row_at, Kept, Done, Below, Standing, sum_with, Folding, Folded}
use Rattle.degrees.proofs.Room.{room-two, room-low, room_next}
use Rattle.heaviest.proofs.Stands.{Place, stands-place, stands-apart}
use Rattle.degrees.proofs.Folding.{Rest, Child, head, given, rest_at, rest-skip, rest-pass, rest-child, rest-next, whole-fits, whole-other}
use Rattle.degrees.proofs.Noted.{Entered, entered-start, entered-pass, entered-clear, entered-next, entered-end, noted-node}
use Rattle.degrees.proofs.Reaching.{graph, rows, done-for, reach-best, reach-one}

module _ (s : List ℕ) (items : ℕ) (index names roles ends marks : List ℕ) (node left : ℕ) (set : List ℕ) (heavy at first : ℕ) (notes₀ numbers₀ : List ℕ) where
  -- the children from row c on are left, but for the heaviest
  pub record Going (notes numbers : List ℕ) (n product c : ℕ) : Type 0 where
    pub headed : Headed s items index names roles ends marks node left set heavy at first notes₀ numbers₀
    pub some : 1 ≤ n
    pub rest : Rest names roles ends marks (graph headed.asked) headed.asked.tree (left - 1) (get_or ends node 0) heavy c n product (row_at numbers at) (Member set)
    pub entered : Entered names roles ends marks headed.asked.posed.graph.register (Member set) (children headed.asked.tree) (left - 1) (node + 1)
        (get_or ends node 0) (rows headed.asked) heavy headed.tree headed.stands notes₀ notes c
    pub kept : Kept at numbers₀ numbers
    pub long : length notes ≡ length notes₀
    pub size : length numbers ≡ length numbers₀

  pub going_start : Headed s items index names roles ends marks node left set heavy at first notes₀ numbers₀
      → Going notes₀ numbers₀ (many (get_or names node 0) + 1) first (node + 1)
  going_start h = let k = h.asked in record {
    headed = h;
    some = omega arith;
    rest = (head names roles ends marks (graph k) left (get_or ends node 0) node heavy h.tree (Member set) k.tree k.posed.held k.marked h.stands h.kept
        ).then (many (get_or names node 0) + 1) first (row_at numbers₀ at) refl h.scaled h.summed;
    entered = entered-start names roles ends marks k.posed.graph.register (Member set) (children k.tree) (left - 1) (node + 1) (get_or ends node 0) (rows k)
        heavy h.tree h.stands notes₀ h.noted (λ j l p q w. h.clear j l (omega arith) q w);
    kept = λ i l. refl;
    long = refl;
    size = refl;
  }

module _ {s : List ℕ} {items : ℕ} {index names roles ends marks : List ℕ} {node left : ℕ} {set : List ℕ} {heavy at first : ℕ} {notes₀ numbers₀ : List ℕ}
    {notes numbers : List ℕ} {n product c : ℕ} (w : Going s items index names roles ends marks node left set heavy at first notes₀ numbers₀ notes numbers n product c) where
  abbrev h : Headed s items index names roles ends marks node left set heavy at first notes₀ numbers₀
  h = w.headed

  abbrev k : Gradable (Judged s items index) names roles ends marks node left
  k = w.headed.asked

  abbrev Next : List ℕ → List ℕ → ℕ → ℕ → ℕ → Type 0
  Next = Going s items index names roles ends marks node left set heavy at first notes₀ numbers₀

  pub inside : c < get_or ends node 0 → (c < get_or ends c 0) × (get_or ends c 0 ≤ get_or ends node 0)
  inside l = rest-next w.rest l

  module _ (below : c < get_or ends node 0) where
    pub going-pass : (j : ℕ) → j ≡ get_or ends c 0 → (b : Bool) → b ≡ (eqb (get_or marks c 0) 0 || eqb c heavy) → b ≡ true → Next notes numbers n product j
    going-pass j ej b eb t = go (eqb (get_or marks c 0) 0) refl (sym eb ∙ t)
      where
        over : (get_or marks c 0 ≡ 0) ⊎ (c ≡ heavy)
            → Rest names roles ends marks (graph k) k.tree (left - 1) (get_or ends node 0) heavy (get_or ends c 0) n product (row_at numbers at) (Member set)
            → Next notes numbers n product j
        over o r = record {
          headed = h;
          some = w.some;
          rest = rest_at ej r;
          entered = entered-pass _ _ _ _ _ _ _ _ _ _ _ _ _ _ _ w.entered below j ej o;
          kept = w.kept;
          long = w.long;
          size = w.size;
        }

        go : (d : Bool) → eqb (get_or marks c 0) 0 ≡ d → (d || eqb c heavy) ≡ true → Next notes numbers n product j
        go true ed z = let m : get_or marks c 0 ≡ 0 = eqb-true (get_or marks c 0) 0 ed in over (inl m) (rest-skip w.rest below m)
        go false ed z = let m : c ≡ heavy = eqb-true c heavy z in over (inr m) (rest-pass w.rest below m)

  -- the child at row c is to be folded in
  pub record Hand : Type 0 where
    pub below : c < get_or ends node 0
    pub kept : get_or marks c 0 ≡ 0 → ⊥
    pub other : c ≡ heavy → ⊥

  pub at-hand : c < get_or ends node 0 → (b : Bool) → b ≡ (eqb (get_or marks c 0) 0 || eqb c heavy) → b ≡ false → Hand
  at-hand l b eb f = go (eqb (get_or marks c 0) 0) refl (sym eb ∙ f)
    where
      go : (d : Bool) → eqb (get_or marks c 0) 0 ≡ d → (d || eqb c heavy) ≡ false → Hand
      go true ed z = absurd (true-false refl z)
      go false ed z = record { below = l; kept = eqb-false (get_or marks c 0) 0 ed; other = eqb-false c heavy z }

  module _ (o : Hand) where
    abbrev child : Child names roles ends marks (graph k) k.tree (left - 1) (get_or ends node 0) heavy c n product (row_at numbers at) (Member set)
    child = rest-child w.rest o.below o.kept o.other

    abbrev pub child-asked : Gradable (Judged s items index) names roles ends marks c (left - 1)
    child-asked = record {
      tree = child.tree;
      posed = record { graph = k.posed.graph; held = child.held; few = le_trans (inside o.below).1 k.posed.few };
      marked = child.marked;
      small = le_trans child.small k.small;
    }

    empty : (j i : ℕ) → c ≤ j → j < get_or ends c 0 → flag notes j i ≡ false
    empty = entered-clear _ _ _ _ _ _ _ _ _ _ _ _ _ _ _ w.entered o.below o.other

    pub child-count : n + 1 ≤ most_scale
    child-count = le_trans child.count_fits k.small

    -- it has less than half of the rows
    half : 2 * (get_or ends c 0 - c) + 1 ≤ get_or ends node 0 - node
    half = go (dec_lt c heavy)
      where
        this : (u : Concept) × Stands ends (children k.tree) (node + 1) c u
        this = w.entered.at o.below

        low : Place names roles ends (left - 1) (node + 1) (get_or ends node 0) heavy h.tree
        low = stands-place names roles ends (children k.tree) (left - 1) (node + 1) (get_or ends node 0) heavy h.tree (rows k) h.stands

        own : Place names roles ends (left - 1) (node + 1) (get_or ends node 0) c this.0
        own = stands-place names roles ends (children k.tree) (left - 1) (node + 1) (get_or ends node 0) c this.0 (rows k) this.1

        size : get_or ends c 0 - c ≤ get_or ends heavy 0 - heavy
        size = h.most c this.0 this.1 o.kept

        go : Dec (c < heavy) → 2 * (get_or ends c 0 - c) + 1 ≤ get_or ends node 0 - node
        go (yes m) =
            let q = stands-apart names roles ends (children k.tree) (left - 1) (node + 1) (get_or ends node 0) c heavy this.0 h.tree (rows k) this.1 h.stands m in
            omega (arith, size, own.behind, own.inside, low.inside, low.within)
        go (no m) =
            let q = stands-apart names roles ends (children k.tree) (left - 1) (node + 1) (get_or ends node 0) heavy c h.tree this.0 (rows k) h.stands this.1
            (omega (arith, m, o.other)) in
            omega (arith, size, low.behind, low.inside, own.inside, own.within)

    pub child-two : at + 512 + 512 ≤ 3584
    child-two = omega (arith, room-two h.room (omega (arith, half, (inside o.below).0)), h.room.size_is)

    pub child-lent : Lent items set notes numbers ends c (at + 512)
    child-lent = record {
      members = h.members;
      clear = λ j i p q. empty j i (omega arith) q;
      room = rw w.size (room_next h.room (get_or ends c 0 - c) half);
      ones = λ x l. w.kept x (omega (arith, room-low h.room)) ∙ h.ones x l;
    }

    -- it is worked out
    module _ (role from scale : ℕ) (mid ys : List ℕ) (er : role ≡ get_or roles c 0)
        (reached : (j : Gradable (Judged s items index) names roles ends marks c (left - 1)) → Done j (Below (graph j) set (get_or roles c 0)) (at + 512) from scale notes mid numbers ys)
        (standing : Standing (at + 512) from) where
      abbrev d : Done child-asked (Below (graph k) set (get_or roles c 0)) (at + 512) from scale notes mid numbers ys
      d = reached child-asked

      pub child-product : product * scale ≤ most_scale
      child-product = rw d.worked.scaled (le_trans child.scale-fits k.small)

      -- the sums stand as they did
      same_sum : (x : ℕ) → Member set x → sum_with (graph k) ys role from at scale product x
          ≡ row_at numbers at x * scale_in child.tree + given roles (graph k) c child.tree x * product
      same_sum x m =
          let stays : row_at ys at x ≡ row_at numbers at x = d.kept (at + x) (let q = h.members x m in let r = k.posed.graph.most in omega arith) in
          rw (stays, d.worked.scaled, reach-best child-asked set role (at + 512) from scale notes mid numbers ys er d x m)

      -- the child's numbers stand before the sums or behind them
      beside : (from + 512 ≤ at + 512 + 512) × ((from + 512 ≤ at) ⊎ (at + 512 ≤ from))
      beside = go standing
        where
          go : Standing (at + 512) from → (from + 512 ≤ at + 512 + 512) × ((from + 512 ≤ at) ⊎ (at + 512 ≤ from))
          go (inl e) = (omega arith, inl (omega (arith, room-low h.room)))
          go (inr e) = (omega arith, inr (omega arith))

      pub child-folding : length ys ≡ length numbers → Folding s items index set mid ys role c from at scale product
      child-folding es = record {
        graph = k.posed.graph;
        fits = λ x m. let q = child.sum_fits x m in let r = k.small in rw (same_sum x m) (omega arith);
        clear = λ i. d.outside c i (inl (omega arith)) ∙ empty c i (omega arith) (inside o.below).0;
        inside = let l = o.below in let q = k.posed.few in omega arith;
        short = omega (arith, w.size, h.room.size_is);
        from-fits = omega (arith, beside.0, w.size, h.room.size_is, child-two);
        to-fits = omega (arith, w.size, h.room.size_is, child-two);
        apart = beside.1;
      }

      pub child-next : (j : ℕ) → j ≡ get_or ends c 0 → (new zs : List ℕ) → length mid ≡ length notes → length ys ≡ length numbers → length new ≡ length mid
          → length zs ≡ length ys → ((g : Judged s items index) → Folded g.register set mid new ys zs role c from at scale product) → Next new zs (n + 1) (product * scale) j
      child-next j ej new zs sm sy sn sz done =
          let f = done k.posed.graph in record {
            headed = h;
            some = omega arith;
            rest = rest_at ej (rw d.worked.scaled (child.then (row_at zs at) (λ x m. f.sums x m ∙ same_sum x m)));
            entered = entered-next _ _ _ _ _ _ _ _ _ _ _ _ _ _ _ w.entered o.below o.other j ej child.tree child.held mid new sm sn d.outside f.outside
                (λ x m. reach-one child-asked set role (at + 512) from scale notes mid numbers ys er d x m new sn f.outside (f.noted x m));
            kept = λ i q. f.kept i q ∙ d.kept i (omega arith) ∙ w.kept i q;
            long = sn ∙ sm ∙ w.long;
            size = sz ∙ sy ∙ w.size;
          }

  -- no child is left
  module _ (behind : get_or ends node 0 ≤ c) where
    pub going-fits : n * product ≤ most_scale
    going-fits = le_trans (whole-fits w.rest behind) k.small

    pub going_done : (j : Gradable (Judged s items index) names roles ends marks node left) → Done j (Member set) at at (n * product) notes₀ notes numbers₀ numbers
    going_done =
        let q = whole-other w.rest behind (λ z. let y : n ≡ 0 = z in let x = w.some in omega arith) in
        done-for k (record {
          worked = record { scaled = sym q.0; each = λ x m. sym (q.1 x m) };
          noted = noted-node names roles ends marks k.posed.graph.register (Member set) notes k.tree left node (get_or ends node 0) k.posed.held
              (entered-end _ _ _ _ _ _ _ _ _ _ _ _ _ _ _ w.entered behind);
          outside = w.entered.outside;
          kept = w.kept;
        })
