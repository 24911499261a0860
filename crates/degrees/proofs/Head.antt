-- A node with no kept child, and the heaviest child, which is folded in before the others.
-- Assumes nothing.
use mathlib.Core.Path.{◌≡◌, refl, sym, ap, ◌∙◌}
use mathlib.Core.Bool.{true}
use mathlib.Core.Logic.{inl, inr}
use mathlib.Core.List.{List}
use Prim.Native.Nat.{ℕ, ◌+◌, ◌-◌, ◌*◌, ◌≤◌, ◌<◌, max}
use native.Mathlib.Nat.{le_trans, zero-add}
use native.Mathlib.Omega.{arith}
use lib.Count.{ones-ones}
use lib.ListN.{length, get_or}
use Rattle.meaning.specs.Names.{common}
use Rattle.meaning.specs.Names.{names as many}
use Rattle.meaning.specs.Tree.{Forest, none, more, Concept, children, under}
use Rattle.meaning.specs.Tree.{node as rooted}
use Rattle.graph.specs.Walked.{walked}
use Rattle.meaning.specs.Reduce.{dropped}
use Rattle.meaning.specs.Degree.{or_one, best}
use Rattle.meaning.specs.InPlace.{count_in, scale_in, scale_in_f, degree_in, degree_in_f}
use Rattle.meaning.specs.Bytes.{Bytes}
use Rattle.meaning.specs.Rows.{Holds, HoldsF, Marked, MarkedF}
use Rattle.graph.specs.Judged.{Judged}
use Rattle.graph.proofs.Use.{next-inside, one-register}
use Rattle.std.specs.Prelude.{Some, None}
use Rattle.std.proofs.lemmas.Option.{none-some}
use Rattle.degrees.specs.Gradable.{Gradable, Member}
use Rattle.degrees.specs.Room.{Ones, Lent}
use Rattle.degrees.specs.Notes.{Outside}
use Rattle.heaviest.specs.Heavy.{Stands, Heavy}
use Rattle.degrees.specs.Headed.{Headed}
use Rattle.degrees.specs.Given.{row_at, Kept, Done, Below, Standing, Folding, Folded}
use Rattle.degrees.proofs.Room.{room-two, room-low, room-fewer}
use Rattle.heaviest.proofs.Stands.{Place}
use Rattle.degrees.proofs.But.{mark-zero}
use Rattle.degrees.proofs.Folding.{Head, head, given}
use Rattle.degrees.proofs.Noted.{outside-then, noted-node}
use Rattle.degrees.proofs.Reaching.{graph, rows, done-for, reach-best, reach-one}

module _ {s : List ℕ} {items : ℕ} {index names roles ends marks : List ℕ} {node left : ℕ} (k : Gradable (Judged s items index) names roles ends marks node left) where
  -- ---- no child is kept

  module _ (h : Heavy ends marks k.tree node None) where
    -- nothing is counted
    bare : (f b : Forest ℕ) (i : ℕ) → MarkedF ends marks f b i → ((c : ℕ) (u : Concept) → Stands ends f i c u → get_or marks c 0 ≡ 0)
        → (count_in f b ≡ 0) × (scale_in_f f b ≡ 1) × ((x : ℕ) → degree_in_f (graph k) f b x ≡ 0)
    unfolding Marked Stands count_in scale_in degree_in
    bare none b i m w = (refl, refl, λ x. refl)
    bare (more r t f) b i m w =
        let d : dropped (under r b) t (under r f) ≡ true = mark-zero _ (sym m.0 ∙ w i t (inl (refl, refl))) in
        rw d (bare f (more r t b) (get_or ends i 0) m.2 (λ c u q. w c u (inr q)))

    alone-is : (t : Concept) → Holds names roles ends t left node (get_or ends node 0) → Marked ends marks t node
        → ((c : ℕ) (u : Concept) → Stands ends (children t) (node + 1) c u → get_or marks c 0 ≡ 0)
        → (max 1 (many (get_or names node 0)) ≡ scale_in t)
        × ((x : ℕ) → or_one (many (get_or names node 0)) (common (get_or names node 0) ((graph k).names x)) ≡ degree_in (graph k) t x)
    unfolding Holds Marked scale_in degree_in
    alone-is (rooted a f) o m w =
        let q = bare f none (node + 1) m w in
        let same : get_or names node 0 ≡ a = o.2 in
        let z : many a + 0 ≡ many a = omega arith in
        rw (same, q.0, q.1, z) (omega arith, λ x. rw (q.2 x) (ap (or_one (many a)) (omega arith)))

    pub alone-done : (X : ℕ → Type 0) (at from scale : ℕ) (notes numbers out : List ℕ) → scale ≡ max 1 (many (get_or names node 0))
        → ((g : Judged s items index) (x : ℕ) → X x → row_at out from x ≡ or_one (many (get_or names node 0)) (common (get_or names node 0) ((walked g.register).names x)))
        → Kept at numbers out → (j : Gradable (Judged s items index) names roles ends marks node left) → Done j X at from scale notes notes numbers out
    alone-done X at from scale notes numbers out es eo kept =
        let q = alone-is k.tree k.posed.held k.marked (h.none refl) in
        done-for k (record {
          worked = record { scaled = es ∙ q.0; each = λ x m. eo k.posed.graph x m ∙ q.1 x };
          noted = noted-node names roles ends marks k.posed.graph.register X notes k.tree left node (get_or ends node 0) k.posed.held
              (λ c u s m. absurd (m (h.none refl c u s)));
          outside = λ j l o. refl;
          kept = kept;
        })

  -- ---- no names, and no child is written

  childless : (f : Forest ℕ) (i e c : ℕ) (u : Concept) → HoldsF names roles ends f (left - 1) i e → e ≤ i → Stands ends f i c u → ⊥
  unfolding HoldsF Holds Stands
  childless none i e c u h l q = q
  childless (more r (rooted a g) f) i e c u h l q = omega (arith, h.1, h.2.1)

  -- it is worth 1 everywhere, which row 0 says
  pub empty-done : Bytes s → (set : List ℕ) (at : ℕ) (notes numbers : List ℕ) → get_or names node 0 ≡ 0 → get_or ends node 0 ≡ node + 1 → Ones numbers
      → (j : Gradable (Judged s items index) names roles ends marks node left) → Done j (Below (graph j) set (get_or roles node 0)) at 0 1 notes notes numbers numbers
  empty-done b set at notes numbers bare' ee ones j =
      let en : many (get_or names node 0) ≡ 0 = ap many bare' ∙ ones-ones 0 in
      let heavy : Heavy ends marks k.tree node None = record {
        none = λ e c u q. absurd (childless (children k.tree) (node + 1) (get_or ends node 0) c u (rows k) (omega arith) q);
        some = λ c d. absurd (none-some c d);
        most = λ c d. absurd (none-some c d);
      } in
      alone-done heavy (Below (graph j) set (get_or roles node 0)) at 0 1 notes numbers numbers (rw en refl)
      (λ g x m. let few : x < 512 = omega (arith, next-inside j.posed.graph b m.0 (get_or roles node 0) x m.2, j.posed.graph.most) in
      ap (λ (z : ℕ). get_or numbers z 0) (zero-add x) ∙ ones x few ∙ rw en refl) (λ i l. refl) j

  -- ---- the heaviest child, where one is kept

  module _ {set notes numbers : List ℕ} {at : ℕ} (lent : Lent items set notes numbers ends node at) where
    module _ {heavy : ℕ} (f : Heavy ends marks k.tree node (Some heavy)) where
      abbrev chosen : (get_or marks heavy 0 ≡ 0 → ⊥) × ((u : Concept) × Stands ends (children k.tree) (node + 1) heavy u)
      chosen = f.some heavy refl

      abbrev pub child : Concept
      child = chosen.1.0

      pub stands : Stands ends (children k.tree) (node + 1) heavy child
      stands = chosen.1.1

      pub top : Head names roles ends marks (graph k) left (get_or ends node 0) node heavy child (λ x. ⊥) k.tree
      top = head names roles ends marks (graph k) left (get_or ends node 0) node heavy child (λ x. ⊥) k.tree k.posed.held k.marked stands chosen.0

      pub place : Place names roles ends (left - 1) (node + 1) (get_or ends node 0) heavy child
      place = top.place

      pub first-low : heavy < 64
      first-low = omega (arith, place.inside, place.within, k.posed.few)

      abbrev pub first-asked : Gradable (Judged s items index) names roles ends marks heavy (left - 1)
      first-asked = record {
        tree = child;
        posed = record { graph = k.posed.graph; held = place.held; few = le_trans place.within k.posed.few };
        marked = top.marked;
        small = le_trans top.small k.small;
      }

      pub first-lent : Lent items set notes numbers ends heavy at
      first-lent = record {
        members = lent.members;
        clear = λ j l a b. lent.clear j l (omega (arith, place.behind)) (omega (arith, place.within));
        room = room-fewer lent.room (get_or ends heavy 0 - heavy) (omega (arith, place.behind, place.within));
        ones = lent.ones;
      }

      pub first_two : at + 512 + 512 ≤ 3584
      first_two = omega (arith, room-two lent.room (omega (arith, place.behind, place.inside, place.within)), lent.room.size_is)

      -- it is worked out
      module _ (role from scale : ℕ) (mid ys : List ℕ) (er : role ≡ get_or roles heavy 0)
          (reached : (j : Gradable (Judged s items index) names roles ends marks heavy (left - 1)) → Done j (Below (graph j) set (get_or roles heavy 0)) at from scale notes mid numbers ys)
          (standing : Standing at from) (sy : length ys ≡ length numbers) where
        abbrev d : Done first-asked (Below (graph k) set (get_or roles heavy 0)) at from scale notes mid numbers ys
        d = reached first-asked

        abbrev shared : ℕ → ℕ
        shared x = common (get_or names node 0) ((graph k).names x)

        low : from ≤ at
        low = go standing
          where
            go : Standing at from → from ≤ at
            go (inl e) = omega arith
            go (inr e) = omega arith

        reach-part : (x : ℕ) → Member set x → best (row_at ys from) ((graph k).next x role) ≡ given roles (graph k) heavy child x
        reach-part x m = reach-best first-asked set role at from scale notes mid numbers ys er d x m

        fits : (x : ℕ) → shared x * scale + given roles (graph k) heavy child x * 1 < 4294967296
        fits x = let q = top.sum_fits x in let l = k.small in rw d.worked.scaled (omega arith)

        pub first-folding : Folding s items index set mid ys role heavy from (at + 512) 0 1
        first-folding = record {
          graph = k.posed.graph;
          fits = λ x m. let q = fits x in rw (reach-part x m) (omega arith);
          clear = λ l. d.outside heavy l (inl (omega arith)) ∙ lent.clear heavy l (omega (arith, place.behind)) (omega (arith, place.inside, place.within));
          inside = first-low;
          short = omega (arith, lent.room.size_is);
          from-fits = omega (arith, low, first_two, lent.room.size_is);
          to-fits = omega (arith, first_two, lent.room.size_is);
          apart = inl (omega (arith, low));
        }

        -- its part stands in the next row, and it is noted
        module _ (new zs : List ℕ) (folded : (g : Judged s items index) → Folded g.register set mid new ys zs role heavy from (at + 512) 0 1)
            (sn : length new ≡ length mid) (sz : length zs ≡ length ys) where
          abbrev part : Folded k.posed.graph.register set mid new ys zs role heavy from (at + 512) 0 1
          part = folded k.posed.graph

          part-is : (x : ℕ) → Member set x → row_at zs (at + 512) x ≡ given roles (graph k) heavy child x
          part-is x m = part.sums x m ∙ rw (reach-part x m) (omega arith)

          change : Outside heavy (get_or ends heavy 0) notes new
          change = outside-then (heavy + 1) (get_or ends heavy 0) heavy (heavy + 1) heavy (get_or ends heavy 0) notes mid new
              (omega arith) (omega arith) (omega arith) (omega (arith, place.inside)) d.outside part.outside

          pub first-own : (g : Judged s items index) (x : ℕ) → Member set x
              → common (get_or names node 0) ((walked g.register).names x) * scale + row_at zs (at + 512) x < 4294967296
          first-own g x m =
              let same = one-register g k.posed.graph.register k.posed.graph.read in
              rw (same, part-is x m) (let q = fits x in omega arith)

          pub first-rows : at + 512 + 512 ≤ length zs
          first-rows = omega (arith, first_two, lent.room.size_is)

          -- so it is at the head of the others
          pub first-headed : (out : List ℕ) → length out ≡ length zs → Kept at zs out
              → ((g : Judged s items index) (x : ℕ) → Member set x
              → row_at out at x ≡ common (get_or names node 0) ((walked g.register).names x) * scale + row_at zs (at + 512) x)
              → Headed s items index names roles ends marks node left set heavy at scale new out
          first-headed out so kept sum = record {
            asked = k;
            members = lent.members;
            room = rw (so ∙ sz ∙ sy) lent.room;
            ones = λ x l. let m = room-low lent.room in kept x (omega arith) ∙ part.kept x (omega arith) ∙ d.kept x (omega arith) ∙ lent.ones x l;
            tree = child;
            stands = stands;
            kept = chosen.0;
            most = f.most heavy refl;
            scaled = d.worked.scaled;
            summed = λ x m. sum k.posed.graph x m ∙ ap (λ (z : ℕ). shared x * scale + z) (part-is x m);
            noted = λ x m. reach-one first-asked set role at from scale notes mid numbers ys er d x m new sn part.outside (part.noted x m);
            clear = λ j l p q w. change j l w ∙ lent.clear j l (omega arith) q;
          }

          -- and then the others are folded in
          pub first_done : (out last end : List ℕ) (r : ℕ) → Kept at zs out
              → ((j : Gradable (Judged s items index) names roles ends marks node left) → Done j (Member set) at at r new last out end)
              → (j : Gradable (Judged s items index) names roles ends marks node left) → Done j (Member set) at at r notes last numbers end
          first_done out last end r kept done j = let o = done j in record {
            worked = o.worked;
            noted = o.noted;
            outside = outside-then heavy (get_or ends heavy 0) (node + 1) (get_or ends node 0) (node + 1) (get_or ends node 0) notes new last
                (omega (arith, place.behind)) place.within (omega arith) (omega arith) change o.outside;
            kept = λ i l. o.kept i l ∙ kept i l ∙ part.kept i (omega arith) ∙ d.kept i l;
          }
