-- Folding a node's children in, one after the other: what is folded in and what is left say which items meet the node, and the rows of those
-- that are folded in are right for the items that stay.
-- Assumes nothing.
use mathlib.Core.Path.{◌≡◌, refl, sym, ap, ap₂, ◌∙◌, subst}
use mathlib.Core.Bool.{Bool, true, false, ◌&&◌, and-true}
use mathlib.Core.List.{List, Memᴰ}
use Prim.Native.Nat.{ℕ, ◌+◌, ◌-◌, ◌≤◌, ◌<◌}
use native.Mathlib.Omega.{arith}
use lib.ListN.{get_or}
use Rattle.meaning.specs.Names.{within}
use Rattle.meaning.specs.Tree.{node, Forest, none, more, children, relabel}
use Rattle.meaning.specs.Graph.{Graph}
use Rattle.meaning.specs.Whole.{any, meets_by, meets_by_f}
use Rattle.meaning.specs.Requirement.{Label, Threshold, Requirement, fulfils, member, bare, every, passes}
use Rattle.meaning.specs.Rows.{Holds, HoldsF}
use Rattle.meaning.proofs.Rows.{opened}
use Rattle.meaning.proofs.Tests.{true-false}
use Rattle.graph.specs.declared.sets.Items.{Items}
use Rattle.graph.specs.Sets.{in_set, Closed}
use Rattle.meaning.proofs.Same.{any_same}
use Rattle.screening.specs.Sifting.{Sifted}
use Rattle.trails.specs.Cells.{cell, Right, RightF}
use Rattle.screening.specs.Standing.{ruled_at, Ruled, RuledF}
use Rattle.trails.proofs.Trail.{bare_f}
use Rattle.meeting.specs.Required.{Done}
use Rattle.screening.proofs.Sifting.{stayed}
use Rattle.trails.proofs.Table.{SameRows, same-cell}
use Rattle.screening.proofs.Through.{and_assoc}

module _ (names roles ends : List ℕ) (G : Graph ℕ) where
  -- what is right stays right where the rows below do
  mutual
    unfolding Holds relabel Right

    pub right_kept : (m new : List Items) (t : Requirement) (left i e x : ℕ) → Holds names roles ends (bare t) left i e → SameRows m new (i + 1) e
        → Right ends G m t i x → Right ends G new t i x
    right_kept m new (node a f) left i e x h s w = right-kept_f m new f (left - 1) (i + 1) e x h.4 s w

    right-kept_f : (m new : List Items) (f : Forest Label) (left i e x : ℕ) → HoldsF names roles ends (bare_f f) left i e → SameRows m new i e
        → RightF ends G m f i x → RightF ends G new f i x
    right-kept_f m new none left i e x h s w = tt
    right-kept_f m new (more r t f) left i e x h s w =
        let o = opened names roles ends (bare t) left i (get_or ends i 0) h.2 in
        let a : i < get_or ends i 0 = o.inside in
        let q : get_or ends i 0 ≤ e = h.1 in (
          (λ y d. (
            same-cell m new i e i s (omega arith) (omega arith) y ∙ (w.0 y d).0,
            λ u. right_kept m new t left i (get_or ends i 0) y h.2 (λ k b c. s k (omega arith) (omega arith)) ((w.0 y d).1 u),
          )),
          right-kept_f m new f left (get_or ends i 0) e x h.3 (λ k b c. s k (omega arith) c) w.1,
        )

  module _ (owners : List ℕ) (hs : List Threshold) (parts : ℕ) (t : Requirement) (left n e : ℕ) (all : List ℕ) where
    -- Of t, which stands at row n, the children f are left from row c on; `set` has of `all` what meets the others.
    pub record RestOf (f : Forest Label) (set : List ℕ) (m : List Items) (c : ℕ) : Type 0 where
      pub held : HoldsF names roles ends (bare_f f) left c e
      pub ruled : RuledF G owners hs ends parts f c
      pub row : (x : ℕ) → (in_set set x && meets_by_f (fulfils G) G f x) ≡ (in_set all x && meets_by_f (fulfils G) G (children t) x)
      pub so_far : (x : ℕ) → in_set set x ≡ true → (new : List Items) → SameRows m new (n + 1) c → RightF ends G new f c x → RightF ends G new (children t) (n + 1) x

    abbrev pub Rest : List ℕ → List Items → ℕ → Type 0
    Rest set m c = (f : Forest Label) × RestOf f set m c

    -- the child at row c
    pub record Child (set : List ℕ) (m : List Items) (c : ℕ) : Type 0 where
      pub tree : Requirement
      pub held : Holds names roles ends (bare tree) left c (get_or ends c 0)
      pub ruled : Ruled G owners hs ends parts tree c
      pub inside : c < get_or ends c 0
      pub within : get_or ends c 0 ≤ e
      pub then : (set' : List ℕ) (new : List Items) → Sifted (λ x. any (λ y. member G tree y) (G.next x (get_or roles c 0))) set set'
          → SameRows m new (n + 1) c
          → ((x y : ℕ) → in_set set x ≡ true → Memᴰ y (G.next x (get_or roles c 0))
          → (cell new c y ≡ member G tree y) × (member G tree y ≡ true → Right ends G new tree c y))
          → Rest set' new (get_or ends c 0)

    pub rest-child : (set : List ℕ) (m : List Items) (c : ℕ) → Rest set m c → n < c → c < e → Child set m c
    unfolding Holds relabel Ruled Right meets_by
    rest-child set m c w d l = go w.0 w.1
      where
        go : (f : Forest Label) → RestOf f set m c → Child set m c
        go none rest = absurd (let z : c ≡ e = rest.held in omega arith)
        go (more r u f) rest =
            let h = rest.held in
            let o = opened names roles ends (bare u) left c (get_or ends c 0) h.2 in
            let i : c < get_or ends c 0 = o.inside in
            record {
              tree = u;
              held = h.2;
              ruled = rest.ruled.0;
              inside = i;
              within = h.1;
              then = λ set' new q same g. (
                f,
                record {
                  held = h.3;
                  ruled = rest.ruled.1;
                  row = λ x.
                      ap (λ (b : Bool). b && meets_by_f (fulfils G) G f x) (q.each x)
                      ∙ and_assoc (in_set set x) (any (λ y. member G u y) (G.next x (get_or roles c 0))) (meets_by_f (fulfils G) G f x)
                      ∙ ap (λ (z : ℕ). in_set set x && (any (λ y. member G u y) (G.next x z) && meets_by_f (fulfils G) G f x)) h.0
                      ∙ rest.row x;
                  so_far = λ x z new' s v.
                      let was = (stayed (λ y. any (λ y. member G u y) (G.next y (get_or roles c 0))) set set' q x z).0 in
                      rest.so_far x was new' (λ j a b. s j a (omega arith) ∙ same j a b) (
                        (λ y mem.
                            let mem' : Memᴰ y (G.next x (get_or roles c 0)) = subst (λ (v : ℕ). Memᴰ y (G.next x v)) (sym h.0) mem in
                            let p = g x y was mem' in (
                              same-cell new new' (n + 1) (get_or ends c 0) c s (omega arith) (omega arith) y ∙ p.0,
                              λ yes. right_kept new new' u left c (get_or ends c 0) y h.2 (λ j a b. s j (omega arith) b) (p.1 yes),
                            )),
                        v,
                      );
                },
              );
            }

    -- the child is met from a closed set on, and then folded in
    pub rest-step : (set set' below met : List ℕ) (m new : List Items) (c : ℕ) (w : Rest set m c) (d : n < c) (l : c < e)
        → Closed G set (get_or roles c 0) below → Done ends G (rest-child set m c w d l).tree c below met m new
        → Sifted (λ x. any (λ y. in_set met y) (G.next x (get_or roles c 0))) set set' → Rest set' new (get_or ends c 0)
    rest-step set set' below met m new c w d l cl q r =
        let u = rest-child set m c w d l in
        u.then set' new (record { each = λ x. r.each x ∙ agree x (in_set set x) refl }) (λ j a b. q.outside.before j b)
        (λ x y h mem. let says = judge x y h mem in (q.stored y ∙ says, λ yes. q.right y (says ∙ yes)))
      where
        judge : (x y : ℕ) → in_set set x ≡ true → Memᴰ y (G.next x (get_or roles c 0)) → in_set met y ≡ member G (rest-child set m c w d l).tree y
        judge x y h mem = q.sifted.each y ∙ ap (λ (b : Bool). b && member G (rest-child set m c w d l).tree y) (cl x y h mem)

        agree : (x : ℕ) (b : Bool) → in_set set x ≡ b
            → (b && any (λ y. in_set met y) (G.next x (get_or roles c 0))) ≡ (b && any (λ y. member G (rest-child set m c w d l).tree y) (G.next x (get_or roles c 0)))
        agree x true h =
            any_same (λ y. in_set met y) (λ y. member G (rest-child set m c w d l).tree y) (G.next x (get_or roles c 0)) (λ y mem. judge x y h mem)
        agree x false h = refl

    -- nothing stays, so the others need not be looked at
    pub rest-empty : (set : List ℕ) (m : List Items) (c : ℕ) → Rest set m c → ((x : ℕ) → in_set set x ≡ false) → Rest set m e
    unfolding Holds relabel Ruled Right meets_by
    rest-empty set m c w h =
        (none, record { held = refl; ruled = tt; row = λ x. go x (in_set set x) (h x) (w.1.row x); so_far = λ x y. absurd (true-false y (h x)) })
      where
        go : (x : ℕ) (b : Bool) → b ≡ false → (b && meets_by_f (fulfils G) G w.0 x) ≡ (in_set all x && meets_by_f (fulfils G) G (children t) x)
            → (b && true) ≡ (in_set all x && meets_by_f (fulfils G) G (children t) x)
        go x true q r = absurd (true-false refl q)
        go x false q r = r

    -- no child is left
    pub rest-whole : (set : List ℕ) (m : List Items) (c : ℕ) → Rest set m c → e ≤ c
        → Sifted (λ x. meets_by_f (fulfils G) G (children t) x) all set × ((x : ℕ) → in_set set x ≡ true → (new : List Items) → SameRows m new (n + 1) e → Right ends G new t n x)
    unfolding Holds relabel Right meets_by
    rest-whole set m c w l = go w.0 w.1
      where
        open' : (u : Requirement) (new : List Items) (x : ℕ) → RightF ends G new (children u) (n + 1) x → Right ends G new u n x
        open' (node a f) new x r = r

        go : (f : Forest Label) → RestOf f set m c
            → Sifted (λ x. meets_by_f (fulfils G) G (children t) x) all set × ((x : ℕ) → in_set set x ≡ true → (new : List Items) → SameRows m new (n + 1) e → Right ends G new t n x)
        go none rest =
            let z : c ≡ e = rest.held in (
              record { each = λ x. sym (and-true (in_set set x)) ∙ rest.row x },
              (λ x y new s. open' t new x (rest.so_far x y new (λ k a b. s k a (omega arith)) tt)),
            )
        go (more r u f) rest =
            let h = rest.held in
            let z : get_or ends c 0 ≤ e = h.1 in
            absurd (omega (arith, (opened names roles ends (bare u) left c (get_or ends c 0) h.2).inside))

-- at first all are left
pub rest-start : (names roles ends : List ℕ) (G : Graph ℕ) (owners : List ℕ) (hs : List Threshold) (parts : ℕ) (t : Requirement) (left n e : ℕ)
    (set : List ℕ) (m : List Items) → Holds names roles ends (bare t) left n e → Ruled G owners hs ends parts t n
    → Rest names roles ends G owners hs parts t (left - 1) n e set set m (n + 1)
unfolding Holds relabel Ruled Right meets_by
rest-start names roles ends G owners hs parts (node a f) left n e set m h r =
    (f, record { held = h.4; ruled = r.1; row = λ x. refl; so_far = λ x y new s w. w })

-- the items that hold the node's names, of these those that satisfy its thresholds, and of these those that meet its children: they meet the node
pub all-met : (names roles ends : List ℕ) (G : Graph ℕ) (owners : List ℕ) (hs : List Threshold) (parts : ℕ) (t : Requirement) (left n e : ℕ)
    (all held set met : List ℕ) → Holds names roles ends (bare t) left n e → Ruled G owners hs ends parts t n
    → Sifted (λ x. within (get_or names n 0) (G.names x)) all held → Sifted (λ x. ruled_at G owners hs parts n x) held set
    → Sifted (λ x. meets_by_f (fulfils G) G (children t) x) set met → Sifted (λ x. member G t x) all met
unfolding Holds relabel Ruled meets_by
all-met names roles ends G owners hs parts (node a f) left n e all held set met h r p q w =
    let same : get_or names n 0 ≡ a.names = h.2 in
    record {
      each = λ x.
          let fits = within a.names (G.names x) in
          let full = every (λ z. passes G z x) a.thresholds in
          w.each x
          ∙ ap (λ (b : Bool). b && meets_by_f (fulfils G) G f x)
          (q.each x ∙ ap₂ ◌&&◌ (p.each x ∙ ap (λ (z : ℕ). in_set all x && within z (G.names x)) same) (r.0 x) ∙ and_assoc (in_set all x) fits full)
          ∙ and_assoc (in_set all x) (fits && full) (meets_by_f (fulfils G) G f x);
    }
