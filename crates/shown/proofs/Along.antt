-- The links of an item are looked through for the one that a node goes along, as it is noted.
-- Assumes nothing.
use mathlib.Core.Path.{◌≡◌, subst}
use mathlib.Core.Bool.{false}
use mathlib.Core.List.{List}
use mathlib.Core.Option.{Option as Place}
use Prim.Native.Nat.{ℕ, ◌+◌, ◌≤◌, ◌<◌}
use native.Mathlib.Decide.{dec_lt}
use native.Mathlib.Omega.{arith}
use lib.ListN.{length, get_or}
use borrow.Author.Count.{below_more}
use Rattle.meaning.specs.Register.{Register}
use Rattle.graph.specs.declared.Indexed.{Indexed}
use Rattle.graph.specs.On.{JudgedOn}
use Rattle.graph.specs.Judged.{start_no}
use Rattle.graph.proofs.Use.{one-register}
use Rattle.degrees.specs.Notes.{flag, Note}

module _ (on : Indexed) (notes : List ℕ) (node item : ℕ) where
  -- of the links of the item the node goes along none before the k-th
  pub record Looking (k : ℕ) : Type 0 where
    pub graph : JudgedOn on
    pub inside : item < on.items
    pub places : length graph.register.links ≤ length notes
    pub behind : get_or on.index item 0 ≤ k
    pub unmet : (i : ℕ) → i < k → get_or on.index item 0 ≤ i → flag notes node i ≡ false

module _ {on : Indexed} {notes : List ℕ} {node item k : ℕ} (w : Looking on notes node item k) where
  -- where its last one ends
  abbrev end : ℕ
  end = get_or on.index (item + 1) 0

  abbrev g : Register
  g = w.graph.register

  within : end ≤ length g.links
  within = let q = (w.graph.indexed (item + 1) (let i = w.inside in omega arith)).within in omega (arith)

  -- the links of the item stand between
  between : (i : ℕ) → i < length g.links → start_no g i ≡ item → (get_or on.index item 0 ≤ i) × (i < end)
  between i l e = (low (dec_lt i (get_or on.index item 0)), high (dec_lt i end))
    where
      low : Dec (i < get_or on.index item 0) → get_or on.index item 0 ≤ i
      low (yes m) = absurd (let p = (w.graph.indexed item (let q = w.inside in omega arith)).before i m in let z : start_no g i ≡ item = e in omega arith)
      low (no m) = omega (arith, m)

      high : Dec (i < end) → i < end
      high (yes m) = m
      high (no m) =
          absurd (let p = (w.graph.indexed (item + 1) (let q = w.inside in omega arith)).behind i (omega (arith, m)) l in let z : start_no g i ≡ item = e in omega arith)

  -- what is noted in the graph is so in this one
  noted : (j : JudgedOn on) (o : Place ℕ) → Note j.register notes node item o → Note g notes node item o
  noted j o n = subst (λ (z : Register). Note z notes node item o) (one-register j g w.graph.read) n

  module _ (l : k < end) where
    pub looking-low : k < length g.links
    looking-low = let q = within in omega arith

    own : start_no g k ≡ item
    own =
        let i = w.inside in
        let b = (w.graph.indexed (item + 1) (omega arith)).before k (omega arith) in
        let a = (w.graph.indexed item (omega arith)).behind k w.behind looking-low in
        omega arith

    pub looking-next : flag notes node k ≡ false → Looking on notes node item (k + 1)
    looking-next f = record {
      graph = w.graph;
      inside = w.inside;
      places = w.places;
      behind = omega (arith, w.behind);
      unmet = below_more (λ (i : ℕ). get_or on.index item 0 ≤ i → flag notes node i ≡ false) k w.unmet (λ _. f);
    }
