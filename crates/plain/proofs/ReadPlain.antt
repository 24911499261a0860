-- A message that was read into rows, and then 11, the drop rule and 14: the plain requirement that the document reads.
-- Assumes nothing.
use mathlib.Core.Path.{◌≡◌, refl, sym, ap, subst, ◌∙◌}
use mathlib.Core.List.{List, [], ◌∷◌}
use Prim.Native.Nat.{ℕ, ◌≤◌, ◌<◌}
use native.Mathlib.Omega.{arith}
use lib.Dec.{ltb}
use lib.ListN.{length, get_or}
use Rattle.meaning.specs.declared.Side.TheVariants.{Requirement as requirement}
use Rattle.meaning.specs.declared.Refusal.{Refusal}
use Rattle.meaning.specs.Refusal.{Answer, good, refused, at, refuse_if, ◌>>◌}
use Rattle.meaning.specs.Tree.{Concept, nodes}
use Rattle.meaning.specs.Reduce.{reduce, size}
use Rattle.meaning.specs.Bounds.{most_size}
use Rattle.meaning.specs.InPlace.{size_in}
use Rattle.meaning.specs.Requirement.{Requirement, bare}
use Rattle.meaning.specs.Message.{Part, read_requirement}
use Rattle.meaning.specs.Rows.{Holds, Marked}
use Rattle.meaning.specs.Calls.{first_part, read_plain}
use Rattle.meaning.proofs.Reading.{took, stopped, pass, stop, below, not-below}
use Rattle.meaning.proofs.InPlace.{size_in_lem}
use Rattle.meaning.proofs.Rows.{opened, holds-nodes, holds-ended}
use Rattle.reduction.specs.Held.{Held}
use Rattle.reduction.specs.Marks.{MarkedWhole}
use Rattle.reduction.specs.Sizes.{Sized}
use Rattle.reduction.proofs.Held.{held}
use Rattle.requirement.specs.declared.Message.{Message}
use Rattle.std.specs.Prelude.{Result, Ok, Err}
use Rattle.rows.specs.Packed.{names_in, roles_in, ends_in, firsts_in}
use Rattle.readers.specs.Reading.{no_part}
use Rattle.requirement.specs.Message.{MessageGood, MessageOutcome, MessageDone}
use Rattle.readers.proofs.Places.{same_rows}
use Rattle.plain.specs.declared.Plain.{Plain}
use Rattle.plain.specs.Reading.{PlainOutcome, PlainDone}

-- what was read, and how the rows hold it
record Read (s B : List ℕ) (m : Message) : Type 0 where
  tree : Requirement
  parts : List Part
  read : read_requirement s ≡ good (tree, parts)
  held : MessageGood B tree parts (Ok m)
  written : nodes tree ≡ m.nodes
  many : length parts ≡ m.parts

-- the first threshold's place is the answer
first_part_lem : {C : Type 0} (ps : List Part) (next : Answer C) → 0 < length ps → (first_part ps >> next) ≡ refused (at requirement 11 (get_or ps 0 no_part).first)
unfolding ◌>>◌
first_part_lem [] next l = absurd (omega arith)
first_part_lem (p ∷ ps) next l = refl

no-part : {C : Type 0} (ps : List Part) (next : Answer C) → length ps ≡ 0 → (first_part ps >> next) ≡ next
unfolding ◌>>◌
no-part [] next e = refl
no-part (p ∷ ps) next e = absurd (omega arith)

abbrev count : (Message → ℕ) → Result Message Refusal → ℕ
count f (Ok m) = f m
count f (Err e) = 0

-- a message's refusal is handed on
pub plain-refused : (s B : List ℕ) (f : Refusal) → MessageDone s B (Err f) → PlainDone s (Err f)
unfolding read_plain
plain-refused s B f done = go (read_requirement s) refl done
  where
    go : (a : Answer (Requirement × List Part)) → read_requirement s ≡ a → MessageOutcome B a (Err f) → PlainDone s (Err f)
    go (good x) d o = let z = o.answer in let y : ◌≡◌ {A = ℕ} 0 1 = cc in absurd (omega arith)
    go (refused g) d o =
        let y : f ≡ g = cc in
        subst (λ a. PlainOutcome a (Err f)) (sym (stopped (read_requirement s) _ g d)) y

module _ (s B : List ℕ) (m : Message) (done : MessageDone s B (Ok m)) where
  was_read : Read s B m
  was_read = go (read_requirement s) refl done
    where
      go : (a : Answer (Requirement × List Part)) → read_requirement s ≡ a → MessageOutcome B a (Ok m) → Read s B m
      go (good x) d o =
          let z = o.answer in
          let y : nodes x.0 ≡ m.nodes = sym (ap (λ (r : Result Message Refusal). count (λ n. n.nodes) r) z) in
          let l : length x.1 ≡ m.parts = sym (ap (λ (r : Result Message Refusal). count (λ n. n.parts) r) z) in
          record { tree = x.0; parts = x.1; read = d; held = o; written = y; many = l }
      go (refused g) d o = let y : ◌≡◌ {A = ℕ} 0 1 = cc in absurd (omega arith)

  -- 11 at the first threshold
  pub plain-first : 0 < m.parts → (first : ℕ) → first ≡ get_or (firsts_in B) 0 0 → PlainDone s (Err (at requirement 11 first))
  unfolding read_plain
  plain-first l first same =
      let w = was_read in
      let here : 0 < length w.parts = omega (arith, w.many) in
      subst (λ a. PlainOutcome a (Err (at requirement 11 first)))
      (sym (took (read_requirement s) _ (w.tree, w.parts) w.read ∙ first_part_lem w.parts _ here))
      (ap (at requirement 11) (same ∙ w.held.parted.first 0 here))

  -- the arrays that stand in the rows
  module _ (names roles ends : List ℕ) (names-are : names ≡ names_in B) (roles-are : roles ≡ roles_in B) (ends-are : ends ≡ ends_in B) where
    abbrev concept : Concept
    concept = bare was_read.tree

    whole : Holds names roles ends concept 17 0 (nodes was_read.tree)
    whole =
        same_rows (λ n r e. Holds n r e concept 17 0 (nodes was_read.tree)) (sym names-are) (sym roles-are) (sym ends-are) was_read.held.tree

    pub plain-held : Held names roles ends 17 0
    plain-held = held names roles ends 17 concept 0 _ whole was_read.held.few

    module _ (none : m.parts ≤ 0) (marks : List ℕ) (marked : MarkedWhole names roles ends marks) (v : ℕ)
        (sized : Sized names ends 17 marks 0 v) where
      stands : Holds names roles ends concept 17 0 (get_or ends 0 0)
      stands = holds-ended names roles ends concept 17 0 _ whole

      ruled : Marked ends marks concept 0
      ruled = marked.marked concept stands

      small : v ≡ size_in concept
      small = sized.right roles concept stands ruled

      -- no threshold stands in the way of 14
      tested : read_plain s ≡ (refuse_if (ltb most_size (size (reduce concept))) (at requirement 14 3) >> good concept)
      unfolding read_plain
      tested = let w = was_read in
          took (read_requirement s) _ (w.tree, w.parts) w.read ∙ no-part w.parts _ (omega (arith, w.many))

      pub plain-big : most_size < v → PlainDone s (Err (at requirement 14 3))
      plain-big l =
          subst (λ a. PlainOutcome a (Err (at requirement 14 3)))
          (sym (tested ∙ stop (ltb most_size (size (reduce concept))) _ _ (below most_size (size (reduce concept)) (omega (arith, small, size_in_lem concept)))))
          refl

      abbrev plain : Plain
      plain = record { nodes = m.nodes; reduced = record { tree = record { names = names; roles = roles; ends = ends }; marks = marks } }

      pub plain-good : v ≤ most_size → PlainDone s (Ok plain)
      plain-good l =
          let w = was_read in
          let c : nodes concept ≡ nodes w.tree = omega (arith, holds-nodes names roles ends concept 17 0 _ whole) in
          let rows : get_or ends 0 0 ≡ nodes w.tree = (opened names roles ends concept 17 0 _ whole).ended in
          subst (λ a. PlainOutcome a (Ok plain))
          (sym (tested ∙ pass (ltb most_size (size (reduce concept))) _ _ (not-below most_size (size (reduce concept)) (omega (arith, small, size_in_lem concept)))))
          (record {
            written = sym w.written ∙ sym c;
            held = record {
              posed = record { graph = tt; held = stands; few = omega (arith, w.held.few, rows) };
              marked = ruled;
              small = omega (arith, small);
            };
          })
