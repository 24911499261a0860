-- Three wrong writers, each ruled out by the promise alone: one that refuses all, one that writes one fixed message, one that swaps two children.
-- Assumes nothing.
use mathlib.Core.Path.{◌≡◌, refl, sym, ap, ◌∙◌}
use mathlib.Core.List.{List, [], ◌∷◌}
use Prim.Native.Nat.{ℕ}
use native.Mathlib.Omega.{arith}
use lib.ListN.{length, get_or, replicate}
use lib.Seq.{sets}
use Rattle.meaning.specs.declared.Refusal.{Refusal}
use Rattle.meaning.specs.Refusal.{good, refuse_if, ◌>>=◌, ◌>>◌}
use Rattle.meaning.specs.Bytes.{bytes, headed}
use Rattle.meaning.specs.Tree.{node, none, more, Forest, count}
use Rattle.meaning.specs.Requirement.{Label, Requirement}
use Rattle.meaning.specs.Message.{encode, node_bytes, thresholds_bytes}
use Rattle.meaning.specs.Lists.{go_on, form_tree, stand_at, form, gathered, others, grown, first_tree, owned, labelled, said, listed, limits_at, limits_of, names_only, lists_of}
use Rattle.meaning.specs.Writing.{nodes_from, limits_from, node_numbers, limit_numbers, inner_numbers, shared_out, whole, node_fits, own_fit, lists_fit, write_call, after_write}
use Rattle.meaning.proofs.Reading.{not_good}
use Rattle.std.specs.Prelude.{Result, Ok, Err}
use Rattle.writer.specs.Promise.{paper_written, long, WritePromise}
use Rattle.writer.proofs.Promise.{written-told}

-- ---- three calls: a lone node with one name or another, and a root with two children, in an output of 35 bytes

room : List ℕ
room = replicate 35 0

lone : ℕ → List ℕ
lone names = names ∷ 0 ∷ 0 ∷ []

-- a node without names and thresholds
bare : Forest Label → Requirement
bare f = node (record { names = 0; thresholds = [] }) f

-- the same two children, in either order
one-two : Requirement
one-two = bare (more 1 (bare none) (more 2 (bare none) none))

two-one : Requirement
two-one = bare (more 2 (bare none) (more 1 (bare none) none))

-- the numbers of the lists of a requirement
abbrev pub nodes-of : Requirement → List ℕ
nodes-of q = node_numbers (lists_of q).outer

abbrev pub limits-of : Requirement → List ℕ
limits-of q = limit_numbers (lists_of q).limits

abbrev pub inner_of : Requirement → List ℕ
inner_of q = inner_numbers (lists_of q).limits

-- the message of a lone node with a name of the lowest two
lone-message : ℕ → List ℕ
lone-message n = 1 ∷ 0 ∷ 10 ∷ 0 ∷ 0 ∷ 0 ∷ 0 ∷ 0 ∷ 0 ∷ 0 ∷ n ∷ 0 ∷ 0 ∷ []

lone-written : (write_call (lone 1) [] [] (length room) ≡ good (lone-message 1)) × (write_call (lone 2) [] [] (length room) ≡ good (lone-message 2))
unfolding
    room lone lone-message write_call whole shared_out nodes_from limits_from node_fits own_fit lists_fit go_on form_tree stand_at form gathered others grown first_tree
    owned labelled said encode node_bytes thresholds_bytes bytes headed count refuse_if ◌>>=◌ ◌>>◌
lone-written = (refl, refl)

two-written : write_call (nodes-of one-two) (limits-of one-two) (inner_of one-two) (length room) ≡ good (encode one-two)
unfolding
    room bare one-two listed limits_at limits_of names_only lists_of node_numbers limit_numbers inner_numbers
    write_call whole shared_out nodes_from limits_from node_fits own_fit lists_fit go_on form_tree stand_at form gathered others grown first_tree
    owned labelled said encode node_bytes thresholds_bytes bytes headed count refuse_if ◌>>=◌ ◌>>◌
two-written = refl

-- the byte at which the two orders differ: the role of the first child
roles-apart : sets room 0 (encode one-two) ≡ sets room 0 (encode two-one) → ⊥
unfolding room bare one-two two-one encode node_bytes thresholds_bytes bytes headed count
roles-apart e = let z : ◌≡◌ {A = ℕ} 1 2 = ap (λ (s : List ℕ). get_or s 13 0) e in omega (arith, z)

names_apart : sets room 0 (lone-message 1) ≡ sets room 0 (lone-message 2) → ⊥
unfolding room lone-message
names_apart e = let z : ◌≡◌ {A = ℕ} 1 2 = ap (λ (s : List ℕ). get_or s 10 0) e in omega (arith, z)

-- ---- any program that keeps the promise, by its result and the output afterwards

module _ (result : List ℕ → List ℕ → List ℕ → List ℕ → Result ℕ Refusal) (output : List ℕ → List ℕ → List ℕ → List ℕ → List ℕ)
    (kept : (nodes hs inner old : List ℕ) → WritePromise nodes hs inner old (output nodes hs inner old) (result nodes hs inner old)) where
  takes : (nodes hs inner m : List ℕ) → write_call nodes hs inner (length room) ≡ good m
      → (result nodes hs inner room ≡ Ok (length m)) × (output nodes hs inner room ≡ sets room 0 m)
  unfolding long ◌>>=◌
  takes nodes hs inner m e =
      let k = kept nodes hs inner room in
      (written-told (result nodes hs inner room) (Ok (length m)) (k.0 ∙ ap long e), k.1 ∙ ap (after_write room) e)

  pub not-refusing-all : ((nodes hs inner old : List ℕ) → (f : Refusal) × (result nodes hs inner old ≡ Err f)) → ⊥
  not-refusing-all all =
      let f = all (lone 1) [] [] room in
      not_good (ap paper_written (sym f.1 ∙ (takes (lone 1) [] [] (lone-message 1) lone-written.0).0))

  pub not-one-message : (m : List ℕ) → ((nodes hs inner old : List ℕ) (n : ℕ) → result nodes hs inner old ≡ Ok n → output nodes hs inner old ≡ sets old 0 m) → ⊥
  not-one-message m all =
      let a = takes (lone 1) [] [] (lone-message 1) lone-written.0 in
      let b = takes (lone 2) [] [] (lone-message 2) lone-written.1 in
      names_apart (sym a.1 ∙ all (lone 1) [] [] room _ a.0 ∙ sym (all (lone 2) [] [] room _ b.0) ∙ b.1)

  pub not-swapping-children : ((a : Label) (r s : ℕ) (t u : Requirement) (f : Forest Label) (old : List ℕ) (n : ℕ)
      → let q = node a (more r t (more s u f)) in
      result (nodes-of q) (limits-of q) (inner_of q) old ≡ Ok n
      → output (nodes-of q) (limits-of q) (inner_of q) old ≡ sets old 0 (encode (node a (more s u (more r t f))))) → ⊥
  unfolding bare one-two two-one
  not-swapping-children all =
      let a = takes (nodes-of one-two) (limits-of one-two) (inner_of one-two) (encode one-two) two-written in
      roles-apart (sym a.1 ∙ all _ 1 2 (bare none) (bare none) none room _ a.0)
