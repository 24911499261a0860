-- A refusal's line never stands inside a list. Once a register and a requirement are read, and a plain requirement is not too large (of one with
-- thresholds nothing more is asked), each row is its item's own: `withdrawn` exactly where the item has name 63 (`degree-withdrawn`, `member-withdrawn`),
-- and otherwise its degree or decision (`degree-rows`, `member-rows`). So what is printed is one line for a refusal, or a list of such rows
-- (`printed-rows`), and so is the whole listing (`listing-rows`).
-- Assumes nothing.
use mathlib.Core.Path.{◌≡◌, refl, sym, ap, subst, ◌∙◌}
use mathlib.Core.Logic.{◌⊎◌, inl, inr, ◌↔◌}
use mathlib.Core.Bool.{Bool, true, false, cond}
use mathlib.Core.List.{List, [], ◌∷◌, ◌++◌}
use Prim.Native.Nat.{ℕ, ◌+◌, ◌≤◌, ◌<◌}
use native.Mathlib.Omega.{arith}
use lib.Dec.{ltb, ltb→lt}
use lib.ListN.{length, take, drop}
use lib.Seq.{get_or-drop}
use Rattle.meaning.specs.declared.Refusal.{Refusal}
use Rattle.meaning.specs.Refusal.{Answer, good, refused, ◌>>=◌}
use Rattle.meaning.specs.Bounds.{most_nodes}
use Rattle.meaning.specs.Bytes.{Bytes}
use Rattle.meaning.specs.Tree.{Concept, nodes}
use Rattle.meaning.specs.Degree.{answered}
use Rattle.meaning.specs.Shown.{degree_map}
use Rattle.meaning.specs.Register.{Register, withdrawn, judged, read_register}
use Rattle.meaning.specs.Requirement.{Requirement, bare}
use Rattle.meaning.specs.Message.{Part, read_requirement, sound_label}
use Rattle.meaning.specs.Calls.{read_plain, degree_call, member_call}
use Rattle.meaning.proofs.Tests.{holds, true-false}
use Rattle.meaning.proofs.Reading.{good-inj, taken, gone, passed, le-of-not-below}
use Rattle.meaning.proofs.MessageLabel.{bounded-open}
use Rattle.meaning.proofs.Message.{read_back, sound-open}
use Rattle.requirement.proofs.Whole.{bare-nodes}
use Rattle.lines.specs.Lines.{degree_line, withdrawn_line, refusal_line}
use Rattle.lines.proofs.Entries.{its_degree, its_decision, degree-out, degree-in, member-out, member-in, degree-apart, decision-apart}
use Rattle.listing.specs.Listing.{lines, degree_row, member_row, degree_head, member_head}
use Rattle.listing.specs.Listing.{degree_rows, member_rows, listed, listed_items, listing_of, printed, register_end, too_long, most_input, listing}
use Rattle.listing.proofs.Items.{same_lines}

-- ---- an item's row

-- "withdrawn" of a withdrawn item, and of any other its own line
abbrev entry : Register → ℕ → List ℕ → List ℕ
entry g i own = cond (withdrawn g i) (withdrawn_line i) own

abbrev pub degree_entry : Register → Requirement → ℕ → List ℕ
degree_entry g q i = entry g i (degree_line i (answered (judged g) (bare q) i) (degree_map (judged g) (bare q) i))

abbrev pub member_entry : Register → Requirement → ℕ → List ℕ
member_entry g q i = entry g i (member_row i (good (its_decision g q i)))

entry-says : (g : Register) (i : ℕ) (own : List ℕ) → (own ≡ withdrawn_line i → ⊥) → (entry g i own ≡ withdrawn_line i) ↔ (withdrawn g i ≡ true)
entry-says g i own apart = go (withdrawn g i)
  where
    go : (b : Bool) → (cond b (withdrawn_line i) own ≡ withdrawn_line i) ↔ (b ≡ true)
    go true = (λ _. refl, λ _. refl)
    go false = (λ e. absurd (apart e), λ e. absurd (true-false e refl))

-- a row says `withdrawn` exactly where its item has name 63
pub degree-withdrawn : (g : Register) (q : Requirement) (i : ℕ) → (degree_entry g q i ≡ withdrawn_line i) ↔ (withdrawn g i ≡ true)
degree-withdrawn g q i = entry-says g i _ (degree-apart i (answered (judged g) (bare q) i) (degree_map (judged g) (bare q) i))

pub member-withdrawn : (g : Register) (q : Requirement) (i : ℕ) → (member_entry g q i ≡ withdrawn_line i) ↔ (withdrawn g i ≡ true)
member-withdrawn g q i = entry-says g i _ (decision-apart i (its_decision g q i))

module _ (image message : List ℕ) (g : Register) (read : read_register image ≡ good g) (b : Bytes message)
    (q : Requirement) (ps : List Part) (written : read_requirement message ≡ good (q, ps)) where
  few : nodes q ≤ most_nodes
  few = (bounded-open sound_label q (sound-open q (read_back message (q, ps) b written).sound).0).2

  -- where the requirement is taken as plain, it is this one's tree
  plain-tree : (t : Concept) → read_plain message ≡ good t → t ≡ bare q
  unfolding read_plain
  plain-tree t e =
      let z = taken (read_requirement message) _ e in
      let same : z.0 ≡ (q, ps) = good-inj (sym z.1 ∙ written) in
      let its : bare z.0.0 ≡ t = good-inj (passed _ _ _ (gone _ _ z.2).1).1 in
      sym its ∙ ap (λ (w : Requirement × List Part). bare w.0) same

  -- each item's row is its entry, if the requirement is taken as plain
  pub degree-rows : (t : Concept) → read_plain message ≡ good t → (i : ℕ) → i < length g.names
      → degree_row i (degree_call image message i most_nodes) ≡ degree_entry g q i
  degree-rows t e i l = go (withdrawn g i) refl
    where
      wanted : read_plain message ≡ good (bare q)
      wanted = e ∙ ap good (plain-tree t e)

      go : (w : Bool) → withdrawn g i ≡ w
          → degree_row i (degree_call image message i most_nodes) ≡ cond w (withdrawn_line i) (degree_row i (good (its_degree g (bare q) i)))
      go true d = ap (degree_row i) (degree-out image message g read i (bare q) wanted l d)
      go false d =
          ap (degree_row i) (degree-in image message g read i (bare q) wanted (record { inside = l; serves = d }) (omega (arith, few, bare-nodes q)))

  -- and if register and requirement are read, where it has thresholds
  pub member-rows : (i : ℕ) → i < length g.names → member_row i (member_call image message i most_nodes) ≡ member_entry g q i
  member-rows i l = go (withdrawn g i) refl
    where
      go : (w : Bool) → withdrawn g i ≡ w
          → member_row i (member_call image message i most_nodes) ≡ cond w (withdrawn_line i) (member_row i (good (its_decision g q i)))
      go true d = ap (member_row i) (member-out image message g read i q ps written l d)
      go false d = ap (member_row i) (member-in image message g read i q ps written (record { inside = l; serves = d }) few)

-- ---- the rows of a list

-- What is printed of a register and a requirement: one line for a refusal; or a head and a row for each item, with its degree or with yes or no, or
-- with `withdrawn`.
pub data Prints (image message text : List ℕ) : Type 0 where
  refusal : (f : Refusal) → listing_of image message ≡ refused f → text ≡ refusal_line f → Prints image message text
  degrees : (g : Register) (q : Requirement) → read_register image ≡ good g → read_requirement message ≡ good (q, [])
      → text ≡ degree_head ++ lines (degree_entry g q) (length g.names) → Prints image message text
  decisions : (g : Register) (q : Requirement) (p : Part) (ps : List Part) → read_register image ≡ good g → read_requirement message ≡ good (q, p ∷ ps)
      → text ≡ member_head ++ lines (member_entry g q) (length g.names) → Prints image message text

module _ (image message : List ℕ) (b : Bytes message) where
  abbrev Shown : Answer (List ℕ) → Type 0
  Shown a = listing_of image message ≡ a → Prints image message (printed a)

  refused-prints : (f : Refusal) → Shown (refused f)
  refused-prints f e = refusal f e refl

  degrees-print : (g : Register) (q : Requirement) → read_register image ≡ good g → read_requirement message ≡ good (q, [])
      → (D : Answer Concept) → read_plain message ≡ D → Shown (D >>= λ _. good (degree_head ++ degree_rows image message (length g.names)))
  unfolding ◌>>=◌
  degrees-print g q read written (good t) plain e =
      degrees g q read written
      (ap (λ (z : List ℕ). degree_head ++ z) (same_lines _ _ (length g.names) (degree-rows image message g read b q [] written t plain)))
  degrees-print g q read written (refused f) plain e = refused-prints f e

  decisions-print : (g : Register) (q : Requirement) (p : Part) (ps : List Part) → read_register image ≡ good g → read_requirement message ≡ good (q, p ∷ ps)
      → Prints image message (member_head ++ member_rows image message (length g.names))
  decisions-print g q p ps read written =
      decisions g q p ps read written
      (ap (λ (z : List ℕ). member_head ++ z) (same_lines _ _ (length g.names) (member-rows image message g read b q (p ∷ ps) written)))

  written-prints : (g : Register) → read_register image ≡ good g → (a : Answer (Requirement × List Part)) → read_requirement message ≡ a
      → Shown (a >>= λ x. listed image message (length g.names) x.1)
  unfolding listed ◌>>=◌
  written-prints g read (good (q, [])) written e = degrees-print g q read written (read_plain message) refl e
  written-prints g read (good (q, p ∷ ps)) written e = decisions-print g q p ps read written
  written-prints g read (refused f) written e = refused-prints f e

  read-prints : (a : Answer Register) → read_register image ≡ a → Shown (a >>= λ g. listed_items image message (length g.names))
  unfolding listed_items ◌>>=◌
  read-prints (good g) read e = written-prints g read (read_requirement message) refl e
  read-prints (refused f) read e = refused-prints f e

  -- each row of a list is its item's, and no refusal
  pub printed-rows : Prints image message (printed (listing_of image message))
  unfolding listing_of
  printed-rows = read-prints (read_register image) refl refl

-- ---- the whole listing

-- the bytes behind the register are bytes
rest-bytes : (s : List ℕ) (k : ℕ) → Bytes s → Bytes (drop k s)
rest-bytes s k b i = subst (λ (z : ℕ). z < 256) (sym (get_or-drop k s i 0)) (b (k + i))

-- of any input: it is too long, or what is printed are these rows of its register and its requirement
pub listing-rows : (s : List ℕ) → Bytes s
    → ((most_input < length s) × (listing s ≡ too_long)) ⊎ ((length s ≤ most_input) × Prints (take (register_end s) s) (drop (register_end s) s) (listing s))
unfolding listing
listing-rows s b = go (ltb most_input (length s)) refl
  where
    image : List ℕ
    image = take (register_end s) s

    message : List ℕ
    message = drop (register_end s) s

    go : (t : Bool) → ltb most_input (length s) ≡ t
        → ((most_input < length s) × (cond t too_long (printed (listing_of image message)) ≡ too_long))
        ⊎ ((length s ≤ most_input) × Prints image message (cond t too_long (printed (listing_of image message))))
    go true e = inl (ltb→lt most_input (length s) (holds e), refl)
    go false e = inr (le-of-not-below most_input (length s) e, printed-rows image message (rest-bytes s (register_end s) b))
