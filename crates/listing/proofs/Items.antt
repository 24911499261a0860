-- Lines one after the other, and the listing by what was read.
-- Assumes nothing.
use mathlib.Core.Path.{◌≡◌, refl, sym, ap, ap₂, ◌∙◌}
use mathlib.Core.Bool.{false}
use mathlib.Core.List.{List, [], ◌∷◌, ◌++◌}
use Prim.Native.Nat.{ℕ, zero, suc, ◌+◌, min, ◌≤◌, ◌<◌}
use native.Mathlib.Omega.{arith}
use lib.ListN.{length, take, drop}
use borrow.Author.Tests.{lt-ltb, le-ltb}
use Rattle.meaning.specs.declared.Refusal.{Refusal}
use Rattle.meaning.specs.Refusal.{Answer, good, refused, ◌>>=◌}
use Rattle.meaning.specs.Bounds.{most_items}
use Rattle.meaning.specs.Bytes.{Bytes, number}
use Rattle.meaning.specs.Tree.{Concept}
use Rattle.meaning.specs.Register.{Register, read_register}
use Rattle.meaning.specs.Requirement.{Requirement}
use Rattle.meaning.specs.Message.{Part, read_requirement}
use Rattle.meaning.specs.Calls.{read_plain}
use Rattle.meaning.proofs.Reading.{good-inj, not_good, took, taken, stopped}
use Rattle.meaning.proofs.Image.{image-fits, whole-buffer}
use Rattle.std.specs.Prelude.{Ok, Err}
use Rattle.register.specs.declared.Size.{Size}
use Rattle.register.specs.Reading.{counted, sizes, ReadPromise}
use Rattle.requirement.specs.declared.Message.{Message}
use Rattle.requirement.specs.Message.{counted as counted_message}
use Rattle.plain.specs.declared.Plain.{Plain}
use Rattle.plain.specs.Reading.{PlainOutcome, PlainDone}
use Rattle.listing.specs.Pieces.{Registered}
use Rattle.listing.specs.Listing.{lines, degree_head, member_head}
use Rattle.listing.specs.Listing.{degree_rows, member_rows, listed, listed_items, listing_of, printed, register_end, too_long, most_input, listing}

-- ---- lines one after the other

pub lines_none : (line : ℕ → List ℕ) → lines line 0 ≡ []
unfolding lines
lines_none line = refl

pub same_lines : (f h : ℕ → List ℕ) (n : ℕ) → ((i : ℕ) → i < n → f i ≡ h i) → lines f n ≡ lines h n
unfolding lines
same_lines f h zero all = refl
same_lines f h (suc n) all = ap₂ (λ (x y : List ℕ). x ++ y) (same_lines f h n (λ i l. all i (omega arith))) (all n (omega arith))

-- where the register ends
pub end_short : (s : List ℕ) → length s < 3 → register_end s ≡ length s
unfolding register_end
end_short s l = rw (lt-ltb (length s) 3 l)

pub end-long : (s : List ℕ) → 3 ≤ length s → register_end s ≡ min (length s) (3 + number s 1 2)
unfolding register_end
end-long s l = rw (le-ltb (length s) 3 l)

-- ---- the listing, by what was read

module _ (image message : List ℕ) (n : ℕ) where
  pub listed-degrees : (p : Plain) → PlainDone message (Ok p) → listed image message n [] ≡ good (degree_head ++ degree_rows image message n)
  unfolding listed ◌>>=◌
  listed-degrees p done = go (read_plain message) done
    where
      go : (a : Answer Concept) → PlainOutcome a (Ok p) → (a >>= λ _. good (degree_head ++ degree_rows image message n)) ≡ good (degree_head ++ degree_rows image message n)
      go (good t) o = refl
      go (refused f) o = absurd o

  pub plain-read : (p : Plain) → PlainDone message (Ok p) → (t : Concept) × (read_plain message ≡ good t)
  plain-read p done = go (read_plain message) done
    where
      go : (a : Answer Concept) → PlainOutcome a (Ok p) → (t : Concept) × (a ≡ good t)
      go (good t) o = (t, refl)
      go (refused f) o = absurd o

  pub listed-refused : (f : Refusal) → PlainDone message (Err f) → listed image message n [] ≡ refused f
  unfolding listed ◌>>=◌
  listed-refused f done = go (read_plain message) done
    where
      go : (a : Answer Concept) → PlainOutcome a (Err f) → (a >>= λ _. good (degree_head ++ degree_rows image message n)) ≡ refused f
      go (good t) o = absurd o
      go (refused q) o = ap refused (sym o)

  module _ (m : Message) (h : good (m.nodes, m.parts) ≡ counted_message (read_requirement message)) where
    pub items-plain : m.parts ≤ 0 → listed_items image message n ≡ listed image message n []
    unfolding listed_items ◌>>=◌
    items-plain z = go (read_requirement message) h
      where
        go : (a : Answer (Requirement × List Part)) → good (m.nodes, m.parts) ≡ counted_message a → (a >>= λ x. listed image message n x.1) ≡ listed image message n []
        go (good (q, [])) o = refl
        go (good (q, p ∷ ps)) o = let w : m.parts ≡ suc (length ps) = ap (λ (x : ℕ × ℕ). x.1) (good-inj o) in absurd (omega arith)
        go (refused f) o = absurd (not_good (sym o))

    pub message-read : (q : Requirement × List Part) × (read_requirement message ≡ good q)
    message-read = go (read_requirement message) h
      where
        go : (a : Answer (Requirement × List Part)) → good (m.nodes, m.parts) ≡ counted_message a → (q : Requirement × List Part) × (a ≡ good q)
        go (good q) o = (q, refl)
        go (refused f) o = absurd (not_good (sym o))

    pub items-ruled : 0 < m.parts → listed_items image message n ≡ good (member_head ++ member_rows image message n)
    unfolding listed_items listed ◌>>=◌
    items-ruled z = go (read_requirement message) h
      where
        go : (a : Answer (Requirement × List Part)) → good (m.nodes, m.parts) ≡ counted_message a
            → (a >>= λ x. listed image message n x.1) ≡ good (member_head ++ member_rows image message n)
        go (good (q, [])) o = let w : m.parts ≡ 0 = ap (λ (x : ℕ × ℕ). x.1) (good-inj o) in absurd (omega arith)
        go (good (q, p ∷ ps)) o = refl
        go (refused f) o = absurd (not_good (sym o))

  pub items_refused : (f : Refusal) → refused f ≡ counted_message (read_requirement message) → listed_items image message n ≡ refused f
  unfolding listed_items ◌>>=◌
  items_refused f h = go (read_requirement message) h
    where
      go : (a : Answer (Requirement × List Part)) → refused f ≡ counted_message a → (a >>= λ x. listed image message n x.1) ≡ refused f
      go (good x) o = absurd (not_good o)
      go (refused g) o = let y : ◌≡◌ {A = Answer (ℕ × ℕ)} (refused f) (refused g) = o in cc

module _ (image message : List ℕ) where
  pub register-good : (size : Size) → Bytes image → ReadPromise image false (Ok size)
      → (size.items ≤ most_items) × (listing_of image message ≡ listed_items image message size.items) × Registered image size.items
  unfolding listing_of counted
  register-good size b h =
      let q = taken (read_register image) sizes (sym h) in
      let n : size.items ≡ length q.0.names = sym (ap (λ (z : Size). z.items) (good-inj q.2)) in
      let most = (image-fits image q.0 b (whole-buffer image q.0 b q.1)).0.items in (
        omega (arith, n, most),
        took (read_register image) _ q.0 q.1 ∙ ap (listed_items image message) (sym n),
        record { register = q.0; read = q.1; items-are = n },
      )

  pub register-refused : (f : Refusal) → ReadPromise image false (Err f) → listing_of image message ≡ refused f
  unfolding listing_of counted ◌>>=◌
  register-refused f h = stopped (read_register image) _ f (go (read_register image) h)
    where
      go : (a : Answer Register) → refused f ≡ (a >>= sizes) → a ≡ refused f
      go (good g) o = absurd (not_good o)
      go (refused g) o = let y : ◌≡◌ {A = Answer Size} (refused f) (refused g) = o in cc

-- ---- the whole listing

pub too_long_lem : (s : List ℕ) → most_input < length s → listing s ≡ too_long
unfolding listing
too_long_lem s l = rw (lt-ltb most_input (length s) l)

pub not-too-long : (s image message : List ℕ) → length s ≤ most_input → image ≡ take (register_end s) s → message ≡ drop (register_end s) s
    → listing s ≡ printed (listing_of image message)
unfolding listing
not-too-long s image message l e d = rw (le-ltb most_input (length s) l, e, d)
