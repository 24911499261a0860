-- Where an inner concept stands, and that its bytes are that part of the message.
-- Assumes nothing.
use mathlib.Core.Path.{◌≡◌, refl, sym, ap, ◌∙◌}
use mathlib.Core.List.{List, [], ◌∷◌}
use mathlib.Core.List.{Memᴰ}
use mathlib.Core.List.{Forall₂}
use Prim.Native.Nat.{ℕ, zero, suc, ◌+◌, ◌≤◌, ◌<◌}
use native.Mathlib.Omega.{arith}
use lib.ListN.{length, get_or, take, drop}
use Rattle.meaning.specs.declared.Refusal.{Refusal}
use Rattle.meaning.specs.Refusal.{Answer, good, refused}
use Rattle.meaning.specs.Bytes.{number, Bytes}
use Rattle.meaning.specs.Requirement.{Threshold, Requirement}
use Rattle.meaning.specs.Message.{Part, read_requirement, kth, part_of, inner_part, thresholds_of}
use Rattle.meaning.proofs.MessageLabel.{PartAt}
use Rattle.meaning.proofs.Message.{Accepted, read_back, parts-stand, parts-inside}
use Rattle.requirement.specs.declared.Message.{Message}
use Rattle.std.specs.Prelude.{Option, Some, None, Result, Ok, Err}
use Rattle.rows.specs.Packed.{firsts_in}
use Rattle.readers.specs.Reading.{PartsHeld, no_part}
use Rattle.requirement.specs.Message.{MessageOutcome, MessageDone}
use Rattle.parts.specs.declared.Place.{Place}
use Rattle.parts.specs.Inner.{place_among, inner_place}

-- the k-th part by number
pub place_at : (k : ℕ) (ps : List Part) → k < length ps → place_among k ps ≡ Some (record { start = (get_or ps k no_part).first + 7; len = (get_or ps k no_part).len })
unfolding place_among
place_at k [] l = absurd (omega arith)
place_at zero (x ∷ ps) l = refl
place_at (suc k) (x ∷ ps) l = place_at k ps (omega arith)

pub place_none : (k : ℕ) (ps : List Part) → length ps ≤ k → place_among k ps ≡ None
unfolding place_among
place_none k [] l = refl
place_none zero (x ∷ ps) l = absurd (omega arith)
place_none (suc k) (x ∷ ps) l = place_none k ps (omega arith)

member-at : (k : ℕ) (ps : List Part) → k < length ps → Memᴰ (get_or ps k no_part) ps
member-at k [] l = absurd (omega arith)
member-at zero (x ∷ ps) l = Memᴰ.head refl
member-at (suc k) (x ∷ ps) l = Memᴰ.tail (member-at k ps (omega arith))

module _ (s : List ℕ) where
  -- a part's length stands in the message
  length_at : (ps : List Part) (hs : List Threshold) → Forall₂ (PartAt s (length s)) ps hs → (k : ℕ) → k < length ps
      → (get_or ps k no_part).len ≡ number s ((get_or ps k no_part).first + 5) 2
  length_at [] hs f k l = absurd (omega arith)
  length_at (x ∷ ps) hs (Forall₂.cons h f) zero l = h.long ∙ sym h.here.len
  length_at (x ∷ ps) hs (Forall₂.cons h f) (suc k) l = length_at ps _ f k (omega arith)

  module _ (x : Requirement × List Part) (b : Bytes s) (e : read_requirement s ≡ good x) (k : ℕ) (l : k < length x.1) where
    a : Accepted s x
    a = read_back s x b e

    pub part_length : (get_or x.1 k no_part).len ≡ number s ((get_or x.1 k no_part).first + 5) 2
    part_length = length_at x.1 (thresholds_of x.0) (parts-stand s x a) k l

    pub part-inside : (get_or x.1 k no_part).first + 7 + (get_or x.1 k no_part).len ≤ length s
    part-inside = (parts-inside s x a (member-at k x.1 l)).0

  -- the bytes there are the k-th inner concept's
  abbrev pub bytes_of : Option Place → List ℕ
  bytes_of (Some p) = take p.len (drop p.start s)
  bytes_of None = []

  kth-place : (k : ℕ) (ps : List Part) → bytes_of (place_among k ps) ≡ kth s ps k
  unfolding place_among kth
  kth-place k [] = refl
  kth-place zero (x ∷ ps) = refl
  kth-place (suc k) (x ∷ ps) = kth-place k ps

  pub inner-bytes : (k : ℕ) → bytes_of (inner_place k (read_requirement s)) ≡ inner_part s k
  unfolding inner_part
  inner-bytes k = go (read_requirement s)
    where
      go : (r : Answer (Requirement × List Part)) → bytes_of (inner_place k r) ≡ part_of s k r
      go (good x) = kth-place k x.1
      go (refused f) = refl

-- ---- a message that was read into rows

pub record Found (s : List ℕ) (B : List ℕ) (parts : ℕ) : Type 0 where
  pub what : Requirement × List Part
  pub read : read_requirement s ≡ good what
  pub many : length what.1 ≡ parts
  pub few : parts ≤ 16
  pub held : PartsHeld B what.1

abbrev counted : Result Message Refusal → ℕ
counted (Ok m) = m.parts
counted (Err e) = 0

pub found : (s : List ℕ) (B : List ℕ) (m : Message) → MessageDone s B (Ok m) → Found s B m.parts
found s B m h = go (read_requirement s) refl h
  where
    go : (a : Answer (Requirement × List Part)) → read_requirement s ≡ a → MessageOutcome B a (Ok m) → Found s B m.parts
    go (good x) d g =
        let y : length x.1 ≡ m.parts = sym (ap counted g.answer) in
        record { what = x; read = d; many = y; few = omega (arith, g.room); held = g.parted }
    go (refused f) d g = let y : ◌≡◌ {A = ℕ} 0 1 = cc in absurd (omega arith)

pub found_none : (s : List ℕ) (B : List ℕ) (parts : ℕ) → Found s B parts → (k : ℕ) → parts ≤ k → None ≡ inner_place k (read_requirement s)
found_none s B parts f k l = sym (ap (inner_place k) f.read ∙ place_none k f.what.1 (omega (arith, f.many)))

module _ (s : List ℕ) (b : Bytes s) (B : List ℕ) (parts : ℕ) (f : Found s B parts) (k : ℕ) (l : k < parts)
    (firsts : List ℕ) (held : firsts ≡ firsts_in B) (first : ℕ) (is : first ≡ get_or firsts k 0) where
  here : k < length f.what.1
  here = omega (arith, f.many)

  same : first ≡ (get_or f.what.1 k no_part).first
  same = is ∙ ap (λ (a : List ℕ). get_or a k 0) held ∙ f.held.first k here

  pub found-room : first + 7 ≤ length s
  found-room = omega (arith, part-inside s f.what b f.read k here, same)

  module _ (len : ℕ) (e : len ≡ number s (first + 5) 2) where
    long : len ≡ (get_or f.what.1 k no_part).len
    long = e ∙ ap (λ (p : ℕ). number s (p + 5) 2) same ∙ sym (part_length s f.what b f.read k here)

    pub found-place : Some (record { start = first + 7; len = len }) ≡ inner_place k (read_requirement s)
    found-place = (λ i. Some (record { start = same i + 7; len = long i })) ∙ sym (ap (inner_place k) f.read ∙ place_at k f.what.1 here)

    pub found-inside : first + 7 + len ≤ length s
    found-inside = omega (arith, part-inside s f.what b f.read k here, same, long)
