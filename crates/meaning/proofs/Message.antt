-- Document 01, "Requirement message": a requirement has one message, of at most 12,066 bytes, and reading gives it back; whatever is accepted is such a
-- message; and the parts that reading hands on are where the thresholds stand.
-- Assumes nothing.
use mathlib.Core.Path.{◌≡◌, refl, sym, ap, ap₂, ◌∙◌, subst}
use mathlib.Core.List.{List, [], ◌∷◌, ◌++◌, map, append_assoc, Forall₂, Memᴰ}
use Prim.Native.Nat.{ℕ, zero, suc, ◌+◌, ◌*◌, ◌≤◌, ◌<◌}
use native.Mathlib.Omega.{arith}
use lib.Dec.{T, leb, leb→le, le→leb}
use lib.ListN.{length, get_or, take, drop, length-append}
use Rattle.meaning.specs.declared.Side.TheVariants.{Requirement as requirement}
use Rattle.meaning.specs.declared.Refusal.{Refusal}
use Rattle.meaning.specs.Refusal.{good, refused}
use Rattle.meaning.specs.Bytes.{Bytes}
use Rattle.meaning.specs.Names.{is_set}
use Rattle.meaning.specs.Tree.{node, Forest, none, more, nodes, levels, written, written_f}
use Rattle.meaning.specs.Requirement.{Threshold, Label, Requirement, every}
use Rattle.meaning.specs.Message.{lawful, bounded, sound_inner, sound_threshold, sound_label, joined}
use Rattle.meaning.specs.Bounds.{most_levels, most_nodes, most_thresholds}
use Rattle.meaning.specs.Message.{thresholds_of, sound, concept_bytes, thresholds_bytes, requirement_bytes, encode, Part, Spot, entered}
use Rattle.meaning.specs.Message.{with_thresholds, read_requirement, part_bytes, kth, part_of, inner_part}
use Rattle.meaning.specs.Message.{passed as onward}
use Rattle.meaning.proofs.Tests.{and_both, both-and, pairs-append, pair_of}
use Rattle.meaning.proofs.Reading.{good-inj, then-test, then-take, of_test, of-take, not-below, le-of-not-below, total, stands-taken}
use Rattle.meaning.proofs.Reading.{headed-bytes}
use Rattle.meaning.proofs.Head.{headed-length, headed-stands, headed-read, headed-back}
use Rattle.meaning.proofs.MessageTree.{Within, past, past_label, parts_of, parts_of_f, owned, tree-length, tree-bytes, each-written, TreeAt, ForestAt}
use Rattle.meaning.proofs.MessageTree.{node-open, more-open, node-read, node-back}
use Rattle.meaning.proofs.MessageLabel.{bounded-open, bounded-close, concept-least, concept-most, threshold-length, at_length, outer_kind}
use Rattle.meaning.proofs.MessageLabel.{start, PartAt, parts-at, outer-at, outer-bytes, outer-read, outer-back}

-- ---- the thresholds of a requirement

joined-append : (as' bs : List Label) → joined (as' ++ bs) ≡ joined as' ++ joined bs
unfolding joined
joined-append [] bs = refl
joined-append (a ∷ as') bs = ap (λ (z : List Threshold). a.thresholds ++ z) (joined-append as' bs) ∙ sym (append_assoc a.thresholds _ _)

-- where they stand
abbrev pub parts_in : Requirement → List Part
parts_in q = parts_of outer_kind q 0 3

mutual
  unfolding parts_of joined written

  pub parts-length : (t : Requirement) (k p : ℕ) → length (parts_of outer_kind t k p) ≡ length (thresholds_of t)
  parts-length (node a f) k p = simp (length-append, at_length, parts-length_f f (suc k) (p + 10 + length (thresholds_bytes a.thresholds)))

  parts-length_f : (f : Forest Label) (k p : ℕ) → length (parts_of_f outer_kind f k p) ≡ length (joined (written_f f))
  parts-length_f none k p = refl
  parts-length_f (more r t f) k p =
      simp (joined-append, length-append, parts-length t k (p + 1), parts-length_f f (k + nodes t) (p + 1 + length (requirement_bytes t)))

-- ---- how long a message is

thresholds-length : (hs : List Threshold) → T (every sound_threshold hs) → length (thresholds_bytes hs) ≤ 710 * length hs
unfolding thresholds_bytes every
thresholds-length [] t = omega arith
thresholds-length (h ∷ hs) t =
    let c = and_both (sound_threshold h) (every sound_threshold hs) t in
    let d = and_both (lawful h.limit.num h.limit.den) (sound_inner h.inner) c.0 in
    rw length-append (omega (arith, threshold-length h, concept-most h.inner d.1, thresholds-length hs c.1))

owned-length : (as' : List Label) → T (every sound_label as') → total (owned outer_kind as') ≤ 710 * length (joined as')
unfolding joined every
owned-length [] t = omega arith
owned-length (a ∷ as') t =
    let c = and_both (sound_label a) (every sound_label as') t in
    let d = and_both (is_set a.names) (every sound_threshold a.thresholds) c.0 in
    rw length-append (omega (arith, thresholds-length a.thresholds d.1, owned-length as' c.1))

-- what a well-formed requirement is
pub sound-open : (q : Requirement) → T (sound q) → T (bounded sound_label q) × (length (thresholds_of q) ≤ most_thresholds)
unfolding sound
sound-open q h =
    let c = and_both (bounded sound_label q) (leb (length (thresholds_of q)) most_thresholds) h in
    (c.0, leb→le (length (thresholds_of q)) most_thresholds c.1)

-- "Longest message: 12,066 bytes."
pub message-length : (q : Requirement) → T (sound q) → length (encode q) ≤ 12066
unfolding encode
message-length q h =
    let c = sound-open q h in
    let b = bounded-open sound_label q c.0 in
    omega (arith, headed-length (requirement_bytes q), tree-length outer_kind q, owned-length (written q) (each-written outer_kind q b.0))

-- ---- reading gives it back

-- its bytes stand in its message behind the head
whole : (q : Requirement) → T (sound q) → TreeAt outer_kind (encode q) (length (encode q)) most_levels q (start 3)
unfolding encode
whole q h =
    let c = sound-open q h in
    let b = bounded-open sound_label q c.0 in
    record {
      allowed = b.0;
      shallow = b.1;
      stands = headed-stands (requirement_bytes q);
      fits = record { reached = omega (arith, headed-length (requirement_bytes q)); few = omega arith; room = omega (arith, parts-length q 0 3) };
    }

-- which are bytes
pub message-bytes : (q : Requirement) → T (sound q) → Bytes (encode q)
unfolding encode
message-bytes q h =
    let s = encode q in
    let n = length s in
    headed-bytes (requirement_bytes q) (tree-bytes outer_kind s n (outer-bytes s n) q most_levels (start 3) (whole q h))

pub read-encode : (q : Requirement) → T (sound q) → read_requirement (encode q) ≡ good (q, parts_in q)
unfolding encode read_requirement
read-encode q h =
    let s = encode q in
    let end = 3 + length (requirement_bytes q) in
    let l = headed-length (requirement_bytes q) in
    let c : TreeAt outer_kind s end most_levels q (start 3) = subst (λ (z : ℕ). TreeAt outer_kind s z most_levels q (start 3)) l (whole q h) in
    let e = node-read outer_kind s end (with_thresholds s end) (outer-read s end) most_levels q (start 3) c in
    let b : length (requirement_bytes q) < 65536 = omega (arith, message-length q h) in
    then-take _ _ end (headed-read requirement (requirement_bytes q) b)
    (then-take _ _ (q, past outer_kind q (start 3)) e (then-test _ _ _ (not-below end end (omega arith)) refl))

-- ---- whatever is accepted is such a message

pub record Accepted (s : List ℕ) (r : Requirement × List Part) : Type 0 where
  pub sound : T (sound r.0)
  pub same : s ≡ encode r.0
  pub parts : r.1 ≡ parts_in r.0

pub read_back : (s : List ℕ) (r : Requirement × List Part) → Bytes s → read_requirement s ≡ good r → Accepted s r
unfolding encode sound read_requirement
read_back s r bs e =
    of-take _ _ e (λ end ee e₁. of-take _ _ e₁ (λ x ex e₂. of_test _ _ _ e₂ (λ b e₃.
    let d = headed-back requirement s _ bs ee in
    let w : Within end (start 3) = record { reached = d.0; few = omega arith; room = omega arith } in
    let c = node-back outer_kind s end (with_thresholds s end) (outer-back s end bs) most_levels (start 3) x w ex in
    let next = ap (λ (z : Spot). z.next) c.1 in
    let last : 3 + length (requirement_bytes x.0) ≡ end = omega (arith, le-of-not-below x.1.next end b, c.0.fits.reached) in
    let few : nodes x.0 ≤ most_nodes = omega (arith, c.0.fits.few) in
    let room : length (thresholds_of x.0) ≤ most_thresholds = omega (arith, parts-length x.0 0 3, c.0.fits.room) in
    let tree = bounded-close sound_label x.0 c.0.allowed c.0.shallow few in
    subst (Accepted s) (good-inj e₃) (record {
      sound = both-and (bounded sound_label x.0) _ tree (le→leb (length (thresholds_of x.0)) most_thresholds room);
      same = d.2 (requirement_bytes x.0) c.0.stands last;
      parts = ap (λ (z : Spot). z.parts) c.1;
    }))))

pub accepted : (q : Requirement) → T (sound q) → Accepted (encode q) (q, parts_in q)
accepted q h = record { sound = h; same = refl; parts = refl }

pub accepted-read : (s : List ℕ) (r : Requirement × List Part) → Accepted s r → read_requirement s ≡ good r
accepted-read s r c = ap read_requirement c.same ∙ read-encode r.0 c.sound ∙ ap (λ (z : List Part). good (r.0, z)) (sym c.parts)

-- ---- the parts are where the thresholds stand

module _ (s : List ℕ) (end : ℕ) where
  mutual
    unfolding parts_of joined written levels

    tree-parts : (t : Requirement) (left : ℕ) (w : Spot) → TreeAt outer_kind s end left t w
        → Forall₂ (PartAt s end) (parts_of outer_kind t w.nodes w.next) (thresholds_of t)
    tree-parts (node a f) zero w h = absurd (omega (arith, h.shallow))
    tree-parts (node a f) (suc left) w h =
        let c = node-open outer_kind s end left a f w h in
        pairs-append (parts-at s end w.nodes a.thresholds (entered w) (outer-at s end a w c.label))
        (forest-parts f left (past_label outer_kind a w) c.below)

    forest-parts : (f : Forest Label) (left : ℕ) (w : Spot) → ForestAt outer_kind s end left f w
        → Forall₂ (PartAt s end) (parts_of_f outer_kind f w.nodes w.next) (joined (written_f f))
    forest-parts none left w h = Forall₂.nil
    forest-parts (more r t f) left w h =
        let c = more-open outer_kind s end left r t f w h in
        rw (joined-append (written t) (written_f f))
        (pairs-append (tree-parts t left (onward 1 w) c.child) (forest-parts f left (past outer_kind t (onward 1 w)) c.others))

-- of what is accepted each part is where the threshold of its number stands
pub parts-stand : (s : List ℕ) (r : Requirement × List Part) → Accepted s r → Forall₂ (PartAt s (length s)) r.1 (thresholds_of r.0)
parts-stand s r c =
    let q = r.0 in
    rw (c.same, c.parts) (tree-parts (encode q) (length (encode q)) q most_levels (start 3) (whole q c.sound))

-- it lies inside the message and has 10 to 703 bytes
pub part-inside : (s : List ℕ) (end : ℕ) (x : Part) (h : Threshold) → PartAt s end x h
    → (x.first + 7 + x.len ≤ end) × (10 ≤ x.len) × (x.len ≤ 703)
part-inside s end x h c =
    let k = and_both (lawful h.limit.num h.limit.den) (sound_inner h.inner) c.here.sound in
    let l = c.long in
    let i = c.here.inside in
    (omega arith, omega (arith, concept-least h.inner), omega (arith, concept-most h.inner k.1))

pub parts-inside : (s : List ℕ) (r : Requirement × List Part) → Accepted s r → {x : Part} → Memᴰ x r.1
    → (x.first + 7 + x.len ≤ length s) × (10 ≤ x.len) × (x.len ≤ 703)
parts-inside s r c {x} m = let p = pair_of (parts-stand s r c) m in part-inside s (length s) x p.0 p.2

-- and its bytes are the inner concept's
abbrev pub inner_bytes : Threshold → List ℕ
inner_bytes h = concept_bytes h.inner

pairs-bytes : (s : List ℕ) {ps : List Part} {hs : List Threshold} → Forall₂ (PartAt s (length s)) ps hs → map (part_bytes s) ps ≡ map inner_bytes hs
pairs-bytes s Forall₂.nil = refl
pairs-bytes s (Forall₂.cons {a} {b} c f) =
    ap₂ {C = List (List ℕ)} ◌∷◌
    (ap (λ (n : ℕ). take n (drop (a.first + 7) s)) c.long ∙ stands-taken s (a.first + 7) (inner_bytes b) c.here.stands c.here.inside)
    (pairs-bytes s f)

pub parts-bytes : (s : List ℕ) (r : Requirement × List Part) → Accepted s r → map (part_bytes s) r.1 ≡ map inner_bytes (thresholds_of r.0)
parts-bytes s r c = pairs-bytes s (parts-stand s r c)

-- "the bytes of the k-th inner concept (k from 0, in reading order)"; there are none where there is no k-th
kth-part : (s : List ℕ) (ps : List Part) (k : ℕ) → kth s ps k ≡ get_or (map (part_bytes s) ps) k []
unfolding kth
kth-part s [] k = refl
kth-part s (p ∷ ps) zero = refl
kth-part s (p ∷ ps) (suc k) = kth-part s ps k

pub inner-part : (s : List ℕ) (r : Requirement × List Part) → Accepted s r → (k : ℕ)
    → inner_part s k ≡ get_or (map inner_bytes (thresholds_of r.0)) k []
unfolding inner_part
inner-part s r c k =
    ap (part_of s k) (accepted-read s r c) ∙ kth-part s r.1 k ∙ ap (λ (z : List (List ℕ)). get_or z k []) (parts-bytes s r c)

-- "A part without bytes means refused: message bad, or no k-th."
some_bytes : (hs : List Threshold) (k : ℕ) → k < length hs → 10 ≤ length (get_or (map inner_bytes hs) k [])
some_bytes [] k l = absurd (omega arith)
some_bytes (h ∷ hs) zero l = concept-least h.inner
some_bytes (h ∷ hs) (suc k) l = some_bytes hs k (omega arith)

pub inner-some : (s : List ℕ) (r : Requirement × List Part) → Accepted s r → (k : ℕ) → k < length (thresholds_of r.0)
    → 10 ≤ length (inner_part s k)
inner-some s r c k l = rw (inner-part s r c k) (some_bytes (thresholds_of r.0) k l)

pub inner-refused : (s : List ℕ) (e : Refusal) → read_requirement s ≡ refused e → (k : ℕ) → inner_part s k ≡ []
unfolding inner_part
inner-refused s e h k = ap (part_of s k) h

-- ---- one requirement has one message, and no other is accepted

pub encode_inj : (q q' : Requirement) → T (sound q) → T (sound q') → encode q ≡ encode q' → q ≡ q'
encode_inj q q' h h' e =
    ap (λ (r : Requirement × List Part). r.0) (good-inj (sym (read-encode q h) ∙ ap read_requirement e ∙ read-encode q' h'))

pub accepted-length : (s : List ℕ) (r : Requirement × List Part) → Accepted s r → length s ≤ 12066
accepted-length s r c = omega (arith, ap length c.same, message-length r.0 c.sound)
