-- The labels of a message: the sets of names in an inner concept, and the names and thresholds in a requirement.
-- Both are kinds of label for MessageTree.antt: reading gives a label exactly when its bytes stand there.
-- Assumes nothing.
use mathlib.Core.Path.{◌≡◌, refl, sym, ap, ◌∙◌, subst}
use mathlib.Core.Bool.{Bool, ◌&&◌, not}
use mathlib.Core.List.{List, [], ◌∷◌, ◌++◌, append_assoc, append-nil, Forall₂}
use Prim.Native.Nat.{ℕ, zero, suc, ◌+◌, ◌*◌, ◌≤◌, ◌<◌}
use native.Mathlib.Nat.{add-zero}
use native.Mathlib.Omega.{arith}
use lib.Dec.{T, leb, leb→le, le→leb, ltb→lt, lt→ltb}
use lib.ListN.{length, length-append}
use Rattle.meaning.specs.declared.Side.TheVariants.{Requirement as requirement}
use Rattle.meaning.specs.Refusal.{good}
use Rattle.meaning.specs.Bytes.{number, bytes, Bytes}
use Rattle.meaning.specs.Names.{is_set}
use Rattle.meaning.specs.Tree.{Tree, node, Forest, none, more, Concept, nodes, levels, each, written}
use Rattle.meaning.specs.Fraction.{◌÷◌, Comparison, less, at_most, greater, at_least}
use Rattle.meaning.specs.Reduce.{reduce, size}
use Rattle.meaning.specs.Requirement.{Threshold, Label, every}
use Rattle.meaning.specs.Message.{lawful, code, comparison, bounded, sound_inner, sound_threshold}
use Rattle.meaning.specs.Bounds.{most_size, most_levels, most_nodes, most_thresholds, most_q}
use Rattle.meaning.specs.Message.{sound_label, concept_bytes, threshold_bytes, thresholds_bytes, Part, Spot, entered, no_thresholds, read_inner}
use Rattle.meaning.specs.Message.{read_threshold, read_thresholds, with_thresholds}
use Rattle.meaning.proofs.Tests.{and_both, both-and, is_true, of-not}
use Rattle.meaning.proofs.Reading.{good-inj, then-test, then-take, then_fit, of_test, of-take, of-fit, not-below, le-of-not-below, total}
use Rattle.meaning.proofs.Reading.{Stands, stands-none, stands-split, stands-join, number_of, number-below, number-stands, bytes_of, byte_of}
use Rattle.meaning.proofs.Reading.{byte-stands, stands_self, none-bytes, cons-bytes, append-bytes, bytes-bytes}
use Rattle.meaning.proofs.FractionRows.{lawful-takes}
use Rattle.meaning.proofs.MessageTree.{Kind, Within, same_spot, past_label, past, parts_of, parts_of_f, owned, tree-length, tree-bytes, LabelAt}
use Rattle.meaning.proofs.MessageTree.{TreeAt, LabelRead, TreeRead, node-read, node-back}

-- ---- inner concepts

abbrev pub plain_kind : Kind ℕ
plain_kind = record { ok = is_set; names_of = λ a. a; how_many = λ a. 0; own = λ a. []; found = λ a k p. [] }

past-plain : (a : ℕ) (w : Spot) → entered w ≡ past_label plain_kind a w
past-plain a w = same_spot _ _ (sym (add-zero (w.next + 10))) refl (sym (append-nil w.parts))

plain-read : (s : List ℕ) (end a : ℕ) (w : Spot) → LabelAt plain_kind s end a w → no_thresholds s w ≡ good (a, past_label plain_kind a w)
unfolding no_thresholds
plain-read s end a w h =
    let e = number_of s w.next 8 a (ltb→lt a 18446744073709551616 h.allowed) h.names in
    then-test _ _ _ (rw h.many (not-below 0 0 (omega arith))) (rw (e, past-plain a w))

plain_back : (s : List ℕ) (end : ℕ) → Bytes s → (w : Spot) (r : ℕ × Spot) → Within end (entered w) → no_thresholds s w ≡ good r
    → LabelRead plain_kind s end w r
unfolding no_thresholds
plain_back s end bs w r h e =
    of_test _ _ _ e (λ b e₁.
    let n = number s w.next 8 in
    let l = le-of-not-below 0 (number s (w.next + 8) 1) b in
    let c : LabelAt plain_kind s end n w = record {
      allowed = lt→ltb n 18446744073709551616 (number-below s w.next 8 bs);
      names = bytes_of s w.next 8 bs;
      many = omega arith;
      rest = stands-none s (w.next + 10);
      fits = subst (Within end) (past-plain n w) h;
    } in
    subst (LabelRead plain_kind s end w) (good-inj e₁) (c, past-plain n w))

-- ---- a tree's bounds

pub bounded-open : {L : Type 0} (ok : L → Bool) (t : Tree L) → T (bounded ok t) → T (each ok t) × (levels t ≤ most_levels) × (nodes t ≤ most_nodes)
bounded-open ok t h =
    let c = and_both (each ok t && leb (levels t) most_levels) (leb (nodes t) most_nodes) h in
    let d = and_both (each ok t) (leb (levels t) most_levels) c.0 in
    (d.0, leb→le (levels t) most_levels d.1, leb→le (nodes t) most_nodes c.1)

pub bounded-close : {L : Type 0} (ok : L → Bool) (t : Tree L) → T (each ok t) → levels t ≤ most_levels → nodes t ≤ most_nodes → T (bounded ok t)
bounded-close ok t a l n =
    both-and (each ok t && leb (levels t) most_levels) (leb (nodes t) most_nodes)
    (both-and (each ok t) (leb (levels t) most_levels) a (le→leb (levels t) most_levels l)) (le→leb (nodes t) most_nodes n)

-- ---- an inner concept whole

-- it has no thresholds
mutual
  unfolding parts_of

  plain-parts : (t : Concept) (k p : ℕ) → parts_of plain_kind t k p ≡ []
  plain-parts (node a f) k p = plain-parts_f f (suc k) (p + 10 + 0)

  plain-parts_f : (f : Forest ℕ) (k p : ℕ) → parts_of_f plain_kind f k p ≡ []
  plain-parts_f none k p = refl
  plain-parts_f (more r t f) k p = rw (plain-parts t k (p + 1), plain-parts_f f (k + nodes t) (p + 1 + length (concept_bytes t)))

plain-owned : (as' : List ℕ) → total (owned plain_kind as') ≡ 0
plain-owned [] = refl
plain-owned (a ∷ as') = omega (arith, plain-owned as')

-- 11 bytes for each node, one less for the root: 10 to 703
pub concept-length : (t : Concept) → length (concept_bytes t) + 1 ≡ 11 * nodes t
concept-length t = omega (arith, tree-length plain_kind t, plain-owned (written t))

pub concept-least : (t : Concept) → 10 ≤ length (concept_bytes t)
unfolding nodes
concept-least (node a f) = omega (arith, concept-length (node a f))

pub sound-inner : (t : Concept) → T (sound_inner t) → T (bounded is_set t) × (size (reduce t) ≤ most_size)
sound-inner t h = let c = and_both (bounded is_set t) (leb (size (reduce t)) most_size) h in (c.0, leb→le (size (reduce t)) most_size c.1)

pub concept-most : (t : Concept) → T (sound_inner t) → length (concept_bytes t) ≤ 703
concept-most t h = let c = bounded-open is_set t (sound-inner t h).0 in omega (arith, concept-length t)

abbrev pub start : ℕ → Spot
start p = record { next = p; nodes = 0; parts = [] }

inner-at : (s : List ℕ) (p : ℕ) (t : Concept) → T (sound_inner t) → Stands s p (concept_bytes t)
    → TreeAt plain_kind s (p + length (concept_bytes t)) most_levels t (start p)
inner-at s p t h k =
    let c = bounded-open is_set t (sound-inner t h).0 in
    record {
      allowed = c.0;
      shallow = c.1;
      stands = k;
      fits = record { reached = omega arith; few = omega arith; room = rw (plain-parts t 0 p) (omega arith) };
    }

pub concept-bytes : (t : Concept) → T (sound_inner t) → Bytes (concept_bytes t)
concept-bytes t h =
    let s = concept_bytes t in
    tree-bytes plain_kind s (0 + length s) (λ a w c. (omega arith, none-bytes)) t most_levels (start 0) (inner-at s 0 t h (stands_self s))

pub inner-read : (s : List ℕ) (p : ℕ) (t : Concept) → T (sound_inner t) → Stands s p (concept_bytes t)
    → read_inner s (p + length (concept_bytes t)) p ≡ good (t, past plain_kind t (start p))
inner-read s p t h k =
    let end = p + length (concept_bytes t) in
    node-read plain_kind s end (no_thresholds s) (plain-read s end) most_levels t (start p) (inner-at s p t h k)

inner_back : (s : List ℕ) (end p : ℕ) (r : Concept × Spot) → Bytes s → p ≤ end → read_inner s end p ≡ good r
    → TreeRead plain_kind s end most_levels (start p) r
inner_back s end p r bs l e =
    let w : Within end (start p) = record { reached = l; few = omega arith; room = omega arith } in
    node-back plain_kind s end (no_thresholds s) (plain_back s end bs) most_levels (start p) r w e

-- ---- a threshold

pub decoded : (c : Comparison) → (comparison (code c) ≡ c) × (code c ≤ 3)
decoded less = (refl, omega arith)
decoded at_most = (refl, omega arith)
decoded greater = (refl, omega arith)
decoded at_least = (refl, omega arith)

pub coded : (n : ℕ) → n ≤ 3 → n ≡ code (comparison n)
coded zero h = refl
coded (suc zero) h = refl
coded (suc (suc zero)) h = refl
coded (suc (suc (suc n))) h = omega arith

pub lawful-open : (p q : ℕ) → T (lawful p q) → (q ≤ most_q) × (p ≤ q)
lawful-open p q h = let t = lawful-takes p q h in (t.small, t.most)

pub threshold-length : (h : Threshold) → length (threshold_bytes h) ≡ 7 + length (concept_bytes h.inner)
unfolding bytes
threshold-length h = omega arith

threshold-bytes : (h : Threshold) → T (sound_threshold h) → Bytes (threshold_bytes h)
threshold-bytes h k =
    let c = and_both (lawful h.limit.num h.limit.den) (sound_inner h.inner) k in
    let d = (decoded h.how).1 in
    let n = length (concept_bytes h.inner) in
    let to = code h.how ∷ bytes 2 h.limit.num in
    let one = cons-bytes (code h.how) (bytes 2 h.limit.num) (omega arith) (bytes-bytes 2 h.limit.num) in
    let two = append-bytes to (bytes 2 h.limit.den) one (bytes-bytes 2 h.limit.den) in
    let three = append-bytes (to ++ bytes 2 h.limit.den) (bytes 2 n) two (bytes-bytes 2 n) in
    append-bytes (to ++ bytes 2 h.limit.den ++ bytes 2 n) (concept_bytes h.inner) three (concept-bytes h.inner c.1)

thresholds-bytes : (hs : List Threshold) → T (every sound_threshold hs) → Bytes (thresholds_bytes hs)
unfolding thresholds_bytes every
thresholds-bytes [] k = none-bytes
thresholds-bytes (h ∷ hs) k =
    let c = and_both (sound_threshold h) (every sound_threshold hs) k in
    append-bytes (threshold_bytes h) (thresholds_bytes hs) (threshold-bytes h c.0) (thresholds-bytes hs c.1)

-- ---- the thresholds of a label, which is of the written node `owner`

abbrev part_at : ℕ → Threshold → ℕ → Part
part_at owner h p = record { owner = owner; first = p; len = length (concept_bytes h.inner) }

unfoldable pub parts_at : List Threshold → ℕ → ℕ → List Part
parts_at [] owner p = []
parts_at (h ∷ hs) owner p = part_at owner h p ∷ parts_at hs owner (p + 7 + length (concept_bytes h.inner))

pub at_length : (hs : List Threshold) (k p : ℕ) → length (parts_at hs k p) ≡ length hs
unfolding parts_at
at_length [] k p = refl
at_length (h ∷ hs) k p = ap suc (at_length hs k _)

abbrev past_one : ℕ → Threshold → Spot → Spot
past_one owner h w =
    record { next = w.next + 7 + length (concept_bytes h.inner); nodes = w.nodes; parts = w.parts ++ (part_at owner h w.next ∷ []) }

abbrev past_all : ℕ → List Threshold → Spot → Spot
past_all owner hs w = record { next = w.next + length (thresholds_bytes hs); nodes = w.nodes; parts = w.parts ++ parts_at hs owner w.next }

past-all-none : (owner : ℕ) (w : Spot) → past_all owner [] w ≡ w
unfolding thresholds_bytes parts_at
past-all-none owner w = same_spot _ w (add-zero w.next) refl (append-nil w.parts)

past_all_lem : (owner : ℕ) (h : Threshold) (hs : List Threshold) (w : Spot) → past_all owner hs (past_one owner h w) ≡ past_all owner (h ∷ hs) w
unfolding thresholds_bytes parts_at
past_all_lem owner h hs w =
    same_spot _ _ (omega (arith, threshold-length h, length-append (threshold_bytes h) (thresholds_bytes hs))) refl (append_assoc w.parts _ _)

abbrev pub outer_kind : Kind Label
outer_kind = record {
  ok = sound_label;
  names_of = λ a. a.names;
  how_many = λ a. length a.thresholds;
  own = λ a. thresholds_bytes a.thresholds;
  found = λ a k p. parts_at a.thresholds k p;
}

module _ (s : List ℕ) (end : ℕ) where
  -- the threshold h stands at place p before the end
  pub record ThresholdAt (h : Threshold) (p : ℕ) : Type 0 where
    pub sound : T (sound_threshold h)
    pub how : number s p 1 ≡ code h.how
    pub num : number s (p + 1) 2 ≡ h.limit.num
    pub den : number s (p + 3) 2 ≡ h.limit.den
    pub len : number s (p + 5) 2 ≡ length (concept_bytes h.inner)
    pub stands : Stands s (p + 7) (concept_bytes h.inner)
    pub inside : p + 7 + length (concept_bytes h.inner) ≤ end

  threshold-open : (h : Threshold) (p : ℕ) → T (sound_threshold h) → Stands s p (threshold_bytes h) → p + length (threshold_bytes h) ≤ end
      → ThresholdAt h p
  unfolding bytes
  threshold-open h p k st l =
      let c = and_both (lawful h.limit.num h.limit.den) (sound_inner h.inner) k in
      let d = lawful-open h.limit.num h.limit.den c.0 in
      let m = concept-most h.inner c.1 in
      let n = length (concept_bytes h.inner) in
      let to = code h.how ∷ bytes 2 h.limit.num in
      let four = stands-split s p (p + 7) (to ++ bytes 2 h.limit.den ++ bytes 2 n) _ st refl in
      let three = stands-split s p (p + 5) (to ++ bytes 2 h.limit.den) _ four.0 refl in
      let two = stands-split s p (p + 3) to _ three.0 refl in
      let one = stands-split s p (p + 1) (code h.how ∷ []) _ two.0 refl in
      record {
        sound = k;
        how = byte_of s p _ one.0;
        num = number_of s (p + 1) 2 h.limit.num (omega arith) one.1;
        den = number_of s (p + 3) 2 h.limit.den (omega arith) two.1;
        len = number_of s (p + 5) 2 n (omega arith) three.1;
        stands = four.1;
        inside = omega (arith, threshold-length h);
      }

  threshold-close : Bytes s → (h : Threshold) (p : ℕ) → ThresholdAt h p → Stands s p (threshold_bytes h)
  unfolding bytes
  threshold-close bs h p c =
      let n = length (concept_bytes h.inner) in
      let to = code h.how ∷ bytes 2 h.limit.num in
      let one = stands-join s p (p + 1) (code h.how ∷ []) _ (byte-stands s p _ c.how) (number-stands s (p + 1) 2 _ bs c.num) refl in
      let two = stands-join s p (p + 3) to _ one (number-stands s (p + 3) 2 _ bs c.den) refl in
      let three = stands-join s p (p + 5) (to ++ bytes 2 h.limit.den) _ two (number-stands s (p + 5) 2 _ bs c.len) refl in
      stands-join s p (p + 7) (to ++ bytes 2 h.limit.den ++ bytes 2 n) _ three c.stands refl

  pub record ThresholdsAt (owner : ℕ) (hs : List Threshold) (w : Spot) : Type 0 where
    pub allowed : T (every sound_threshold hs)
    pub stands : Stands s w.next (thresholds_bytes hs)
    pub fits : Within end (past_all owner hs w)

  -- the first of them, and the others
  record FirstAt (owner : ℕ) (h : Threshold) (hs : List Threshold) (w : Spot) : Type 0 where
    first : ThresholdAt h w.next
    others : ThresholdsAt owner hs (past_one owner h w)

  before-all : (owner : ℕ) (hs : List Threshold) (w : Spot) → Within end (past_all owner hs w) → Within end w
  before-all owner hs w h = record { reached = omega arith; few = h.few; room = omega (arith, length-append w.parts (parts_at hs owner w.next)) }

  first-open : (owner : ℕ) (h : Threshold) (hs : List Threshold) (w : Spot) → ThresholdsAt owner (h ∷ hs) w → FirstAt owner h hs w
  unfolding thresholds_bytes every
  first-open owner h hs w c =
      let p = w.next in
      let k = and_both (sound_threshold h) (every sound_threshold hs) c.allowed in
      let l = subst (Within end) (sym (past_all_lem owner h hs w)) c.fits in
      let m = before-all owner hs (past_one owner h w) l in
      let n = threshold-length h in
      let two = stands-split s p (p + 7 + length (concept_bytes h.inner)) (threshold_bytes h) (thresholds_bytes hs) c.stands (omega arith) in
      record {
        first = threshold-open h p k.0 two.0 (omega (arith, m.reached));
        others = record { allowed = k.1; stands = two.1; fits = l };
      }

  first-close : Bytes s → (owner : ℕ) (h : Threshold) (hs : List Threshold) (w : Spot) → FirstAt owner h hs w → ThresholdsAt owner (h ∷ hs) w
  unfolding thresholds_bytes every
  first-close bs owner h hs w c =
      let p = w.next in
      let n = threshold-length h in
      let one = threshold-close bs h p c.first in
      record {
        allowed = both-and (sound_threshold h) (every sound_threshold hs) c.first.sound c.others.allowed;
        stands = stands-join s p (p + 7 + length (concept_bytes h.inner)) (threshold_bytes h) (thresholds_bytes hs) one c.others.stands (omega arith);
        fits = subst (Within end) (past_all_lem owner h hs w) c.others.fits;
      }

  none-at : (owner : ℕ) (w : Spot) → Within end w → ThresholdsAt owner [] w
  unfolding thresholds_bytes every
  none-at owner w h = record { allowed = tt; stands = stands-none s w.next; fits = subst (Within end) (sym (past-all-none owner w)) h }

  threshold-read : (owner : ℕ) (h : Threshold) (w : Spot) → length w.parts ≤ 15 → ThresholdAt h w.next → read_threshold s end owner w ≡ good (h, past_one owner h w)
  unfolding read_threshold
  threshold-read owner h w few f =
      let p = w.next in
      let v = past plain_kind h.inner (start (p + 7)) in
      let n = p + 7 + length (concept_bytes h.inner) in
      let d = decoded h.how in
      let k = and_both (lawful h.limit.num h.limit.den) (sound_inner h.inner) f.sound in
      let inside : n ≤ end = f.inside in
      rw (f.how, f.num, f.den, f.len) (
      then-test _ _ _ (not-below 15 (length w.parts) few) (then_fit requirement end (1 ∷ 2 ∷ 2 ∷ []) p _ (omega arith)
      (then-test _ _ _ (not-below 3 (code h.how) d.1) (then-test _ _ _ (ap not (is_true (lawful h.limit.num h.limit.den) k.0))
      (then_fit requirement end (2 ∷ []) (p + 5) _ (omega arith) (then-test _ _ _ (not-below end n inside)
      (then-take _ _ (h.inner, v) (inner-read s (p + 7) h.inner k.1 f.stands)
      (then-test _ _ _ (not-below n n (omega arith)) (then-test _ _ _ (not-below 60 _ (sound-inner h.inner k.1).1)
      (ap (λ (z : Comparison). good (record { how = z; limit = h.limit; inner = h.inner }, past_one owner h w)) d.0))))))))))

  thresholds-read : (owner : ℕ) (hs : List Threshold) (w : Spot) → ThresholdsAt owner hs w
      → read_thresholds s end owner (length hs) w ≡ good (hs, past_all owner hs w)
  unfolding read_thresholds
  thresholds-read owner [] w c = ap (λ (v : Spot). good ([], v)) (sym (past-all-none owner w))
  thresholds-read owner (h ∷ hs) w c =
      let o = first-open owner h hs w c in
      let room = (before-all owner hs (past_one owner h w) o.others.fits).room in
      let few : length w.parts ≤ 15 = omega (arith, length-append w.parts (part_at owner h w.next ∷ [])) in
      then-take _ _ (h, past_one owner h w) (threshold-read owner h w few o.first)
      (then-take _ _ (hs, past_all owner hs (past_one owner h w)) (thresholds-read owner hs (past_one owner h w) o.others)
      (ap (λ (u : Spot). good (h ∷ hs, u)) (past_all_lem owner h hs w)))

  -- a threshold that was read stands there, and there was room for it
  ThresholdRead : ℕ → Spot → Threshold × Spot → Type 0
  ThresholdRead owner w r = ThresholdAt r.0 w.next × (length w.parts ≤ 15) × (r.1 ≡ past_one owner r.0 w)

  threshold-back : Bytes s → (owner : ℕ) (w : Spot) (r : Threshold × Spot) → read_threshold s end owner w ≡ good r → ThresholdRead owner w r
  unfolding read_threshold ThresholdRead
  threshold-back bs owner w r e =
      let p = w.next in
      let len = number s (p + 5) 2 in
      let last = p + 7 + len in
      of_test _ _ _ e (λ b₀ e₀. of-fit requirement end 1 (2 ∷ 2 ∷ []) p _ e₀ (λ l₁ e₁. of_test _ _ _ e₁ (λ b₁ e₂. of_test _ _ _ e₂ (λ b₂ e₃'.
      of-fit requirement end 2 [] (p + 5) _ e₃' (λ l₃ e₃. of_test _ _ _ e₃ (λ b₄ e₄. of-take _ _ e₄ (λ x ex e₅. of_test _ _ _ e₅ (λ b₆ e₆.
      of_test _ _ _ e₆ (λ b₇ e₇.
      let c = inner_back s last (p + 7) x bs (omega arith) ex in
      let next = ap (λ (z : Spot). z.next) c.1 in
      let same : len ≡ length (concept_bytes x.0) = omega (arith, le-of-not-below x.1.next last b₆, c.0.fits.reached) in
      let n = number s p 1 in
      let t : Threshold = record { how = comparison n; limit = number s (p + 1) 2 ÷ number s (p + 3) 2; inner = x.0 } in
      let rule = of-not (lawful t.limit.num t.limit.den) b₂ in
      let few : nodes x.0 ≤ most_nodes = omega (arith, c.0.fits.few) in
      let inner = bounded-close is_set x.0 c.0.allowed c.0.shallow few in
      let small = le→leb (size (reduce x.0)) most_size (le-of-not-below 60 (size (reduce x.0)) b₇) in
      let inside : p + 7 + length (concept_bytes x.0) ≤ end = omega (arith, le-of-not-below end last b₄) in
      let f : ThresholdAt t p = record {
        sound = both-and (lawful t.limit.num t.limit.den) (sound_inner x.0) rule (both-and (bounded is_set x.0) _ inner small);
        how = coded n (le-of-not-below 3 n b₁);
        num = refl;
        den = refl;
        len = same;
        stands = c.0.stands;
        inside = inside;
      } in
      let room = le-of-not-below 15 (length w.parts) b₀ in
      let past' = ap (λ (z : ℕ). record { next = p + 7 + z; nodes = w.nodes; parts = w.parts ++ (record { owner = owner; first = p; len = z } ∷ []) }) same in
      subst (ThresholdRead owner w) (good-inj e₇) (f, room, past'))))))))))

  abbrev ThresholdsRead : ℕ → ℕ → Spot → List Threshold × Spot → Type 0
  ThresholdsRead owner k w r = ThresholdsAt owner r.0 w × (k ≡ length r.0) × (r.1 ≡ past_all owner r.0 w)

  thresholds-back : Bytes s → (owner k : ℕ) (w : Spot) (r : List Threshold × Spot) → Within end w → read_thresholds s end owner k w ≡ good r
      → ThresholdsRead owner k w r
  unfolding read_thresholds ThresholdRead
  thresholds-back bs owner zero w r h e = subst (ThresholdsRead owner 0 w) (good-inj e) (none-at owner w h, refl, sym (past-all-none owner w))
  thresholds-back bs owner (suc k) w r h e =
      of-take _ _ e (λ x ex e₁. of-take _ _ e₁ (λ y ey e₂.
      let f = threshold-back bs owner w x ex in
      let t = x.0 in
      let one = length-append w.parts (part_at owner t w.next ∷ []) in
      let room : length (w.parts ++ (part_at owner t w.next ∷ [])) ≤ most_thresholds = omega (arith, f.1) in
      let g = thresholds-back bs owner k (past_one owner t w) y (record { reached = f.0.inside; few = h.few; room = room }) (rw f.2 at ey) in
      let all = first-close bs owner t y.0 w (record { first = f.0; others = g.0 }) in
      subst (ThresholdsRead owner (suc k) w) (good-inj e₂) (all, ap suc g.1, g.2 ∙ past_all_lem owner t y.0 w)))

  -- the part x is where the threshold h stands
  pub record PartAt (x : Part) (h : Threshold) : Type 0 where
    pub here : ThresholdAt h x.first
    pub long : x.len ≡ length (concept_bytes h.inner)

  pub parts-at : (owner : ℕ) (hs : List Threshold) (w : Spot) → ThresholdsAt owner hs w → Forall₂ PartAt (parts_at hs owner w.next) hs
  unfolding parts_at
  parts-at owner [] w c = Forall₂.nil
  parts-at owner (h ∷ hs) w c =
      let o = first-open owner h hs w c in
      Forall₂.cons (record { here = o.first; long = refl }) (parts-at owner hs (past_one owner h w) o.others)

  -- ---- the label of a requirement's node

  pub outer-at : (a : Label) (w : Spot) → LabelAt outer_kind s end a w → ThresholdsAt w.nodes a.thresholds (entered w)
  outer-at a w h =
      record { allowed = (and_both (is_set a.names) (every sound_threshold a.thresholds) h.allowed).1; stands = h.rest; fits = h.fits }

  pub outer-bytes : (a : Label) (w : Spot) → LabelAt outer_kind s end a w → (length a.thresholds < 256) × Bytes (thresholds_bytes a.thresholds)
  outer-bytes a w h =
      let hs = a.thresholds in
      let p = w.next + 10 in
      let n = length-append w.parts (parts_at hs w.nodes p) in
      (omega (arith, h.fits.room, at_length hs w.nodes p), thresholds-bytes hs (outer-at a w h).allowed)

  pub outer-read : (a : Label) (w : Spot) → LabelAt outer_kind s end a w → with_thresholds s end w ≡ good (a, past_label outer_kind a w)
  unfolding with_thresholds
  outer-read a w h =
      let c = and_both (is_set a.names) (every sound_threshold a.thresholds) h.allowed in
      let e = number_of s w.next 8 a.names (ltb→lt a.names 18446744073709551616 c.0) h.names in
      let g = thresholds-read w.nodes a.thresholds (entered w) (outer-at a w h) in
      rw (h.many, e) (then-take _ _ (a.thresholds, past_label outer_kind a w) g refl)

  pub outer-back : Bytes s → (w : Spot) (r : Label × Spot) → Within end (entered w) → with_thresholds s end w ≡ good r → LabelRead outer_kind s end w r
  unfolding with_thresholds
  outer-back bs w r h e =
      of-take _ _ e (λ x ex e₁.
      let n = number s w.next 8 in
      let g = thresholds-back bs w.nodes (number s (w.next + 8) 1) (entered w) x h ex in
      let a : Label = record { names = n; thresholds = x.0 } in
      let set = lt→ltb n 18446744073709551616 (number-below s w.next 8 bs) in
      let c : LabelAt outer_kind s end a w = record {
        allowed = both-and (is_set n) (every sound_threshold x.0) set g.0.allowed;
        names = bytes_of s w.next 8 bs;
        many = g.1;
        rest = g.0.stands;
        fits = g.0.fits;
      } in
      subst (LabelRead outer_kind s end w) (good-inj e₁) (c, g.2))
