-- A message that was read: each of its thresholds stands where reading found it, and with the image's index its rows are what the core asks for.
-- Assumes nothing.
use mathlib.Core.Path.{◌≡◌, refl, sym, ap, subst, ◌∙◌}
use mathlib.Core.Bool.{Bool}
use mathlib.Core.List.{List, Forall₂}
use Prim.Native.Nat.{ℕ, zero, suc, ◌+◌, ◌≤◌, ◌<◌}
use native.Mathlib.Nat.{le_trans}
use native.Mathlib.Omega.{arith}
use lib.ListN.{length, get_or}
use Rattle.meaning.specs.Bytes.{Bytes}
use Rattle.meaning.specs.Graph.{Graph}
use Rattle.meaning.specs.Register.{Register}
use Rattle.graph.specs.Walked.{walked}
use Rattle.meaning.specs.Requirement.{Threshold, Requirement}
use Rattle.meaning.specs.Message.{lawful, comparison, sound_inner, Part, read_inner, thresholds_of}
use Rattle.meaning.proofs.Tests.{and_both}
use Rattle.meaning.proofs.Reading.{number-one}
use Rattle.meaning.proofs.MessageLabel.{PartAt, decoded, lawful-open, inner-read, sound-inner}
use Rattle.meaning.proofs.Message.{Accepted, read_back, accepted-length, parts-stand, parts_in}
use Rattle.std.specs.Borrow.{Bor}
use Rattle.rows.specs.declared.Tree.{Tree}
use Rattle.rows.specs.declared.Parts.{Parts}
use Rattle.rows.specs.Packed.{names_in, roles_in, ends_in, owners_in, firsts_in}
use Rattle.readers.specs.Reading.{no_part}
use Rattle.graph.specs.declared.Indexed.{Indexed}
use Rattle.graph.specs.On.{JudgedOn}
use Rattle.screening.specs.declared.Wanted.{Wanted}
use Rattle.screening.specs.Standing.{no_threshold, StandsAt, Ruled}
use Rattle.graph.proofs.Use.{one-register}
use Rattle.meeting.specs.Required.{Required, Settled}
use Rattle.deciding.specs.BothRead.{BothRead}
use Rattle.deciding.proofs.Messages.{message-ruled}

-- a threshold that was read
part-stands : (s : List ℕ) (x : Part) (h : Threshold) → PartAt s (length s) x h → length s ≤ 65538 → StandsAt s x.first h
part-stands s x h c short =
    let p = x.first in
    let ok = and_both (lawful h.limit.num h.limit.den) (sound_inner h.inner) c.here.sound in
    let low = lawful-open h.limit.num h.limit.den ok.0 in
    let read = inner-read s (p + 7) h.inner ok.1 c.here.stands in
    record {
      how = ap comparison (sym (number-one s p) ∙ c.here.how) ∙ (decoded h.how).0;
      num = c.here.num;
      den = c.here.den;
      low = (le_trans low.1 low.0, low.0);
      spot = _;
      inner = ap (λ (n : ℕ). read_inner s (p + 7 + n) (p + 7)) c.here.len ∙ read;
      small = (sound-inner h.inner ok.1).1;
      inside = omega (arith, c.here.inside, c.here.len);
      short = short;
    }

-- the k-th pair of two lists that go together
pair-at : {A B : Type 0} {R : A → B → Type 0} (a : A) (b : B) {xs : List A} {ys : List B} → Forall₂ R xs ys → (k : ℕ) → k < length xs → R (get_or xs k a) (get_or ys k b)
pair-at a b Forall₂.nil k l = absurd (omega arith)
pair-at a b (Forall₂.cons r f) zero l = r
pair-at a b (Forall₂.cons r f) (suc k) l = pair-at a b f k (omega arith)

-- an image with its index and a requirement, as code holds them, are this image and what stands in these rows
pub record Stands (image message B : List ℕ) (parts : ℕ) (on : Indexed) (wanted : Wanted) : Type 0 where
  pub image-is : on.image.now ≡ image
  pub message-is : wanted.message.now ≡ message
  pub names : wanted.tree.names ≡ names_in B
  pub roles : wanted.tree.roles ≡ roles_in B
  pub ends : wanted.tree.ends ≡ ends_in B
  pub owners : wanted.parts.owners ≡ owners_in B
  pub firsts : wanted.parts.firsts ≡ firsts_in B
  pub count : wanted.parts.count ≡ parts

-- made of the image's index, and of the rows taken apart
abbrev pub stands : {image B : List ℕ} {message : Bor (List ℕ)} {parts : ℕ} {on : Indexed} {tree : Tree} {part : Parts} → on.image.now ≡ image
    → record { names : tree.names ≡ names_in B; roles : tree.roles ≡ roles_in B; ends : tree.ends ≡ ends_in B }
    → record { owners : part.owners ≡ owners_in B; firsts : part.firsts ≡ firsts_in B; count : part.count ≡ parts }
    → Stands image message.now B parts on (record { message = message; tree = tree; parts = part })
stands e t p = record {
  image-is = e;
  message-is = refl;
  names = t.names;
  roles = t.roles;
  ends = t.ends;
  owners = p.owners;
  firsts = p.firsts;
  count = p.count;
}

module _ {image : List ℕ} {items links : ℕ} {message B : List ℕ} {parts : ℕ} (k : BothRead image items links message B parts) where
  read-accepted : Bytes message → Accepted message (k.requirement, k.places)
  read-accepted b = read_back message (k.requirement, k.places) b k.wanted

  -- its thresholds stand at their places
  pub each_stands : Bytes message → (j : ℕ) → j < parts → StandsAt message (get_or (firsts_in B) j 0) (get_or (thresholds_of k.requirement) j no_threshold)
  each_stands b j l =
      let c = read-accepted b in
      let in' : j < length k.places = omega (arith, k.parts_are) in
      let short : length message ≤ 65538 = omega (arith, accepted-length message (k.requirement, k.places) c) in
      subst (λ (p : ℕ). StandsAt message p (get_or (thresholds_of k.requirement) j no_threshold)) (sym (k.parted.first j in'))
      (part-stands message _ _ (pair-at no_part no_threshold (parts-stand message (k.requirement, k.places) c) j in') short)

  pub read-ruled : Bytes message → (G : Graph ℕ) → Ruled G (owners_in B) (thresholds_of k.requirement) (ends_in B) parts k.requirement 0
  read-ruled b G =
      let c = read-accepted b in
      let same : length k.places ≡ length (parts_in k.requirement) = ap length c.parts in
      message-ruled G (owners_in B) (thresholds_of k.requirement) (names_in B) (roles_in B) (ends_in B) k.requirement 17 _ parts k.posed.held
      (k.parts_are ∙ same)
      (λ j l. k.parted.owner j (omega (arith, same)) ∙ ap (λ (ps : List Part). (get_or ps j no_part).owner) c.parts) refl

  module _ {on : Indexed} {wanted : Wanted} (s : Stands image message B parts on wanted) where
    -- it is what the core asks for
    abbrev pub required : Bytes message → JudgedOn on → Required on wanted 0 17
    required b j = record {
      tree = k.requirement;
      posed = record { graph = j; held = rw (s.names, s.roles, s.ends) k.posed.held; few = rw s.ends k.posed.few };
      stand = record { thresholds = thresholds_of k.requirement; each = rw (s.message-is, s.firsts, s.count) (each_stands b) };
      most = rw s.count k.most;
      ruled = rw (s.owners, s.ends, s.count) (read-ruled b (walked j.register));
    }

    -- the index is of the register that was read
    pub settled-by : (j : JudgedOn on) (t : Requirement) (item : ℕ) (old new : List ℕ) (r : Bool) → Settled j.register t item old new r
        → Settled k.posed.graph.register t item old new r
    settled-by j t item old new r d =
        subst (λ (g : Register). Settled g t item old new r) (one-register j k.posed.graph.register (rw s.image-is k.posed.graph.read)) d
