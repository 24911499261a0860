-- The yes/no call, end by end: at each of them the answer and the map are those of `member_call`.
-- Assumes nothing.
use mathlib.Core.Path.{◌≡◌, refl, sym, ap, ap₂, ◌∙◌}
use mathlib.Core.Logic.{◌⊎◌, inl, inr}
use mathlib.Core.Bool.{Bool, true, false, cond}
use mathlib.Core.List.{List}
use Prim.Native.Nat.{ℕ, ◌≤◌, ◌<◌}
use native.Mathlib.Omega.{arith}
use lib.ListN.{length, get_or}
use lib.Seq.{sets}
use Rattle.std.specs.Prelude.{Option, Result, Ok, Err}
use Rattle.std.specs.Bool.{then_some}
use Rattle.meaning.specs.declared.Rule.{Rule}
use Rattle.meaning.specs.declared.Refusal.{Refusal}
use Rattle.meaning.specs.Rules.{number_of, told}
use Rattle.meaning.specs.Bytes.{Bytes}
use Rattle.meaning.specs.Refusal.{Answer, good, refused, on_call, ◌>>=◌}
use Rattle.meaning.specs.Tree.{nodes}
use Rattle.meaning.specs.Graph.{Graph}
use Rattle.meaning.specs.Register.{Register, withdrawn, judged, read_register}
use Rattle.meaning.specs.Requirement.{Requirement, bare, fulfils, member}
use Rattle.meaning.specs.Message.{Part, read_requirement}
use Rattle.meaning.specs.Shown.{yes_map}
use Rattle.meaning.specs.Calls.{asked_for, Decision, member_call, after_member}
use Rattle.meaning.specs.Calls.{decide as decision}
use Rattle.meaning.proofs.Tests.{holds}
use Rattle.meaning.proofs.Reading.{taken, good-inj, not_good}
use Rattle.meaning.proofs.Rows.{opened, holds-ended}
use Rattle.meaning.proofs.Image.{whole-buffer}
use Rattle.meaning.proofs.YesShown.{yes-shows}
use Rattle.meaning.proofs.Decided.{refused-inj}
use Rattle.meaning.proofs.Asked.{Asks, asked-stops, asked-withdrawn, asked-passes, asked-either}
use Rattle.meaning.proofs.Agreeing.{member-agrees, yes_map-agrees}
use Rattle.register.specs.Image.{Asked, Image}
use Rattle.graph.specs.Walked.{numbered}
use Rattle.graph.proofs.Asked.{number-asks, number-halts}
use Rattle.graph.proofs.Walked.{walked-judged}
use Rattle.register.specs.declared.Size.{Size}
use Rattle.register.specs.Reading.{counted, ReadPromise}
use Rattle.requirement.specs.declared.Message.{Message}
use Rattle.rows.specs.Packed.{names_in, roles_in, ends_in}
use Rattle.requirement.specs.Message.{MessageGood, MessageOutcome, MessageDone}
use Rattle.meeting.specs.Required.{Settled}
use Rattle.deciding.specs.Answers.{yes, said, paper_verdict}
use Rattle.deciding.specs.BothRead.{Imaged, BothRead}
use Rattle.deciding.specs.Refusing.{DecideRow, bad_image, bad_message, no_item, is_withdrawn, no_room}
use Rattle.deciding.proofs.Decided.{refuses-answer, member-answer}

-- ---- what was read

-- no rule has the number 0
rule-some : (rule : Rule) → number_of rule ≡ 0 → ⊥
rule-some rule e = grind arith

pub imaged : (s : List ℕ) (size : Size) → ReadPromise s false (Ok size) → Imaged s size.items size.links
unfolding counted
imaged s size d =
    let q = taken (read_register s) _ (sym d) in
    let z = good-inj q.2 in
    record { register = q.0; read = q.1; items-are = ap (λ (c : Size). c.items) (sym z); links-are = ap (λ (c : Size). c.links) (sym z) }

pub image-refused : (s : List ℕ) (x : Refusal) → ReadPromise s false (Err x) → read_register s ≡ refused x
unfolding counted ◌>>=◌
image-refused s x d = go (read_register s) d
  where
    go : (a : Answer Register) → refused x ≡ counted a → a ≡ refused x
    go (good g) h = absurd (not_good h)
    go (refused y) h = let z : ◌≡◌ {A = Answer Size} (refused x) (refused y) = h in cc

pub items-known : {image : List ℕ} {items links : ℕ} → Imaged image items links → Bytes image → Asked image (λ g. items ≡ length g.names)
items-known {image} i b = record { register = i.register; read = whole-buffer image i.register b i.read; holds = i.items-are }

-- a message that was read into rows
pub record Understood (s B : List ℕ) (m : Message) : Type 0 where
  pub requirement : Requirement
  pub places : List Part
  pub wanted : read_requirement s ≡ good (requirement, places)
  pub nodes-are : m.nodes ≡ nodes requirement
  pub parts_are : m.parts ≡ length places
  pub rows : MessageGood B requirement places (Ok m)

pub understood : (s B : List ℕ) (m : Message) → MessageDone s B (Ok m) → Understood s B m
understood s B m h = go (read_requirement s) refl h
  where
    go : (a : Answer (Requirement × List Part)) → read_requirement s ≡ a → MessageOutcome B a (Ok m) → Understood s B m
    go (good x) d r =
        let z : m ≡ record { nodes = nodes x.0; parts = length x.1 } = let a = r.answer in cc in
        record {
          requirement = x.0;
          places = x.1;
          wanted = d;
          nodes-are = ap (λ (y : Message). y.nodes) z;
          parts_are = ap (λ (y : Message). y.parts) z;
          rows = r;
        }
    go (refused f) d r = let z : ◌≡◌ {A = Result Message Refusal} (Ok m) (Err f) = r in cc

pub message-refused : (s B : List ℕ) (x : Refusal) → MessageDone s B (Err x) → read_requirement s ≡ refused x
message-refused s B x h = go (read_requirement s) refl h
  where
    go : (a : Answer (Requirement × List Part)) → read_requirement s ≡ a → MessageOutcome B a (Err x) → read_requirement s ≡ refused x
    go (good y) d r = let a : ◌≡◌ {A = Result Message Refusal} (Err x) (Ok _) = r.answer in cc
    go (refused f) d r = let z : ◌≡◌ {A = Result Message Refusal} (Err x) (Err f) = r in let w : x ≡ f = cc in d ∙ ap refused (sym w)

-- and both of them
module _ {image message : List ℕ} {items links : ℕ} (i : Imaged image items links) {B : List ℕ} {m : Message} (u : Understood message B m) where
  -- the rows are as many as the nodes
  pub rows_end : get_or (ends_in B) 0 0 ≡ m.nodes
  rows_end = (opened (names_in B) (roles_in B) (ends_in B) (bare u.requirement) 17 0 (nodes u.requirement) u.rows.tree).ended ∙ sym u.nodes-are

  abbrev pub both_read : Bytes image → BothRead image items links message B m.parts
  both_read b = record {
    requirement = u.requirement;
    posed = record {
      graph = record { register = i.register; read = whole-buffer image i.register b i.read; holds = (i.items-are, i.links-are) };
      held = holds-ended (names_in B) (roles_in B) (ends_in B) (bare u.requirement) 17 0 (nodes u.requirement) u.rows.tree;
      few = omega (arith, rows_end, u.nodes-are, u.rows.few);
    };
    whole = i.read;
    places = u.places;
    wanted = u.wanted;
    parts_are = u.parts_are;
    most = omega (arith, u.parts_are, u.rows.room);
    parted = u.rows.parted;
  }

-- ---- the ends

module _ (image message : List ℕ) (item : ℕ) (map : List ℕ) where
  abbrev answer : Answer Decision
  answer = member_call image message item (length map)

  -- what is asked at an end
  abbrev pub Ends : List ℕ → Result (Option ℕ) Refusal → Type 0
  Ends t r = (paper_verdict r ≡ said answer) × (t ≡ after_member map answer)

  ends-refused : (x : Refusal) → DecideRow image message item (length map) x → Ends map (Err x)
  ends-refused x row = let d = refuses-answer image message item (length map) x row in (sym (ap said d), sym (ap (after_member map) d))

  pub image-unread : (x : Refusal) → read_register image ≡ refused x → Ends map (Err x)
  image-unread x e = ends-refused x (bad_image e)

  module _ {items links : ℕ} (i : Imaged image items links) where
    pub message-unread : (x : Refusal) → read_requirement message ≡ refused x → Ends map (Err x)
    message-unread x e = ends-refused x (bad_message i.register i.read e)

    module _ {B : List ℕ} {m : Message} (u : Understood message B m) where
      abbrev q : Requirement
      q = u.requirement

      -- the image's bytes, and what is told of the item
      module _ (by : Bytes image) (r : Result (Unit {0}) Rule) (tells : Image image (λ g. asked_for g item ≡ numbered (told r))) where
        told_of : asked_for i.register item ≡ numbered (told r)
        told_of = tells i.register (whole-buffer image i.register by i.read)

        pub asks : told r ≡ 0 → Asks i.register item
        asks z = number-asks i.register item (told r) told_of z

        -- 15, or 26
        pub no-item : (rule : Rule) → r ≡ Err rule → Ends map (Err (on_call (number_of rule)))
        no-item rule e = go (asked-either i.register item)
          where
            number : told r ≡ number_of rule
            number = ap told e

            its : {n : ℕ} → asked_for i.register item ≡ refused (on_call n) → on_call n ≡ on_call (number_of rule)
            its h = refused-inj (sym h ∙ number-halts i.register item (told r) told_of (λ z. rule-some rule (sym number ∙ z))) ∙ ap on_call number

            go : (length i.register.names ≤ item) ⊎ ((item < length i.register.names) × (withdrawn i.register item ≡ true)) ⊎ Asks i.register item
                → Ends map (Err (on_call (number_of rule)))
            go (inl l) = ends-refused _ (no_item i.register q u.places i.read u.wanted l (sym (its (asked-stops i.register item l))))
            go (inr (inl w)) =
                ends-refused _ (is_withdrawn i.register q u.places i.read u.wanted w.0 w.1 (sym (its (asked-withdrawn i.register item w.0 w.1))))
            go (inr (inr a)) =
                absurd (not_good (sym (number-halts i.register item (told r) told_of (λ z. rule-some rule (sym number ∙ z))) ∙ asked-passes i.register item a))

      pub no_room_lem : Asks i.register item → length map < m.nodes → Ends map (Err (on_call 16))
      no_room_lem a s = ends-refused _ (no_room i.register q u.places i.read u.wanted a.inside a.serves (omega (arith, u.nodes-are)) refl)

      module _ (asked : Asks i.register item) (fits : m.nodes ≤ length map) where
        module _ (b : Bytes image) (t : List ℕ) (r : Bool)
            (s : (k : BothRead image items links message B m.parts) → Settled k.posed.graph.register k.requirement item map t r) where
          abbrev G : Graph ℕ
          G = judged i.register

          -- what was settled on the graph that is walked holds on the one that is judged
          is : r ≡ member G q item
          is = (s (both_read i u b)).answer ∙ member-agrees (walked-judged i.register) q item asked.serves

          says : (c : Bool) → r ≡ c → answer ≡ good (decision c (yes_map G q item))
          says c e =
              member-answer image message item (length map) i.register q u.places i.read u.wanted asked (omega (arith, u.nodes-are))
              ∙ ap (λ (z : Bool). good (decision z (yes_map G q item))) (sym is ∙ e)

          after : (c : Bool) → r ≡ c → t ≡ cond c (sets map 0 (yes_map G q item)) map
          after c e =
              (s (both_read i u b)).map
              ∙ ap₂ (λ (z : Bool) (m : List ℕ). cond z (sets map 0 m) map) e (yes_map-agrees (walked-judged i.register) q item asked.serves)

          pub answers : (c : Bool) → r ≡ c → Ends t (Ok (then_some c m.nodes))
          answers true e =
              let long = (yes-shows (fulfils G) G q item (holds (sym is ∙ e))).long in
              (ap (λ (z : ℕ). good (yes z)) (u.nodes-are ∙ sym long) ∙ sym (ap said (says true e)), after true e ∙ sym (ap (after_member map) (says true e)))
          answers false e = (sym (ap said (says false e)), after false e ∙ sym (ap (after_member map) (says false e)))
