-- What the yes/no call promises, over any result that meets its two equations: only one result does; it is refused exactly when a row of the table
-- holds; of a register and a requirement that were read it is yes exactly when a threshold-respecting map of the whole tree exists, and then the map
-- shown is such a map with the lowest-numbered choices; no exactly when none exists; and for a plain requirement yes exactly when the degree is 1/1.
-- Assumes nothing.
use mathlib.Core.Path.{◌≡◌, refl, sym, ap, ap₂, subst, ◌∙◌}
use mathlib.Core.Bool.{Bool, true, false}
use mathlib.Core.Logic.{◌↔◌, ◌⊎◌, inl, inr}
use mathlib.Core.List.{List, [], ◌∷◌, ◌++◌}
use mathlib.Core.Option.{some}
use Prim.Native.Nat.{ℕ, ◌≤◌, ◌<◌, ◌∣◌}
use native.Mathlib.Nat.{dvd_refl}
use native.Mathlib.Decide.{dec_lt}
use native.Mathlib.Omega.{arith}
use lib.Dec.{T}
use lib.ListN.{length}
use lib.Seq.{sets}
use Rattle.std.specs.Prelude.{Option, Some, None, Result, Ok, Err}
use Rattle.meaning.specs.declared.Refusal.{Refusal}
use Rattle.meaning.specs.Bytes.{Bytes}
use Rattle.meaning.specs.Refusal.{Answer, good, refused, on_call, Exactly}
use Rattle.meaning.specs.Tree.{Tree, nodes, subtree, role_at}
use Rattle.meaning.specs.Graph.{Graph}
use Rattle.meaning.specs.Fraction.{Frac, ◌÷◌, Lowest}
use Rattle.meaning.specs.Register.{Register, withdrawn, judged, read_register}
use Rattle.meaning.specs.Judged.{Judges}
use Rattle.meaning.specs.Degree.{answered}
use Rattle.meaning.specs.Whole.{meets_by}
use Rattle.meaning.specs.Requirement.{Label, Requirement, bare, fulfils, member, RespectingMap}
use Rattle.meaning.specs.Message.{Part, read_requirement, thresholds_of}
use Rattle.meaning.specs.Shown.{yes_map}
use Rattle.meaning.specs.Calls.{Decision, met, unmet, member_call, after_member}
use Rattle.meaning.specs.Calls.{decide as decision}
use Rattle.meaning.proofs.Tests.{is_true, is_false}
use Rattle.meaning.proofs.Refusing.{exactly, carried}
use Rattle.meaning.proofs.Asked.{Asks, asked-either}
use Rattle.meaning.proofs.Image.{read-image}
use Rattle.meaning.proofs.Judged.{judged-is}
use Rattle.meaning.proofs.Degree.{answered-lowest}
use Rattle.meaning.proofs.Rising.{LowestOf}
use Rattle.meaning.proofs.Member.{member-map}
use Rattle.meaning.proofs.YesShown.{YesShows, yes-shows, yes-lowest}
use Rattle.fields.proofs.Once.{Apart, told_back, once-left}
use Rattle.deciding.specs.Answers.{Said, says, said, paper_verdict}
use Rattle.deciding.specs.Answers.{yes as said_yes, no as said_no}
use Rattle.deciding.specs.Refusing.{DecidePromise, DecideRow, bad_image, bad_message, no_item, is_withdrawn, no_room}
use Rattle.deciding.proofs.Decided.{refuses-answer, member-answer, plain-one}

-- ---- one result

abbrev back : Answer Said → Result (Option ℕ) Refusal
back (good (said_yes n)) = Ok (Some n)
back (good said_no) = Ok None
back (refused x) = Err x

-- the document's words tell all results apart
verdict-told : Apart paper_verdict
verdict-told = told_back paper_verdict back go
  where
    go : (r : Result (Option ℕ) Refusal) → back (paper_verdict r) ≡ r
    go (Ok (Some n)) = refl
    go (Ok None) = refl
    go (Err x) = refl

-- "any two results allowed by it are equal"
pub decide-one : (image message : List ℕ) (item : ℕ) (old new new' : List ℕ) (r r' : Result (Option ℕ) Refusal) → DecidePromise image message item old new r
    → DecidePromise image message item old new' r' → (r ≡ r') × (new ≡ new')
decide-one image message item old new new' r r' = once-left paper_verdict verdict-told _ _ r r' new new'

-- ---- refusals

-- a row of the table holds, or there is an answer
module _ (image message : List ℕ) (item room : ℕ) where
  abbrev Row : Refusal → Type 0
  Row x = DecideRow image message item room x

  abbrev Takes : Type 0
  Takes = (d : Decision) × (member_call image message item room ≡ good d)

  either : ((x : Refusal) × Row x) ⊎ Takes
  either = read (read_register image) refl (read_requirement message) refl
    where
      tested : (g : Register) (q : Requirement) (ps : List Part) → read_register image ≡ good g → read_requirement message ≡ good (q, ps)
          → (length g.names ≤ item) ⊎ ((item < length g.names) × (withdrawn g item ≡ true)) ⊎ Asks g item → Dec (room < nodes q)
          → ((x : Refusal) × Row x) ⊎ Takes
      tested g q ps eg em (inl l) s = inl (on_call 15, no_item g q ps eg em l refl)
      tested g q ps eg em (inr (inl w)) s = inl (on_call 26, is_withdrawn g q ps eg em w.0 w.1 refl)
      tested g q ps eg em (inr (inr a)) (yes s) = inl (on_call 16, no_room g q ps eg em a.inside a.serves s refl)
      tested g q ps eg em (inr (inr a)) (no s) = inr (_, member-answer image message item room g q ps eg em a (omega (arith, s)))

      read : (a : Answer Register) → read_register image ≡ a → (m : Answer (Requirement × List Part)) → read_requirement message ≡ m
          → ((x : Refusal) × Row x) ⊎ Takes
      read (refused y) eg m em = inl (y, bad_image eg)
      read (good g) eg (refused y) em = inl (y, bad_message g eg em)
      read (good g) eg (good y) em = tested g y.0 y.1 eg em (asked-either g item) (dec_lt room (nodes y.0))

  said-exactly : Exactly (said (member_call image message item room)) Row Takes
  said-exactly = carried said says (λ d. refl) (λ x. refl) _ Row Takes (exactly _ Row Takes (refuses-answer image message item room) (λ d. d) either)

-- "A number is given exactly when its row holds and nothing earlier in the order below applies."
pub decide-refused : (image message : List ℕ) (item : ℕ) (old new : List ℕ) (r : Result (Option ℕ) Refusal) → DecidePromise image message item old new r → (x : Refusal)
    → (r ≡ Err x) ↔ DecideRow image message item (length old) x
decide-refused image message item old new r p x =
    let same = (said-exactly image message item (length old)).refuses x in
    ((λ e. same.0 (sym p.0 ∙ ap paper_verdict e)), (λ h. verdict-told r (Err x) (p.0 ∙ same.1 h)))

-- a refusal and a no write nothing
pub decide-kept : (image message : List ℕ) (item : ℕ) (old new : List ℕ) (r : Result (Option ℕ) Refusal) → DecidePromise image message item old new r
    → ((n : ℕ) → r ≡ Ok (Some n) → ⊥) → new ≡ old
decide-kept image message item old new r p other = p.1 ∙ go (member_call image message item (length old)) p.0
  where
    go : (a : Answer Decision) → paper_verdict r ≡ said a → after_member old a ≡ old
    go (good (met m)) e = absurd (other (length m) (verdict-told r (Ok (Some (length m))) e))
    go (good unmet) e = refl
    go (refused x) e = refl

-- ---- yes and no, of a register and a requirement that were read, and of an item in service

-- the map shown for a yes: it is written from the first place on, and is a threshold-respecting map in which each child goes to the lowest-numbered
-- successor that meets it
pub record Shows (g : Register) (q : Requirement) (item : ℕ) (old new : List ℕ) : Type 0 where
  pub written : new ≡ sets old 0 (yes_map (judged g) q item)
  pub map : YesShows (fulfils (judged g)) (judged g) q item
  pub lowest : (p : List ℕ) (k role : ℕ) (t : Tree Label) → role_at q p k ≡ some role → subtree q (p ++ k ∷ []) ≡ some t
      → LowestOf (λ y. T (meets_by (fulfils (judged g)) (judged g) t y)) ((judged g).next (map.whole.map p) role) (map.whole.map (p ++ k ∷ []))

module _ (image message : List ℕ) (item : ℕ) (old new : List ℕ) (r : Result (Option ℕ) Refusal) (promised : DecidePromise image message item old new r) (g : Register)
    (q : Requirement) (ps : List Part) (eg : read_register image ≡ good g) (em : read_requirement message ≡ good (q, ps)) (asks : Asks g item)
    (fits : nodes q ≤ length old) where
  abbrev G : Graph ℕ
  G = judged g

  -- what is judged: "the register without withdrawn items and the links at them"
  pub decide-graph : Judges g G
  decide-graph = judged-is g

  when : (b : Bool) → member G q item ≡ b → member_call image message item (length old) ≡ good (decision b (yes_map G q item))
  when b e = member-answer image message item (length old) g q ps eg em asks fits ∙ ap (λ (z : Bool). good (decision z (yes_map G q item))) e

  met-yes : T (member G q item) → r ≡ Ok (Some (nodes q))
  met-yes t =
      let long = (yes-shows (fulfils G) G q item t).long in
      verdict-told r (Ok (Some (nodes q))) (promised.0 ∙ ap said (when true (is_true _ t)) ∙ ap (λ (n : ℕ). good (said_yes n)) long)

  unmet-no : (T (member G q item) → ⊥) → r ≡ Ok None
  unmet-no f = verdict-told r (Ok None) (promised.0 ∙ ap said (when false (is_false _ f)))

  apart : r ≡ Ok (Some (nodes q)) → r ≡ Ok None → ⊥
  apart e d = let z : ◌≡◌ {A = Result (Option ℕ) Refusal} (Ok (Some (nodes q))) (Ok None) = sym e ∙ d in cc

  yes-met : r ≡ Ok (Some (nodes q)) → T (member G q item)
  yes-met e = go (member G q item) refl
    where
      go : (b : Bool) → member G q item ≡ b → T b
      go true d = tt
      go false d = absurd (apart e (unmet-no (λ t. subst T d t)))

  -- "yes exactly when a threshold-respecting map of the whole tree exists"
  pub decide-yes : (r ≡ Ok (Some (nodes q))) ↔ RespectingMap G q item
  decide-yes = ((λ e. (member-map G q item).0 (yes-met e)), (λ m. met-yes ((member-map G q item).1 m)))

  pub decide-no : (r ≡ Ok None) ↔ (RespectingMap G q item → ⊥)
  decide-no = ((λ e m. apart (decide-yes.1 m) e), (λ f. unmet-no (λ t. f ((member-map G q item).0 t))))

  pub decide-shows : Bytes image → r ≡ Ok (Some (nodes q)) → Shows g q item old new
  decide-shows b e =
      let t = yes-met e in
      let shows = yes-shows (fulfils G) G q item t in
      record {
        written = promised.1 ∙ ap (after_member old) (when true (is_true _ t));
        map = shows;
        lowest = yes-lowest (fulfils G) g (read-image image g b eg).0 q item shows;
      }

  -- "for a plain requirement yes exactly when the degree is 1/1"
  pub decide-plain : thresholds_of q ≡ [] → (r ≡ Ok (Some (nodes q))) ↔ (answered G (bare q) item ≡ 1 ÷ 1)
  decide-plain plain =
      let one = plain-one G q item plain in (
        (λ e. whole (answered-lowest G (bare q) item) (one.0 (yes-met e))),
        (λ d. met-yes (one.1 (ap (λ (f : Frac). f.num) d ∙ sym (ap (λ (f : Frac). f.den) d)))),
      )
    where
      whole : {p : Frac} → Lowest p (answered G (bare q) item) → (answered G (bare q) item).num ≡ (answered G (bare q) item).den → answered G (bare q) item ≡ 1 ÷ 1
      whole low e =
          let d = (answered G (bare q) item).den in
          let at_most_one : d ≤ 1 = low.bare d (subst (λ (z : ℕ). d ∣ z) (sym e) (dvd_refl d)) (dvd_refl d) in
          let one : d ≡ 1 = omega (arith, low.positive) in
          ap₂ (λ (n m : ℕ). n ÷ m) (e ∙ one) one
