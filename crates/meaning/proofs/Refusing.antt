-- The calls of a session are refused exactly when a row of the document's table holds, with that row's number, and accepted exactly when none
-- does (`open-exactly`, `keep-exactly`, `edit-exactly`, `undo-exactly`; `answer-exactly` for any of them). So two rows that hold are one refusal
-- (`one-row`), and no row holds of what is taken (`never_both`).
-- Assumes nothing.
use mathlib.Core.Path.{◌≡◌, refl, sym, ap, ◌∙◌, subst}
use mathlib.Core.Logic.{◌⊎◌, inl, inr}
use mathlib.Core.Bool.{Bool, true, false, ◌&&◌, ◌||◌, not}
use mathlib.Core.List.{List}
use Prim.Native.Nat.{ℕ, ◌+◌, ◌-◌, ◌≤◌, ◌<◌}
use native.Mathlib.Decide.{dec_lt}
use native.Mathlib.Omega.{arith}
use lib.Dec.{ltb, leb, eqb, ltb→lt, leb→le, eqb→eq}
use lib.ListN.{length}
use Rattle.meaning.specs.declared.Fact.{Fact}
use Rattle.meaning.specs.declared.Fact.TheVariants.{Name as name_on, Link as link_of}
use Rattle.meaning.specs.declared.Step.{Step}
use Rattle.meaning.specs.declared.Refusal.{Refusal}
use Rattle.meaning.specs.Refusal.{Answer, good, refused, on_call, Exactly, refuse_if, ◌>>=◌, ◌>>◌}
use Rattle.meaning.specs.Register.{Register, is_fact, encode, read_buffer}
use Rattle.meaning.specs.Bounds.{most_links, most_name, most_role}
use Rattle.meaning.specs.Session.{Edit, set_fact, room, out_of_range, role_above, no_place, Changed, open_call, edit_call, undo_call, keep_call}
use Rattle.meaning.specs.Session.{no_steps, counted, Session, Call, opens, edits, undoes, keeps, last_step, answer}
use Rattle.meaning.specs.Refusing.{Outside, Inside, RoleAbove, RoleFits, NoRoom, HasRoom, OpenTakes, OpenRow, unread, Counts, CountRow, bad_register, count_above}
use Rattle.meaning.specs.Refusing.{KeepTakes, KeepRow, EditTakes, EditRow, earlier, outside, bad_role, log_full, no_room}
use Rattle.meaning.specs.Refusing.{CallTakes, CallRow, UndoTakes, UndoRow, earlier_one, no_step_left, step_outside, no_room_back}
-- the order of the tests on inputs that break two rules at once, by computation: checked before the laws
pub use Rattle.meaning.proofs.SessionOrders.{session-orders}
use Rattle.meaning.proofs.Tests.{holds, is_true, is_false, is-eqb, true-false}
use Rattle.meaning.proofs.Reading.{not_good, pass, stop, stopped, took, below, not-below, at_most, not-le, le-of-not-below, lt_of_not_le}

-- ---- an answer and its rows

refused-inj : {A : Type 0} {f h : Refusal} → ◌≡◌ {A = Answer A} (refused f) (refused h) → f ≡ h
refused-inj e = cc

cases : {A B C : Type 0} → A ⊎ B → (A → C) → (B → C) → C
cases (inl a) f g = f a
cases (inr b) f g = g b

-- rows that give their refusals, what is taken, and nothing left out
pub exactly : {A : Type 0} (a : Answer A) (Row : Refusal → Type 0) (Takes : Type 0) → ((f : Refusal) → Row f → a ≡ refused f)
    → (Takes → (x : A) × (a ≡ good x)) → ((f : Refusal) × Row f) ⊎ Takes → Exactly a Row Takes
exactly a Row Takes row take either = record {
  refuses = λ f. (
    (λ e. cases either (λ x. subst Row (refused-inj (sym (row x.0 x.1) ∙ e)) x.1) (λ x. absurd (not_good (sym e ∙ (take x).1)))),
    row f,
  );
  takes = ((λ x. cases either (λ y. absurd (not_good (sym (row y.0 y.1) ∙ x.1))) (λ y. y)), take);
}

pub one-row : {A : Type 0} (a : Answer A) (Row : Refusal → Type 0) (Takes : Type 0) → Exactly a Row Takes → (f h : Refusal) → Row f → Row h → f ≡ h
one-row a Row Takes x f h p q = refused-inj (sym ((x.refuses f).1 p) ∙ (x.refuses h).1 q)

pub never_both : {A : Type 0} (a : Answer A) (Row : Refusal → Type 0) (Takes : Type 0) → Exactly a Row Takes → (f : Refusal) → Row f → Takes → ⊥
never_both a Row Takes x f p t = not_good (sym ((x.refuses f).1 p) ∙ (x.takes.1 t).1)

-- an answer that says less of what is good is refused alike
pub carried : {A B : Type 0} (f : Answer A → Answer B) (g : A → B) → ((a : A) → f (good a) ≡ good (g a)) → ((r : Refusal) → f (refused r) ≡ refused r)
    → (a : Answer A) (Row : Refusal → Type 0) (Takes : Type 0) → Exactly a Row Takes → Exactly (f a) Row Takes
carried f g of-good of-refused (good x) Row Takes h = record {
  refuses = λ r. ((λ e. absurd (not_good (sym e ∙ of-good x))), (λ p. absurd (not_good (sym ((h.refuses r).1 p)))));
  takes = ((λ y. h.takes.0 (x, refl)), (λ y. (g x, of-good x)));
}
carried f g of-good of-refused (refused q) Row Takes h = record {
  refuses = λ r. (
    (λ e. (h.refuses r).0 (ap refused (refused-inj (sym (of-refused q) ∙ e)))),
    (λ p. of-refused q ∙ ap refused (refused-inj ((h.refuses r).1 p))),
  );
  takes = ((λ y. absurd (not_good (sym (of-refused q) ∙ y.1))), (λ y. absurd (not_good (h.takes.1 y).1)));
}

-- ---- tests, and what they say

-- what holds where the test does, and what where it does not
pub record Tells (b : Bool) (Yes No : Type 0) : Type 0 where
  pub yes-is : Yes → b ≡ true
  pub no-is : No → b ≡ false
  pub said : Yes ⊎ No

told : {Yes No : Type 0} (b : Bool) → (Yes → b ≡ true) → (No → b ≡ false) → (b ≡ true → Yes) → (b ≡ false → No) → Tells b Yes No
told true f g h k = record { yes-is = f; no-is = g; said = inl (h refl) }
told false f g h k = record { yes-is = f; no-is = g; said = inr (k refl) }

tells-below : (m n : ℕ) → Tells (ltb m n) (m < n) (n ≤ m)
tells-below m n = told (ltb m n) (below m n) (not-below m n) (λ e. ltb→lt m n (holds e)) (le-of-not-below m n)

tells-most : (m n : ℕ) → Tells (leb m n) (m ≤ n) (n < m)
tells-most m n = told (leb m n) (at_most m n) (not-le m n) (λ e. leb→le m n (holds e)) (lt_of_not_le m n)

tells-either : {A A' B B' : Type 0} (a b : Bool) → Tells a A A' → Tells b B B' → Tells (a || b) (A ⊎ B) (A' × B')
tells-either {A} {A'} {B} {B'} a b p q = record {
  yes-is = yes-is a b p q;
  no-is = no-is a b p q;
  said = cases p.said (λ x. inl (inl x)) (λ x. cases q.said (λ y. inl (inr y)) (λ y. inr (x, y)));
}
  where
    yes-is : (a b : Bool) → Tells a A A' → Tells b B B' → A ⊎ B → (a || b) ≡ true
    yes-is true b p q x = refl
    yes-is false b p q (inl x) = absurd (true-false (p.yes-is x) refl)
    yes-is false b p q (inr x) = q.yes-is x

    no-is : (a b : Bool) → Tells a A A' → Tells b B B' → A' × B' → (a || b) ≡ false
    no-is true b p q x = absurd (true-false refl (p.no-is x.0))
    no-is false b p q x = q.no-is x.1

-- 17 of the count, 18 and 19
tells-count : (log count : ℕ) → Tells (ltb (room log) count) ((log < count) ⊎ (64 < count)) ((count ≤ log) × (count ≤ 64))
tells-count log count = record {
  yes-is = λ x. below (room log) count (cases x (λ l. omega arith) (λ l. omega arith));
  no-is = λ x. not-below (room log) count (omega (arith, x.0, x.1));
  said = go (dec_lt log count) (dec_lt 64 count);
}
  where
    go : Dec (log < count) → Dec (64 < count) → ((log < count) ⊎ (64 < count)) ⊎ ((count ≤ log) × (count ≤ 64))
    go (yes l) d = inl (inl l)
    go (no l) (yes m) = inl (inr m)
    go (no l) (no m) = inr (omega arith, omega arith)

pub tells-full : (log count : ℕ) → count ≤ log → count ≤ 64 → Tells (eqb count (room log)) ((count ≡ log) ⊎ (count ≡ 64)) ((count < log) × (count < 64))
tells-full log count a b = record {
  yes-is = λ x. is_true (eqb count (room log)) (is-eqb {m = count} {n = room log} (cases x (λ e. omega arith) (λ e. omega arith)));
  no-is = λ x. is_false (eqb count (room log)) (λ t. let z = eqb→eq count (room log) t in omega (arith, x.0, x.1));
  said = go (dec_lt count log) (dec_lt count 64);
}
  where
    go : Dec (count < log) → Dec (count < 64) → ((count ≡ log) ⊎ (count ≡ 64)) ⊎ ((count < log) × (count < 64))
    go (yes l) (yes m) = inr (l, m)
    go (yes l) (no m) = inl (inr (omega arith))
    go (no l) d = inl (inl (omega arith))

tells_none : (count : ℕ) → Tells (eqb count 0) (count ≡ 0) (0 < count)
tells_none count = told (eqb count 0) (λ e. is_true (eqb count 0) (is-eqb e))
    (λ l. is_false (eqb count 0) (λ t. let z = eqb→eq count 0 t in omega arith)) (λ e. eqb→eq count 0 (holds e))
    (λ e. let d : count ≡ 0 → ⊥ = λ z. true-false (is_true (eqb count 0) (is-eqb z)) e in omega arith)

-- 15, 7 and 20
pub tells-outside : (n : ℕ) (f : Fact) → Tells (out_of_range n f) (Outside n f) (Inside n f)
tells-outside n (name_on i k) = tells-either (leb n i) (ltb most_name k) (tells-most n i) (tells-below most_name k)
tells-outside n (link_of a r b) = tells-either (leb n a) (leb n b) (tells-most n a) (tells-most n b)

pub tells-role : (f : Fact) → Tells (role_above f) (RoleAbove f) (RoleFits f)
tells-role (name_on i k) = record { yes-is = λ x. absurd x; no-is = λ x. refl; said = inr tt }
tells-role (link_of a r b) = tells-below most_role r

abbrev Full : List ℕ → Register → Type 0
Full s g = (4096 ≤ length g.links) ⊎ (length s < length (encode g) + 5)

abbrev Free : List ℕ → Register → Type 0
Free s g = (length g.links < 4096) × (length (encode g) + 5 ≤ length s)

abbrev full : List ℕ → Register → Bool
full s g = leb most_links (length g.links) || ltb (length s) (length (encode g) + 5)

tells-free : (s : List ℕ) (g : Register) → Tells (full s g) (Full s g) (Free s g)
tells-free s g =
    tells-either (leb most_links (length g.links)) (ltb (length s) (length (encode g) + 5)) (tells-most most_links (length g.links))
    (tells-below (length s) (length (encode g) + 5))

pub tells-room : (s : List ℕ) (g : Register) (v : Bool) (f : Fact) → Tells (no_place s g v f) (NoRoom s g v f) (HasRoom s g v f)
unfolding no_place
tells-room s g v (name_on i k) = record { yes-is = λ x. absurd x; no-is = λ x. refl; said = inr tt }
tells-room s g v (link_of a r b) = go v (is_fact g (link_of a r b))
  where
    go : (v there : Bool) → Tells (v && not there && full s g) ((v ≡ true) × (there ≡ false) × Full s g) ((v ≡ false) ⊎ (there ≡ true) ⊎ Free s g)
    go true true = record { yes-is = λ x. absurd (true-false refl x.1); no-is = λ x. refl; said = inr (inr (inl refl)) }
    go true false = record {
      yes-is = λ x. (tells-free s g).yes-is x.2;
      no-is = λ x. cases x (λ e. absurd (true-false refl e)) (λ y. cases y (λ e. absurd (true-false e refl)) (λ z. (tells-free s g).no-is z));
      said = cases (tells-free s g).said (λ x. inl (refl, refl, x)) (λ x. inr (inr (inr x)));
    }
    go false there = record { yes-is = λ x. absurd (true-false x.0 refl); no-is = λ x. refl; said = inr (inl refl) }

-- ---- opening

pub open-exactly : (s : List ℕ) → Exactly (open_call s) (OpenRow s) (OpenTakes s)
unfolding open_call
open-exactly s = exactly (open_call s) (OpenRow s) (OpenTakes s) row (λ x. (x.register, took (read_buffer s) _ x.register x.read)) (go (read_buffer s) refl)
  where
    row : (f : Refusal) → OpenRow s f → (read_buffer s >>= λ g. good g) ≡ refused f
    row f (unread e) = stopped (read_buffer s) _ f e

    go : (a : Answer Register) → read_buffer s ≡ a → ((f : Refusal) × OpenRow s f) ⊎ OpenTakes s
    go (good g) e = inr (record { register = g; read = e })
    go (refused f) e = inl (f, unread e)

-- ---- the others: the register, 17, and then `next`

module _ (s : List ℕ) (log count : ℕ) where
  module _ {C : Type 0} (next : Register → Answer C) where
    abbrev counting : Answer C
    counting = read_buffer s >>= λ g. (refuse_if (ltb (room log) count) (on_call 17) >> next g)

    count-row : (f : Refusal) → CountRow s log count f → counting ≡ refused f
    count-row f (bad_register e) = stopped (read_buffer s) _ f e
    count-row f (count_above g e c is) =
        took (read_buffer s) _ g e ∙ stop (ltb (room log) count) _ _ ((tells-count log count).yes-is c) ∙ ap refused (sym is)

    counts-go : (x : Counts s log count) → counting ≡ next x.register
    counts-go x =
        took (read_buffer s) _ x.register x.read ∙ pass (ltb (room log) count) _ _ ((tells-count log count).no-is (x.in_log, x.in_use))

  count-either : ((f : Refusal) × CountRow s log count f) ⊎ Counts s log count
  count-either = go (read_buffer s) refl
    where
      go : (a : Answer Register) → read_buffer s ≡ a → ((f : Refusal) × CountRow s log count f) ⊎ Counts s log count
      go (refused f) e = inl (f, bad_register e)
      go (good g) e =
          cases (tells-count log count).said (λ x. inl (on_call 17, count_above g e x refl))
          (λ x. inr (record { register = g; read = e; in_log = x.0; in_use = x.1 }))

  pub keep-exactly : Exactly (keep_call s log count) (KeepRow s log count) (KeepTakes s log count)
  unfolding keep_call
  keep-exactly = exactly _ _ _ (count-row (λ g. good tt)) (λ x. (tt, counts-go (λ g. good tt) x)) count-either

  -- ---- an edit

  module _ (e : Edit) where
    abbrev fact : Fact
    fact = e.fact

    -- what follows 17, of a register
    abbrev after_count : Register → Answer Changed
    after_count g =
        refuse_if (out_of_range (length g.names) fact) (on_call 15) >> (refuse_if (role_above fact) (on_call 7)
        >> (refuse_if (eqb count (room log)) (on_call 18) >> (refuse_if (no_place s g e.adds fact) (on_call 20)
        >> good (record { before = g; after = set_fact e.adds fact g; count = count + 1 }))))

    abbrev items : Counts s log count → ℕ
    items x = length x.register.names

    edit-asked : edit_call s log count e ≡ counting after_count
    unfolding edit_call
    edit-asked = refl

    in-range : {B : Type 0} (x : Counts s log count) (k : Answer B) → Inside (items x) fact → RoleFits fact
        → (refuse_if (out_of_range (items x) fact) (on_call 15) >> (refuse_if (role_above fact) (on_call 7) >> k)) ≡ k
    in-range x k i r =
        pass (out_of_range (items x) fact) _ _ ((tells-outside (items x) fact).no-is i) ∙ pass (role_above fact) _ k ((tells-role fact).no-is r)

    edit-row : (f : Refusal) → EditRow s log count e f → edit_call s log count e ≡ refused f
    edit-row f (earlier x) = edit-asked ∙ count-row after_count f x
    edit-row f (outside x o is) =
        edit-asked ∙ counts-go after_count x ∙ stop (out_of_range (items x) fact) _ _ ((tells-outside (items x) fact).yes-is o) ∙ ap refused (sym is)
    edit-row f (bad_role x i r is) =
        edit-asked ∙ counts-go after_count x ∙ pass (out_of_range (items x) fact) _ _ ((tells-outside (items x) fact).no-is i)
        ∙ stop (role_above fact) _ _ ((tells-role fact).yes-is r) ∙ ap refused (sym is)
    edit-row f (log_full x i r l is) =
        edit-asked ∙ counts-go after_count x ∙ in-range x _ i r
        ∙ stop (eqb count (room log)) _ _ ((tells-full log count x.in_log x.in_use).yes-is l) ∙ ap refused (sym is)
    edit-row f (no_room x i r a b n is) =
        edit-asked ∙ counts-go after_count x ∙ in-range x _ i r
        ∙ pass (eqb count (room log)) _ _ ((tells-full log count x.in_log x.in_use).no-is (a, b))
        ∙ stop (no_place s x.register e.adds fact) _ _ ((tells-room s x.register e.adds fact).yes-is n) ∙ ap refused (sym is)

    -- what an edit that is taken answers
    pub edit-takes : (x : EditTakes s log count e) → let g = x.counts.register in
        edit_call s log count e ≡ good (record { before = g; after = set_fact e.adds e.fact g; count = count + 1 })
    edit-takes x =
        let c = x.counts in
        edit-asked ∙ counts-go after_count c ∙ in-range c _ x.inside x.role
        ∙ pass (eqb count (room log)) _ _ ((tells-full log count c.in_log c.in_use).no-is (x.in_log, x.in_use))
        ∙ pass (no_place s c.register e.adds fact) _ _ ((tells-room s c.register e.adds fact).no-is x.room)

    edit-either : ((f : Refusal) × EditRow s log count e f) ⊎ EditTakes s log count e
    edit-either =
        cases count-either (λ x. inl (x.0, earlier x.1)) (λ x.
        cases (tells-outside (items x) fact).said (λ o. inl (on_call 15, outside x o refl)) (λ i.
        cases (tells-role fact).said (λ r. inl (on_call 7, bad_role x i r refl)) (λ r.
        cases (tells-full log count x.in_log x.in_use).said (λ l. inl (on_call 18, log_full x i r l refl)) (λ l.
        cases (tells-room s x.register e.adds fact).said (λ n. inl (on_call 20, no_room x i r l.0 l.1 n refl))
        (λ n. inr (record { counts = x; inside = i; role = r; in_log = l.0; in_use = l.1; room = n }))))))

    pub edit-exactly : Exactly (edit_call s log count e) (EditRow s log count e) (EditTakes s log count e)
    edit-exactly = exactly _ _ _ edit-row (λ x. (_, edit-takes x)) edit-either

  -- ---- undo

  module _ (last : Step) where
    abbrev step_fact : Fact
    step_fact = last.fact

    abbrev many : Counts s log count → ℕ
    many x = length x.register.names

    abbrev after_undo : Register → Answer Changed
    after_undo g =
        refuse_if (eqb count 0) (on_call 19) >> (refuse_if (out_of_range (length g.names) step_fact || role_above step_fact) (on_call 17)
        >> (refuse_if (no_place s g last.was step_fact) (on_call 20)
        >> good (record { before = g; after = set_fact last.was step_fact g; count = count - 1 })))

    undo-asked : undo_call s log count last ≡ counting after_undo
    unfolding undo_call
    undo-asked = refl

    tells-step : (x : Counts s log count) → Tells (out_of_range (many x) step_fact || role_above step_fact)
        (Outside (many x) step_fact ⊎ RoleAbove step_fact) (Inside (many x) step_fact × RoleFits step_fact)
    tells-step x = tells-either (out_of_range (many x) step_fact) (role_above step_fact) (tells-outside (many x) step_fact) (tells-role step_fact)

    undo-row : (f : Refusal) → UndoRow s log count last f → undo_call s log count last ≡ refused f
    undo-row f (earlier_one x) = undo-asked ∙ count-row after_undo f x
    undo-row f (no_step_left x z is) =
        undo-asked ∙ counts-go after_undo x ∙ stop (eqb count 0) _ _ ((tells_none count).yes-is z) ∙ ap refused (sym is)
    undo-row f (step_outside x u o is) =
        undo-asked ∙ counts-go after_undo x ∙ pass (eqb count 0) _ _ ((tells_none count).no-is u)
        ∙ stop (out_of_range (many x) step_fact || role_above step_fact) _ _ ((tells-step x).yes-is o) ∙ ap refused (sym is)
    undo-row f (no_room_back x u i r n is) =
        undo-asked ∙ counts-go after_undo x ∙ pass (eqb count 0) _ _ ((tells_none count).no-is u)
        ∙ pass (out_of_range (many x) step_fact || role_above step_fact) _ _ ((tells-step x).no-is (i, r))
        ∙ stop (no_place s x.register last.was step_fact) _ _ ((tells-room s x.register last.was step_fact).yes-is n) ∙ ap refused (sym is)

    -- what an undo that is taken answers
    pub undo-takes : (x : UndoTakes s log count last) → let g = x.counts.register in
        undo_call s log count last ≡ good (record { before = g; after = set_fact last.was last.fact g; count = count - 1 })
    undo-takes x =
        let c = x.counts in
        undo-asked ∙ counts-go after_undo c ∙ pass (eqb count 0) _ _ ((tells_none count).no-is x.used)
        ∙ pass (out_of_range (many c) step_fact || role_above step_fact) _ _ ((tells-step c).no-is (x.inside, x.role))
        ∙ pass (no_place s c.register last.was step_fact) _ _ ((tells-room s c.register last.was step_fact).no-is x.room)

    undo-either : ((f : Refusal) × UndoRow s log count last f) ⊎ UndoTakes s log count last
    undo-either =
        cases count-either (λ x. inl (x.0, earlier_one x.1)) (λ x.
        cases (tells_none count).said (λ z. inl (on_call 19, no_step_left x z refl)) (λ u.
        cases (tells-step x).said (λ o. inl (on_call 17, step_outside x u o refl)) (λ i.
        cases (tells-room s x.register last.was step_fact).said (λ n. inl (on_call 20, no_room_back x u i.0 i.1 n refl))
        (λ n. inr (record { counts = x; used = u; inside = i.0; role = i.1; room = n })))))

    pub undo-exactly : Exactly (undo_call s log count last) (UndoRow s log count last) (UndoTakes s log count last)
    undo-exactly = exactly _ _ _ undo-row (λ x. (_, undo-takes x)) undo-either

-- ---- any call: the count that is handed back, or the refusal

pub answer-exactly : (s : Session) (c : Call) → Exactly (answer s c) (CallRow s c) (CallTakes s c)
unfolding answer no_steps counted
answer-exactly s opens = carried no_steps (λ g. 0) (λ g. refl) (λ r. refl) (open_call s.buffer) _ _ (open-exactly s.buffer)
answer-exactly s (edits e) =
    carried counted (λ c. c.count) (λ c. refl) (λ r. refl) (edit_call s.buffer (length s.log) s.count e) _ _
    (edit-exactly s.buffer (length s.log) s.count e)
answer-exactly s undoes =
    carried counted (λ c. c.count) (λ c. refl) (λ r. refl) (undo_call s.buffer (length s.log) s.count (last_step s)) _ _
    (undo-exactly s.buffer (length s.log) s.count (last_step s))
answer-exactly s keeps =
    carried no_steps (λ u. 0) (λ u. refl) (λ r. refl) (keep_call s.buffer (length s.log) s.count) _ _
    (keep-exactly s.buffer (length s.log) s.count)
