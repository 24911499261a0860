-- Each end of the calls, as the code comes to it.
-- Assumes nothing.
use mathlib.Core.Path.{◌≡◌, refl, sym, ap, ap₂, ◌∙◌, subst}
use mathlib.Core.Bool.{Bool, true, false, ◌||◌}
use mathlib.Core.List.{List, ◌++◌, append-nil}
use Prim.Native.Nat.{ℕ, ◌+◌, ◌-◌, ◌≤◌, ◌<◌, min}
use native.Mathlib.Omega.{arith}
use Rattle.std.specs.Prelude.{Option, Some, None, Result, Ok, Err}
use Rattle.std.specs.Option.{ok_or}
use Rattle.std.proofs.lemmas.List.Edits.{paste_all}
use Rattle.std.proofs.lemmas.Slice.{put_mid-paste}
use borrow.Rule.Slice.PartMut.{put_mid}
use lib.Dec.{ltb, eqb, eqb→eq}
use lib.ListN.{get_or, length, set, take, drop, length-take, length-drop, length-replicate}
use Rattle.meaning.specs.declared.Fact.{Fact}
use Rattle.meaning.specs.declared.Fact.TheVariants.{Name as name_on, Link as link_of}
use Rattle.meaning.specs.declared.Step.{Step}
use Rattle.meaning.specs.declared.Refusal.{Refusal}
use Rattle.meaning.specs.Bounds.{most_items, most_steps}
use Rattle.meaning.specs.Refusal.{Answer, good, refused, on_call, refuse_if, ◌>>=◌, ◌>>◌}
use mir.Syntax.{w8}
use mir.Val.{Fits}
use Rattle.fields.proofs.Known.{bytes-known}
use Rattle.meaning.specs.Bytes.{Bytes}
use Rattle.meaning.specs.Register.{Register, is_fact, encode, read_buffer}
use Rattle.meaning.specs.Session.{zeros, set_fact, cleared, room, out_of_range, role_above, no_place, Changed}
use Rattle.meaning.specs.Session.{open_call, edit_call, undo_call, keep_call, no_steps, counted, buffer_opened, buffer_after}
use Rattle.meaning.proofs.Tests.{is_true, is_false, is-eqb, neither}
use Rattle.meaning.proofs.Reading.{good-inj, pass, stop, stopped, took, below, not-below}
use Rattle.meaning.proofs.Image.{image-length, image-fits}
use Rattle.meaning.proofs.SessionFacts.{Sounds, sounds}
use Rattle.meaning.proofs.SessionCalls.{edit-passed}
use Rattle.register.specs.declared.Size.{Size}
use Rattle.register.specs.Layout.{image_length}
use Rattle.register.specs.Image.{OfSize}
use Rattle.register.specs.Reading.{ReadPromise, counted as sized}
use Rattle.register.proofs.Holding.{of_size, size-read}
use Rattle.session.specs.declared.Edited.{Edited}
use Rattle.setting.specs.Setting.{Ranged, SettingOf}
use Rattle.session.specs.Calls.{Counted, paper_count, paper_edit, was_before, an_edit, records_after}
use Rattle.setting.proofs.Changes.{image-first}

-- ---- an answer that a call hands on

-- `ok_or`, told back
was_none : {A : Type 0} (o : Option A) {x : Refusal} (y : Refusal) → Err x ≡ ok_or o y → (o ≡ None) × (x ≡ y)
was_none None y e = (refl, cc)
was_none (Some v) y e = cc

was_some : {A : Type 0} (o : Option A) {v : A} (y : Refusal) → Ok v ≡ ok_or o y → o ≡ Some v
was_some None y e = cc
was_some (Some w) y e = cc

-- what `fill` leaves of a buffer whose end it zeros
pub filled : (s : List ℕ) (from : ℕ) (ys : List ℕ) → from ≤ length s → ys ≡ zeros (length (take (length s - from) (drop from s)))
    → put_mid from (length s - from) s ys ≡ take from s ++ zeros (length s - from)
filled s from ys h d =
    let n = length s - from in
    let all : from + n ≡ length s = omega arith in
    let part : length (take n (drop from s)) ≡ n = omega (arith, length-take n (drop from s), length-drop from s) in
    put_mid-paste from n s ys (zeros n) n (d ∙ ap zeros part) refl (sym (length-replicate {A = ℕ} n 0))
    ∙ paste_all s from (zeros n) n (sym (length-replicate {A = ℕ} n 0))
    ∙ ap (λ (z : List ℕ). take from s ++ (zeros n ++ z)) (ap (λ (k : ℕ). drop k s) all ∙ lib.Seq.drop-length s)
    ∙ ap (λ (z : List ℕ). take from s ++ z) (append-nil (zeros n))

-- ---- the register

pub read-sizes : (s : List ℕ) (z : Size) → ((i : ℕ) → Fits w8 (get_or s i 0)) → ReadPromise s true (Ok z) → OfSize s z.items z.links
read-sizes s z by d = of_size s z.items z.links (size-read s true z (bytes-known s by) d)

pub refused-inj : {A : Type 0} {x y : Refusal} → ◌≡◌ {A = Answer A} (refused x) (refused y) → x ≡ y
refused-inj e = cc

read-refused : (s : List ℕ) (x : Refusal) → ReadPromise s true (Err x) → read_buffer s ≡ refused x
unfolding sized ◌>>=◌
read-refused s x d = go (read_buffer s) d
  where
    go : (a : Answer Register) → refused x ≡ sized a → a ≡ refused x
    go (good g) h = let z : ◌≡◌ {A = ℕ} 0 1 = cc in absurd (omega arith)
    go (refused y) h = ap refused (sym (refused-inj h))

-- ---- an edit

module _ (s : List ℕ) (log count : ℕ) (f : Fact) (v : Bool) where
  abbrev answer : Answer Changed
  answer = edit_call s log count (an_edit f v)

  -- what is asked at an end
  abbrev Ends : List ℕ → Result Edited Refusal → Type 0
  Ends t r = (paper_edit r ≡ was_before f answer) × (t ≡ buffer_after s answer)

  edit-no : (x y : Refusal) → x ≡ y → answer ≡ refused y → Ends s (Err x)
  unfolding buffer_after
  edit-no x y e d = (ap refused e ∙ sym (ap (was_before f) d), sym (ap (buffer_after s) d))

  pub edit-unread : (x : Refusal) → ReadPromise s true (Err x) → Ends s (Err x)
  unfolding edit_call
  edit-unread x e = edit-no _ _ refl (stopped (read_buffer s) _ x (read-refused s x e))

  module _ {n : ℕ} (en : n ≡ min log most_steps) (items links : ℕ) (a : OfSize s items links) where
    abbrev g : Register
    g = a.register

    pub edit-17 : (x : Refusal) → n < count → x ≡ on_call 17 → Ends s (Err x)
    unfolding edit_call
    edit-17 x h e = edit-no _ _ e (took (read_buffer s) _ g a.read ∙ stop (ltb (room log) count) _ _ (below (room log) count (omega arith)))

    module _ (h : count ≤ n) {range : Bool} (er : range ≡ out_of_range items f) where
      out : out_of_range (length g.names) f ≡ range
      out = ap (λ (z : ℕ). out_of_range z f) (sym a.holds.0) ∙ sym er

      in_use : ltb (room log) count ≡ false
      in_use = not-below (room log) count (omega arith)

      pub edit-15 : (x : Refusal) → range ≡ true → x ≡ on_call 15 → Ends s (Err x)
      unfolding edit_call
      edit-15 x r e = edit-no _ _ e (took (read_buffer s) _ g a.read ∙ pass (ltb (room log) count) _ _ in_use ∙ stop (out_of_range (length g.names) f) _ _ (out ∙ r))

      module _ (r : range ≡ false) {role : Bool} (el : role ≡ role_above f) where
        pub edit-7 : (x : Refusal) → role ≡ true → x ≡ on_call 7 → Ends s (Err x)
        unfolding edit_call
        edit-7 x l e =
            edit-no _ _ e (took (read_buffer s) _ g a.read ∙ pass (ltb (room log) count) _ _ in_use
            ∙ pass (out_of_range (length g.names) f) _ _ (out ∙ r) ∙ stop (role_above f) _ _ (sym el ∙ l))

        module _ (l : role ≡ false) where
          to_room : {B : Type 0} (k : Answer B)
              → (refuse_if (ltb (room log) count) (on_call 17) >> (refuse_if (out_of_range (length g.names) f) (on_call 15) >> (refuse_if (role_above f) (on_call 7) >> k))) ≡ k
          to_room k =
              pass (ltb (room log) count) _ _ in_use ∙ pass (out_of_range (length g.names) f) _ _ (out ∙ r) ∙ pass (role_above f) _ _ (sym el ∙ l)

          pub edit-18 : (x : Refusal) → count ≡ n → x ≡ on_call 18 → Ends s (Err x)
          unfolding edit_call
          edit-18 x i e = edit-no _ _ e (took (read_buffer s) _ g a.read ∙ to_room _ ∙ stop (eqb count (room log)) _ _ (is_true (eqb count (room log)) (is-eqb (i ∙ en))))

          module _ (less : count ≡ n → ⊥) (t : List ℕ) (o : Option Bool) (b : SettingOf s f v t o) (y : Refusal) where
            to-place : answer ≡ (refuse_if (no_place s g v f) (on_call 20) >> good (record { before = g; after = set_fact v f g; count = count + 1 }))
            unfolding edit_call
            to-place =
                took (read_buffer s) _ g a.read ∙ to_room _
                ∙ pass (eqb count (room log)) _ _ (is_false (eqb count (room log)) (λ z. less (eqb→eq count (room log) z ∙ sym en)))

            pub edit-full : (x : Refusal) → Err x ≡ ok_or o y → y ≡ on_call 20 → Ends t (Err x)
            edit-full x e i =
                let w = was_none o y e in
                let q = subst (λ (z : Option Bool). SettingOf s f v t z) w.0 b g a.read in
                subst (λ (z : List ℕ). Ends z (Err x)) (sym q.1) (edit-no _ _ (w.1 ∙ i) (to-place ∙ stop (no_place s g v f) _ _ q.0))

            pub edit-done : (was : Bool) → Ok was ≡ ok_or o y → Ends t (Ok (record { was = was; count = count + 1 }))
            unfolding buffer_after
            edit-done was e =
                let q = subst (λ (z : Option Bool). SettingOf s f v t z) (was_some o y e) b g a.read in
                let d = to-place ∙ pass (no_place s g v f) _ _ q.0 in
                (ap (λ (z : Bool). good (record { was = z; count = count + 1 })) q.1 ∙ sym (ap (was_before f) d), q.2 ∙ sym (ap (buffer_after s) d))

-- ---- an undo

module _ (s : List ℕ) (log count : ℕ) (last : Step) where
  abbrev undone : Answer Changed
  undone = undo_call s log count last

  abbrev Finished : List ℕ → Counted → Type 0
  Finished t r = (paper_count r ≡ counted undone) × (t ≡ buffer_after s undone)

  undo-no : (x y : Refusal) → x ≡ y → undone ≡ refused y → Finished s (Err x)
  unfolding buffer_after counted
  undo-no x y e d = (ap refused e ∙ sym (ap counted d), sym (ap (buffer_after s) d))

  pub undo-unread : (x : Refusal) → ReadPromise s true (Err x) → Finished s (Err x)
  unfolding undo_call
  undo-unread x e = undo-no _ _ refl (stopped (read_buffer s) _ x (read-refused s x e))

  module _ {n : ℕ} (en : n ≡ min log most_steps) (items links : ℕ) (a : OfSize s items links) where
    abbrev k : Register
    k = a.register

    pub undo-17 : (x : Refusal) → n < count → x ≡ on_call 17 → Finished s (Err x)
    unfolding undo_call
    undo-17 x h e = undo-no _ _ e (took (read_buffer s) _ k a.read ∙ stop (ltb (room log) count) _ _ (below (room log) count (omega arith)))

    module _ (h : count ≤ n) where
      pub undo-19 : (x : Refusal) → count ≡ 0 → x ≡ on_call 19 → Finished s (Err x)
      unfolding undo_call
      undo-19 x z e =
          undo-no _ _ e (took (read_buffer s) _ k a.read ∙ pass (ltb (room log) count) _ _ (not-below (room log) count (omega arith))
          ∙ stop (eqb count 0) _ _ (is_true (eqb count 0) (is-eqb z)))

      module _ (used : count ≡ 0 → ⊥) {range : Bool} (er : range ≡ out_of_range items last.fact) where
        beyond : out_of_range (length k.names) last.fact ≡ range
        beyond = ap (λ (z : ℕ). out_of_range z last.fact) (sym a.holds.0) ∙ sym er

        to_step : undone ≡ (refuse_if (out_of_range (length k.names) last.fact || role_above last.fact) (on_call 17)
            >> (refuse_if (no_place s k last.was last.fact) (on_call 20) >> good (record { before = k; after = set_fact last.was last.fact k; count = count - 1 })))
        unfolding undo_call
        to_step =
            took (read_buffer s) _ k a.read ∙ pass (ltb (room log) count) _ _ (not-below (room log) count (omega arith))
            ∙ pass (eqb count 0) _ _ (is_false (eqb count 0) (λ t. used (eqb→eq count 0 t)))

        pub undo-range : (x : Refusal) → range ≡ true → x ≡ on_call 17 → Finished s (Err x)
        undo-range x r e =
            undo-no _ _ e (to_step ∙ stop (out_of_range (length k.names) last.fact || role_above last.fact) _ _ (ap (λ (b : Bool). b || role_above last.fact) (beyond ∙ r)))

        module _ (r : range ≡ false) {role : Bool} (el : role ≡ role_above last.fact) where
          pub undo-role : (x : Refusal) → role ≡ true → x ≡ on_call 17 → Finished s (Err x)
          undo-role x l e = undo-no _ _ e (to_step ∙ stop (out_of_range (length k.names) last.fact || role_above last.fact) _ _ (ap₂ ◌||◌ (beyond ∙ r) (sym el ∙ l)))

          module _ (l : role ≡ false) (t : List ℕ) (o : Option Bool) (b : SettingOf s last.fact last.was t o) (y : Refusal) where
            to-undo : undone ≡ (refuse_if (no_place s k last.was last.fact) (on_call 20) >> good (record { before = k; after = set_fact last.was last.fact k; count = count - 1 }))
            to-undo =
                to_step ∙ pass (out_of_range (length k.names) last.fact || role_above last.fact) _ _
                (neither (out_of_range (length k.names) last.fact) (role_above last.fact) (beyond ∙ r) (sym el ∙ l))

            pub undo-full : (x : Refusal) → Err x ≡ ok_or o y → y ≡ on_call 20 → Finished t (Err x)
            undo-full x e i =
                let w = was_none o y e in
                let q = subst (λ (z : Option Bool). SettingOf s last.fact last.was t z) w.0 b k a.read in
                subst (λ (z : List ℕ). Finished z (Err x)) (sym q.1) (undo-no _ _ (w.1 ∙ i) (to-undo ∙ stop (no_place s k last.was last.fact) _ _ q.0))

            pub undo-done : (was : Bool) → Ok was ≡ ok_or o y → Finished t (Ok (count - 1))
            unfolding buffer_after counted
            undo-done was e =
                let q = subst (λ (z : Option Bool). SettingOf s last.fact last.was t z) (was_some o y e) b k a.read in
                let d = to-undo ∙ pass (no_place s k last.was last.fact) _ _ q.0 in
                (sym (ap counted d), q.2 ∙ sym (ap (buffer_after s) d))

-- ---- opening and keep

module _ (s : List ℕ) where
  abbrev Opens : List ℕ → Counted → Type 0
  Opens t r = (paper_count r ≡ no_steps (open_call s)) × (t ≡ buffer_opened s (open_call s))

  pub open-unread : (x : Refusal) → ReadPromise s true (Err x) → Opens s (Err x)
  unfolding open_call buffer_opened no_steps
  open-unread x e = let d = stopped (read_buffer s) _ x (read-refused s x e) in (sym (ap no_steps d), sym (ap (buffer_opened s) d))

  pub open_done : (items links at : ℕ) (t : List ℕ) → ((i : ℕ) → Fits w8 (get_or s i 0)) → OfSize s items links → at ≡ image_length items links
      → t ≡ take at s ++ zeros (length s - at) → Opens t (Ok 0)
  unfolding open_call buffer_opened no_steps cleared
  open_done items links at t by a ea e =
      let g = a.register in
      let d = took (read_buffer s) (λ g. good g) g a.read in
      let l : at ≡ length (encode g) = omega (arith, image-length g, a.holds.0, a.holds.1) in
      let f : take (length (encode g)) s ≡ encode g =
      ap (take (length (encode g))) (image-first s g (bytes-known s by) a.read) ∙ lib.Seq.take-append_seam (encode g) (drop (length (encode g)) s) in (
        sym (ap no_steps d),
        e ∙ ap (λ (k : ℕ). take k s ++ zeros (length s - k)) l ∙ ap (λ (z : List ℕ). z ++ zeros (length s - length (encode g))) f ∙ sym (ap (buffer_opened s) d),
      )

module _ (s : List ℕ) (log count : ℕ) where
  abbrev Keeps : Counted → Type 0
  Keeps r = paper_count r ≡ no_steps (keep_call s log count)

  pub keep-unread : (x : Refusal) → ReadPromise s true (Err x) → Keeps (Err x)
  unfolding keep_call no_steps
  keep-unread x e = sym (ap no_steps (stopped (read_buffer s) _ x (read-refused s x e)))

  module _ {n : ℕ} (en : n ≡ min log most_steps) (items links : ℕ) (a : OfSize s items links) where
    pub keep-17 : (x : Refusal) → n < count → x ≡ on_call 17 → Keeps (Err x)
    unfolding keep_call no_steps
    keep-17 x h e = ap refused e ∙ sym (ap no_steps (took (read_buffer s) _ a.register a.read ∙ stop (ltb (room log) count) _ _ (below (room log) count (omega arith))))

    pub keep-done : count ≤ n → Keeps (Ok 0)
    unfolding keep_call no_steps
    keep-done h = sym (ap no_steps (took (read_buffer s) _ a.register a.read ∙ pass (ltb (room log) count) _ _ (not-below (room log) count (omega arith))))

-- ---- what an accepted edit says

pub accepted : (f : Fact) (a : Answer Changed) (e : Edited) → good e ≡ was_before f a → (c : Changed) × (a ≡ good c) × (e.was ≡ is_fact c.before f) × (e.count ≡ c.count)
accepted f a e d = go a refl d
  where
    go : (z : Answer Changed) → a ≡ z → good e ≡ was_before f z → (c : Changed) × (a ≡ good c) × (e.was ≡ is_fact c.before f) × (e.count ≡ c.count)
    go (good c) i h = let z = good-inj h in (c, i, ap (λ (w : Edited). w.was) z, ap (λ (w : Edited). w.count) z)
    go (refused y) i h = let z : ◌≡◌ {A = ℕ} 0 1 = cc in absurd (omega arith)

-- a refusal writes no record, and an accepted edit one, at the count, for which there is a place
module _ {R : Type 0} (of : Fact → Bool → R) (s : List ℕ) (log : List R) (count : ℕ) (f : Fact) (v : Bool) where
  abbrev edited : Answer Changed
  edited = edit_call s (length log) count (an_edit f v)

  pub none_written : (x : Refusal) → refused x ≡ was_before f edited → (refused x ≡ counted edited) × (log ≡ records_after of log count f edited)
  unfolding counted
  none_written x d = go edited d
    where
      go : (a : Answer Changed) → refused x ≡ was_before f a → (refused x ≡ counted a) × (log ≡ records_after of log count f a)
      go (good c) h = let z : ◌≡◌ {A = ℕ} 0 1 = cc in absurd (omega arith)
      go (refused y) h = (ap refused (refused-inj h), refl)

  pub has-place : (e : Edited) → good e ≡ was_before f edited → Bytes s → (count < length log) × Ranged most_items f
  has-place e d by =
      let q = accepted f edited e d in
      let p = edit-passed s (length log) count (an_edit f v) q.0 q.1 in
      let few = (image-fits s q.0.before by p.read).0.items in
      (omega (arith, p.steps), go f few (sounds (length q.0.before.names) f p.range p.role))
    where
      go : (f : Fact) {n : ℕ} → n ≤ most_items → Sounds n f → Ranged most_items f
      go (name_on i k) l o = (omega (arith, o.0), omega (arith, o.1))
      go (link_of a r b) l o = (omega (arith, o.0), o.1, omega (arith, o.2))

  pub one_written : (e : Edited) → good e ≡ was_before f edited → (good e.count ≡ counted edited) × (set log count (of f e.was) ≡ records_after of log count f edited)
  unfolding counted
  one_written e d =
      let q = accepted f edited e d in (
        ap good q.3 ∙ sym (ap counted q.1),
        ap (λ (w : Bool). set log count (of f w)) q.2 ∙ sym (ap (records_after of log count f) q.1),
      )
