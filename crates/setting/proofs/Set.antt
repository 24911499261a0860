-- Setting one fact: each way through the code comes to what is asked.
-- Assumes nothing.
use mathlib.Core.Path.{◌≡◌, refl, sym, ap, ap₂, ◌∙◌, subst}
use mathlib.Core.Bool.{Bool, true, false, ◌&&◌, ◌||◌, not}
use mathlib.Core.List.{List, ◌∷◌, ◌++◌, append-nil}
use mathlib.Core.Option.{none as nowhere}
use Rattle.std.specs.Prelude.{Option, Some, None, Result, Ok, Err}
use Prim.Native.Nat.{ℕ, suc, ◌+◌, ◌-◌, ◌≤◌, ◌<◌, max}
use native.Mathlib.Omega.{arith}
use native.Mathlib.Decide.{dec_lt}
use lib.Dec.{ltb, leb, eqb, ltb→lt, eqb→eq}
use lib.ListN.{length, get_or, set, take, drop, length-append, length-drop}
use lib.Seq.{length-take-le}
use Rattle.meaning.specs.declared.Fact.{Fact}
use Rattle.meaning.specs.declared.Fact.TheVariants.{Name as name_on, Link as link_of}
use Rattle.meaning.specs.Refusal.{good}
use Rattle.meaning.specs.Bytes.{Bytes}
use Rattle.meaning.specs.Names.{has}
use Rattle.meaning.specs.Register.{Link, Register, is_fact, encode, read_buffer}
use Rattle.meaning.specs.Bounds.{most_items, most_links, most_role}
use Rattle.meaning.specs.Session.{link, zeros, with_name, set_fact, rewritten, no_place}
use Rattle.meaning.proofs.Tests.{holds, neither, and_both, is_true, is_false, is-eqb}
use Rattle.meaning.proofs.Reading.{good-inj, at_most, not-le, below, not-below}
use Rattle.meaning.proofs.Image.{image-length, read-buffer, image-fits}
use Rattle.meaning.proofs.SessionFacts.{set_same}
use Rattle.meaning.proofs.SessionLinks.{Sound}
use Rattle.register.specs.Image.{Asked, OfSize, Image, no_link, link_no}
use Rattle.register.specs.Held.{held}
use Rattle.register.proofs.Holding.{held-said}
use Rattle.register.specs.Layout.{names_at, image_length}
use Rattle.register.specs.Reading.{key, Small}
use Rattle.setting.specs.Setting.{PlaceOf, Placed, inserted_at, removed_at, buffer_inserted, buffer_removed, SettingOf}
use Rattle.setting.proofs.Place.{place-among, place-insert, place-without}
use Rattle.setting.proofs.Changes.{unchanged, name-law}

-- what is asked is of the one register that was read
pub asked_is : {P : Register → Type 0} {s : List ℕ} (a : Asked s P) (g : Register) → read_buffer s ≡ good g → P g
asked_is {P} a g e = subst P (good-inj (sym a.read ∙ e)) a.holds

-- the sizes of an image that was read, and the buffer holds it
pub sizes-fit : (s : List ℕ) → Bytes s → (items links : ℕ) → OfSize s items links
    → (items ≤ most_items) × (links ≤ most_links) × (image_length items links ≤ length s)
sizes-fit s by items links a =
    let q = image-fits s a.register by a.read in
    (omega (arith, q.0.items, a.holds.0), omega (arith, q.0.few, a.holds.1), omega (arith, q.1, a.holds.0, a.holds.1))

-- the buffer with a link more and a link fewer, as a rewritten one
longer : (s : List ℕ) (g h : Register) → length (encode h) ≡ length (encode g) + 5 → encode h ++ drop (length (encode g) + 5) s ≡ rewritten s g h
unfolding rewritten
longer s g h e =
    let d : 0 ≡ length (encode g) - length (encode h) = omega arith in
    let f : length (encode g) + 5 ≡ max (length (encode g)) (length (encode h)) = omega arith in
    ap (λ (z : List ℕ). z ++ drop (length (encode g) + 5) s) (sym (append-nil (encode h))) ∙ ap₂ (λ (u v : ℕ). encode h ++ zeros u ++ drop v s) d f

shorter : (s : List ℕ) (g h : Register) → length (encode h) + 5 ≡ length (encode g) → encode h ++ zeros 5 ++ drop (length (encode g)) s ≡ rewritten s g h
unfolding rewritten
shorter s g h e =
    let d : 5 ≡ length (encode g) - length (encode h) = omega arith in
    let f : length (encode g) ≡ max (length (encode g)) (length (encode h)) = omega arith in
    ap₂ (λ (u v : ℕ). encode h ++ zeros u ++ drop v s) d f

module _ (s : List ℕ) (by : Bytes s) (a r c : ℕ) where
  abbrev l : Link
  l = link a r c

  abbrev f : Fact
  f = link_of a r c

  -- whether the link stands at its place
  abbrev At : Register → ℕ → Bool
  At g k = ltb k (length g.links) && eqb (key (link_no g k)) (key l)

  module _ (g : Register) (e : read_buffer s ≡ good g) (o : Sound (length g.names) l) (k : ℕ) (p : PlaceOf g.links (key l) k) where
    few : length g.names ≤ most_items
    few = (image-fits s g by e).0.items

    is-there : is_fact g f ≡ At g k
    unfolding is_fact
    is-there =
        place-among (length g.names) few l (o.1, omega (arith, o.2, few)) nowhere g.links k (image-fits s g by e).0.rising p

    placed-if : (v : Bool) → is_fact g f ≡ v → no_place s g v f ≡ false
    unfolding no_place
    placed-if true d = ap (λ (b : Bool). true && not b && (leb most_links (length g.links) || ltb (length s) (length (encode g) + 5))) d
    placed-if false d = refl

    same : (v : Bool) → is_fact g f ≡ v → s ≡ rewritten s g (set_fact v f g)
    same v d = sym (ap (rewritten s g) (set_same v f g (read-buffer s g by e).0 o d) ∙ unchanged s g by e)

    -- it is as it is to be
    pub stays : (v adds : Bool) → At g k ≡ v → adds ≡ v → (no_place s g adds f ≡ false) × (v ≡ is_fact g f) × (s ≡ rewritten s g (set_fact adds f g))
    stays v adds d i =
        let h = is-there ∙ d in
        let t : is_fact g f ≡ adds = h ∙ sym i in
        (placed-if adds t, sym h, same adds t)

    pub goes : (adds : Bool) (t : List ℕ) → At g k ≡ true → adds ≡ false → k < length g.links → t ≡ buffer_removed s k g
        → (no_place s g adds f ≡ false) × (true ≡ is_fact g f) × (t ≡ rewritten s g (set_fact adds f g))
    unfolding no_place set_fact
    goes adds t d i w b =
        let h = is-there ∙ d in
        let m : set_fact false f g ≡ removed_at k g =
        ap (λ (z : List Link). record { names = g.names; links = z })
        (place-without (length g.names) few l (o.1, omega (arith, o.2, few)) nowhere g.links k (image-fits s g by e).0.rising p d) in
        let n : length (removed_at k g).links + 1 ≡ length g.links =
        length-links ∙ omega arith in
        let q : length (encode (removed_at k g)) + 5 ≡ length (encode g) = omega (arith, image-length g, image-length (removed_at k g)) in
        subst (λ (v : Bool). (no_place s g v f ≡ false) × (true ≡ is_fact g f) × (t ≡ rewritten s g (set_fact v f g))) (sym i)
        (refl, sym h, b ∙ shorter s g (removed_at k g) q ∙ ap (rewritten s g) (sym m))
      where
        length-links : length (removed_at k g).links + 1 ≡ length g.links
        length-links = omega (arith, length-append (take k g.links) (drop (suc k) g.links), length-take-le k g.links (omega arith), length-drop (suc k) g.links)

    pub comes : (adds : Bool) (t : List ℕ) → At g k ≡ false → adds ≡ true → length g.links < most_links
        → image_length (length g.names) (length g.links + 1) ≤ length s
        → t ≡ buffer_inserted s k l g
        → (no_place s g adds f ≡ false) × (false ≡ is_fact g f) × (t ≡ rewritten s g (set_fact adds f g))
    unfolding no_place set_fact
    comes adds t d i w room b =
        let h = is-there ∙ d in
        let m : set_fact true f g ≡ inserted_at k l g =
        ap (λ (z : List Link). record { names = g.names; links = z })
        (place-insert (length g.names) few l (o.1, omega (arith, o.2, few)) nowhere g.links k (image-fits s g by e).0.rising p d) in
        let n : length (inserted_at k l g).links ≡ length g.links + 1 =
        omega (arith, length-append (take k g.links) (l ∷ drop k g.links), length-take-le k g.links p.within, length-drop k g.links, p.within) in
        let q : length (encode (inserted_at k l g)) ≡ length (encode g) + 5 = omega (arith, image-length g, image-length (inserted_at k l g)) in
        let z : (leb most_links (length g.links) || ltb (length s) (length (encode g) + 5)) ≡ false =
        neither (leb most_links (length g.links)) (ltb (length s) (length (encode g) + 5)) (not-le most_links (length g.links) w)
        (not-below (length s) (length (encode g) + 5) (omega (arith, image-length g))) in
        subst (λ (v : Bool). (no_place s g v f ≡ false) × (false ≡ is_fact g f) × (t ≡ rewritten s g (set_fact v f g))) (sym i)
        (ap₂ (λ (x y : Bool). true && not x && y) h z, sym h, b ∙ longer s g (inserted_at k l g) q ∙ ap (rewritten s g) (sym m))

    no_room_lem : (leb most_links (length g.links) || ltb (length s) (length (encode g) + 5)) ≡ true → At g k ≡ false → no_place s g true f ≡ true
    unfolding no_place
    no_room_lem z d = ap₂ (λ (x y : Bool). true && not x && y) (is-there ∙ d) z

    pub full : (adds : Bool) → At g k ≡ false → adds ≡ true → most_links ≤ length g.links → (no_place s g adds f ≡ true) × (s ≡ s)
    full adds d i w =
        let z : (leb most_links (length g.links) || ltb (length s) (length (encode g) + 5)) ≡ true =
        ap (λ (x : Bool). x || ltb (length s) (length (encode g) + 5)) (at_most most_links (length g.links) w) in
        (ap (λ (v : Bool). no_place s g v f) i ∙ no_room_lem z d, refl)

    pub tight : (adds : Bool) → At g k ≡ false → adds ≡ true → length g.links < most_links
        → length s < image_length (length g.names) (length g.links + 1)
        → (no_place s g adds f ≡ true) × (s ≡ s)
    tight adds d i w room =
        let z : (leb most_links (length g.links) || ltb (length s) (length (encode g) + 5)) ≡ true =
        ap₂ ◌||◌ (not-le most_links (length g.links) w) (below (length s) (length (encode g) + 5) (omega (arith, image-length g))) in
        (ap (λ (v : Bool). no_place s g v f) i ∙ no_room_lem z d, refl)

-- ---- a name

pub renames : (s : List ℕ) (by : Bytes s) (item name there w : ℕ) (adds : Bool) (t : List ℕ) (g : Register) → read_buffer s ≡ good g → item < length g.names
    → there ≡ get_or g.names item 0 → w ≡ with_name adds name there → t ≡ lib.Seq.sets s (names_at item) (Rattle.meaning.specs.Bytes.bytes 8 w)
    → t ≡ rewritten s g (set_fact adds (name_on item name) g)
unfolding set_fact
renames s by item name there w adds t g e h d i b =
    b ∙ name-law s g by e item w h
    ∙ ap (λ (z : ℕ). rewritten s g (record { names = set g.names item z; links = g.links })) (i ∙ ap (with_name adds name) d)

pub name-was : (item name there : ℕ) (r : Bool) (g : Register) → there ≡ get_or g.names item 0 → r ≡ has there name → r ≡ is_fact g (name_on item name)
unfolding is_fact
name-was item name there r g d h = h ∙ ap (λ (z : ℕ). has z name) d

pub name-placed : (s : List ℕ) (g : Register) (v : Bool) (i k : ℕ) → no_place s g v (name_on i k) ≡ false
unfolding no_place
name-placed s g v i k = refl

-- ---- a link, as the code comes to it

-- its number, the place that the search found, and whether it stands there
pub record Looked (s : List ℕ) (a r c items links number k : ℕ) (there : Bool) : Type 0 where
  pub by : Bytes s
  pub asked : OfSize s items links
  pub from : a < items
  pub role : r ≤ most_role
  pub to : c < items
  pub numbered : number ≡ key (link a r c)
  pub place : Image s (λ g. PlaceOf g.links number k)
  pub stands : Image s (λ g. there ≡ (ltb k (length g.links) && eqb (key (link_no g k)) number))

-- the place that a search found, and whether the link stands there
abbrev pub place : Result ℕ ℕ → ℕ
place (Ok k) = k
place (Err k) = k

abbrev pub stands : Result ℕ ℕ → Bool
stands (Ok k) = true
stands (Err k) = false

stands-is : (ls : List Link) (number : ℕ) (found : Result ℕ ℕ) → Placed ls number found
    → PlaceOf ls number (place found) × (stands found ≡ (ltb (place found) (length ls) && eqb (key (get_or ls (place found) no_link)) number))
stands-is ls number (Ok k) p =
    (p.0, sym (ap₂ (λ (x y : Bool). x && y) (below k (length ls) p.1) (is_true (eqb (key (get_or ls k no_link)) number) (is-eqb p.2))))
stands-is ls number (Err k) p = (p.0, sym (none (dec_lt k (length ls))))
  where
    none : Dec (k < length ls) → (ltb k (length ls) && eqb (key (get_or ls k no_link)) number) ≡ false
    none (yes h) = ap₂ (λ (x y : Bool). x && y) (below k (length ls) h) (is_false (eqb (key (get_or ls k no_link)) number) (λ t. p.1 h (eqb→eq _ _ t)))
    none (no h) = ap (λ (x : Bool). x && eqb (key (get_or ls k no_link)) number) (not-below k (length ls) (omega arith))

pub looked : {s : List ℕ} {a r c items links number : ℕ} (found : Result ℕ ℕ) → Bytes s → OfSize s items links → (a < items) × (r ≤ most_role) × (c < items)
    → number ≡ key (link a r c) → Placed (held s).links number found → Looked s a r c items links number (place found) (stands found)
looked {s = s} {number = number} found by asked sound numbered placed = record {
  by = by;
  asked = asked;
  from = sound.0;
  role = sound.1;
  to = sound.2;
  numbered = numbered;
  place = held-said s (λ g. PlaceOf g.links number (place found)) (stands-is (held s).links number found placed).0;
  stands = held-said s (λ g. stands found ≡ (ltb (place found) (length g.links) && eqb (key (link_no g (place found))) number)) (stands-is (held s).links number found placed).1;
}

module _ {s : List ℕ} {a r c items links number k : ℕ} {there : Bool} (w : Looked s a r c items links number k there) where
  sound : (g : Register) → read_buffer s ≡ good g → Sound (length g.names) (link a r c)
  sound g e = let q = (asked_is w.asked g e).0 in (omega (arith, w.from), w.role, omega (arith, w.to))

  placed : (g : Register) → read_buffer s ≡ good g → PlaceOf g.links (key (link a r c)) k
  placed g e = subst (λ (z : ℕ). PlaceOf g.links z k) w.numbered (w.place g e)

  at : (g : Register) → read_buffer s ≡ good g → At s w.by a r c g k ≡ there
  at g e = sym (w.stands g e ∙ ap (λ (z : ℕ). ltb k (length g.links) && eqb (key (link_no g k)) z) w.numbered)

  pub stands-within : there ≡ true → k < links
  stands-within d =
      let g = w.asked.register in
      let t = and_both (ltb k (length g.links)) (eqb (key (link_no g k)) (key (link a r c))) (holds (at g w.asked.read ∙ d)) in
      omega (arith, ltb→lt k (length g.links) t.0, w.asked.holds.1)

  pub place-within : k ≤ links
  place-within = omega (arith, (placed w.asked.register w.asked.read).within, w.asked.holds.1)

  pub set-stays : {adds : Bool} (v : Bool) → there ≡ v → adds ≡ v → SettingOf s (link_of a r c) adds s (Some v)
  set-stays {adds} v d i g e = stays s w.by a r c g e (sound g e) k (placed g e) v adds (at g e ∙ d) i

  pub set-goes : {adds : Bool} {t : List ℕ} → there ≡ true → adds ≡ false → Image s (λ g. t ≡ buffer_removed s k g) → SettingOf s (link_of a r c) adds t (Some true)
  set-goes {adds} {t} d i b g e =
      goes s w.by a r c g e (sound g e) k (placed g e) adds t (at g e ∙ d) i (omega (arith, stands-within d, (asked_is w.asked g e).1)) (b g e)

  pub set_full : {adds : Bool} → there ≡ false → adds ≡ true → most_links ≤ links → SettingOf s (link_of a r c) adds s None
  set_full {adds} d i h g e = full s w.by a r c g e (sound g e) k (placed g e) adds (at g e ∙ d) i (omega (arith, (asked_is w.asked g e).1))

  pub set-tight : {adds : Bool} → there ≡ false → adds ≡ true → links < most_links → length s < image_length items (links + 1)
      → SettingOf s (link_of a r c) adds s None
  set-tight {adds} d i h room g e =
      let q = asked_is w.asked g e in
      tight s w.by a r c g e (sound g e) k (placed g e) adds (at g e ∙ d) i (omega (arith, q.1)) (omega (arith, q.0, q.1))

  pub set-comes : {adds : Bool} {t : List ℕ} → there ≡ false → adds ≡ true → links < most_links → image_length items (links + 1) ≤ length s
      → Image s (λ g. (l : Link) → number ≡ key l → Small l → t ≡ buffer_inserted s k l g) → SettingOf s (link_of a r c) adds t (Some false)
  set-comes {adds} {t} d i h room b g e =
      let q = asked_is w.asked g e in
      let end : c < 65536 = omega (arith, w.to, q.0, (image-fits s g w.by e).0.items) in
      comes s w.by a r c g e (sound g e) k (placed g e) adds t (at g e ∙ d) i (omega (arith, q.1)) (omega (arith, q.0, q.1))
      (b g e (link a r c) w.numbered (w.role, end))

-- ---- either fact

pub name_set : (s t : List ℕ) (f : Fact) (i k : ℕ) (v r : Bool) → f ≡ name_on i k → Image s (λ g. r ≡ is_fact g (name_on i k))
    → Image s (λ g. t ≡ rewritten s g (set_fact v (name_on i k) g)) → SettingOf s f v t (Some r)
name_set s t f i k v r e was buffer =
    subst (λ (z : Fact). SettingOf s z v t (Some r)) (sym e) (λ g d. (name-placed s g v i k, was g d, buffer g d))
