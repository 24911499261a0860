-- Every bound of document 01 from both sides: at the bound an input is taken, one above it is refused with its number and place. One table (`bounds`).
-- The largest image (24,583 bytes) and the longest message (12,066 bytes) are reached.
-- Small inputs are computed; large registers and the longest message are built by functions, and laws say what they are.
-- Assumes nothing.
use mathlib.Core.Path.{◌≡◌, refl, sym, ap, ◌∙◌, subst}
use mathlib.Core.Bool.{Bool, true, false, ◌&&◌, cond}
use mathlib.Core.List.{List, [], ◌∷◌, ◌++◌}
use mathlib.Core.Option.{Option, some}
use mathlib.Core.Option.{none as nowhere}
use Prim.Native.Nat.{ℕ, zero, suc, ◌+◌, ◌*◌, ◌≤◌, ◌<◌}
use native.Mathlib.Omega.{arith}
use lib.Count.{ones}
use lib.Dec.{T, ltb, leb, eqb, eqb_refl, ltb→lt, lt→ltb, le→leb}
use lib.ListN.{length, length-append}
use Rattle.meaning.specs.declared.Side.TheVariants.{Register as register, Requirement as requirement, Call as call}
use Rattle.meaning.specs.Refusal.{Answer, good, refused, at, refuse_if, ◌>>=◌, ◌>>◌}
use Rattle.meaning.specs.Bytes.{number, bytes, fields, read_head, headed}
use Rattle.meaning.specs.Names.{is_set}
use Rattle.meaning.specs.Tree.{node, Forest, none, more, Concept, count, under, nodes, levels, levels_f, nodes_f, each, each_f, written, written_f, relabel}
use Rattle.meaning.specs.Fraction.{◌÷◌, gcd, gcd_in, lowest, wrong_with, lawful, at_least}
use Rattle.meaning.specs.Register.{Link, Register, rises, above, all_sets, links_of, well_formed, read_register}
use Rattle.meaning.specs.Register.{encode as image, items_bytes, links_bytes, targets, except, read_items, read_link, read_links, read_body, read_register_by}
use Rattle.meaning.specs.Whole.{any, meets_by}
use Rattle.meaning.specs.Reduce.{dropped, kept_of, reduce, size, scale}
use Rattle.meaning.specs.Degree.{best, degree}
use Rattle.meaning.specs.Requirement.{Threshold, Label, Requirement, every, plain}
use Rattle.meaning.specs.Message.{bounded, sound_inner, sound_threshold, sound_label, joined, thresholds_of, sound, concept_bytes, node_bytes, threshold_bytes, thresholds_bytes}
use Rattle.meaning.specs.Message.{read_children, read_node, no_thresholds, read_threshold, read_thresholds, with_thresholds, requirement_bytes, read_requirement}
use Rattle.meaning.specs.Message.{encode as message}
use Rattle.meaning.specs.Bounds.{most_items, most_links, most_thresholds}
use Rattle.meaning.specs.Session.{link}
use Rattle.meaning.specs.Calls.{asked_for, read_plain, margin_call}
use Rattle.meaning.specs.Sheet.{R1, Q1, all_true}
use Rattle.meaning.proofs.Tests.{both-and, or_left, or_right, holds}
use Rattle.meaning.proofs.Reading.{total, le-of-not-below}
use Rattle.meaning.proofs.Head.{headed-length}
use Rattle.meaning.proofs.Image.{wrote, well, image-length, image-read, items_above, links-above}
use Rattle.meaning.proofs.MessageTree.{owned, tree-length}
use Rattle.meaning.proofs.MessageLabel.{bounded-close, concept-length, threshold-length, outer_kind}
use Rattle.meaning.proofs.Message.{parts_in, read-encode}
use Rattle.meaning.proofs.Orders.{same_side, is, link_bytes, one_item, root, asked, repeat, empty, chain, fan}

-- ---- registers of n items without names, with m links: each item has 8 in turn

unfoldable pub blanks : ℕ → List ℕ
blanks zero = []
blanks (suc n) = 0 ∷ blanks n

blanks-length : (n : ℕ) → length (blanks n) ≡ n
unfolding blanks
blanks-length zero = refl
blanks-length (suc n) = ap suc (blanks-length n)

blanks-sets : (n : ℕ) → T (all_sets (blanks n))
unfolding blanks all_sets
blanks-sets zero = tt
blanks-sets (suc n) = blanks-sets n

-- m links, the first from item i to item j
unfoldable pub eights : ℕ → ℕ → ℕ → List Link
eights zero i j = []
eights (suc m) i j = link i 0 j ∷ eights m (cond (ltb j 7) i (suc i)) (cond (ltb j 7) (suc j) 0)

eights-length : (m i j : ℕ) → length (eights m i j) ≡ m
unfolding eights
eights-length zero i j = refl
eights-length (suc m) i j = ap suc (eights-length m _ _)

eights-rise : (n m i j : ℕ) (before : Option Link) → 8 ≤ n → j ≤ 7 → 8 * i + j + m ≤ 8 * n → T (above before (link i 0 j)) → T (links_of n before (eights m i j))
unfolding eights links_of
eights-rise n zero i j before w l h a = tt
eights-rise n (suc m) i j before w l h a =
    wrote n before (link i 0 j) (eights m (cond (ltb j 7) i (suc i)) (cond (ltb j 7) (suc j) 0))
    (record { from = omega arith; role = omega arith; to = omega arith; rises = a })
    (go (ltb j 7) refl (λ i' j'. eights-rise n m i' j' (some (link i 0 j)) w))
  where
    go : (b : Bool) → ltb j 7 ≡ b
        → ((i' j' : ℕ) → j' ≤ 7 → 8 * i' + j' + m ≤ 8 * n → T (rises (link i 0 j) (link i' 0 j')) → T (links_of n (some (link i 0 j)) (eights m i' j')))
        → T (links_of n (some (link i 0 j)) (eights m (cond b i (suc i)) (cond b (suc j) 0)))
    go true e rec =
        rec i (suc j) (ltb→lt j 7 (holds e)) (omega arith) (or_right (ltb i i) _ (both-and (eqb i i) (ltb j (suc j)) (eqb_refl i) (lt→ltb j (suc j) (omega arith))))
    go false e rec = let k = le-of-not-below j 7 e in rec (suc i) 0 (omega arith) (omega arith) (or_left (ltb i (suc i)) _ (lt→ltb i (suc i) (omega arith)))

pub bulk : ℕ → ℕ → Register
bulk n m = record { names = blanks n; links = eights m 0 0 }

bulk-well : (n m : ℕ) → 8 ≤ n → n ≤ most_items → m ≤ most_links → m ≤ 8 * n → T (well_formed (bulk n m))
unfolding bulk
bulk-well n m a b c d =
    let e = blanks-length n in
    let f = eights-length m 0 0 in
    well (bulk n m) (record {
      some' = omega arith;
      items = omega arith;
      sets = blanks-sets n;
      few = omega arith;
      rising = subst (λ (z : ℕ). T (links_of z nowhere (eights m 0 0))) (sym e) (eights-rise n m 0 0 nowhere a (omega arith) (omega arith) tt);
    })

bulk-length : (n m : ℕ) → length (image (bulk n m)) ≡ 7 + 8 * n + 5 * m
unfolding bulk
bulk-length n m = image-length (bulk n m) ∙ omega (arith, blanks-length n, eights-length m 0 0)

many-items : (n : ℕ) → most_items < n → 7 + 8 * n < 65536 → read_register (image (bulk n 0)) ≡ refused (at register 4 3)
unfolding bulk
many-items n h l = items_above (bulk n 0) (omega (arith, bulk-length n 0)) (omega (arith, blanks-length n))

many-links : (m : ℕ) → most_links < m → 4103 + 5 * m < 65536 → read_register (image (bulk 512 m)) ≡ refused (at register 4 4101)
unfolding bulk
many-links m h l =
    let e = blanks-length 512 in
    links-above (bulk 512 m) (omega (arith, bulk-length 512 m)) (omega arith) (omega arith) (blanks-sets 512) (omega (arith, eights-length m 0 0))
    ∙ ap (λ (k : ℕ). refused (at register 4 (5 + 8 * k))) e

-- ---- the longest message: 64 nodes, and 16 thresholds of 64 nodes each

-- k children under role 0, all alike and without children
unfoldable pub twins : {L : Type 0} → L → ℕ → Forest L
twins a zero = none
twins a (suc k) = more 0 (node a none) (twins a k)

twins-nodes : {L : Type 0} (a : L) (k : ℕ) → nodes_f (twins a k) ≡ k
unfolding twins nodes
twins-nodes a zero = refl
twins-nodes a (suc k) = omega (arith, twins-nodes a k)

twins-levels : {L : Type 0} (a : L) (k : ℕ) → levels_f (twins a k) ≤ 1
unfolding twins levels
twins-levels a zero = omega arith
twins-levels a (suc k) = omega (arith, twins-levels a k)

twins-each : {L : Type 0} (ok : L → Bool) (a : L) (k : ℕ) → T (ok a) → T (each_f ok (twins a k))
unfolding twins each
twins-each ok a zero t = tt
twins-each ok a (suc k) t = both-and (ok a && true) (each_f ok (twins a k)) (both-and (ok a) true t tt) (twins-each ok a k t)

-- a root with k such children is within the bounds of a tree
twins-bounded : {L : Type 0} (ok : L → Bool) (r a : L) → T (ok r) → T (ok a) → T (bounded ok (node r (twins a 63)))
unfolding each levels nodes
twins-bounded ok r a t u =
    bounded-close ok (node r (twins a 63)) (both-and (ok r) (each_f ok (twins a 63)) t (twins-each ok a 63 u))
    (omega (arith, twins-levels a 63)) (omega (arith, twins-nodes a 63))

-- 63 of its 64 nodes are alike, so its reduced size is 1
pub inner : Concept
inner = node 0 (twins 0 63)

inner-small : T (leb (size (reduce inner)) 60)
unfolding inner twins reduce kept_of dropped size any meets_by under count ones
inner-small = tt

inner-sound : T (sound_inner inner)
unfolding inner
inner-sound = both-and (bounded is_set inner) (leb (size (reduce inner)) 60) (twins-bounded is_set 0 0 tt tt) inner-small

inner-length : length (concept_bytes inner) ≡ 703
unfolding inner nodes
inner-length = omega (arith, concept-length inner, twins-nodes {L = ℕ} 0 63)

pub one : Threshold
one = record { how = at_least; limit = 1 ÷ 1; inner = inner }

one-sound : T (sound_threshold one)
unfolding one wrong_with gcd gcd_in
one-sound = both-and (lawful 1 1) (sound_inner inner) tt inner-sound

unfoldable pub alike : ℕ → List Threshold
alike zero = []
alike (suc n) = one ∷ alike n

alike-sound : (n : ℕ) → T (every sound_threshold (alike n))
unfolding alike every
alike-sound zero = tt
alike-sound (suc n) = both-and (sound_threshold one) (every sound_threshold (alike n)) one-sound (alike-sound n)

alike-many : (n : ℕ) → length (alike n) ≡ n
unfolding alike
alike-many zero = refl
alike-many (suc n) = ap suc (alike-many n)

alike-length : (n : ℕ) → length (thresholds_bytes (alike n)) ≡ 710 * n
unfolding alike thresholds_bytes one
alike-length zero = refl
alike-length (suc n) =
    length-append (threshold_bytes one) (thresholds_bytes (alike n)) ∙ omega (arith, threshold-length one, inner-length, alike-length n)

pub plain_label : Label
plain_label = record { names = 0; thresholds = [] }

pub full_label : Label
full_label = record { names = 0; thresholds = alike 16 }

pub longest : Requirement
longest = node full_label (twins plain_label 63)

none-joined : (k : ℕ) → joined (written_f (twins plain_label k)) ≡ []
unfolding joined written twins plain_label
none-joined zero = refl
none-joined (suc k) = none-joined k

none_owned : (k : ℕ) → total (owned outer_kind (written_f (twins plain_label k))) ≡ 0
unfolding written twins plain_label thresholds_bytes
none_owned zero = refl
none_owned (suc k) = omega (arith, none_owned k)

longest-sound : T (sound longest)
unfolding sound longest full_label plain_label joined written every
longest-sound =
    let e : length (thresholds_of longest) ≡ 16 =
    length-append (alike 16) (joined (written_f (twins plain_label 63))) ∙ omega (arith, alike-many 16, ap length (none-joined 63)) in
    both-and (bounded sound_label longest) (leb (length (thresholds_of longest)) most_thresholds)
    (twins-bounded sound_label full_label plain_label (both-and (is_set 0) (every sound_threshold (alike 16)) tt (alike-sound 16)) tt)
    (le→leb (length (thresholds_of longest)) most_thresholds (omega arith))

longest-length : length (message longest) ≡ 12066
unfolding message longest full_label written nodes
longest-length =
    headed-length (requirement_bytes longest)
    ∙ omega (arith, tree-length outer_kind longest, twins-nodes plain_label 63, alike-length 16, none_owned 63)

-- ---- small inputs

accepted : {A : Type 0} → Answer A → Bool
accepted (good a) = true
accepted (refused r) = false

-- a threshold ≥ p/q of an empty concept
limit : ℕ → ℕ → List ℕ
limit p q = 3 ∷ bytes 2 p ++ bytes 2 q ++ bytes 2 10 ++ empty

-- 30 children of one name each, and so many names at the root: size 60 and the names
sized : ℕ → Concept
sized a = node a (fan 30)

-- a root with k empty children
broom : ℕ → List ℕ
broom k = bytes 8 0 ++ (0 ∷ k ∷ []) ++ repeat k (0 ∷ empty)

pub rows : List Bool
unfolding is root asked repeat empty chain fan one_item link_bytes accepted limit sized broom
rows =
    -- 1 item and none
    accepted (read_register (one_item 0 []))
    ∷ is register 4 3 (read_register (headed (bytes 2 0 ++ bytes 2 0)))
    -- depth 16 and 17
    ∷ accepted (read_requirement (headed (chain 16)))
    ∷ is requirement 9 190 (read_requirement (headed (chain 17)))
    ∷ accepted (read_requirement (root 1 0 (asked (chain 16))))
    ∷ is requirement 9 207 (read_requirement (root 1 0 (asked (chain 17))))
    -- 64 nodes and 65
    ∷ accepted (read_requirement (headed (broom 63)))
    ∷ is requirement 10 707 (read_requirement (headed (broom 64)))
    ∷ accepted (read_requirement (root 1 0 (asked (broom 63))))
    ∷ is requirement 10 724 (read_requirement (root 1 0 (asked (broom 64))))
    -- 16 thresholds and 17
    ∷ accepted (read_requirement (root 16 0 (repeat 16 (asked empty))))
    ∷ is requirement 12 285 (read_requirement (root 17 0 (repeat 17 (asked empty))))
    -- size 60 and 61, of an inner concept and of a plain requirement
    ∷ accepted (read_requirement (root 1 0 (asked (concept_bytes (sized 0)))))
    ∷ is requirement 14 20 (read_requirement (root 1 0 (asked (concept_bytes (sized 1)))))
    ∷ accepted (read_plain (message (plain (sized 0))))
    ∷ is requirement 14 3 (read_plain (message (plain (sized 1))))
    -- q 1,000 and 1,001, in a threshold and of a margin; q 1 and 0; p as great as q and greater
    ∷ accepted (read_requirement (root 1 0 (limit 1 1000)))
    ∷ is requirement 23 16 (read_requirement (root 1 0 (limit 1 1001)))
    ∷ accepted (margin_call R1 Q1 0 1 1000)
    ∷ is call 23 0 (margin_call R1 Q1 0 1 1001)
    ∷ accepted (margin_call R1 Q1 0 0 1)
    ∷ is call 23 0 (margin_call R1 Q1 0 1 0)
    ∷ accepted (margin_call R1 Q1 0 1 1)
    ∷ is call 24 0 (margin_call R1 Q1 0 2 1)
    -- role 31 and 32, of an edge and of a link
    ∷ accepted (read_requirement (root 0 1 (31 ∷ empty)))
    ∷ is requirement 7 13 (read_requirement (root 0 1 (32 ∷ empty)))
    ∷ accepted (read_register (one_item 1 (link_bytes 0 31 0)))
    ∷ is register 7 17 (read_register (one_item 1 (link_bytes 0 32 0)))
    ∷ []

small : T (all_true rows)
unfolding
    rows is same_side root asked repeat empty chain fan one_item link_bytes accepted limit sized broom R1 Q1 all_true
    asked_for margin_call read_plain read_requirement read_register_by read_body read_items read_link read_links read_head number bytes fields headed
    image message node_bytes thresholds_bytes items_bytes links_bytes read_node read_children no_thresholds read_threshold read_thresholds with_thresholds
    degree best lowest gcd gcd_in wrong_with reduce kept_of dropped size scale meets_by any every targets except count under nodes relabel ones refuse_if ◌>>=◌ ◌>>◌
small = tt

-- ---- the table

pub record Bounds : Type 0 where
  -- "the item count (2 bytes, 1 to 512)"; "the link count (2 bytes, 0 to 4,096)": 512 items and 513, 4,096 links and 4,097
  pub items : read_register (image (bulk 512 0)) ≡ good (bulk 512 0)
  pub items-most : read_register (image (bulk 513 0)) ≡ refused (at register 4 3)
  pub links : read_register (image (bulk 512 4096)) ≡ good (bulk 512 4096)
  pub links-most : read_register (image (bulk 512 4097)) ≡ refused (at register 4 4101)
  -- "Largest image: 24,583 bytes."
  pub largest : length (image (bulk 512 4096)) ≡ 24583
  -- "Longest message: 12,066 bytes.": with 64 nodes and 16 thresholds, each of 64 nodes
  pub taken : read_requirement (message longest) ≡ good (longest, parts_in longest)
  pub longest-is : length (message longest) ≡ 12066
  -- depth, nodes, thresholds, size, q, role
  pub others : T (all_true rows)

pub bounds : Bounds
bounds = record {
  items = image-read (bulk 512 0) (bulk-well 512 0 (omega arith) (omega arith) (omega arith) (omega arith));
  items-most = many-items 513 (omega arith) (omega arith);
  links = image-read (bulk 512 4096) (bulk-well 512 4096 (omega arith) (omega arith) (omega arith) (omega arith));
  links-most = many-links 4097 (omega arith) (omega arith);
  largest = bulk-length 512 4096;
  taken = read-encode longest longest-sound;
  longest-is = longest-length;
  others = small;
}
