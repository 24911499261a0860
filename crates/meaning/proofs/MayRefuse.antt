-- No call gives a refusal that is not in its list (specs/MayRefuse.antt), and what it is to be in one.
-- Assumes nothing.
use mathlib.Core.Path.{◌≡◌, refl, sym, subst}
use mathlib.Core.Logic.{◌⊎◌, inl, inr}
use mathlib.Core.Bool.{Bool, true, false, cond}
use mathlib.Core.List.{List, [], ◌∷◌, Memᴰ}
use mathlib.Core.Option.{Option, some}
use Prim.Native.Nat.{ℕ, zero, suc, ◌+◌}
use lib.Dec.{T, eqb, eqb→eq}
use Rattle.meaning.specs.declared.Side.{Side}
use Rattle.meaning.specs.declared.Side.TheVariants.{Register as register, Requirement as requirement, Call as call}
use Rattle.meaning.specs.declared.Refusal.{Refusal}
use Rattle.meaning.specs.Refusal.{Answer, good, refused, at, on_call, refuse_if, ◌>>=◌, ◌>>◌}
use Rattle.meaning.specs.Bytes.{fields, read_head}
use Rattle.meaning.specs.Fraction.{fraction}
use Rattle.meaning.specs.FractionRows.{FractionRow, out_of_range, exceeds, shares}
use Rattle.meaning.specs.Register.{Link, Register, read_items, read_link, read_links, read_body, read_register_by, read_register}
use Rattle.meaning.specs.Tree.{Tree}
use Rattle.meaning.specs.Message.{Spot, Part, fault_at, read_children, read_node, no_thresholds, read_threshold, read_thresholds, with_thresholds, read_requirement}
use Rattle.meaning.specs.Lists.{Listed, Limit}
use Rattle.meaning.specs.Writing.{node_fits, nodes_fit, limit_fits, own_fit, lists_fit, write_call}
use Rattle.meaning.specs.Calls.{first_part, read_plain, asked_for, degree_call, margin_call, member_call}
use Rattle.meaning.specs.Table.{list_call}
use Rattle.meaning.specs.MayRefuse.{same_side, one_of, among, Gives, of_register, of_requirement, of_question, of_degree, of_margin, of_member, of_list, of_writing}
use Rattle.meaning.proofs.Tests.{and_both, or_cases, or_left, or_right}
use Rattle.meaning.proofs.Reading.{not_good}
use Rattle.meaning.proofs.Decided.{refused-inj}
use Rattle.meaning.proofs.FractionRows.{fraction-exactly}

-- ---- a refusal that is among others is of that side, and has one of those numbers

same-side : (s t : Side) → T (same_side s t) → s ≡ t
unfolding same_side
same-side register register h = refl
same-side register requirement h = absurd h
same-side register call h = absurd h
same-side requirement register h = absurd h
same-side requirement requirement h = refl
same-side requirement call h = absurd h
same-side call register h = absurd h
same-side call requirement h = absurd h
same-side call call h = refl

one-of : (n : ℕ) (ns : List ℕ) → T (one_of n ns) → Memᴰ n ns
unfolding one_of
one-of n [] h = absurd h
one-of n (m ∷ ms) h = go (or_cases (eqb n m) (one_of n ms) h) (one-of n ms)
  where
    go : T (eqb n m) ⊎ T (one_of n ms) → (T (one_of n ms) → Memᴰ n ms) → Memᴰ n (m ∷ ms)
    go (inl e) k = Memᴰ.head (eqb→eq n m e)
    go (inr t) k = Memᴰ.tail (k t)

pub among-is : (side : Side) (ns : List ℕ) (f : Refusal) → T (among side ns f) → (f.side ≡ side) × Memᴰ f.number ns
unfolding among
among-is side ns f h =
    let c = and_both (same_side f.side side) (one_of f.number ns) h in
    (same-side f.side side c.0, one-of f.number ns c.1)

-- ---- step after step

module _ (may : Refusal → Bool) where
  gives-good : {A : Type 0} (x : A) → Gives may (good x)
  gives-good x = record { only = λ f e. absurd (not_good (sym e)) }

  gives-refused : {A : Type 0} (r : Refusal) → T (may r) → Gives may {A = A} (refused r)
  gives-refused r t = record { only = λ f e. subst (λ (z : Refusal). T (may z)) (refused-inj e) t }

  gives-test : (b : Bool) (r : Refusal) → T (may r) → Gives may (refuse_if b r)
  unfolding refuse_if
  gives-test true r t = gives-refused r t
  gives-test false r t = gives-good tt

  gives_then : {B : Type 0} {b : Answer B} (a : Answer (Unit {0})) → Gives may a → Gives may b → Gives may (a >> b)
  unfolding ◌>>◌
  gives_then (good u) g h = h
  gives_then (refused r) g h = gives-refused r (g.only r refl)

  gives-next : {A B : Type 0} {k : A → Answer B} (a : Answer A) → Gives may a → ((x : A) → Gives may (k x)) → Gives may (a >>= k)
  unfolding ◌>>=◌
  gives-next (good x) g h = h x
  gives-next (refused r) g h = gives-refused r (g.only r refl)

  gives-fields : (side : Side) (end : ℕ) (ws : List ℕ) (p : ℕ) → ((z : ℕ) → T (may (at side 1 z))) → Gives may (fields side end ws p)
  unfolding fields
  gives-fields side end [] p t = gives-good tt
  gives-fields side end (w ∷ ws) p t = gives_then _ (gives-test _ _ (t p)) (gives-fields side end ws (p + w) t)

  gives_head : (side : Side) (wrong : ℕ → ℕ → Bool) (s : List ℕ) → T (may (at side 1 0)) → T (may (at side 2 0)) → T (may (at side 3 1))
      → Gives may (read_head side wrong s)
  unfolding read_head
  gives_head side wrong s a b c = gives_then _ (gives-test _ _ a) (gives_then _ (gives-test _ _ b) (gives_then _ (gives-test _ _ c) (gives-good _)))

  -- what is wrong with a fraction
  gives-fraction : (say : ℕ → Refusal) (p q : ℕ) → T (may (say 23)) → T (may (say 24)) → T (may (say 25)) → Gives may (fraction say p q)
  gives-fraction say p q a b c = record { only = λ f e. go f (((fraction-exactly p q say).refuses f).0 e) }
    where
      go : (f : Refusal) → FractionRow say p q f → T (may f)
      go f (out_of_range h e) = subst (λ (z : Refusal). T (may z)) (sym e) a
      go f (exceeds h l m e) = subst (λ (z : Refusal). T (may z)) (sym e) b
      go f (shares h l m k d g i e) = subst (λ (z : Refusal). T (may z)) (sym e) c

-- what may be in one way may be in a wider one
wider : {A : Type 0} {may might : Refusal → Bool} (a : Answer A) → ((f : Refusal) → T (may f) → T (might f)) → Gives may a → Gives might a
wider a w g = record { only = λ f e. w f (g.only f e) }

-- ---- reading a register

items_give : (s : List ℕ) (end k p : ℕ) → Gives of_register (read_items s end k p)
unfolding read_items among one_of same_side
items_give s end zero p = gives-good _ _
items_give s end (suc k) p = gives_then _ _ (gives-fields _ register end _ p (λ z. tt)) (gives-next _ _ (items_give s end k (p + 8)) (λ x. gives-good _ _))

link-gives : (s : List ℕ) (end n : ℕ) (before : Option Link) (p : ℕ) → Gives of_register (read_link s end n before p)
unfolding read_link among one_of same_side
link-gives s end n before p =
    gives_then _ _ (gives-fields _ register end _ p (λ z. tt)) (gives_then _ _ (gives-test _ _ _ tt)
    (gives_then _ _ (gives-test _ _ _ tt) (gives_then _ _ (gives-test _ _ _ tt) (gives_then _ _ (gives-test _ _ _ tt) (gives-good _ _)))))

links-give : (s : List ℕ) (end n k : ℕ) (before : Option Link) (p : ℕ) → Gives of_register (read_links s end n k before p)
unfolding read_links
links-give s end n zero before p = gives-good _ _
links-give s end n (suc k) before p =
    gives-next _ _ (link-gives s end n before p) (λ l. gives-next _ _ (links-give s end n k (some l) (p + 5)) (λ x. gives-good _ _))

pub register-gives : (wrong : ℕ → ℕ → Bool) (s : List ℕ) → Gives of_register (read_register_by wrong s)
unfolding read_register_by read_body among one_of same_side
register-gives wrong s =
    gives-next _ _ (gives_head _ register wrong s tt tt tt) (λ end.
    gives_then _ _ (gives-fields _ register end _ 3 (λ z. tt)) (gives_then _ _ (gives-test _ _ _ tt) (gives-next _ _ (items_give s end _ 5) (λ names.
    gives_then _ _ (gives-fields _ register end _ _ (λ z. tt)) (gives_then _ _ (gives-test _ _ _ tt) (gives-next _ _ (links-give s end _ _ _ _) (λ links.
    gives_then _ _ (gives-test _ _ _ tt) (gives-good _ _))))))))

-- ---- reading a requirement

module _ {L : Type 0} (label : Spot → Answer (L × Spot)) (s : List ℕ) (end : ℕ) (labels : (w : Spot) → Gives of_requirement (label w)) where
  children-give : (read_child : Spot → Answer (Tree L × Spot)) → ((w : Spot) → Gives of_requirement (read_child w)) → (k : ℕ) (w : Spot)
      → Gives of_requirement (read_children label s end read_child k w)
  unfolding read_children among one_of same_side
  children-give read_child h zero w = gives-good _ _
  children-give read_child h (suc k) w =
      gives_then _ _ (gives-fields _ requirement end _ _ (λ z. tt)) (gives_then _ _ (gives-test _ _ _ tt)
      (gives-next _ _ (h _) (λ x. gives-next _ _ (children-give read_child h k _) (λ y. gives-good _ _))))

  node-gives : (left : ℕ) (w : Spot) → Gives of_requirement (read_node label s end left w)
  unfolding read_node among one_of same_side
  node-gives zero w = gives_then _ _ (gives-fields _ requirement end _ _ (λ z. tt)) (gives-refused _ _ tt)
  node-gives (suc left) w =
      gives_then _ _ (gives-fields _ requirement end _ _ (λ z. tt)) (gives_then _ _ (gives-test _ _ _ tt)
      (gives-next _ _ (labels w) (λ x. gives-next _ _ (children-give (λ z. read_node label s end left z) (λ z. node-gives left z) _ _) (λ y. gives-good _ _))))

none-gives : (s : List ℕ) (w : Spot) → Gives of_requirement (no_thresholds s w)
unfolding no_thresholds among one_of same_side
none-gives s w = gives_then _ _ (gives-test _ _ _ tt) (gives-good _ _)

threshold-gives : (s : List ℕ) (end owner : ℕ) (w : Spot) → Gives of_requirement (read_threshold s end owner w)
unfolding read_threshold among one_of same_side
threshold-gives s end owner w =
    gives_then _ _ (gives-test _ _ _ tt) (gives_then _ _ (gives-fields _ requirement end _ _ (λ z. tt)) (gives_then _ _ (gives-test _ _ _ tt)
    (gives_then _ _ (gives-fraction _ (fault_at w.next) _ _ tt tt tt) (gives_then _ _ (gives-fields _ requirement end _ _ (λ z. tt)) (gives_then _ _ (gives-test _ _ _ tt)
    (gives-next _ _ (node-gives (no_thresholds s) s _ (none-gives s) _ _) (λ x.
    gives_then _ _ (gives-test _ _ _ tt) (gives_then _ _ (gives-test _ _ _ tt) (gives-good _ _)))))))))

thresholds-give : (s : List ℕ) (end owner k : ℕ) (w : Spot) → Gives of_requirement (read_thresholds s end owner k w)
unfolding read_thresholds
thresholds-give s end owner zero w = gives-good _ _
thresholds-give s end owner (suc k) w =
    gives-next _ _ (threshold-gives s end owner w) (λ x. gives-next _ _ (thresholds-give s end owner k _) (λ y. gives-good _ _))

with-gives : (s : List ℕ) (end : ℕ) (w : Spot) → Gives of_requirement (with_thresholds s end w)
unfolding with_thresholds
with-gives s end w = gives-next _ _ (thresholds-give s end _ _ _) (λ x. gives-good _ _)

pub requirement-gives : (s : List ℕ) → Gives of_requirement (read_requirement s)
unfolding read_requirement among one_of same_side
requirement-gives s =
    gives-next _ _ (gives_head _ requirement _ s tt tt tt) (λ end.
    gives-next _ _ (node-gives (with_thresholds s end) s end (with-gives s end) _ _) (λ x. gives_then _ _ (gives-test _ _ _ tt) (gives-good _ _)))

plain-gives : (s : List ℕ) → Gives of_requirement (read_plain s)
unfolding read_plain among one_of same_side
plain-gives s = gives-next _ _ (requirement-gives s) (λ x. gives_then _ _ (first x.1) (gives_then _ _ (gives-test _ _ _ tt) (gives-good _ _)))
  where
    first : (ps : List Part) → Gives of_requirement (first_part ps)
    first [] = gives-good _ _
    first (p ∷ ps) = gives-refused _ _ tt

-- ---- the calls

-- a register is read, then a requirement, and then what is asked
asks : {X C : Type 0} (ns image : List ℕ) (r : Answer X) {next : Register → X → Answer C} → Gives of_requirement r
    → ((g : Register) (x : X) → Gives (of_question ns) (next g x)) → Gives (of_question ns) (read_register image >>= λ g. (r >>= λ x. next g x))
unfolding of_question
asks ns image r h k =
    gives-next (of_question ns) _ (wider _ (λ f t. or_left (of_register f) _ t) (register-gives _ image)) (λ g.
    gives-next (of_question ns) r (wider r (λ f t. or_right (of_register f) _ (or_left (of_requirement f) _ t)) h) (k g))

asked-gives : (may : Refusal → Bool) (g : Register) (item : ℕ) → T (may (on_call 15)) → T (may (on_call 26)) → Gives may (asked_for g item)
unfolding asked_for
asked-gives may g item a b = gives_then may _ (gives-test may _ _ a) (gives-test may _ _ b)

pub degree-gives : (image message : List ℕ) (item room : ℕ) → Gives of_degree (degree_call image message item room)
unfolding degree_call of_question among one_of same_side
degree-gives image message item room =
    asks (15 ∷ 26 ∷ 16 ∷ []) image (read_plain message) (plain-gives message) (λ g t. gives_then _ _ (asked-gives _ g item tt tt) (gives_then _ _ (gives-test _ _ _ tt) (gives-good _ _)))

pub list-gives : (image message : List ℕ) (room : ℕ) → Gives of_list (list_call image message room)
unfolding list_call of_question among one_of same_side
list-gives image message room =
    asks (16 ∷ []) image (read_plain message) (plain-gives message) (λ g t. gives_then _ _ (gives-test _ _ _ tt) (gives-good _ _))

-- 13 is none of the margin's own numbers
pub margin-gives : (image message : List ℕ) (item p q : ℕ) → Gives of_margin (margin_call image message item p q)
unfolding margin_call of_question among one_of same_side
margin-gives image message item p q =
    asks (15 ∷ 26 ∷ 23 ∷ 24 ∷ 25 ∷ []) image (read_plain message) (plain-gives message) (λ g t.
    gives_then _ _ (asked-gives _ g item tt tt) (gives_then _ _ (gives-fraction _ on_call p q tt tt tt) (gives-good _ _)))

pub member-gives : (image message : List ℕ) (item room : ℕ) → Gives of_member (member_call image message item room)
unfolding member_call of_question among one_of same_side
member-gives image message item room =
    asks (15 ∷ 26 ∷ 16 ∷ []) image (read_requirement message) (requirement-gives message) (λ g x.
    gives_then _ _ (asked-gives _ g item tt tt) (gives_then _ _ (gives-test _ _ _ tt) (gives-good _ _)))

-- ---- writing

node-fits : (i : ℕ) (x : Listed ℕ) → Gives of_writing (node_fits i x)
unfolding node_fits among one_of same_side
node-fits i x = gives_then _ _ (gives-test _ _ _ tt) (gives_then _ _ (gives-test _ _ _ tt) (gives-test _ _ _ tt))

nodes-fit : (i : ℕ) (xs : List (Listed ℕ)) → Gives of_writing (nodes_fit i xs)
unfolding nodes_fit
nodes-fit i [] = gives-good _ _
nodes-fit i (x ∷ xs) = gives_then _ _ (node-fits i x) (nodes-fit (suc i) xs)

limit-fits : (k : ℕ) (h : Limit) → Gives of_writing (limit_fits k h)
unfolding limit_fits among one_of same_side
limit-fits k h =
    gives_then _ _ (gives-test _ _ _ tt) (gives_then _ _ (gives-test _ _ _ tt) (gives_then _ _ (gives-fraction _ on_call h.p h.q tt tt tt)
    (gives_then _ _ (nodes-fit 0 h.inner) (gives-test _ _ _ tt))))

own-fit : (i k : ℕ) (hs : List Limit) → Gives of_writing (own_fit i k hs)
unfolding own_fit
own-fit i k [] = gives-good _ _
own-fit i k (h ∷ hs) = gives_then _ _ (one (eqb h.owner i)) (own-fit i (suc k) hs)
  where
    one : (b : Bool) → Gives of_writing (cond b (limit_fits k h) (good tt))
    one true = limit-fits k h
    one false = gives-good _ _

lists-fit : (i : ℕ) (xs : List (Listed ℕ)) (hs : List Limit) → Gives of_writing (lists_fit i xs hs)
unfolding lists_fit
lists-fit i [] hs = gives-good _ _
lists-fit i (x ∷ xs) hs = gives_then _ _ (node-fits i x) (gives_then _ _ (own-fit i 0 hs) (lists-fit (suc i) xs hs))

pub write-gives : (nodes hs inner : List ℕ) (room : ℕ) → Gives of_writing (write_call nodes hs inner room)
unfolding write_call among one_of same_side
write-gives nodes hs inner room =
    gives_then _ _ (gives-test _ _ _ tt) (gives_then _ _ (lists-fit 0 _ _) (gives_then _ _ (gives-test _ _ _ tt) (gives-good _ _)))
