-- Laws of reading: what a good answer says of the steps before it, fields that fit, and numbers and bytes as they stand in a list.
-- Assumes nothing.
use mathlib.Core.Path.{◌≡◌, refl, sym, ap, ◌∙◌, subst}
use mathlib.Core.Bool.{Bool, true, false, not}
use mathlib.Core.List.{List, [], ◌∷◌, ◌++◌}
use Prim.Native.Nat.{ℕ, zero, suc, ◌+◌, ◌*◌, ◌-◌, ◌/◌, ◌%◌, ◌^◌, ◌≤◌, ◌<◌}
use native.Mathlib.Nat.{div-lt_iff_lt-mul, add-zero, zero-add, add_assoc, pow-suc, div-add-mod'}
use native.Mathlib.Decide.{dec_lt}
use native.Mathlib.Omega.{arith}
use lib.Dec.{lit≤, T, ltb, ltb→lt, lt→ltb, nltb→le, leb, leb→le, le→leb, nleb→lt, eqb, eqb→eq, eqb_refl}
use lib.ListN.{length, get_or, take, drop, length-append, length-take, length-drop}
use lib.ListN.{get_or-append}
use lib.Seq.{get_or-append-add, get_or-take, get_or-drop, ext_get_or}
use Rattle.meaning.specs.declared.Side.{Side}
use Rattle.meaning.specs.declared.Refusal.{Refusal}
use Rattle.meaning.specs.Refusal.{Answer, good, refused, refuse_if, ◌>>=◌, ◌>>◌}
use Rattle.meaning.specs.Bytes.{number, bytes, Bytes, fields, unequal, headed}
use Rattle.meaning.proofs.Tests.{is_true, is_false, of-not}

-- ---- steps

pub good-inj : {A : Type 0} {a b : A} → good a ≡ good b → a ≡ b
good-inj e = cc

pub not_good : {A : Type 0} {r : Refusal} {a : A} → refused r ≡ good a → ⊥
not_good e = let z : ◌≡◌ {A = ℕ} 0 1 = cc in omega arith

-- a test that does not hold is passed, and a good answer has passed it
pub pass : {B : Type 0} (b : Bool) (r : Refusal) (k : Answer B) → b ≡ false → (refuse_if b r >> k) ≡ k
unfolding refuse_if ◌>>◌
pass true r k e = let z : ◌≡◌ {A = ℕ} 0 1 = cc in absurd (omega arith)
pass false r k e = refl

pub passed : {B : Type 0} (b : Bool) (r : Refusal) (k : Answer B) {a : B} → (refuse_if b r >> k) ≡ good a → (b ≡ false) × (k ≡ good a)
unfolding refuse_if ◌>>◌
passed true r k e = absurd (not_good e)
passed false r k e = (refl, e)

-- a test that holds is the answer
pub stop : {B : Type 0} (b : Bool) (r : Refusal) (k : Answer B) → b ≡ true → (refuse_if b r >> k) ≡ refused r
unfolding refuse_if ◌>>◌
stop true r k e = refl
stop false r k e = let z : ◌≡◌ {A = ℕ} 0 1 = cc in absurd (omega arith)

-- and so is a step that was refused
pub stopped : {A B : Type 0} (e : Answer A) (k : A → Answer B) (r : Refusal) → e ≡ refused r → (e >>= k) ≡ refused r
unfolding ◌>>=◌
stopped (good x) k r p = let z : ◌≡◌ {A = ℕ} 0 1 = cc in absurd (omega arith)
stopped (refused q) k r p = cc

pub halted : {B : Type 0} (e : Answer (Unit {0})) (k : Answer B) (r : Refusal) → e ≡ refused r → (e >> k) ≡ refused r
unfolding ◌>>◌
halted (good x) k r p = let z : ◌≡◌ {A = ℕ} 0 1 = cc in absurd (omega arith)
halted (refused q) k r p = cc

-- a step that was good, and then what follows
pub took : {A B : Type 0} (e : Answer A) (k : A → Answer B) (a : A) → e ≡ good a → (e >>= k) ≡ k a
unfolding ◌>>=◌
took (good x) k a p = ap k (good-inj p)
took (refused r) k a p = absurd (not_good p)

pub taken : {A B : Type 0} (e : Answer A) (k : A → Answer B) {b : B} → (e >>= k) ≡ good b → (a : A) × (e ≡ good a) × (k a ≡ good b)
unfolding ◌>>=◌
taken (good x) k p = (x, refl, p)
taken (refused r) k p = absurd (not_good p)

pub went : {B : Type 0} (e : Answer (Unit {0})) (k : Answer B) → e ≡ good tt → (e >> k) ≡ k
unfolding ◌>>◌
went (good u) k p = refl
went (refused r) k p = absurd (not_good p)

pub gone : {B : Type 0} (e : Answer (Unit {0})) (k : Answer B) {b : B} → (e >> k) ≡ good b → (e ≡ good tt) × (k ≡ good b)
unfolding ◌>>◌
gone (good u) k p = (refl, p)
gone (refused r) k p = absurd (not_good p)

-- ---- tests of numbers

pub not-below : (m n : ℕ) → n ≤ m → ltb m n ≡ false
not-below m n h = is_false (ltb m n) (λ t. let l = ltb→lt m n t in omega arith)

pub below : (m n : ℕ) → m < n → ltb m n ≡ true
below m n h = is_true (ltb m n) (lt→ltb m n h)

pub at_most : (m n : ℕ) → m ≤ n → leb m n ≡ true
at_most m n h = is_true (leb m n) (le→leb m n h)

pub le-of-not-below : (m n : ℕ) → ltb m n ≡ false → n ≤ m
le-of-not-below m n e = nltb→le m n (subst (λ (b : Bool). T (not b)) (sym e) tt)

pub not-le : (m n : ℕ) → n < m → leb m n ≡ false
not-le m n h = is_false (leb m n) (λ t. let l = leb→le m n t in omega arith)

pub lt_of_not_le : (m n : ℕ) → leb m n ≡ false → n < m
lt_of_not_le m n e = nleb→lt m n (subst (λ (b : Bool). T (not b)) (sym e) tt)

pub not-not : (b : Bool) → T b → not b ≡ false
not-not true t = refl
not-not false t = absurd t

pub not-unequal : (m n : ℕ) → m ≡ n → unequal m n ≡ false
not-unequal m n e = ap not (is_true (eqb m n) (subst (λ (z : ℕ). T (eqb m z)) e (eqb_refl m)))

pub eq-of-unequal : (m n : ℕ) → unequal m n ≡ false → m ≡ n
eq-of-unequal m n e = eqb→eq m n (of-not (eqb m n) e)

-- ---- fields

abbrev pub total : List ℕ → ℕ
total [] = 0
total (w ∷ ws) = w + total ws

pub total-append : (xs ys : List ℕ) → total (xs ++ ys) ≡ total xs + total ys
total-append [] ys = omega arith
total-append (x ∷ xs) ys = omega (arith, total-append xs ys)

-- fields that fit are passed, and of a good answer the fields before it fitted
pub fields_fit : (side : Side) (end : ℕ) (ws : List ℕ) (p : ℕ) → p + total ws ≤ end → fields side end ws p ≡ good tt
unfolding fields
fields_fit side end [] p h = refl
fields_fit side end (w ∷ ws) p h = pass (ltb end (p + w)) _ _ (not-below end (p + w) (omega arith)) ∙ fields_fit side end ws (p + w) (omega arith)

fields-end : (side : Side) (end : ℕ) (ws : List ℕ) (p : ℕ) {u : Unit {0}} → p ≤ end → fields side end ws p ≡ good u → p + total ws ≤ end
unfolding fields
fields-end side end [] p h e = omega arith
fields-end side end (w ∷ ws) p h e =
    let q = passed (ltb end (p + w)) _ _ e in
    let l = le-of-not-below end (p + w) q.0 in
    omega (arith, fields-end side end ws (p + w) l q.1)

pub fields-fitted : {B : Type 0} (side : Side) (end w : ℕ) (ws : List ℕ) (p : ℕ) (k : Answer B) {a : B}
    → (fields side end (w ∷ ws) p >> k) ≡ good a → (p + total (w ∷ ws) ≤ end) × (k ≡ good a)
unfolding fields
fields-fitted side end w ws p k e =
    let q = gone (fields side end (w ∷ ws) p) k e in
    let h = passed (ltb end (p + w)) _ _ q.0 in
    let l = le-of-not-below end (p + w) h.0 in
    (omega (arith, fields-end side end ws (p + w) l h.1), q.1)

pub fitted : {B : Type 0} (side : Side) (end : ℕ) (ws : List ℕ) (p : ℕ) (k : Answer B) → p + total ws ≤ end → (fields side end ws p >> k) ≡ k
fitted side end ws p k h = went (fields side end ws p) k (fields_fit side end ws p h)

-- ---- bytes as they stand in a list

-- xs stands in s from place p on
unfoldable pub Stands : List ℕ → ℕ → List ℕ → Type 0
Stands s p xs = (i : ℕ) → i < length xs → get_or s (p + i) 0 ≡ get_or xs i 0

pub stands_self : (s : List ℕ) → Stands s 0 s
unfolding Stands
stands_self s i h = rw zero-add

-- a part of what stands, and two parts put together
pub stands-left : (s : List ℕ) (p : ℕ) (xs ys : List ℕ) → Stands s p (xs ++ ys) → Stands s p xs
unfolding Stands
stands-left s p xs ys h i l = h i (rw length-append (omega arith)) ∙ get_or-append xs ys 0 i l

pub stands-right : (s : List ℕ) (p : ℕ) (xs ys : List ℕ) → Stands s p (xs ++ ys) → Stands s (p + length xs) ys
unfolding Stands
stands-right s p xs ys h i l =
    rw (add_assoc p (length xs) i) (h (length xs + i) (rw length-append (omega arith)) ∙ get_or-append-add xs ys i 0)

pub stands-both : (s : List ℕ) (p : ℕ) (xs ys : List ℕ) → Stands s p xs → Stands s (p + length xs) ys → Stands s p (xs ++ ys)
unfolding Stands
stands-both s p xs ys h k i l = go (dec_lt i (length xs))
  where
    go : Dec (i < length xs) → get_or s (p + i) 0 ≡ get_or (xs ++ ys) i 0
    go (yes m) = h i m ∙ sym (get_or-append xs ys 0 i m)
    go (no m) =
        let e : i ≡ length xs + (i - length xs) = omega arith in
        let b : i - length xs < length ys = omega (arith, length-append xs ys) in
        ap (λ (z : ℕ). get_or s z 0) (omega arith) ∙ k (i - length xs) b ∙ sym (get_or-append-add xs ys (i - length xs) 0) ∙ ap (λ (z : ℕ). get_or (xs ++ ys) z 0) (sym e)

-- a list of as many elements that stands at the front is the list
pub stands-whole : (s xs : List ℕ) → Stands s 0 xs → length s ≡ length xs → s ≡ xs
unfolding Stands
stands-whole s xs h e = ext_get_or 0 s xs e (λ i l. ap (λ (z : ℕ). get_or s z 0) (sym (zero-add i)) ∙ h i (omega arith))

-- ---- numbers

pub bytes-length : (w n : ℕ) → length (bytes w n) ≡ w
unfolding bytes
bytes-length zero n = refl
bytes-length (suc w) n = length-append (bytes w (n / 256)) (n % 256 ∷ []) ∙ omega (arith, bytes-length w (n / 256))

-- the number in bytes that stand
pub number_of : (s : List ℕ) (p w n : ℕ) → n < 256 ^ w → Stands s p (bytes w n) → number s p w ≡ n
unfolding number bytes Stands
number_of s p zero n h k = omega arith
number_of s p (suc w) n h k =
    let d = div-add-mod' n 256 in
    let e = number_of s p w (n / 256) ((div-lt_iff_lt-mul {k = 256} (lit≤ tt)).1 (rw pow-suc at h)) (stands-left s p (bytes w (n / 256)) (n % 256 ∷ []) k) in
    let l = stands-right s p (bytes w (n / 256)) (n % 256 ∷ []) k 0 (omega arith) in
    let b : get_or s (p + w) 0 ≡ n % 256 = ap (λ (z : ℕ). get_or s z 0) (omega (arith, bytes-length w (n / 256))) ∙ l in
    rw (e, b) (omega arith)

-- and the bytes of the number that stands
stands_one : (s : List ℕ) (p q : ℕ) → p ≡ q → Stands s p (get_or s q 0 ∷ [])
unfolding Stands
stands_one s p q e zero l = rw (add-zero, e)
stands_one s p q e (suc i) l = absurd (omega arith)

pub bytes_of : (s : List ℕ) (p w : ℕ) → Bytes s → Stands s p (bytes w (number s p w))
unfolding number bytes Stands
bytes_of s p zero h = λ i l. absurd (omega arith)
bytes_of s p (suc w) h =
    let l = h (p + w) in
    let e : (number s p w * 256 + get_or s (p + w) 0) / 256 ≡ number s p w = omega arith in
    let r : (number s p w * 256 + get_or s (p + w) 0) % 256 ≡ get_or s (p + w) 0 = omega arith in
    rw (e, r) (stands-both s p (bytes w (number s p w)) (get_or s (p + w) 0 ∷ []) (bytes_of s p w h)
    (stands_one s (p + length (bytes w (number s p w))) (p + w) (omega (arith, bytes-length w (number s p w)))))

pub number-below : (s : List ℕ) (p w : ℕ) → Bytes s → number s p w < 256 ^ w
unfolding number
number-below s p zero h = omega arith
number-below s p (suc w) h = rw (pow-suc 256 w) (omega (arith, number-below s p w h, h (p + w)))

-- ---- numbers in few bytes, as code reads them

pub number-one : (s : List ℕ) (p : ℕ) → number s p 1 ≡ get_or s p 0
unfolding number
number-one s p = rw add-zero (omega arith)

pub number-two : (s : List ℕ) (p : ℕ) → number s p 2 ≡ get_or s p 0 * 256 + get_or s (p + 1) 0
unfolding number
number-two s p = rw add-zero (omega arith)

-- two bytes more
pub number_more : (s : List ℕ) (p w : ℕ) → number s p (suc (suc w)) ≡ number s p w * 65536 + number s (p + w) 2
unfolding number
number_more s p w =
    let e : get_or s (p + suc w) 0 ≡ get_or s (p + w + 1) 0 = ap (λ (z : ℕ). get_or s z 0) (omega arith) in
    let d : get_or s (p + w + 0) 0 ≡ get_or s (p + w) 0 = ap (λ (z : ℕ). get_or s z 0) (omega arith) in
    omega (arith, e, d)

pub number-eight : (s : List ℕ) (p : ℕ)
    → number s p 8 ≡ ((number s p 2 * 65536 + number s (p + 2) 2) * 65536 + number s (p + 4) 2) * 65536 + number s (p + 6) 2
number-eight s p = omega (arith, number_more s p 6, number_more s p 4, number_more s p 2)

-- ---- parts of what stands, at places that are given

pub stands-none : (s : List ℕ) (p : ℕ) → Stands s p []
unfolding Stands
stands-none s p i l = absurd (omega arith)

pub stands-split : (s : List ℕ) (p q : ℕ) (xs ys : List ℕ) → Stands s p (xs ++ ys) → p + length xs ≡ q → Stands s p xs × Stands s q ys
stands-split s p q xs ys h e = (stands-left s p xs ys h, rw e at (stands-right s p xs ys h))

pub stands-join : (s : List ℕ) (p q : ℕ) (xs ys : List ℕ) → Stands s p xs → Stands s q ys → p + length xs ≡ q → Stands s p (xs ++ ys)
stands-join s p q xs ys h k e = stands-both s p xs ys h (rw e k)

-- a single byte
pub byte_of : (s : List ℕ) (p x : ℕ) → Stands s p (x ∷ []) → number s p 1 ≡ x
unfolding number Stands
byte_of s p x h = omega (arith, h 0 (omega arith))

pub byte-stands : (s : List ℕ) (p x : ℕ) → number s p 1 ≡ x → Stands s p (x ∷ [])
unfolding number Stands
byte-stands s p x e zero l = omega arith
byte-stands s p x e (suc i) l = absurd (omega arith)

pub number-stands : (s : List ℕ) (p w n : ℕ) → Bytes s → number s p w ≡ n → Stands s p (bytes w n)
number-stands s p w n h e = subst (λ (z : ℕ). Stands s p (bytes w z)) e (bytes_of s p w h)

-- what stands is that part of the list
pub stands-taken : (s : List ℕ) (p : ℕ) (xs : List ℕ) → Stands s p xs → p + length xs ≤ length s → take (length xs) (drop p s) ≡ xs
unfolding Stands
stands-taken s p xs h l =
    let e : length (take (length xs) (drop p s)) ≡ length xs = simp (length-take, length-drop) (omega arith) in
    ext_get_or 0 _ xs e (λ i b. get_or-take (length xs) (drop p s) i 0 (omega arith) ∙ get_or-drop p s i 0 ∙ h i (omega arith))

-- ---- lists of bytes

pub none-bytes : Bytes []
none-bytes i = omega arith

pub cons-bytes : (x : ℕ) (xs : List ℕ) → x < 256 → Bytes xs → Bytes (x ∷ xs)
cons-bytes x xs h k zero = h
cons-bytes x xs h k (suc i) = k i

pub append-bytes : (xs ys : List ℕ) → Bytes xs → Bytes ys → Bytes (xs ++ ys)
append-bytes [] ys h k = k
append-bytes (x ∷ xs) ys h k = cons-bytes x (xs ++ ys) (h 0) (append-bytes xs ys (λ i. h (suc i)) k)

pub bytes-bytes : (w n : ℕ) → Bytes (bytes w n)
unfolding bytes
bytes-bytes zero n = none-bytes
bytes-bytes (suc w) n =
    append-bytes (bytes w (n / 256)) (n % 256 ∷ []) (bytes-bytes w (n / 256)) (cons-bytes (n % 256) [] (omega arith) none-bytes)

pub headed-bytes : (body : List ℕ) → Bytes body → Bytes (headed body)
unfolding headed
headed-bytes body h =
    append-bytes (1 ∷ bytes 2 (length body)) body (cons-bytes 1 (bytes 2 (length body)) (omega arith) (bytes-bytes 2 (length body))) h

-- ---- a step that is passed, and then the rest

pub then-test : {B : Type 0} (b : Bool) (r : Refusal) (k : Answer B) {c : Answer B} → b ≡ false → k ≡ c → (refuse_if b r >> k) ≡ c
then-test b r k e f = pass b r k e ∙ f

pub then-take : {A B : Type 0} (e : Answer A) (k : A → Answer B) (a : A) {c : Answer B} → e ≡ good a → k a ≡ c → (e >>= k) ≡ c
then-take e k a p f = took e k a p ∙ f

pub then_fit : {B : Type 0} (side : Side) (end : ℕ) (ws : List ℕ) (p : ℕ) (k : Answer B) {c : Answer B}
    → p + total ws ≤ end → k ≡ c → (fields side end ws p >> k) ≡ c
then_fit side end ws p k h f = fitted side end ws p k h ∙ f

-- of a good answer each step was passed: what follows from that
pub of_test : {B C : Type 0} (b : Bool) (r : Refusal) (k : Answer B) {a : B} → (refuse_if b r >> k) ≡ good a → (b ≡ false → k ≡ good a → C) → C
of_test b r k e f = let q = passed b r k e in f q.0 q.1

pub of-take : {A B C : Type 0} (e : Answer A) (k : A → Answer B) {b : B} → (e >>= k) ≡ good b → ((a : A) → e ≡ good a → k a ≡ good b → C) → C
of-take e k p f = let q = taken e k p in f q.0 q.1 q.2

pub of-fit : {B C : Type 0} (side : Side) (end w : ℕ) (ws : List ℕ) (p : ℕ) (k : Answer B) {a : B}
    → (fields side end (w ∷ ws) p >> k) ≡ good a → (p + total (w ∷ ws) ≤ end → k ≡ good a → C) → C
of-fit side end w ws p k e f = let q = fields-fitted side end w ws p k e in f q.0 q.1
