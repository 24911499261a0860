-- The writing call is refused exactly when a row of its table holds, with that row's number, and good exactly when none does.
-- Assumes nothing.
use mathlib.Core.Path.{◌≡◌, refl}
use mathlib.Core.Logic.{◌⊎◌, inl, inr}
use mathlib.Core.Bool.{Bool, true, false, not, ◌&&◌, cond}
use mathlib.Core.List.{List, [], ◌∷◌}
use Prim.Native.Nat.{ℕ, suc, ◌≤◌, ◌<◌}
use native.Mathlib.Omega.{arith}
use native.Mathlib.Decide.{dec_lt, ℕ_discrete}
use lib.Dec.{ltb, leb, eqb}
use lib.ListN.{length}
use Rattle.meaning.specs.declared.Refusal.{Refusal}
use Rattle.meaning.specs.Refusal.{good, on_call, refuse_if, Exactly}
use Rattle.meaning.specs.Fraction.{fraction}
use Rattle.meaning.specs.FractionRows.{FractionTakes, FractionRow}
use Rattle.meaning.specs.Reduce.{reduce, size}
use Rattle.meaning.specs.Message.{encode}
use Rattle.meaning.specs.Lists.{Listed, Limit, form, concept, said}
use Rattle.meaning.specs.Writing.{node_fits, nodes_fit, limit_fits, own_fit, lists_fit, lists_in, whole, write_call}
use Rattle.meaning.specs.WriteRows.{NodeTakes, NodeRow, role_above, too_deep, too_many, NodesTake, NodesRow, LimitTakes, LimitRow, seventeenth, no_comparison}
use Rattle.meaning.specs.WriteRows.{no_fraction, bad_inner, too_large, OwnTake, OwnRow, ListsTake, ListsRow, WriteTakes, WriteRow, no_lists, unread, short}
use Rattle.meaning.proofs.Reading.{not-below, below, at_most, not-le}
use Rattle.meaning.proofs.Decided.{Decided, exactly, last, next, same_rows, none-tested, less-decided, swapped}
use Rattle.meaning.proofs.FractionRows.{fraction-decided}
use Rattle.meaning.proofs.Lists.{same, other}
use Rattle.meaning.proofs.ListsFit.{test-role}

-- ---- a node

role-decided : (i : ℕ) (x : Listed ℕ) → (0 < i → x.role ≤ 31) ⊎ ((0 < i) × (31 < x.role))
role-decided i x = go (dec_lt 31 x.role) (dec_lt 0 i)
  where
    go : Dec (31 < x.role) → Dec (0 < i) → (0 < i → x.role ≤ 31) ⊎ ((0 < i) × (31 < x.role))
    go (yes r) (yes l) = inr (l, r)
    go (no n) d = inl (λ l. omega (arith, n))
    go (yes r) (no n) = inl (λ l. absurd (n l))

node-decided : (i : ℕ) (x : Listed ℕ) → Decided (node_fits i x) (NodeRow i x) (NodeTakes i x)
unfolding node_fits
node-decided i x =
    same_rows (next role (next depth many)) to from
    (λ u. record { role = u.0; depth = u.1.0; many = u.1.1 }) (λ u. (u.role, (u.depth, u.many)))
  where
    role : Decided (refuse_if (ltb 0 i && ltb 31 x.role) (on_call 7)) (λ f. ((0 < i) × (31 < x.role)) × (f ≡ on_call 7)) (0 < i → x.role ≤ 31)
    role = last (ltb 0 i && ltb 31 x.role) (on_call 7) (λ r. rw (below 0 i r.0, below 31 x.role r.1) refl) (test-role i x.role) (role-decided i x)

    depth : Decided (refuse_if (leb 17 x.depth) (on_call 9)) (λ f. (16 < x.depth) × (f ≡ on_call 9)) (x.depth ≤ 16)
    depth = last (leb 17 x.depth) (on_call 9) (λ r. at_most 17 x.depth (omega (arith, r))) (λ r. not-le 17 x.depth (omega (arith, r))) (swapped (less-decided 16 x.depth))

    many : Decided (refuse_if (leb 64 i) (on_call 10)) (λ f. (64 ≤ i) × (f ≡ on_call 10)) (i < 64)
    many = last (leb 64 i) (on_call 10) (at_most 64 i) (not-le 64 i) (less-decided i 64)

    to : (f : Refusal) → (((0 < i) × (31 < x.role)) × (f ≡ on_call 7))
        ⊎ ((0 < i → x.role ≤ 31) × (((16 < x.depth) × (f ≡ on_call 9)) ⊎ ((x.depth ≤ 16) × ((64 ≤ i) × (f ≡ on_call 10))))) → NodeRow i x f
    to f (inl r) = role_above r.0.0 r.0.1 r.1
    to f (inr (r, inl s)) = too_deep r s.0 s.1
    to f (inr (r, inr s)) = too_many r s.0 s.1.0 s.1.1

    from : (f : Refusal) → NodeRow i x f → (((0 < i) × (31 < x.role)) × (f ≡ on_call 7))
        ⊎ ((0 < i → x.role ≤ 31) × (((16 < x.depth) × (f ≡ on_call 9)) ⊎ ((x.depth ≤ 16) × ((64 ≤ i) × (f ≡ on_call 10)))))
    from f (role_above l r e) = inl ((l, r), e)
    from f (too_deep r d e) = inr (r, inl (d, e))
    from f (too_many r d m e) = inr (r, inr (d, (m, e)))

nodes-decided : (i : ℕ) (xs : List (Listed ℕ)) → Decided (nodes_fit i xs) (NodesRow i xs) (NodesTake i xs)
unfolding nodes_fit NodesRow NodesTake
nodes-decided i [] = none-tested
nodes-decided i (x ∷ xs) = next (node-decided i x) (nodes-decided (suc i) xs)

-- ---- a threshold

law-decided : (b : Bool) → (b ≡ true) ⊎ (b ≡ false)
law-decided true = inl refl
law-decided false = inr refl

module _ (k : ℕ) (h : Limit) where
  abbrev n : ℕ
  n = size (reduce (concept h.inner))

  few : Decided (refuse_if (leb 16 k) (on_call 12)) (λ f. (16 ≤ k) × (f ≡ on_call 12)) (k < 16)
  few = last (leb 16 k) (on_call 12) (at_most 16 k) (not-le 16 k) (less-decided k 16)

  how : Decided (refuse_if (ltb 3 h.how) (on_call 13)) (λ f. (3 < h.how) × (f ≡ on_call 13)) (h.how ≤ 3)
  how = last (ltb 3 h.how) (on_call 13) (below 3 h.how) (not-below 3 h.how) (swapped (less-decided 3 h.how))

  rule : Decided (fraction on_call h.p h.q) (FractionRow on_call h.p h.q) (FractionTakes h.p h.q)
  rule = fraction-decided h.p h.q on_call

  small : Decided (refuse_if (ltb 60 n) (on_call 14)) (λ f. (60 < n) × (f ≡ on_call 14)) (n ≤ 60)
  small = last (ltb 60 n) (on_call 14) (below 60 n) (not-below 60 n) (swapped (less-decided 60 n))

  abbrev Steps : Refusal → Type 0
  Steps f =
      ((16 ≤ k) × (f ≡ on_call 12))
      ⊎ ((k < 16) × (((3 < h.how) × (f ≡ on_call 13))
      ⊎ ((h.how ≤ 3) × (FractionRow on_call h.p h.q f
      ⊎ (FractionTakes h.p h.q × (NodesRow 0 h.inner f
      ⊎ (NodesTake 0 h.inner × ((60 < n) × (f ≡ on_call 14)))))))))

  limit-to : (f : Refusal) → Steps f → LimitRow k h f
  limit-to f (inl r) = seventeenth r.0 r.1
  limit-to f (inr (a, inl r)) = no_comparison a r.0 r.1
  limit-to f (inr (a, inr (b, inl r))) = no_fraction a b r
  limit-to f (inr (a, inr (b, inr (c, inl r)))) = bad_inner a b c r
  limit-to f (inr (a, inr (b, inr (c, inr (d, r))))) = too_large a b c d r.0 r.1

  limit-from : (f : Refusal) → LimitRow k h f → Steps f
  limit-from f (seventeenth a e) = inl (a, e)
  limit-from f (no_comparison a b e) = inr (a, inl (b, e))
  limit-from f (no_fraction a b r) = inr (a, inr (b, inl r))
  limit-from f (bad_inner a b c r) = inr (a, inr (b, inr (c, inl r)))
  limit-from f (too_large a b c d l e) = inr (a, inr (b, inr (c, inr (d, (l, e)))))

  limit-decided : Decided (limit_fits k h) (LimitRow k h) (LimitTakes k h)
  unfolding limit_fits
  limit-decided =
      same_rows (next few (next how (next rule (next (nodes-decided 0 h.inner) small)))) limit-to limit-from
      (λ u. record { few = u.0; how = u.1.0; rule = u.1.1.0; inner = u.1.1.1.0; small = u.1.1.1.1 })
      (λ u. (u.few, (u.how, (u.rule, (u.inner, u.small)))))

-- ---- the thresholds of a node, and all lists

own-decided : (i k : ℕ) (hs : List Limit) → Decided (own_fit i k hs) (OwnRow i k hs) (OwnTake i k hs)
unfolding own_fit OwnRow OwnTake
own-decided i k [] = none-tested
own-decided i k (h ∷ hs) = next (one (ℕ_discrete h.owner i)) (own-decided i (suc k) hs)
  where
    one : Dec (h.owner ≡ i) → Decided (cond (eqb h.owner i) (limit_fits k h) (good tt)) (λ f. (h.owner ≡ i) × LimitRow k h f) (h.owner ≡ i → LimitTakes k h)
    one (yes e) = rw (same h.owner i e) (same_rows (limit-decided k h) (λ f r. (e, r)) (λ f r. r.1) (λ t z. t) (λ t. t e))
    one (no d) = rw (other h.owner i d) (same_rows none-tested (λ f r. absurd r) (λ f r. absurd (d r.0)) (λ u z. absurd (d z)) (λ u. tt))

lists-decided : (i : ℕ) (xs : List (Listed ℕ)) (hs : List Limit) → Decided (lists_fit i xs hs) (ListsRow i xs hs) (ListsTake i xs hs)
unfolding lists_fit ListsRow ListsTake
lists-decided i [] hs = none-tested
lists-decided i (x ∷ xs) hs =
    same_rows (next (node-decided i x) (next (own-decided i 0 hs) (lists-decided (suc i) xs hs))) to from
    (λ u. (u.0, u.1.0, u.1.1)) (λ u. (u.0, (u.1, u.2)))
  where
    to : (f : Refusal) → NodeRow i x f ⊎ (NodeTakes i x × (OwnRow i 0 hs f ⊎ (OwnTake i 0 hs × ListsRow (suc i) xs hs f)))
        → NodeRow i x f ⊎ (NodeTakes i x × OwnRow i 0 hs f) ⊎ (NodeTakes i x × OwnTake i 0 hs × ListsRow (suc i) xs hs f)
    to f (inl r) = inl r
    to f (inr (t, inl r)) = inr (inl (t, r))
    to f (inr (t, inr r)) = inr (inr (t, r.0, r.1))

    from : (f : Refusal) → NodeRow i x f ⊎ (NodeTakes i x × OwnRow i 0 hs f) ⊎ (NodeTakes i x × OwnTake i 0 hs × ListsRow (suc i) xs hs f)
        → NodeRow i x f ⊎ (NodeTakes i x × (OwnRow i 0 hs f ⊎ (OwnTake i 0 hs × ListsRow (suc i) xs hs f)))
    from f (inl r) = inl r
    from f (inr (inl (t, r))) = inr (t, inl r)
    from f (inr (inr r)) = inr (r.0, inr (r.1, r.2))

-- ---- the call

module _ (nodes hs inner : List ℕ) (room : ℕ) where
  abbrev lists : Bool
  lists = whole nodes hs inner && form (lists_in nodes hs inner)

  abbrev message : List ℕ
  message = encode (said (lists_in nodes hs inner))

  given : Decided (good message) (λ f. ⊥) (Unit {0})
  given = record { good-where = λ u. (message, refl); refused-where = λ f r. absurd r; either = inl tt }

  formed : Decided (refuse_if (not lists) (on_call 22)) (λ f. (lists ≡ false) × (f ≡ on_call 22)) (lists ≡ true)
  formed = last (not lists) (on_call 22) (λ e. rw e refl) (λ e. rw e refl) (law-decided lists)

  enough : Decided (refuse_if (ltb room (length message)) (on_call 21)) (λ f. (room < length message) × (f ≡ on_call 21)) (length message ≤ room)
  enough = last (ltb room (length message)) (on_call 21) (below room (length message)) (not-below room (length message)) (swapped (less-decided room (length message)))

  abbrev Take : Type 0
  Take = ListsTake 0 (lists_in nodes hs inner).outer (lists_in nodes hs inner).limits

  abbrev Calls : Refusal → Type 0
  Calls f =
      ((lists ≡ false) × (f ≡ on_call 22))
      ⊎ ((lists ≡ true) × (ListsRow 0 (lists_in nodes hs inner).outer (lists_in nodes hs inner).limits f
      ⊎ (Take × (((room < length message) × (f ≡ on_call 21)) ⊎ ((length message ≤ room) × ⊥)))))

  call-to : (f : Refusal) → Calls f → WriteRow nodes hs inner room f
  call-to f (inl r) = no_lists r.0 r.1
  call-to f (inr (a, inl r)) = unread a r
  call-to f (inr (a, inr (b, inl r))) = short a b r.0 r.1
  call-to f (inr (a, inr (b, inr r))) = absurd r.1

  call_from : (f : Refusal) → WriteRow nodes hs inner room f → Calls f
  call_from f (no_lists a e) = inl (a, e)
  call_from f (unread a r) = inr (a, inl r)
  call_from f (short a b l e) = inr (a, inr (b, inl (l, e)))

  write-decided : Decided (write_call nodes hs inner room) (WriteRow nodes hs inner room) (WriteTakes nodes hs inner room)
  unfolding write_call
  write-decided =
      same_rows (next formed (next (lists-decided 0 (lists_in nodes hs inner).outer (lists_in nodes hs inner).limits) (next enough given))) call-to call_from
      (λ u. record { forms = u.0; fits = u.1.0; enough = u.1.1.0 }) (λ u. (u.forms, (u.fits, (u.enough, tt))))

  pub write-exactly : Exactly (write_call nodes hs inner room) (WriteRow nodes hs inner room) (WriteTakes nodes hs inner room)
  write-exactly = exactly write-decided
