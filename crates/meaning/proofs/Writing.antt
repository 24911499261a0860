-- The call that writes: what it writes reads back, a requirement that was read is written again byte for byte, and when it refuses.
-- Assumes nothing.
use mathlib.Core.Path.{◌≡◌, sym, ap, ◌∙◌, subst}
use mathlib.Core.Bool.{◌&&◌, not}
use mathlib.Core.List.{List, ◌++◌}
use Prim.Native.Nat.{ℕ, zero, suc, ◌*◌, ◌≤◌, ◌<◌}
use lib.Dec.{T, ltb, lt→ltb}
use lib.ListN.{length, get_or, drop}
use Rattle.meaning.specs.Refusal.{good}
use Rattle.meaning.specs.Bytes.{Bytes}
use Rattle.meaning.specs.Names.{is_set}
use Rattle.meaning.specs.Requirement.{Requirement}
use Rattle.meaning.specs.Message.{Part, encode, read_requirement}
use Rattle.meaning.specs.Lists.{Lists, form, said, lists_of}
use Rattle.meaning.specs.Writing.{nodes_from, limits_from, lists_in, node_numbers, limit_numbers, inner_numbers, whole, lists_fit, write_call, after_write}
use Rattle.meaning.proofs.Tests.{and_both, both-and, of-not}
use Rattle.meaning.proofs.Reading.{good-inj, pass, passed, went, gone, not-below, le-of-not-below, not-not}
use Rattle.meaning.proofs.Answers.{lent}
use Rattle.meaning.proofs.Message.{parts_in, read-encode, read_back}
use Rattle.meaning.proofs.ListsFit.{Ok}
use Rattle.meaning.proofs.ListsSound.{InnerSets, said-sound, lists-taken}
use Rattle.meaning.proofs.Said.{said-back}
use Rattle.meaning.proofs.ListNumbers.{lists_back, numbers-whole}

-- numbers of 64 bits
abbrev pub Words : List ℕ → Type 0
Words ns = (k : ℕ) → get_or ns k 0 < 18446744073709551616

nodes-sets : (ns : List ℕ) (k n : ℕ) → Words ns → Ok is_set (nodes_from ns k n)
unfolding Ok nodes_from
nodes-sets ns k zero w = tt
nodes-sets ns k (suc n) w = (lt→ltb _ _ (w (3 * k)), nodes-sets ns (suc k) n w)

limits-sets : (hs inner : List ℕ) (j k m : ℕ) → Words inner → InnerSets (limits_from hs inner j k m)
unfolding InnerSets limits_from
limits-sets hs inner j k zero w = tt
limits-sets hs inner j k (suc m) w = (nodes-sets inner k _ w, limits-sets hs inner (suc j) _ m w)

-- ---- what is written

pub record Wrote (nodes hs inner : List ℕ) (room : ℕ) (m : List ℕ) : Type 0 where
  pub whole : T (whole nodes hs inner)
  pub forms : T (form (lists_in nodes hs inner))
  pub fits : lists_fit 0 (lists_in nodes hs inner).outer (lists_in nodes hs inner).limits ≡ good tt
  pub enough : length (encode (said (lists_in nodes hs inner))) ≤ room
  pub message : m ≡ encode (said (lists_in nodes hs inner))

pub write-open : (nodes hs inner : List ℕ) (room : ℕ) (m : List ℕ) → write_call nodes hs inner room ≡ good m → Wrote nodes hs inner room m
unfolding write_call
write-open nodes hs inner room m e =
    let l = lists_in nodes hs inner in
    let a = passed (not (whole nodes hs inner && form l)) _ _ e in
    let b = gone (lists_fit 0 l.outer l.limits) _ a.1 in
    let c = passed (ltb room (length (encode (said l)))) _ _ b.1 in
    let p = and_both (whole nodes hs inner) (form l) (of-not (whole nodes hs inner && form l) a.0) in
    record { whole = p.0; forms = p.1; fits = b.0; enough = le-of-not-below _ _ c.0; message = sym (good-inj c.1) }

pub write-close : (nodes hs inner : List ℕ) (room : ℕ) → T (whole nodes hs inner) → T (form (lists_in nodes hs inner))
    → lists_fit 0 (lists_in nodes hs inner).outer (lists_in nodes hs inner).limits ≡ good tt → length (encode (said (lists_in nodes hs inner))) ≤ room
    → write_call nodes hs inner room ≡ good (encode (said (lists_in nodes hs inner)))
unfolding write_call
write-close nodes hs inner room w f g r =
    let l = lists_in nodes hs inner in
    pass (not (whole nodes hs inner && form l)) _ _ (not-not (whole nodes hs inner && form l) (both-and (whole nodes hs inner) (form l) w f)) ∙ went (lists_fit 0 l.outer l.limits) _ g
    ∙ pass (ltb room (length (encode (said l)))) _ _ (not-below _ _ r)

-- "The message written must read back as the same tree"
pub written-reads : (nodes hs inner : List ℕ) (room : ℕ) (m : List ℕ) → Words nodes → Words inner → write_call nodes hs inner room ≡ good m
    → read_requirement m ≡ good (said (lists_in nodes hs inner), parts_in (said (lists_in nodes hs inner)))
written-reads nodes hs inner room m u v e =
    let w = write-open nodes hs inner room m e in
    let l = lists_in nodes hs inner in
    let s = said-sound l w.forms w.fits (nodes-sets nodes 0 _ u) (limits-sets hs inner 0 0 _ v) in
    ap read_requirement w.message ∙ read-encode (said l) s

-- "and a message read and written again must come out byte for byte the same"
pub written-again : (s : List ℕ) (q : Requirement) (ps : List Part) (room : ℕ) → Bytes s → read_requirement s ≡ good (q, ps) → length s ≤ room
    → write_call (node_numbers (lists_of q).outer) (limit_numbers (lists_of q).limits) (inner_numbers (lists_of q).limits) room ≡ good s
written-again s q ps room b e r =
    let a = read_back s (q, ps) b e in
    let l = lists_of q in
    let t = lists-taken q a.sound in
    let back : encode (said l) ≡ s = ap encode (said-back q) ∙ sym a.same in
    let p = sym (lists_back l) in
    write-close (node_numbers l.outer) (limit_numbers l.limits) (inner_numbers l.limits) room (numbers-whole l) (subst (λ (z : Lists). T (form z)) p t.0)
    (subst (λ (z : Lists). lists_fit 0 z.outer z.limits ≡ good tt) p t.1)
    (subst (λ (z : Lists). length (encode (said z)) ≤ room) p (subst (λ (z : List ℕ). length z ≤ room) (sym back) r))
    ∙ ap (λ (z : Lists). good (encode (said z))) (lists_back l) ∙ ap good back

-- "Bytes of the output buffer behind the message keep their contents"
pub write-leaves : (nodes hs inner old m : List ℕ) → write_call nodes hs inner (length old) ≡ good m
    → after_write old (write_call nodes hs inner (length old)) ≡ m ++ drop (length m) old
write-leaves nodes hs inner old m e =
    let w = write-open nodes hs inner (length old) m e in
    ap (after_write old) e ∙ lent old m (subst (λ (z : List ℕ). length z ≤ length old) (sym w.message) w.enough)
