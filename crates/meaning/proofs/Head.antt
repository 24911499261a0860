-- The 3-byte head: read from what stands under it, and what a head that was read says.
-- Assumes nothing.
use mathlib.Core.Path.{◌≡◌, sym, ap, ◌∙◌, subst}
use mathlib.Core.Bool.{Bool, true, false, not}
use mathlib.Core.List.{List, [], ◌∷◌}
use Prim.Native.Nat.{ℕ, ◌+◌, ◌-◌, ◌≤◌, ◌<◌}
use native.Mathlib.Omega.{arith}
use lib.Dec.{ltb, eqb, eqb→eq}
use lib.ListN.{length, get_or, length-append}
use Rattle.meaning.specs.declared.Side.{Side}
use Rattle.meaning.specs.Refusal.{good, refused, at, refuse_if, ◌>>◌}
use Rattle.meaning.specs.Bytes.{number, bytes, Bytes, read_head, unequal, headed}
use Rattle.meaning.proofs.Tests.{is-not, of-not}
use Rattle.meaning.proofs.Reading.{good-inj, pass, passed, stop, below, number-one, not-below, le-of-not-below, not-not, not-unequal}
use Rattle.meaning.proofs.Reading.{eq-of-unequal, Stands, stands_self, stands-whole, number-stands, stands-left, stands-right, stands-both}
use Rattle.meaning.proofs.Reading.{bytes-length, number_of}

-- the version byte and the length's two, and the body behind them
pub headed-length : (body : List ℕ) → length (headed body) ≡ 3 + length body
unfolding headed
headed-length body = length-append (1 ∷ bytes 2 (length body)) body ∙ omega (arith, bytes-length 2 (length body))

module _ (s body : List ℕ) where
  pub body-stands : Stands s 0 (headed body) → Stands s 3 body
  unfolding headed
  body-stands h =
      subst (λ (z : ℕ). Stands s z body) (omega (arith, bytes-length 2 (length body))) (stands-right s 0 (1 ∷ bytes 2 (length body)) body h)

  pub length-stands : Stands s 0 (headed body) → Stands s 1 (bytes 2 (length body))
  unfolding headed
  length-stands h = stands-right s 0 (1 ∷ []) (bytes 2 (length body)) (stands-left s 0 (1 ∷ bytes 2 (length body)) body h)

  version-stands : Stands s 0 (headed body) → number s 0 1 ≡ 1
  unfolding headed number Stands
  version-stands h = omega (arith, h 0 (omega arith))

  pub head-stands : number s 0 1 ≡ 1 → Stands s 1 (bytes 2 (length body)) → Stands s 3 body → Stands s 0 (headed body)
  unfolding headed number Stands
  head-stands v l h =
      stands-both s 0 (1 ∷ bytes 2 (length body)) body
      (stands-both s 0 (1 ∷ []) (bytes 2 (length body)) (λ i b. let z : i ≡ 0 = omega arith in rw z (omega arith)) l)
      (subst (λ (z : ℕ). Stands s z body) (omega (arith, bytes-length 2 (length body))) h)

  pub head_read : (side : Side) (wrong : ℕ → ℕ → Bool) → length body < 65536 → 3 + length body ≤ length s → wrong (length body) (length s - 3) ≡ false
      → Stands s 0 (headed body) → read_head side wrong s ≡ good (3 + length body)
  unfolding read_head
  head_read side wrong c b w h =
      let e = number_of s 1 2 (length body) c (length-stands h) in
      pass (ltb (length s) 3) _ _ (not-below (length s) 3 (omega arith))
      ∙ pass (not (eqb (number s 0 1) 1)) _ _ (not-not (eqb (number s 0 1) 1) (rw (version-stands h) tt))
      ∙ pass (wrong (number s 1 2) (length s - 3)) _ _ (rw e w)
      ∙ ap (λ (z : ℕ). good (3 + z)) e

-- what a head that was read says
pub record HeadRead (wrong : ℕ → ℕ → Bool) (s : List ℕ) (end : ℕ) : Type 0 where
  pub long : 3 ≤ length s
  pub version : number s 0 1 ≡ 1
  pub right : wrong (number s 1 2) (length s - 3) ≡ false
  pub ends : end ≡ 3 + number s 1 2

pub read-head : (side : Side) (wrong : ℕ → ℕ → Bool) (s : List ℕ) (end : ℕ) → read_head side wrong s ≡ good end → HeadRead wrong s end
unfolding read_head
read-head side wrong s end e =
    let a = passed (ltb (length s) 3) _ _ e in
    let b = passed (not (eqb (number s 0 1) 1)) _ _ a.1 in
    let c = passed (wrong (number s 1 2) (length s - 3)) _ _ b.1 in
    record {
      long = le-of-not-below _ _ a.0;
      version = eqb→eq _ _ (of-not (eqb (number s 0 1) 1) b.0);
      right = c.0;
      ends = sym (good-inj c.1);
    }

-- a body under its head, in a list that it fills
pub headed-stands : (body : List ℕ) → Stands (headed body) 3 body
headed-stands body = body-stands (headed body) body (stands_self (headed body))

pub headed-read : (side : Side) (body : List ℕ) → length body < 65536 → read_head side unequal (headed body) ≡ good (3 + length body)
headed-read side body h =
    let l = headed-length body in
    head_read (headed body) body side unequal h (omega arith) (not-unequal (length body) (length (headed body) - 3) (omega arith)) (stands_self (headed body))

pub headed-back : (side : Side) (s : List ℕ) (end : ℕ) → Bytes s → read_head side unequal s ≡ good end
    → (3 ≤ end) × (end ≡ length s) × ((body : List ℕ) → Stands s 3 body → 3 + length body ≡ end → s ≡ headed body)
headed-back side s end b e =
    let q = read-head side unequal s end e in
    let d = eq-of-unequal (number s 1 2) (length s - 3) q.right in (
      omega (arith, q.ends),
      omega (arith, q.ends, q.long),
      λ body h k.
          stands-whole s (headed body) (head-stands s body q.version (number-stands s 1 2 (length body) b (omega (arith, q.ends))) h)
          (omega (arith, headed-length body, q.long, q.ends)),
    )

-- ---- each end of a head, as code comes to it

module _ (side : Side) (wrong : ℕ → ℕ → Bool) (s : List ℕ) where
  pub head-short : length s < 3 → read_head side wrong s ≡ refused (at side 1 0)
  unfolding read_head
  head-short h = stop (ltb (length s) 3) _ _ (below (length s) 3 h)

  module _ (long : 3 ≤ length s) where
    pub head-version : (get_or s 0 0 ≡ 1 → ⊥) → read_head side wrong s ≡ refused (at side 2 0)
    unfolding read_head
    head-version v =
        pass (ltb (length s) 3) _ _ (not-below (length s) 3 long)
        ∙ stop (not (eqb (number s 0 1) 1)) _ _ (is-not (eqb (number s 0 1) 1) (λ t. v (sym (number-one s 0) ∙ eqb→eq _ _ t)))

    module _ (version : get_or s 0 0 ≡ 1) where
      to-length : read_head side wrong s ≡ (refuse_if (wrong (number s 1 2) (length s - 3)) (at side 3 1) >> good (3 + number s 1 2))
      unfolding read_head
      to-length =
          pass (ltb (length s) 3) _ _ (not-below (length s) 3 long)
          ∙ pass (not (eqb (number s 0 1) 1)) _ _ (not-not (eqb (number s 0 1) 1) (rw (number-one s 0 ∙ version) tt))

      pub head-length : wrong (number s 1 2) (length s - 3) ≡ true → read_head side wrong s ≡ refused (at side 3 1)
      head-length w = to-length ∙ stop (wrong (number s 1 2) (length s - 3)) _ _ w

      pub head-good : wrong (number s 1 2) (length s - 3) ≡ false → read_head side wrong s ≡ good (3 + number s 1 2)
      head-good w = to-length ∙ pass (wrong (number s 1 2) (length s - 3)) _ _ w
