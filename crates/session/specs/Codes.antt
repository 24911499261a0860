-- Steps in numbers: the code's coding and decoding, and that they are inverse.
-- Assumes nothing.
use mathlib.Core.Path.{◌≡◌, refl, sym, ap, ap₂, ◌∙◌, subst}
use mathlib.Core.Bool.{Bool, true, false, cond}
use Prim.Native.Nat.{ℕ, ◌+◌, ◌*◌, ◌/◌, ◌%◌, ◌≤◌, ◌<◌}
use native.Mathlib.Omega.{arith}
use lib.Dec.{eqb, eqb→eq}
use Rattle.meaning.specs.Bounds.{most_items}
use Rattle.meaning.specs.declared.Fact.{Fact}
use Rattle.meaning.specs.declared.Fact.TheVariants.{Name as name_on, Link as link_of}
use Rattle.meaning.specs.declared.Step.{Step}
use Rattle.meaning.specs.Session.{link}
use Rattle.meaning.proofs.Tests.{is_true, is_false, is-eqb}
use Rattle.register.specs.Reading.{key}
use Rattle.setting.specs.Setting.{Ranged}
use Rattle.session.specs.Coded.{bit, coded, code_of, decoded}

-- ---- as the code comes to it

abbrev of_name : ℕ → Fact
of_name n = name_on (n / 4 % 65536) (n / 4 / 65536)

abbrev of_link : ℕ → Fact
of_link n = link_of (n / 4 / 16777216) (n / 4 / 65536 % 256) (n / 4 % 65536)

abbrev step : Bool → ℕ → Step
step b n = record { fact = cond b (of_name n) (of_link n); was = eqb (n % 2) 1 }

pub decode-name : (n : ℕ) → n / 2 % 2 ≡ 0 → step true n ≡ decoded n
decode-name n e = ap (λ (b : Bool). step b n) (sym (is_true (eqb (n / 2 % 2) 0) (is-eqb e)))

pub decode-link : (n : ℕ) → (n / 2 % 2 ≡ 0 → ⊥) → step false n ≡ decoded n
decode-link n h = ap (λ (b : Bool). step b n) (sym (is_false (eqb (n / 2 % 2) 0) (λ t. h (eqb→eq (n / 2 % 2) 0 t))))

pub code-name : (i k : ℕ) (f : Fact) (was : Bool) (r : ℕ) → f ≡ name_on i k → r ≡ ((k * 65536 + i) * 2 + 0) * 2 + bit was
    → r ≡ code_of (record { fact = f; was = was })
code-name i k f was r e d = d ∙ (let z : ((k * 65536 + i) * 2 + 0) * 2 + bit was ≡ (k * 65536 + i) * 2 * 2 + bit was = omega arith in z) ∙ ap (coded was) (sym e)

pub code-link : (a q b : ℕ) (f : Fact) (was : Bool) (n r : ℕ) → f ≡ link_of a q b → n ≡ key (link a q b) → r ≡ (n * 2 + 1) * 2 + bit was
    → r ≡ code_of (record { fact = f; was = was })
code-link a q b f was n r e d i = i ∙ ap (λ (z : ℕ). (z * 2 + 1) * 2 + bit was) d ∙ ap (coded was) (sym e)

-- ---- coding and decoding are inverse

bit-back : (b : Bool) (m : ℕ) → eqb ((m * 2 + bit b) % 2) 1 ≡ b
bit-back true m = let e : (m * 2 + 1) % 2 ≡ 1 = omega arith in is_true (eqb ((m * 2 + 1) % 2) 1) (is-eqb e)
bit-back false m = let e : (m * 2 + 0) % 2 ≡ 0 = omega arith in is_false (eqb ((m * 2 + 0) % 2) 1) (λ t. let z = eqb→eq ((m * 2 + 0) % 2) 1 t in omega arith)

bit-small : (b : Bool) → bit b < 2
bit-small true = omega arith
bit-small false = omega arith

odd-kind : (m b : ℕ) → b < 2 → ((m * 2 + 1) * 2 + b) / 2 % 2 ≡ 1
odd-kind m b h = omega arith

quarter : (m b : ℕ) → b < 2 → ((m * 2 + 1) * 2 + b) / 4 ≡ m
quarter m b h = omega arith

part-from : (a r c : ℕ) → r ≤ 31 → c < 65536 → ((a * 256 + r) * 65536 + c) / 16777216 ≡ a
part-from a r c h k = omega arith

part-role : (a r c : ℕ) → r ≤ 31 → c < 65536 → ((a * 256 + r) * 65536 + c) / 65536 % 256 ≡ r
part-role a r c h k = omega arith

part-to : (a r c : ℕ) → c < 65536 → ((a * 256 + r) * 65536 + c) % 65536 ≡ c
part-to a r c k = omega arith

-- each step in range is read back from its code
pub coded-back : (f : Fact) (was : Bool) → Ranged most_items f → decoded (code_of (record { fact = f; was = was })) ≡ record { fact = f; was = was }
coded-back (name_on i k) was o =
    let n = (k * 65536 + i) * 2 * 2 + bit was in
    let b = bit-small was in
    let e : n / 2 % 2 ≡ 0 = omega arith in
    let p : n / 4 % 65536 ≡ i = omega (arith, o.0) in
    let q : n / 4 / 65536 ≡ k = omega (arith, o.0) in
    sym (decode-name n e) ∙ ap₂ (λ (x : Fact) (y : Bool). record { fact = x; was = y }) (ap₂ name_on p q) (bit-back was ((k * 65536 + i) * 2))
coded-back (link_of a r c) was o =
    let m = (a * 256 + r) * 65536 + c in
    let n = (m * 2 + 1) * 2 + bit was in
    let b = bit-small was in
    let e : n / 2 % 2 ≡ 1 = odd-kind m (bit was) b in
    let w : n / 4 ≡ m = quarter m (bit was) b in
    let p : n / 4 / 16777216 ≡ a = ap (λ (z : ℕ). z / 16777216) w ∙ part-from a r c o.1 (omega (arith, o.2)) in
    let q : n / 4 / 65536 % 256 ≡ r = ap (λ (z : ℕ). z / 65536 % 256) w ∙ part-role a r c o.1 (omega (arith, o.2)) in
    let t : n / 4 % 65536 ≡ c = ap (λ (z : ℕ). z % 65536) w ∙ part-to a r c (omega (arith, o.2)) in
    let f : link_of (n / 4 / 16777216) (n / 4 / 65536 % 256) (n / 4 % 65536) ≡ link_of a r c =
    ap₂ (λ (x y : ℕ). link_of x y (n / 4 % 65536)) p q ∙ ap (link_of a r) t in
    sym (decode-link n (λ z. let y : n / 2 % 2 ≡ 0 = z in omega arith))
    ∙ ap₂ (λ (x : Fact) (y : Bool). record { fact = x; was = y }) f (bit-back was (m * 2 + 1))

-- every number is the code of its step, so no two numbers are one step
pub decoded-back : (n : ℕ) → code_of (decoded n) ≡ n
decoded-back n = go (eqb (n / 2 % 2) 0) refl (eqb (n % 2) 1) refl
  where
    odd : (b : Bool) → eqb (n % 2) 1 ≡ b → bit b ≡ n % 2
    odd true e = sym (eqb→eq (n % 2) 1 (subst lib.Dec.T (sym e) tt))
    odd false e = let h : n % 2 ≡ 1 → ⊥ = λ d. subst lib.Dec.T (sym (is_true (eqb (n % 2) 1) (is-eqb d)) ∙ e) tt in omega (arith, h)

    go : (k : Bool) → eqb (n / 2 % 2) 0 ≡ k → (b : Bool) → eqb (n % 2) 1 ≡ b → code_of (record { fact = cond k (of_name n) (of_link n); was = b }) ≡ n
    go true e b d = omega (arith, odd b d, eqb→eq (n / 2 % 2) 0 (subst lib.Dec.T (sym e) tt))
    go false e b d =
        let h : n / 2 % 2 ≡ 0 → ⊥ = λ z. subst lib.Dec.T (sym (is_true (eqb (n / 2 % 2) 0) (is-eqb z)) ∙ e) tt in
        omega (arith, odd b d, h)
