-- The four numbers tell every answer apart: so whoever reads them knows the answer, and any two results that a promise allows are equal.
-- Assumes nothing.
use mathlib.Core.Path.{◌≡◌, refl, sym, ap, ◌∙◌}
use mathlib.Core.List.{List}
use Prim.Native.Nat.{ℕ}
use native.Mathlib.Omega.{arith}
use lib.ListN.{length, get_or}
use Rattle.meaning.specs.declared.Side.{Side}
use Rattle.meaning.specs.declared.Side.TheVariants.{Register, Requirement, Call}
use Rattle.meaning.specs.declared.Refusal.{Refusal}
use Rattle.meaning.specs.Refusal.{Answer, good, refused, at}
use Rattle.register.specs.declared.Size.{Size}
use Rattle.meaning.specs.Requirement.{Requirement as RequirementTree}
use Rattle.meaning.specs.Message.{Part}
use Rattle.meaning.specs.Tree.{nodes}
use Rattle.answers.specs.Numbers.{four, side_number, refusal_numbers, numbers, counts, written, in_use, verdicts, degree_numbers, list_numbers, below_zero, margin_numbers}
use Rattle.deciding.specs.Answers.{Said, yes, no}
use lib.IntN.{ℤ, pos, negsuc, nat_abs}
use Rattle.meaning.specs.Fraction.{◌÷◌}
use Rattle.meaning.specs.Calls.{Against}
use Rattle.asking.specs.Answers.{Told}
use Rattle.tabling.specs.Answers.{Told as ListTold}

-- the k-th of the four
pub nth : (k : ℕ) {x y : List ℕ} → x ≡ y → get_or x k 0 ≡ get_or y k 0
nth k e = ap (λ (l : List ℕ). get_or l k 0) e

sides_apart : (s t : Side) → side_number s ≡ side_number t → s ≡ t
sides_apart Register Register e = refl
sides_apart Requirement Requirement e = refl
sides_apart Call Call e = refl
sides_apart Register Requirement e = absurd (omega arith)
sides_apart Register Call e = absurd (omega arith)
sides_apart Requirement Register e = absurd (omega arith)
sides_apart Requirement Call e = absurd (omega arith)
sides_apart Call Register e = absurd (omega arith)
sides_apart Call Requirement e = absurd (omega arith)

same-refusal : {s t : Side} {m n p q : ℕ} → s ≡ t → m ≡ n → p ≡ q → at s m p ≡ at t n q
same-refusal a b c = cc

refusals-apart : (q r : Refusal) → refusal_numbers q ≡ refusal_numbers r → q ≡ r
refusals-apart q r e = same-refusal (sides_apart q.side r.side (nth 1 e)) (nth 2 e) (nth 3 e)

-- `says` gives a good answer's numbers: they tell these apart, and their kind is not 0
module _ {A : Type 0} (says : A → List ℕ) (tells : (a b : A) → says a ≡ says b → a ≡ b) (kind : (a : A) → get_or (says a) 0 0 ≡ 0 → ⊥) where
  pub answers-apart : (x y : Answer A) → numbers says x ≡ numbers says y → x ≡ y
  answers-apart (good a) (good b) e = ap good (tells a b e)
  answers-apart (good a) (refused r) e = absurd (kind a (nth 0 e))
  answers-apart (refused r) (good b) e = absurd (kind b (sym (nth 0 e)))
  answers-apart (refused q) (refused r) e = ap refused (refusals-apart q r e)

pub readings-apart : (x y : Answer Size) → numbers counts x ≡ numbers counts y → x ≡ y
readings-apart = answers-apart counts (λ a b e. same-counts (nth 1 e) (nth 2 e)) (λ a e. omega arith)
  where
    same-counts : {a b m n : ℕ} → a ≡ b → m ≡ n → ◌≡◌ {A = Size} (record { items = a; links = m }) (record { items = b; links = n })
    same-counts e f = cc

-- the calls of a session: so any two results that the promise of one of them allows are equal
pub sessions-apart : (x y : Answer ℕ) → numbers in_use x ≡ numbers in_use y → x ≡ y
sessions-apart = answers-apart in_use (λ a b e. nth 1 e) (λ a e. omega arith)

-- what a requirement that was read answers: its written nodes and its thresholds
abbrev pub sized : Answer (RequirementTree × List Part) → Answer (ℕ × ℕ)
sized (good x) = good (nodes x.0, length x.1)
sized (refused r) = refused r

abbrev pub pair : ℕ × ℕ → List ℕ
pair n = four 1 n.0 n.1 0

sizes-written : (x : Answer (RequirementTree × List Part)) → numbers pair (sized x) ≡ numbers written x
sizes-written (good x) = refl
sizes-written (refused r) = refl

pub requirements-apart : (x y : Answer (RequirementTree × List Part)) → numbers written x ≡ numbers written y → sized x ≡ sized y
requirements-apart x y e =
    answers-apart pair (λ a b h. same-sizes (nth 1 h) (nth 2 h)) (λ a h. omega arith) (sized x) (sized y)
    (sizes-written x ∙ e ∙ sym (sizes-written y))
  where
    same-sizes : {a b m n : ℕ} → a ≡ b → m ≡ n → ◌≡◌ {A = ℕ × ℕ} (a, m) (b, n)
    same-sizes e f = cc

pub verdicts-apart : (x y : Answer Said) → numbers verdicts x ≡ numbers verdicts y → x ≡ y
verdicts-apart = answers-apart verdicts same-verdict (λ a. kind a)
  where
    same-verdict : (a b : Said) → verdicts a ≡ verdicts b → a ≡ b
    same-verdict (yes m) (yes n) e = ap yes (nth 1 e)
    same-verdict (yes m) no e = absurd (omega (arith, nth 0 e))
    same-verdict no (yes n) e = absurd (omega (arith, nth 0 e))
    same-verdict no no e = refl

    kind : (a : Said) → get_or (verdicts a) 0 0 ≡ 0 → ⊥
    kind (yes n) e = omega arith
    kind no e = omega arith

pub degrees-apart : (x y : Answer Told) → numbers degree_numbers x ≡ numbers degree_numbers y → x ≡ y
degrees-apart = answers-apart degree_numbers (λ a b e. same-told (nth 1 e) (nth 2 e) (nth 3 e)) (λ a e. omega arith)
  where
    same-told : {a b m n j k : ℕ} → a ≡ b → m ≡ n → j ≡ k → ◌≡◌ {A = Told} (record { degree = a ÷ m; places = j }) (record { degree = b ÷ n; places = k })
    same-told d e f = cc

pub lists-apart : (x y : Answer ListTold) → numbers list_numbers x ≡ numbers list_numbers y → x ≡ y
lists-apart = answers-apart list_numbers (λ a b e. same-list (nth 1 e) (nth 2 e) (nth 3 e)) (λ a e. omega arith)
  where
    same-list : {a b m n j k : ℕ} → a ≡ b → m ≡ n → j ≡ k → ◌≡◌ {A = ListTold} (record { items = a; nodes = m; scale = j }) (record { items = b; nodes = n; scale = k })
    same-list d e f = cc

-- magnitude and sign tell margins apart
signs_apart : (y z : ℤ) → nat_abs y ≡ nat_abs z → below_zero y ≡ below_zero z → y ≡ z
signs_apart (pos m) (pos n) d e = ap pos d
signs_apart (pos m) (negsuc n) d e = absurd (omega arith)
signs_apart (negsuc m) (pos n) d e = absurd (omega arith)
signs_apart (negsuc m) (negsuc n) d e = let z : m ≡ n = omega arith in ap negsuc z

pub margins-apart : (x y : Answer Against) → numbers margin_numbers x ≡ numbers margin_numbers y → x ≡ y
margins-apart = answers-apart margin_numbers (λ a b e. same-against (signs_apart a.margin b.margin (nth 1 e) (nth 3 e)) (nth 2 e)) (λ a e. omega arith)
  where
    same-against : {y z : ℤ} {m n : ℕ} → y ≡ z → m ≡ n → ◌≡◌ {A = Against} (record { margin = y; over = m }) (record { margin = z; over = n })
    same-against d e = cc
