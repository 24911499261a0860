-- Bytes put one after the other from a place on: how far it has come, one step, and the end.
-- Assumes nothing.
use mathlib.Core.Path.{◌≡◌, refl, sym, ap, ◌∙◌}
use mathlib.Core.List.{List, [], ◌∷◌, ◌++◌, append_assoc, append-nil}
use Prim.Native.Nat.{ℕ, ◌+◌, ◌%◌, ◌<◌}
use native.Mathlib.Omega.{arith}
use lib.ListN.{length, length-append}
use lib.Seq.{sets, length-sets}
use Rattle.meaning.specs.Bytes.{bytes}
use Rattle.meaning.proofs.Reading.{bytes-length}
use Rattle.meaning.proofs.Stores.{sets-append}

pub bytes_one : (n : ℕ) → n < 256 → bytes 1 n ≡ n ∷ []
unfolding bytes
bytes_one n l = let e : n % 256 ≡ n = omega (arith, l) in ap (λ (z : ℕ). z ∷ []) e

-- of all bytes that are to stand from `at` on, those before place p are put, and the rest is not
pub record Put (old now : List ℕ) (at p : ℕ) (all rest : List ℕ) : Type 0 where
  pub pre : List ℕ
  pub whole : all ≡ pre ++ rest
  pub place : p ≡ at + length pre
  pub done : now ≡ sets old at pre

pub put-none : (old : List ℕ) (at : ℕ) (all : List ℕ) → Put old old at at all all
put-none old at all = record { pre = []; whole = refl; place = omega arith; done = refl }

pub put-more : (old now new : List ℕ) (at p q : ℕ) (all xs rest : List ℕ) → Put old now at p all (xs ++ rest) → new ≡ sets now p xs → q ≡ p + length xs
    → Put old new at q all rest
put-more old now new at p q all xs rest w e n = record {
  pre = w.pre ++ xs;
  whole = w.whole ∙ sym (append_assoc w.pre xs rest);
  place = n ∙ omega (arith, w.place, length-append w.pre xs);
  done = e ∙ ap (λ (z : List ℕ). sets z p xs) w.done ∙ sym (sets-append old at p w.pre xs w.place);
}

pub put_all : (old now : List ℕ) (at p : ℕ) (all : List ℕ) → Put old now at p all [] → now ≡ sets old at all
put_all old now at p all w = w.done ∙ ap (sets old at) (sym (w.whole ∙ append-nil w.pre))

pub put-length : (old now : List ℕ) (at p : ℕ) (all rest : List ℕ) → Put old now at p all rest → length now ≡ length old
put-length old now at p all rest w = ap length w.done ∙ length-sets old at w.pre

-- the rest told otherwise
pub put_as : (old now : List ℕ) (at p : ℕ) (all rest rest' : List ℕ) → Put old now at p all rest → rest ≡ rest' → Put old now at p all rest'
put_as old now at p all rest rest' w e = record { pre = w.pre; whole = w.whole ∙ ap (λ (z : List ℕ). w.pre ++ z) e; place = w.place; done = w.done }

-- the ten bytes of a node's fixed fields
pub put-ten : (old a b c : List ℕ) (at names limits kids : ℕ) → a ≡ sets old at (bytes 8 names) → b ≡ sets a (at + 8) (bytes 1 limits)
    → c ≡ sets b (at + 9) (bytes 1 kids) → limits < 256 → kids < 256 → c ≡ sets old at (bytes 8 names ++ (limits ∷ kids ∷ []))
put-ten old a b c at names limits kids e f g l m =
    let all = bytes 8 names ++ (limits ∷ kids ∷ []) in
    let one = put-more old old a at at (at + 8) all (bytes 8 names) (limits ∷ kids ∷ []) (put-none old at all) e (omega (arith, bytes-length 8 names)) in
    let two = put-more old a b at (at + 8) (at + 9) all (limits ∷ []) (kids ∷ []) one (f ∙ ap (sets a (at + 8)) (bytes_one limits l)) (omega arith) in
    put_all old c at (at + 10) all (put-more old b c at (at + 9) (at + 10) all (kids ∷ []) [] two (g ∙ ap (sets b (at + 9)) (bytes_one kids m)) (omega arith))

-- two parts one after the other
pub put_both : (old a b : List ℕ) (at p : ℕ) (xs ys : List ℕ) → a ≡ sets old at xs → b ≡ sets a p ys → p ≡ at + length xs → b ≡ sets old at (xs ++ ys)
put_both old a b at p xs ys e f l = f ∙ ap (λ (z : List ℕ). sets z p ys) e ∙ sym (sets-append old at p xs ys l)
