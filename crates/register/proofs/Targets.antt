-- The successors of one item, read off its own links: those before and behind them add nothing.
-- Assumes nothing.
use mathlib.Core.Path.{◌≡◌, refl}
use mathlib.Core.Bool.{◌&&◌, cond}
use mathlib.Core.List.{List, [], ◌∷◌}
use Prim.Native.Nat.{ℕ, zero, suc, ◌+◌, ◌<◌}
use native.Mathlib.Numerals.{add-one}
use native.Mathlib.Omega.{arith}
use lib.Dec.{eqb}
use lib.ListN.{length, get_or, drop}
use lib.Seq.{drop-cons}
use borrow.Author.Tests.{ne_eqb}
use Rattle.meaning.specs.Register.{Link, targets}
use Rattle.register.specs.Image.{no_link}

pub targets-before : (ls : List Link) (k i r : ℕ) → ((j : ℕ) → j < k → (get_or ls j no_link).from < i) → targets ls i r ≡ targets (drop k ls) i r
unfolding targets
targets-before ls zero i r h = refl
targets-before [] (suc k) i r h = refl
targets-before (l ∷ ls) (suc k) i r h =
    let n : l.from < i = h 0 (omega arith) in
    rw (ne_eqb l.from i (λ e. let z : l.from ≡ i = e in omega arith)) (targets-before ls k i r (λ j m. h (suc j) (omega arith)))

pub targets-behind : (ls : List Link) (i r : ℕ) → ((j : ℕ) → j < length ls → i < (get_or ls j no_link).from) → targets ls i r ≡ []
unfolding targets
targets-behind [] i r h = refl
targets-behind (l ∷ ls) i r h =
    let n : i < l.from = h 0 (omega arith) in
    rw (ne_eqb l.from i (λ e. let z : l.from ≡ i = e in omega arith)) (targets-behind ls i r (λ j m. h (suc j) (omega arith)))

-- one link more
pub targets-step : (ls : List Link) (k i r : ℕ) → k < length ls
    → targets (drop k ls) i r
    ≡ cond (eqb (get_or ls k no_link).from i && eqb (get_or ls k no_link).role r) ((get_or ls k no_link).to ∷ targets (drop (k + 1) ls) i r) (targets (drop (k + 1) ls) i r)
unfolding targets
targets-step ls k i r h = rw (add-one, drop-cons ls k no_link)
