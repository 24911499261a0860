-- A tail that is moved up from its first byte on overwrites bytes that are still to be moved: it differs from what a move leaves.
-- Assumes nothing.
use mathlib.Core.Path.{◌≡◌, refl}
use mathlib.Core.List.{List, [], ◌∷◌}
use Prim.Native.Nat.{ℕ, zero, suc, ◌+◌}
use lib.ListN.{get_or, set}
use Rattle.setting.specs.Moved.{moved_up}

-- n bytes from p on, each five places up, the first of them first
unfoldable pub rising : List ℕ → ℕ → ℕ → List ℕ
rising s p zero = s
rising s p (suc n) = rising (set s (p + 5) (get_or s p 0)) (p + 1) n

-- six bytes and room for five: the sixth is lost, and in truth it is the last
abbrev six : List ℕ
six = 1 ∷ 2 ∷ 3 ∷ 4 ∷ 5 ∷ 6 ∷ 0 ∷ 0 ∷ 0 ∷ 0 ∷ 0 ∷ []

pub wrong-end : (get_or (rising six 0 6) 10 0 ≡ 1) × (get_or (moved_up six 0 6) 10 0 ≡ 6)
unfolding rising
wrong-end = (refl, refl)
