-- Bytes that were moved by five places inside a list.
-- Assumes nothing.
use Rattle.std.specs.Prelude.{List, ◌++◌, ℕ, ◌+◌, ◌-◌, take, drop}
use Rattle.std.proofs.Math.Seq.{slice}

-- what stands from p up to e, five places up
abbrev pub moved_up : List ℕ → ℕ → ℕ → List ℕ
moved_up s p e = take (p + 5) s ++ slice p e s ++ drop (e + 5) s

-- what stands from p + 5 up to e, five places down; the last five places keep their contents
abbrev pub moved_down : List ℕ → ℕ → ℕ → List ℕ
moved_down s p e = take p s ++ slice (p + 5) e s ++ drop (e - 5) s
