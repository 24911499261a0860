-- How many bytes were read, whether a read failed or not.
-- Assumes nothing.
use Rattle.std.specs.Prelude.{ℕ, Result, Ok, Err}
use Rattle.list.specs.declared.standard.Broken.{Broken}

abbrev pub count_of : Result ℕ Broken → ℕ
count_of (Ok n) = n
count_of (Err b) = b.count
