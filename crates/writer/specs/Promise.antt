-- What the writing call answers, in the document's words, and what it promises.
-- Assumes nothing.
use Rattle.std.specs.Prelude.{◌≡◌, List, ℕ, Result, length}
use Rattle.meaning.specs.declared.Refusal.{Refusal}
use Rattle.meaning.specs.Rules.{paper}
use Rattle.meaning.specs.Refusal.{Answer, good, ◌>>=◌}
use Rattle.meaning.specs.Writing.{write_call, after_write}

-- how long the message is, or the refusal
abbrev pub paper_written : Result ℕ Refusal → Answer ℕ
paper_written r = paper r

unfoldable pub long : Answer (List ℕ) → Answer ℕ
long a = a >>= λ m. good (length m)

-- what the call promises of its result and of the lent output afterwards
abbrev pub WritePromise : List ℕ → List ℕ → List ℕ → List ℕ → List ℕ → Result ℕ Refusal → Type 0
WritePromise nodes hs inner old new r =
    (paper_written r ≡ long (write_call nodes hs inner (length old))) × (new ≡ after_write old (write_call nodes hs inner (length old)))
