-- What the list call answers, in the document's words, and what it promises of its result and of the lent table afterwards.
-- Assumes nothing.
use Rattle.std.specs.Prelude.{◌≡◌, Result, Ok, Err, List, ℕ, length}
use Rattle.meaning.specs.declared.Refusal.{Refusal}
use Rattle.meaning.specs.Refusal.{Answer, good, refused, ◌>>=◌}
use Rattle.meaning.specs.Table.{Tabled, list_call, after_list}
use Rattle.tabling.specs.declared.Listed.{Listed}

-- how many items and written nodes there are, and the scale of the first row
pub record Told : Type 0 where
  pub items : ℕ
  pub nodes : ℕ
  pub scale : ℕ

abbrev pub paper_list : Result Listed Refusal → Answer Told
paper_list (Ok l) = good (record { items = l.items; nodes = l.nodes; scale = l.scale })
paper_list (Err r) = refused r

unfoldable pub told : Answer Tabled → Answer Told
told a = a >>= λ l. good (record { items = l.items; nodes = l.nodes; scale = l.scale })

-- what the call promises of its result and of the lent table afterwards
abbrev pub ListPromise : List ℕ → List ℕ → List ℕ → List ℕ → Result Listed Refusal → Type 0
ListPromise image message old new r =
    (paper_list r ≡ told (list_call image message (length old))) × (new ≡ after_list old (list_call image message (length old)))
