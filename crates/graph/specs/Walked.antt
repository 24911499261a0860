-- The graph as code walks it: from any item along its links, but for those to a withdrawn item. At an item in service it is the graph that is judged,
-- and it leads from there to items in service alone (proofs/Walked.antt): so no item that is walked from need be looked at again.
-- Assumes nothing.
use Rattle.std.specs.Prelude.{not, ℕ, eqb, get_or}
use Rattle.meaning.specs.Refusal.{Answer, on_call, refuse_if}
use Rattle.meaning.specs.Graph.{Graph}
use Rattle.meaning.specs.Register.{Register, withdrawn, targets, except}

abbrev pub walked : Register → Graph ℕ
walked g = record { names = λ i. get_or g.names i 0; next = λ i r. except (withdrawn g) (targets g.links i r) }

-- a test of the call that gave a number: 0 goes on, another refuses
abbrev pub numbered : ℕ → Answer (Unit {0})
numbered n = refuse_if (not (eqb n 0)) (on_call n)
