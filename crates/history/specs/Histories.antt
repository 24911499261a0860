-- The history that the program is handed, as calls: four bytes for each call, its kind as a letter, then a, b and c.
-- Assumes nothing.
use Rattle.std.specs.Prelude.{true, false, cond, List, [], ◌∷◌, ℕ, eqb, get_or}
use Rattle.meaning.specs.declared.Fact.TheVariants.{Name as name_on, Link as link_of}
use Rattle.meaning.specs.Session.{Call, opens, edits, undoes, keeps}
use Rattle.session.specs.Calls.{an_edit}

-- o opens, n adds a name and N takes one away, l adds a link and L takes one away, u undoes, any other keeps
abbrev pub call_of : ℕ → ℕ → ℕ → ℕ → Call
call_of kind a b c =
    cond (eqb kind 111) opens
    (cond (eqb kind 110) (edits (an_edit (name_on a b) true))
    (cond (eqb kind 78) (edits (an_edit (name_on a b) false))
    (cond (eqb kind 108) (edits (an_edit (link_of a b c) true))
    (cond (eqb kind 76) (edits (an_edit (link_of a b c) false)) (cond (eqb kind 117) undoes keeps)))))

-- in its four bytes
abbrev pub call_in : List ℕ → Call
call_in bytes = call_of (get_or bytes 0 0) (get_or bytes 1 0) (get_or bytes 2 0) (get_or bytes 3 0)

-- bytes at the end that make no call are passed over
unfoldable pub calls_of : List ℕ → List Call
calls_of (kind ∷ a ∷ b ∷ c ∷ rest) = call_of kind a b c ∷ calls_of rest
calls_of (kind ∷ a ∷ b ∷ []) = []
calls_of (kind ∷ a ∷ []) = []
calls_of (kind ∷ []) = []
calls_of [] = []
