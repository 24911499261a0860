-- What the readers of links answer, in the document's words.
-- Assumes nothing.
use Rattle.std.specs.Prelude.{◌≡◌, cond, List, ℕ, zero, suc, ◌+◌, ◌*◌, ◌/◌, ◌%◌, ◌≤◌, ◌<◌, ltb, Result, Ok, Err}
use Rattle.std.proofs.Math.Option.{Option, some, none as nowhere}
use Rattle.meaning.specs.declared.Rule.TheVariants.{CutShort}
use Rattle.meaning.specs.declared.Fault.{Fault}
use Rattle.meaning.specs.Refusal.{Answer, good, ◌>>=◌}
use Rattle.meaning.specs.Bounds.{most_role}
use Rattle.meaning.specs.Register.{Link, link_at, read_links}

-- the number of a link's five bytes: it rises with (from, role, to)
abbrev pub key : Link → ℕ
key l = (l.from * 256 + l.role) * 65536 + l.to

-- the fields behind `from` are small enough not to reach into it
abbrev pub Small : Link → Type 0
Small l = (l.role ≤ most_role) × (l.to < 65536)

-- the least number that a link behind this one may have
abbrev pub Floor : Option Link → ℕ → Type 0
Floor nowhere f = f ≡ 0
Floor (some l) f = (f ≡ key l + 1) × (l.role ≤ most_role) × (l.to < 65536)

unfoldable pub keyed : Answer Link → Answer ℕ
keyed a = a >>= λ l. good (key l + 1)

-- a link that was read lies before the end
abbrev pub Passed : ℕ → ℕ → Result ℕ Fault → Type 0
Passed p end (Ok floor) = p + 5 ≤ end
Passed p end (Err f) = Unit {0}

-- a link's number passes every test but that of the item it leads from, among n items
abbrev pub Right : ℕ → ℕ → ℕ → Type 0
Right k n floor = (floor ≤ k) × (k % 65536 < n) × (k / 65536 % 256 ≤ most_role)

-- so do those of m links from place p on, each greater than the one before, and the last link leads from one of the items
unfoldable pub Rightly : List ℕ → ℕ → ℕ → ℕ → ℕ → Type 0
Rightly s n zero floor p = floor ≤ n * 16777216
Rightly s n (suc m) floor p = Right (key (link_at s p)) n floor × Rightly s n m (key (link_at s p) + 1) (p + 5)

-- m links from place p on are read
abbrev pub AllRead : List ℕ → ℕ → ℕ → ℕ → ℕ → Type 0
AllRead s end n m p = (ls : List Link) × (read_links s end n m nowhere p ≡ good ls)

-- the first field of a link that does not fit into so much room
abbrev pub cut_at : ℕ → ℕ → Fault
cut_at room p = record { rule = CutShort; place = cond (ltb room 2) p (cond (ltb room 3) (p + 2) (p + 3)) }
