-- Setting one fact of the image that a buffer begins with.
-- Assumes nothing.
use Rattle.std.specs.Prelude.{◌≡◌, ◌≢◌, Bool, Option, Some, None, Result, Ok, Err, true, false, List, ◌∷◌, ◌++◌, ℕ, suc, ◌+◌, ◌≤◌, ◌<◌, length, get_or, take, drop}
use Rattle.meaning.specs.Bounds.{most_name, most_role}
use Rattle.meaning.specs.declared.Fact.{Fact}
use Rattle.meaning.specs.declared.Fact.TheVariants.{Name as name_on, Link as link_of}
use Rattle.meaning.specs.Register.{Link, Register, is_fact, encode}
use Rattle.meaning.specs.Session.{zeros, set_fact, rewritten, no_place}
use Rattle.register.specs.Image.{Image, no_link}
use Rattle.register.specs.Reading.{key}

-- so many links stand below a number
pub record PlaceOf (ls : List Link) (number k : ℕ) : Type 0 where
  pub within : k ≤ length ls
  pub below : (j : ℕ) → j < k → key (get_or ls j no_link) < number
  pub next : k < length ls → number ≤ key (get_or ls k no_link)

-- the link with a number stands at that place, or no link has it and it is to stand there
abbrev pub Placed : List Link → ℕ → Result ℕ ℕ → Type 0
Placed ls number (Ok k) = PlaceOf ls number k × (k < length ls) × (key (get_or ls k no_link) ≡ number)
Placed ls number (Err k) = PlaceOf ls number k × (k < length ls → key (get_or ls k no_link) ≢ number)

-- the register with a link before the k-th, and without the k-th
abbrev pub inserted_at : ℕ → Link → Register → Register
inserted_at k l g = record { names = g.names; links = take k g.links ++ l ∷ drop k g.links }

abbrev pub removed_at : ℕ → Register → Register
removed_at k g = record { names = g.names; links = take k g.links ++ drop (suc k) g.links }

-- the buffer then
abbrev pub buffer_inserted : List ℕ → ℕ → Link → Register → List ℕ
buffer_inserted s k l g = encode (inserted_at k l g) ++ drop (length (encode g) + 5) s

abbrev pub buffer_removed : List ℕ → ℕ → Register → List ℕ
buffer_removed s k g = encode (removed_at k g) ++ zeros 5 ++ drop (length (encode g)) s

-- a fact in range, among so many items
abbrev pub Ranged : ℕ → Fact → Type 0
Ranged n (name_on i k) = (i < n) × (k ≤ most_name)
Ranged n (link_of a r b) = (a < n) × (r ≤ most_role) × (b < n)

-- the buffer s becomes t as the fact is set to v: it says whether the fact was there, or there is no place for a link
abbrev pub SettingOf : List ℕ → Fact → Bool → List ℕ → Option Bool → Type 0
SettingOf s f v t (Some was) = Image s (λ g. (no_place s g v f ≡ false) × (was ≡ is_fact g f) × (t ≡ rewritten s g (set_fact v f g)))
SettingOf s f v t None = Image s (λ g. (no_place s g v f ≡ true) × (t ≡ s))
