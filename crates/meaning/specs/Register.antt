-- Document 01, "Register image": a register, its facts, the graph that is judged (document 02, §5), its image, and the reading of an image.
-- Assumes nothing.
use Rattle.std.specs.Prelude.{Bool, true, false, ◌&&◌, ◌||◌, not, cond, List, [], ◌∷◌, ◌++◌, ℕ, zero, suc, ◌+◌, ◌*◌, ltb, leb, eqb, length, get_or}
use Rattle.std.proofs.Math.Option.{Option, some, none as nowhere}
use Rattle.meaning.specs.declared.Side.TheVariants.{Register as register}
use Rattle.meaning.specs.declared.Fact.{Fact}
use Rattle.meaning.specs.declared.Fact.TheVariants.{Name as name_on, Link as link_of}
use Rattle.meaning.specs.Bounds.{most_items, most_links, most_role, withdrawn_name}
use Rattle.meaning.specs.Refusal.{Answer, good, at, refuse_if, ◌>>=◌, ◌>>◌}
use Rattle.meaning.specs.Bytes.{number, bytes, fields, read_head, unequal, more_than, headed}
use Rattle.meaning.specs.Names.{has, is_set}
use Rattle.meaning.specs.Graph.{Graph}

pub record Link : Type 0 where
  pub from : ℕ
  pub role : ℕ
  pub to : ℕ

-- the set of names of each item, and the links
pub record Register : Type 0 where
  pub names : List ℕ
  pub links : List Link

-- ---- facts

abbrev pub same_link : Link → Link → Bool
same_link l m = eqb l.from m.from && eqb l.role m.role && eqb l.to m.to

unfoldable pub any_link : (Link → Bool) → List Link → Bool
any_link p [] = false
any_link p (l ∷ ls) = p l || any_link p ls

-- what a register says: a name on an item, or a link
unfoldable pub is_fact : Register → Fact → Bool
is_fact g (name_on i k) = has (get_or g.names i 0) k
is_fact g (link_of a r b) = any_link (same_link (record { from = a; role = r; to = b })) g.links

-- ---- the graph that is judged

-- where the links from item i under role r lead, in the links' order, which is rising
unfoldable pub targets : List Link → ℕ → ℕ → List ℕ
targets [] i r = []
targets (l ∷ ls) i r = cond (eqb l.from i && eqb l.role r) (l.to ∷ targets ls i r) (targets ls i r)

abbrev pub withdrawn : Register → ℕ → Bool
withdrawn g i = has (get_or g.names i 0) withdrawn_name

-- a link at a withdrawn item: from it or to it
abbrev pub idle : Register → Link → Bool
idle g l = withdrawn g l.from || withdrawn g l.to

-- those of a list of which p does not hold
unfoldable pub except : {A : Type 0} → (A → Bool) → List A → List A
except p [] = []
except p (x ∷ xs) = cond (p x) (except p xs) (x ∷ except p xs)

-- "The graph that is judged is the register without withdrawn items and the links at them": a withdrawn item has no names and no links there
abbrev pub judged : Register → Graph ℕ
judged g = record { names = λ i. cond (withdrawn g i) 0 (get_or g.names i 0); next = targets (except (idle g) g.links) }

-- ---- which registers there are

-- "strictly rising by (from, role, to)": the second stands above the first
abbrev pub rises : Link → Link → Bool
rises l m =
    ltb l.from m.from
    || eqb l.from m.from && (ltb l.role m.role || eqb l.role m.role && ltb l.to m.to)

abbrev pub above : Option Link → Link → Bool
above nowhere m = true
above (some l) m = rises l m

unfoldable pub all_sets : List ℕ → Bool
all_sets [] = true
all_sets (a ∷ as') = is_set a && all_sets as'

-- links between n items that rise, the first above the one before
unfoldable pub links_of : ℕ → Option Link → List Link → Bool
links_of n before [] = true
links_of n before (l ∷ ls) = ltb l.from n && leb l.role most_role && ltb l.to n && above before l && links_of n (some l) ls

unfoldable pub well_formed : Register → Bool
well_formed g =
    leb 1 (length g.names) && leb (length g.names) most_items && all_sets g.names
    && leb (length g.links) most_links && links_of (length g.names) nowhere g.links

-- ---- the image

abbrev pub link_bytes : Link → List ℕ
link_bytes l = bytes 2 l.from ++ bytes 1 l.role ++ bytes 2 l.to

unfoldable pub items_bytes : List ℕ → List ℕ
items_bytes [] = []
items_bytes (a ∷ as') = bytes 8 a ++ items_bytes as'

unfoldable pub links_bytes : List Link → List ℕ
links_bytes [] = []
links_bytes (l ∷ ls) = link_bytes l ++ links_bytes ls

unfoldable pub encode : Register → List ℕ
encode g = headed (bytes 2 (length g.names) ++ items_bytes g.names ++ bytes 2 (length g.links) ++ links_bytes g.links)

-- ---- reading

-- k sets of names from place p on
unfoldable pub read_items : List ℕ → ℕ → ℕ → ℕ → Answer (List ℕ)
read_items s end zero p = good []
read_items s end (suc k) p = do
  fields register end (8 ∷ []) p
  rest ← read_items s end k (p + 8)
  good (number s p 8 ∷ rest)

abbrev pub link_at : List ℕ → ℕ → Link
link_at s p = record { from = number s p 2; role = number s (p + 2) 1; to = number s (p + 3) 2 }

-- a link between n items at place p: "At a link: 1, 5 (from), 7, 5 (to), 6."
unfoldable pub read_link : List ℕ → ℕ → ℕ → Option Link → ℕ → Answer Link
read_link s end n before p = do
  fields register end (2 ∷ 1 ∷ 2 ∷ []) p
  refuse_if (leb n (link_at s p).from) (at register 5 p)
  refuse_if (ltb most_role (link_at s p).role) (at register 7 (p + 2))
  refuse_if (leb n (link_at s p).to) (at register 5 (p + 3))
  refuse_if (not (above before (link_at s p))) (at register 6 p)
  good (link_at s p)

-- k links from place p on
unfoldable pub read_links : List ℕ → ℕ → ℕ → ℕ → Option Link → ℕ → Answer (List Link)
read_links s end n zero before p = good []
read_links s end n (suc k) before p = do
  l ← read_link s end n before p
  rest ← read_links s end n k (some l) (p + 5)
  good (l ∷ rest)

-- "At a count or set of names: 1, 4. Last: 8." The two counts, the items and the links
unfoldable pub read_body : List ℕ → ℕ → Answer Register
read_body s end = do
  fields register end (2 ∷ []) 3
  let n = number s 3 2
  refuse_if (ltb n 1 || ltb most_items n) (at register 4 3)
  names ← read_items s end n 5
  let p = 5 + 8 * n
  fields register end (2 ∷ []) p
  let m = number s p 2
  refuse_if (ltb most_links m) (at register 4 p)
  links ← read_links s end n m nowhere (p + 2)
  refuse_if (ltb (p + 2 + 5 * m) end) (at register 8 (p + 2 + 5 * m))
  good (record { names = names; links = links })

-- a whole input, and a session's buffer, of which the first 3 + length bytes are the image
unfoldable pub read_register_by : (ℕ → ℕ → Bool) → List ℕ → Answer Register
read_register_by wrong s = do
  end ← read_head register wrong s
  read_body s end

abbrev pub read_register : List ℕ → Answer Register
read_register = read_register_by unequal

abbrev pub read_buffer : List ℕ → Answer Register
read_buffer = read_register_by more_than
